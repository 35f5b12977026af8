-- Down the refusal table: past the lines 3 and 14 the places are within the sizes, and on a sound rack every list is as long as these say.
use Prim.Native.Nat.{ℕ, ◌≤◌, ◌<◌}
use native.Mathlib.Omega.{arith}
use mathlib.Core.Path.{◌≡◌, subst}
use mathlib.Core.Bool.{false}
use lib.ListN.{length}
use borrow.Author.Tests.{ltb-false}
use Rattle.spec_base.proofs.Tests.{or_l, or_r}
use Rattle.spec_wire.specs.Answers.{Check}
use Rattle.spec_wire.specs.declared.Step.{Step}
use Rattle.spec_wire.specs.declared.Step.TheVariants.{Load, Store, Send, Deliver, Raise, Lower, Forward}
use Rattle.spec_arbiter.specs.Claims.{raise_check, lower_check}
use Rattle.spec_arbiter.proofs.Claims.{active_known}
use Rattle.spec_rack.specs.Rack.{Rack, claims_at, cell_at}
use Rattle.spec_rack.specs.Rules.{check, off_rack, past_words}
use Rattle.spec_rack.specs.InRange.{OnRack, InRange, AcceptedInRange}
use Rattle.spec_rack.proofs.SoundnessFacts.{Sound, sound_facts}
use Rattle.spec_rack.proofs.BlockInvariant.{message_sound, cell_in, cell_sound}
use Rattle.spec_rack.proofs.StepPreservation.{IfPassed, guard, given, in_n, in_b, in_mesh_lem}

module _ (r : Rack) (s : Sound r) where
  on_rack : (c b : ℕ) → c ≤ r.boards → b < length r.blocks → OnRack r c b
  on_rack c b n k = record { block = k; cell = cell_in r s b c k n; sets = omega (arith, (s.blocks b k).shape.claims.width) }

  there : (c b : ℕ) → off_rack r c b ≡ false → OnRack r c b
  there c b on = on_rack c b (in_n r s c b on) (in_b r s c b on)

  word_there : (c b w : ℕ) → off_rack r c b ≡ false → past_words w ≡ false → w < length (cell_at r b c).words
  word_there c b w on short = omega (arith, ltb-false 7 w short, (cell_sound r s b c (in_b r s c b on) (in_n r s c b on)).eight)

  reached : (t : Step) → IfPassed (check r t) (InRange r t)
  unfolding check
  reached (Load c b w) =
      let past = guard (InRange r (Load c b w)) in
      past _ _ _ λ known.
      past _ _ _ λ token.
      past _ _ _ λ valid.
      (there c b (or_l _ _ known), word_there c b w (or_l _ _ known) (or_r (off_rack r c b) _ known))
  reached (Store c b w v) =
      let past = guard (InRange r (Store c b w v)) in
      past _ _ _ λ known.
      past _ _ _ λ board.
      past _ _ _ λ all.
      (there c b (or_l _ _ known), word_there c b w (or_l _ _ known) (or_r (off_rack r c b) _ known))
  reached (Send c b t p o d) =
      let past = guard (InRange r (Send c b t p o d)) in
      past _ _ _ λ known.
      past _ _ _ λ apart.
      past _ _ _ λ free.
      past _ _ _ λ token.
      past _ _ _ λ enough.
      past _ _ _ λ bare.
      past _ _ _ λ stale.
      past _ _ _ λ full.
      let on = or_l _ _ known in
      (there c b on, on_rack t b (ltb-false _ _ (or_r (off_rack r c b) _ known)) (in_b r s c b on))
  reached (Deliver i) =
      let past = guard (InRange r (Deliver i)) in
      past _ _ _ λ within.
      let m = message_sound r s i (in_mesh_lem r s i within) in
      (in_mesh_lem r s i within, on_rack _ _ m.target m.block)
  reached (Raise c b) =
      let past = guard (InRange r (Raise c b)) in
      past _ _ _ λ on.
      past _ _ _ λ board.
      given (InRange r (Raise c b)) (raise_check (claims_at r b) c) λ free.
      there c b on
  reached (Lower c b) =
      let past = guard (InRange r (Lower c b)) in
      past _ _ _ λ on.
      past _ _ _ λ board.
      given (InRange r (Lower c b)) (lower_check (claims_at r b) c) λ waits.
      there c b on
  reached (Forward c b) =
      let past = guard (InRange r (Forward c b)) in
      past _ _ _ λ on.
      past _ _ _ λ claimed.
      past _ _ _ λ apart.
      past _ _ _ λ token.
      past _ _ _ λ full.
      (there c b on, on_rack _ b (active_known (s.blocks b (in_b r s c b on)).shape.claims claimed).1 (in_b r s c b on))

pub accepted_in_range : AcceptedInRange
accepted_in_range r t ok e = subst (λ (k : Check). IfPassed k (InRange r t)) e (reached r (sound_facts r ok) t)
