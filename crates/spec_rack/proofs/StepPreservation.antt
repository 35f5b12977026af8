-- Every accepted step keeps the rack sound and coherent with the flat memory, and a load gives the flat memory's word: down the
-- refusal table each line passed is a fact, and the facts are what the change of the step asks for.
use mathlib.Core.Path.{◌≡◌, refl, ap, subst}
use mathlib.Core.Bool.{Bool, true, false}
use mathlib.Core.List.{List, [], ◌∷◌}
use Prim.Native.Nat.{ℕ, ◌^◌, ◌≤◌, ◌<◌}
use native.Mathlib.Omega.{arith}
use borrow.Author.Tests.{ltb-false, leb-false, leb-true, eqb-false, not-false}
use lib.ListN.{length, get_or, length-set}
use lib.Dec.{eqb, leb, ltb}
use Rattle.spec_base.proofs.Tests.{and_l, and_r, or_l, or_r, and_not}
use Rattle.spec_wire.specs.declared.Refusal.{Refusal}
use Rattle.std.specs.Prelude.{Ok, Err}
use Rattle.spec_wire.specs.Answers.{Check, no_refusal}
use Rattle.spec_wire.specs.Refusals.{when◌refuse◌else◌}
use Rattle.spec_wire.specs.declared.Step.{Step}
use Rattle.spec_wire.specs.declared.Step.TheVariants.{Load, Store, Send, Deliver, Raise, Lower, Forward}
use Rattle.spec_arbiter.specs.Boards.{board_room}
use Rattle.spec_arbiter.specs.Claims.{raise_check, raised, lower_check, lowered}
use Rattle.spec_arbiter.proofs.Claims.{SoundClaims, raised_sound, lowered_sound, active_known}
use Rattle.spec_rack.specs.declared.Message.{Message}
use Rattle.spec_rack.specs.declared.Answer.{Answer}
use Rattle.spec_rack.specs.Rack.{Block, Rack, mesh_limit, claims_at, cell_at}
use Rattle.spec_rack.specs.Soundness.{sound}
use Rattle.spec_rack.specs.Rules.{Outcome, refused, accepted, settled, check, after, answer, off_rack, mesh_full, past_mesh, changed, rules, stored, sent, delivered, forwarded}
use Rattle.spec_rack.specs.FlatMemory.{Memory, memory_after, flat, access_of}
use Rattle.spec_rack.specs.Lists.{words_of}
use Rattle.spec_rack.proofs.SoundnessFacts.{Sound, sound_facts, sound_test}
use Rattle.spec_rack.proofs.OwnerLaws.{not_bare}
use Rattle.spec_rack.proofs.BlockInvariant.{Coherent, Fits, cell_has}
use Rattle.spec_rack.proofs.TokenConservation.{Moved, sent_keeps, delivered_keeps, forwarded_keeps, claims_keep}
use Rattle.spec_rack.proofs.ExclusiveStore.{stored_sound, stored_coherent, stored_fits}

-- ---- what an accepted step keeps

-- a stored value fits 32 bits, as in every step that is read
abbrev pub StepFits : Step → Type 0
StepFits (Load c b w) = Unit {0}
StepFits (Store c b w v) = v < 2 ^ 32
StepFits (Send c b t p o d) = Unit {0}
StepFits (Deliver i) = Unit {0}
StepFits (Raise c b) = Unit {0}
StepFits (Lower c b) = Unit {0}
StepFits (Forward c b) = Unit {0}

-- of a step t of the rack r, where a is its answer and r' the rack after it
pub record Kept (r : Rack) (t : Step) (a : Answer) (r' : Rack) : Type 0 where
  pub sound : Sound r'
  pub boards : r'.boards ≡ r.boards
  pub tokens : r'.tokens ≡ r.tokens
  pub count : length r'.blocks ≡ length r.blocks
  pub word : (mem : Memory) → Coherent r mem → words_of a ≡ flat mem (access_of t)
  pub coherent : (mem : Memory) → Coherent r mem → Coherent r' (memory_after mem (access_of t))
  pub fits : StepFits t → Fits r → Fits r'

-- a property of an accepted outcome
abbrev pub Keeps : (Answer → Rack → Type 0) → Outcome → Type 0
Keeps P (refused n) = Unit {0}
Keeps P (accepted a r) = P a r

-- ---- down the refusal table

-- X, where a check passes
abbrev pub IfPassed : Check → Type 0 → Type 0
IfPassed (Ok _) X = X
IfPassed (Err n) X = Unit {0}

-- past a line its test has failed
pub guard : (X : Type 0) (t : Bool) (n : Refusal) (k : Check) → (t ≡ false → IfPassed k X) → IfPassed (when t refuse n else k) X
unfolding when◌refuse◌else◌
guard X true n k f = tt
guard X false n k f = f refl

-- past other lines their check has passed
pub given : (X : Type 0) (k : Check) → (k ≡ no_refusal → X) → IfPassed k X
given X (Ok _) f = f refl
given X (Err n) f = tt

settle : (P : Answer → Rack → Type 0) (k : Check) (a : Answer) (r : Rack) → IfPassed k (P a r) → Keeps P (settled k a r)
settle P (Ok _) a r h = h
settle P (Err n) a r h = tt

some : (n : ℕ) → eqb n 0 ≡ false → 0 < n
some n h = let ne : n ≡ 0 → ⊥ = eqb-false n 0 h in omega arith

module _ (r : Rack) (s : Sound r) where
  few_boards : r.boards < board_room
  few_boards = omega (arith, leb-true r.boards 15 (search (and_l, and_r, s.size)))

  room : mesh_full r ≡ false → length r.mesh < mesh_limit
  room h = omega (arith, leb-false)

  pub in_mesh_lem : (i : ℕ) → past_mesh r i ≡ false → i < length r.mesh
  in_mesh_lem i h = omega (arith, leb-false)

  module _ (c b : ℕ) (on : off_rack r c b ≡ false) where
    pub in_n : c ≤ r.boards
    in_n = ltb-false _ _ (or_l (ltb r.boards c) (leb (length r.blocks) b) on)

    pub in_b : b < length r.blocks
    in_b = leb-false _ _ (or_r (ltb r.boards c) (leb (length r.blocks) b) on)

    claims_sound : SoundClaims r.boards (claims_at r b)
    claims_sound = (s.blocks b in_b).shape.claims

  -- a step that the flat memory is not handed
  moved : (t : Step) (a : Answer) (b : ℕ) (k : Block) (ms : List Message) → access_of t ≡ [] → words_of a ≡ []
      → Moved r (changed r b k ms) → Kept r t a (changed r b k ms)
  unfolding flat
  moved t a b k ms e w m =
      record {
        sound = m.sound;
        boards = refl;
        tokens = refl;
        count = simp length-set;
        word = λ mem coh. rw e w;
        coherent = λ mem coh. rw e (m.coherent mem coh);
        fits = λ small. m.fits;
      }

  abbrev Goal : Step → Type 0
  Goal t = Kept r t (answer r t) (after r t)

  passed : (t : Step) → IfPassed (check r t) (Goal t)
  unfolding check after answer flat stored sent delivered forwarded
  passed (Load c b w) =
      let past = guard (Goal (Load c b w)) in
      past _ _ _ λ known.
      past _ _ _ λ token.
      past _ _ _ λ valid.
      let on = or_l _ _ known in
      record {
        sound = s;
        boards = refl;
        tokens = refl;
        count = refl;
        word = λ mem coh. ap (λ (ws : List ℕ). get_or ws w 0 ∷ []) (cell_has r s b c (in_b c b on) (in_n c b on) mem coh (not-false _ valid));
        coherent = λ mem coh. coh;
        fits = λ small h. h;
      }
  passed (Store c b w v) =
      let past = guard (Goal (Store c b w v)) in
      past _ _ _ λ known.
      past _ _ _ λ board.
      past _ _ _ λ all.
      let on = or_l _ _ known in
      let enough = ltb-false _ _ all in
      record {
        sound = stored_sound r s c b (in_n c b on) (in_b c b on) enough w v;
        boards = refl;
        tokens = refl;
        count = simp length-set;
        word = λ mem coh. refl;
        coherent = stored_coherent r s c b (in_n c b on) (in_b c b on) enough w v (search eqb-false);
        fits = stored_fits r s c b (in_n c b on) (in_b c b on) enough w v;
      }
  passed (Send c b t p o d) =
      let past = guard (Goal (Send c b t p o d)) in
      past _ _ _ λ known.
      past _ _ _ λ apart.
      past _ _ _ λ free.
      past _ _ _ λ token.
      past _ _ _ λ enough.
      past _ _ _ λ bare.
      past _ _ _ λ stale.
      past _ _ _ λ full.
      let on = or_l _ _ known in
      moved (Send c b t p o d) _ _ _ _ refl refl
      (sent_keeps r s c b t p o d (in_n c b on) (in_b c b on) (ltb-false _ _ (or_r (off_rack r c b) _ known)) (eqb-false _ _ apart)
      (some _ token) (ltb-false _ _ (or_l _ _ enough)) (and_not o _ (or_r (ltb (cell_at r b c).plain p) _ enough)) (search (not_bare, and_l))
      (and_not d _ stale) (room full))
  passed (Deliver i) =
      let past = guard (Goal (Deliver i)) in
      past _ _ _ λ there.
      moved (Deliver i) _ _ _ _ refl refl (delivered_keeps r s i (in_mesh_lem i there))
  passed (Raise c b) =
      let past = guard (Goal (Raise c b)) in
      past _ _ _ λ on.
      past _ _ _ λ board.
      given (Goal (Raise c b)) (raise_check (claims_at r b) c) λ free.
      moved (Raise c b) _ _ _ _ refl refl
      (claims_keep r s b (raised (claims_at r b) c) (in_b c b on)
      (raised_sound (claims_sound c b on) (search some) (in_n c b on) few_boards free))
  passed (Lower c b) =
      let past = guard (Goal (Lower c b)) in
      past _ _ _ λ on.
      past _ _ _ λ board.
      given (Goal (Lower c b)) (lower_check (claims_at r b) c) λ waiting.
      moved (Lower c b) _ _ _ _ refl refl
      (claims_keep r s b (lowered (claims_at r b) c) (in_b c b on) (lowered_sound (claims_sound c b on) (search some) (in_n c b on)))
  passed (Forward c b) =
      let past = guard (Goal (Forward c b)) in
      past _ _ _ λ on.
      past _ _ _ λ claimed.
      past _ _ _ λ apart.
      past _ _ _ λ token.
      past _ _ _ λ full.
      moved (Forward c b) _ _ _ _ refl refl
      (forwarded_keeps r s c b (in_n c b on) (in_b c b on) (active_known (claims_sound c b on) claimed).1 (eqb-false _ _ apart) (some _ token) (room full))

  -- ---- of every step: by the outcome, and from an accepted one

  pub step_keeps : (t : Step) → Keeps (Kept r t) (rules r t)
  unfolding rules
  step_keeps t = settle (Kept r t) (check r t) (answer r t) (after r t) (passed t)

  pub accepted_keeps : (t : Step) (a : Answer) (r' : Rack) → rules r t ≡ accepted a r' → Kept r t a r'
  accepted_keeps t a r' e = subst (Keeps (Kept r t)) e (step_keeps t)

-- the test of soundness, and that every word fits 32 bits

pub step_sound : (r r' : Rack) (t : Step) (a : Answer) → sound r ≡ true → rules r t ≡ accepted a r' → sound r' ≡ true
step_sound r r' t a h e = sound_test r' (accepted_keeps r (sound_facts r h) t a r' e).sound

pub step_fits : (r r' : Rack) (t : Step) (a : Answer) → sound r ≡ true → rules r t ≡ accepted a r' → StepFits t → Fits r → Fits r'
step_fits r r' t a h e = (accepted_keeps r (sound_facts r h) t a r' e).fits
