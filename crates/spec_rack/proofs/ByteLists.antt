-- Demand 3 of byte strings: a sound record stays sound, and its rack goes as the abstract rack goes by those strings that are steps;
-- so the claim on lists of steps is one on lists of byte strings.
use Prim.Native.Nat.{ℕ, ◌^◌}
use mathlib.Core.Path.{◌≡◌, refl, sym, ap, ◌∙◌, subst}
use mathlib.Core.Bool.{true, false}
use mathlib.Core.List.{List, [], ◌∷◌, ◌++◌}
use borrow.Author.Tests.{ltb-true}
use mathlib.Core.Logic.{⊎_elim}
use Rattle.spec_base.proofs.Tests.{either, and_l, and_r}
use Rattle.spec_base.specs.Number.{Bytes}
use Rattle.spec_wire.specs.declared.Refusal.TheVariants.{Unsound}
use Rattle.spec_wire.specs.declared.Step.{Step}
use Rattle.spec_wire.specs.declared.Step.TheVariants.{Load, Store, Send, Deliver, Raise, Lower, Forward}
use Rattle.std.specs.Prelude.{Ok, Err}
use Rattle.spec_wire.specs.Answers.{Reading}
use Rattle.spec_wire.specs.Kinds.{kind_of, field_array, in_bounds, step_in_bounds}
use Rattle.spec_wire.specs.Reader.{read_record}
use Rattle.spec_wire.proofs.RoundTrip.{read_fits}
use Rattle.spec_rack.specs.Rack.{Rack}
use Rattle.spec_rack.specs.Rules.{Outcome, refused, accepted, rules, rack_after, reply}
use Rattle.spec_rack.specs.Lists.{run, run_all, answers_of, accesses_of, rack_answers, rack_accesses, step_in, steps_of, access_in, after, answered, handed, answers, accesses}
use Rattle.spec_rack.proofs.StepPreservation.{Kept, Keeps, StepFits, step_keeps}
use Rattle.spec_rack.specs.FlatMemory.{Access, access_of}
use Rattle.spec_rack.specs.RecordLayout.{get}
use Rattle.spec_rack.specs.Soundness.{sound_bytes}
use Rattle.spec_rack.proofs.SoundRecord.{Live, live_of, sound_of, put_is, put_live}
use Rattle.spec_rack.specs.Entries.{buffer_after_outcome, outcome, step_reply, step_after}

-- a step that was read has a value of 32 bits
pub step_fits : (t : Step) → step_in_bounds t ≡ true → StepFits t
unfolding in_bounds kind_of field_array
step_fits (Load c b w) h = tt
step_fits (Store c b w v) h = ltb-true v (2 ^ 32) (search (and_l, and_r, h) depth 6)
step_fits (Send c b t p o d) h = tt
step_fits (Deliver i) h = tt
step_fits (Raise c b) h = tt
step_fits (Lower c b) h = tt
step_fits (Forward c b) h = tt

-- ---- one step on a live record

-- an outcome on the bytes s as the rules have it: the record stays live, and its rack is the one after it
pub record Goes (s : List ℕ) (o : Outcome) : Type 0 where
  pub live : Live (buffer_after_outcome s o)
  pub rack : get (buffer_after_outcome s o) ≡ rack_after (get s) o

pub goes : (s : List ℕ) → Live s → (t : Step) → StepFits t → Goes s (rules (get s) t)
goes s live t fits = go (rules (get s) t) (step_keeps (get s) live.sound t)
  where
    go : (o : Outcome) → Keeps (Kept (get s) t) o → Goes s o
    go (refused n) k = record { live = live; rack = refl }
    go (accepted a r) k =
        record {
          live = put_live s live r k.sound (k.fits fits live.fits) k.count;
          rack = put_is s live r k.sound (k.fits fits live.fits) k.count;
        }

pub outcome_read : (s : List ℕ) → Live s → (t : Step) → outcome (Ok t) s ≡ rules (get s) t
outcome_read s live t = rw (sound_of s live) refl

pub outcome_unsound : (s : List ℕ) → sound_bytes s ≡ false → (t : Step) → outcome (Ok t) s ≡ refused Unsound
outcome_unsound s bad t = rw bad refl

-- a step leaves soundness as it was
module _ (s : List ℕ) (bytes : Bytes s) where
  outcome_kept : (k : Reading) → ((t : Step) → k ≡ Ok t → StepFits t) → sound_bytes (buffer_after_outcome s (outcome k s)) ≡ sound_bytes s
  outcome_kept (Err n) f = refl
  outcome_kept (Ok t) f =
      ⊎_elim
      (λ (h : sound_bytes s ≡ true). let live = live_of s bytes h in
      ap (λ (o : Outcome). sound_bytes (buffer_after_outcome s o)) (outcome_read s live t) ∙ sound_of _ (goes s live t (f t refl)).live ∙ sym h)
      (λ (h : sound_bytes s ≡ false). ap (λ (o : Outcome). sound_bytes (buffer_after_outcome s o)) (outcome_unsound s h t))
      (either (sound_bytes s))

  pub sound_kept : (b : List ℕ) → sound_bytes (step_after s b) ≡ sound_bytes s
  unfolding step_after
  sound_kept b = outcome_kept (read_record b) (λ t e. step_fits t (read_fits b t e))

-- ---- a list on a live record

-- what a list leaves and gives, as the rack has it
pub record Runs (s : List ℕ) (bs : List (List ℕ)) : Type 0 where
  pub live : Live (after s bs)
  pub rack : get (after s bs) ≡ run (get s) (steps_of bs)
  pub answers : answers s bs ≡ rack_answers (get s) (steps_of bs)
  pub accesses : accesses s bs ≡ rack_accesses (get s) (steps_of bs)

-- the same where the first string was read as k, with the outcome o
record First (s : List ℕ) (k : Reading) (o : Outcome) (bs : List (List ℕ)) : Type 0 where
  live : Live (after (buffer_after_outcome s o) bs)
  rack : get (after (buffer_after_outcome s o) bs) ≡ run (get s) (step_in k ++ steps_of bs)
  answers : answered (reply o) ++ answers (buffer_after_outcome s o) bs ≡ rack_answers (get s) (step_in k ++ steps_of bs)
  accesses : handed (reply o) (access_in k) ++ accesses (buffer_after_outcome s o) bs ≡ rack_accesses (get s) (step_in k ++ steps_of bs)

pub runs : (bs : List (List ℕ)) (s : List ℕ) → Live s → Runs s bs
unfolding run_all answers_of accesses_of step_reply step_after
runs [] s live = record { live = live; rack = refl; answers = refl; accesses = refl }
runs (b ∷ bs) s live =
    let f = by_reading (λ q l. runs bs q l) (read_record b) (λ t e. step_fits t (read_fits b t e)) in
    record { live = f.live; rack = f.rack; answers = f.answers; accesses = f.accesses }
  where
    by_step : ((q : List ℕ) → Live q → Runs q bs) → (t : Step) → Goes s (rules (get s) t) → First s (Ok t) (rules (get s) t) bs
    by_step rest t g =
        let o = rules (get s) t in
        let i = rest (buffer_after_outcome s o) g.live in
        record {
          live = i.live;
          rack = i.rack ∙ ap (λ (r : Rack). run r (steps_of bs)) g.rack;
          answers = ap (λ (l : List ℕ). answered (reply o) ++ l) (i.answers ∙ ap (λ (r : Rack). rack_answers r (steps_of bs)) g.rack);
          accesses = ap (λ (l : List Access). handed (reply o) (access_of t) ++ l) (i.accesses ∙ ap (λ (r : Rack). rack_accesses r (steps_of bs)) g.rack);
        }

    by_reading : ((q : List ℕ) → Live q → Runs q bs) → (k : Reading) → ((t : Step) → k ≡ Ok t → StepFits t) → First s k (outcome k s) bs
    by_reading rest (Err n) f =
        let i = rest s live in
        record { live = i.live; rack = i.rack; answers = i.answers; accesses = i.accesses }
    by_reading rest (Ok t) f =
        subst (λ (o : Outcome). First s (Ok t) o bs) (sym (outcome_read s live t)) (by_step rest t (goes s live t (f t refl)))
