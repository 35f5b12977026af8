-- A step by the verdict of the table: where it is refused the bytes stay, where it passes they are what the change leaves. A load leaves them as they are.
use mathlib.Core.Path.{◌≡◌, refl, sym, ap}
use mathlib.Core.List.{List}
use Prim.Native.Nat.{ℕ}
use Rattle.std.specs.Prelude.{Ok, Err}
use Rattle.spec_wire.specs.declared.Refusal.{Refusal}
use Rattle.spec_wire.specs.Answers.{Check, no_refusal}
use Rattle.spec_wire.specs.declared.Step.{Step}
use Rattle.spec_wire.specs.declared.Step.TheVariants.{Load}
use Rattle.spec_base.specs.Number.{Bytes}
use Rattle.spec_rack.specs.declared.Answer.{Answer}
use Rattle.spec_rack.specs.Rules.{check, answer, after, rules}
use Rattle.spec_rack.specs.RecordLayout.{get, put}
use Rattle.record.specs.Needs.{InLayout}
use Rattle.spec_rack.proofs.GetPut.{put_get}
use Rattle.record.proofs.FieldAccess.{well_formed}
use Rattle.spec_rack.specs.Entries.{reply_to_step, buffer_after}

module _ (s : List ℕ) (t : Step) where
  -- the reply of each line
  pub refused_is : {n : Refusal} → Err n ≡ check (get s) t → Err n ≡ reply_to_step s t
  unfolding rules
  refused_is e = rw (sym e)

  -- the reply where the check passes
  pub accepted_is : {a : Answer} → no_refusal ≡ check (get s) t → a ≡ answer (get s) t → Ok a ≡ reply_to_step s t
  unfolding rules
  accepted_is e d = rw (sym e) (ap Ok d)

  -- what is written where the check passes
  pub written_is : (s₁ : List ℕ) → check (get s) t ≡ no_refusal → s₁ ≡ put (after (get s) t) s → s₁ ≡ buffer_after s t
  unfolding rules
  written_is s₁ e h = rw e h

  -- the two ends of a step: it is made, or refused
  pub made : {a : Answer} → a ≡ answer (get s) t → (s₁ : List ℕ) → check (get s) t ≡ no_refusal → s₁ ≡ put (after (get s) t) s → (Ok a ≡ reply_to_step s t) × (s₁ ≡ buffer_after s t)
  made given s₁ e h = (accepted_is (sym e) given, written_is s₁ e h)

  pub kept : {n : Refusal} → Err n ≡ check (get s) t → (Err n ≡ reply_to_step s t) × (s ≡ buffer_after s t)
  unfolding rules
  kept e = (refused_is e, rw (sym e))

-- a load writes nothing, which is to write the rack that is there
pub load_leaves : (s : List ℕ) → Bytes s → InLayout s → (c b w : ℕ) → s ≡ buffer_after s (Load c b w)
unfolding rules after
load_leaves s bytes whole c b w = by_verdict (check (get s) (Load c b w)) refl
  where
    by_verdict : (k : Check) → k ≡ check (get s) (Load c b w) → s ≡ buffer_after s (Load c b w)
    by_verdict (Ok _) e = rw (sym e) (sym (put_get s (well_formed s bytes whole)))
    by_verdict (Err n) e = rw (sym e)
