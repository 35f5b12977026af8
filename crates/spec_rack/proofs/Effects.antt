-- What a step, a list and an opening leave in a buffer: a step by its outcome, a list one step after the other.
use Prim.Native.Nat.{ℕ}
use native.Mathlib.Omega.{arith}
use mathlib.Core.Path.{◌≡◌, refl, sym, ap, ◌∙◌, subst}
use mathlib.Core.Logic.{⊎_elim}
use mathlib.Core.Bool.{Bool, true, false, cond}
use mathlib.Core.List.{List, [], ◌∷◌, ◌++◌, map, map-map}
use lib.ListN.{length, drop}
use Rattle.spec_base.specs.Number.{Bytes}
use Rattle.spec_base.proofs.Tests.{either}
use Rattle.spec_wire.specs.declared.Refusal.{Refusal}
use Rattle.spec_wire.specs.declared.Refusal.TheVariants.{Unsound}
use Rattle.std.specs.Prelude.{Ok, Err}
use Rattle.spec_wire.specs.Answers.{Check, Reading}
use Rattle.spec_wire.specs.declared.Step.{Step}
use Rattle.spec_wire.specs.Reader.{read_record}
use Rattle.spec_wire.proofs.RoundTrip.{read_fits}
use Rattle.spec_rack.specs.declared.Answer.{Answer}
use Rattle.spec_rack.specs.Rack.{Rack}
use Rattle.spec_rack.specs.Rules.{Outcome, refused, accepted, rules, reply, reply_of}
use Rattle.spec_rack.proofs.StepPreservation.{Kept, Keeps, StepFits, step_keeps}
use Rattle.spec_rack.specs.RecordLayout.{record_length, get, put}
use Rattle.spec_rack.specs.Soundness.{sound_bytes}
use Rattle.spec_rack.proofs.GetPut.{boards_is, tokens_is, blocks_is}
use Rattle.spec_rack.proofs.SoundRecord.{Live, live_of, sound_of, put_is, put_rest, put_live}
use Rattle.spec_rack.proofs.RecordFormat.{live_format}
use Rattle.spec_rack.specs.Opening.{open_check, open_reply}
use Rattle.spec_rack.proofs.OpeningLaws.{passes, open_refused, open_get, open_length, open_behind, open_sound}
use Rattle.spec_rack.specs.Entries.{buffer_after_outcome, outcome, step_reply, step_after}
use Rattle.spec_rack.specs.Lists.{run_all, replies_of, after, replies, frames_from}
use Rattle.spec_rack.proofs.ByteLists.{step_fits, outcome_read, outcome_unsound, runs}
use Rattle.spec_rack.specs.Letter.{letter, letter_reply}
use Rattle.spec_rack.specs.Results.{packed_reply}
use Rattle.spec_rack.specs.Effects.{EveryRun, Steady, StepLeaves, EveryStep, EveryList, unsound_reply, EveryUnsound, EveryOpening}

not_both : {A : Type 0} {a : Answer} {n : Refusal} → Ok a ≡ Err n → A
not_both e = let z : ◌≡◌ {A = ℕ} 0 1 = cc in absurd (omega arith)

-- ---- a buffer that stays, and one change after another

steady_same : (s : List ℕ) → Steady s s
steady_same s = record { rest = record { size = refl; behind = refl }; boards = refl; blocks = refl; tokens = refl; format = refl; sound = refl }

steady_then : (s s' s'' : List ℕ) → Steady s s' → Steady s' s'' → Steady s s''
steady_then s s' s'' p q =
    record {
      rest =
          record {
            size = q.rest.size ∙ p.rest.size;
            behind = subst (λ (b : ℕ). drop (record_length b) s'' ≡ drop (record_length b) s') p.blocks q.rest.behind ∙ p.rest.behind;
          };
      boards = q.boards ∙ p.boards;
      blocks = q.blocks ∙ p.blocks;
      tokens = q.tokens ∙ p.tokens;
      format = q.format ∙ p.format;
      sound = q.sound ∙ p.sound;
    }

-- ---- a step

module _ (s bytes : List ℕ) where
  unchanged : (n : Refusal) → step_reply s bytes ≡ Err n → step_after s bytes ≡ s → StepLeaves s bytes
  unchanged n told e =
      record {
        steady = subst (Steady s) (sym e) (steady_same s);
        if_accepted = λ a h. not_both (sym h ∙ told);
        if_refused = λ _ _. e;
      }

  -- an accepted step writes the rack that it leaves
  module _ (live : Live s) (t : Step) (read : read_record bytes ≡ Ok t) (a : Answer) (r : Rack) (ruled : rules (get s) t ≡ accepted a r) (k : Kept (get s) t a r) (fit : StepFits t) where
    is : get (put r s) ≡ r
    is = put_is s live r k.sound (k.fits fit live.fits) k.count

    live_after : Live (put r s)
    live_after = put_live s live r k.sound (k.fits fit live.fits) k.count

    put_steady : Steady s (put r s)
    put_steady =
        record {
          rest = put_rest s live r k.sound (k.fits fit live.fits) k.count;
          boards = sym (boards_is (put r s)) ∙ ap (λ (q : Rack). q.boards) is ∙ k.boards ∙ boards_is s;
          blocks = sym (blocks_is (put r s)) ∙ ap (λ (q : Rack). length q.blocks) is ∙ k.count ∙ blocks_is s;
          tokens = sym (tokens_is (put r s)) ∙ ap (λ (q : Rack). q.tokens) is ∙ k.tokens ∙ tokens_is s;
          format = live_format (put r s) live_after ∙ sym (live_format s live);
          sound = sound_of (put r s) live_after ∙ sym (sound_of s live);
        }

    written : step_reply s bytes ≡ Ok a → step_after s bytes ≡ put r s → StepLeaves s bytes
    written told e =
        record {
          steady = subst (Steady s) (sym e) put_steady;
          if_accepted = λ a' h.
              let same : a ≡ a' = cc in
              record { step = t; read = read; sound = sound_of s live; ruled = ruled ∙ (λ i. accepted (same i) (sym (ap get e ∙ is) i)) };
          if_refused = λ n h. not_both (sym told ∙ h);
        }

  by_outcome : (live : Live s) (t : Step) → read_record bytes ≡ Ok t → StepFits t → (o : Outcome) → rules (get s) t ≡ o → Keeps (Kept (get s) t) o
      → step_reply s bytes ≡ reply o → step_after s bytes ≡ buffer_after_outcome s o → StepLeaves s bytes
  by_outcome live t read fit (refused n) ruled k told e = unchanged n told e
  by_outcome live t read fit (accepted a r) ruled k told e = written live t read a r ruled k fit told e

  by_reading : Bytes s → (k : Reading) → read_record bytes ≡ k → StepLeaves s bytes
  unfolding step_reply step_after
  by_reading h (Err n) e = unchanged n (ap (λ (k : Reading). reply (outcome k s)) e) (ap (λ (k : Reading). buffer_after_outcome s (outcome k s)) e)
  by_reading h (Ok t) e =
      ⊎_elim
      (λ (ok : sound_bytes s ≡ true). let live = live_of s h ok in
      by_outcome live t e (step_fits t (read_fits bytes t e)) (rules (get s) t) refl (step_keeps (get s) live.sound t)
      (ap (λ (k : Reading). reply (outcome k s)) e ∙ ap reply (outcome_read s live t))
      (ap (λ (k : Reading). buffer_after_outcome s (outcome k s)) e ∙ ap (buffer_after_outcome s) (outcome_read s live t)))
      (λ (bad : sound_bytes s ≡ false). unchanged Unsound
      (ap (λ (k : Reading). reply (outcome k s)) e ∙ ap reply (outcome_unsound s bad t))
      (ap (λ (k : Reading). buffer_after_outcome s (outcome k s)) e ∙ ap (buffer_after_outcome s) (outcome_unsound s bad t)))
      (either (sound_bytes s))

  -- on a buffer without a sound record
  by_unsound : sound_bytes s ≡ false → (k : Reading) → (reply (outcome k s) ≡ unsound_reply k) × (buffer_after_outcome s (outcome k s) ≡ s)
  by_unsound bad (Err n) = (refl, refl)
  by_unsound bad (Ok t) = (ap reply (outcome_unsound s bad t), ap (buffer_after_outcome s) (outcome_unsound s bad t))

  step_unsound : sound_bytes s ≡ false → (step_reply s bytes ≡ unsound_reply (read_record bytes)) × (step_after s bytes ≡ s)
  unfolding step_reply step_after
  step_unsound bad = by_unsound bad (read_record bytes)

pub every_step : EveryStep
every_step s bytes h = by_reading s bytes h (read_record bytes) refl

-- ---- a list

list_steady : (steps : List (List ℕ)) (s : List ℕ) → Live s → Steady s (after s steps)
unfolding run_all
list_steady [] s live = steady_same s
list_steady (b ∷ bs) s live =
    steady_then s (step_after s b) (after (step_after s b) bs) (every_step s b live.well_formed.bytes).steady (list_steady bs (step_after s b) (runs (b ∷ []) s live).live)

list_unsound : (steps : List (List ℕ)) (s : List ℕ) → sound_bytes s ≡ false → (replies s steps ≡ map (λ bytes. unsound_reply (read_record bytes)) steps) × (after s steps ≡ s)
unfolding run_all replies_of
list_unsound [] s bad = (refl, refl)
list_unsound (b ∷ bs) s bad =
    let one = step_unsound s b bad in
    let rest = list_unsound bs s bad in
    ((λ i. one.0 i ∷ (ap (λ (q : List ℕ). replies q bs) one.1 ∙ rest.0) i), ap (λ (q : List ℕ). after q bs) one.1 ∙ rest.1)

pub every_unsound : EveryUnsound
unfolding letter_reply
every_unsound s bad =
    record {
      step = λ bytes. step_unsound s bytes bad;
      list = λ steps. list_unsound steps s bad;
      letter = λ c b. ap (λ (u : Bool). cond u (letter (get s) c b) (Err Unsound)) bad;
    }

pub every_list : EveryList
every_list s steps h =
    record {
      steady =
          ⊎_elim (λ (ok : sound_bytes s ≡ true). list_steady steps s (live_of s h ok))
          (λ (bad : sound_bytes s ≡ false). subst (Steady s) (sym (list_unsound steps s bad).1) (steady_same s)) (either (sound_bytes s));
      if_sound = λ ok. (runs steps s (live_of s h ok)).rack;
    }

pub every_run : EveryRun
every_run rec list at out made rec' at' out' h ran =
    let steps : List (List ℕ) = frames_from list at out in
    let l = every_list rec steps h in
    record {
      steady = subst (Steady rec) (sym ran.buffer) l.steady;
      if_sound = λ ok. ap get ran.buffer ∙ l.if_sound ok;
      if_unsound = λ bad. ran.buffer ∙ (list_unsound steps rec bad).1;
      unsound_replies = λ bad.
          ran.replies
          ∙ ap (λ (l : List ℕ). l ++ drop (length steps) out) (ap (map packed_reply) (list_unsound steps rec bad).0 ∙ map-map packed_reply (λ bytes. unsound_reply (read_record bytes)) steps);
    }

-- ---- an opening

refuses : (k : Check) (r : Refusal) → reply_of k ≡ Err r → k ≡ Err r
refuses (Ok _) r e = not_both e
refuses (Err n) r e = cc

pub every_opening : EveryOpening
unfolding open_reply
every_opening n b t s h =
    record {
      if_accepted = λ e.
          let pass = passes (open_check n b t (length s)) e in
          record {
            rest = record { size = open_length n b t s pass; behind = open_behind n b t s pass };
            rack = open_get n b t s pass;
            sound = open_sound n b t s pass h;
          };
      if_refused = λ r e. (open_refused n b t s r (refuses (open_check n b t (length s)) r e)).1;
    }
