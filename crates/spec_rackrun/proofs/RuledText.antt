-- The program's text is that of the rules: the buffer has room for every record, the opening leaves a live record of the fresh rack, and each step goes
-- as the rules have it.
use Prim.Native.Nat.{ℕ, ◌≤◌}
use native.Mathlib.Omega.{arith}
use mathlib.Core.Path.{◌≡◌, refl, sym, ap, ◌∙◌}
use mathlib.Core.Logic.{⊎_elim}
use mathlib.Core.Bool.{Bool, true, false, cond}
use mathlib.Core.List.{List, [], ◌∷◌, ◌++◌}
use lib.ListN.{length, get_or, take, drop}
use lib.Dec.{ltb}
use Rattle.spec_base.specs.Number.{Bytes}
use Rattle.spec_base.proofs.Tests.{either, not_of_false, not_of_true}
use Rattle.spec_wire.specs.declared.Refusal.TheVariants.{Torn}
use Rattle.std.specs.Prelude.{Ok, Err}
use Rattle.spec_rack.specs.Replies.{Reply}
use Rattle.spec_wire.specs.Answers.{Check, Reading}
use Rattle.spec_wire.specs.declared.Step.{Step}
use Rattle.spec_wire.specs.Frames.{frames}
use Rattle.spec_wire.specs.Reader.{read_record}
use Rattle.spec_wire.proofs.RefusalTable.{stops, goes as past}
use Rattle.spec_wire.proofs.RoundTrip.{read_fits}
use Rattle.spec_rack.specs.declared.Answer.TheVariants.{Done}
use Rattle.spec_rack.specs.Rack.{Rack, fresh}
use Rattle.spec_rack.specs.Soundness.{sizes}
use Rattle.spec_rack.specs.Rules.{Outcome, refused, settled, rules, opening_check, opening, rack_after, reply, reply_of}
use Rattle.spec_rack.specs.RecordLayout.{longest_record, get}
use Rattle.spec_rack.specs.Opening.{open_check, open_reply, open_after}
use Rattle.spec_rack.specs.Entries.{buffer_after_outcome, outcome, step_reply, step_after}
use Rattle.spec_rack.specs.Lists.{replies_of, replies}
use Rattle.spec_rackrun.specs.Rackrun.{line, lines, step_lines, opening_reply, opening_after, text}
use Rattle.spec_rackrun.specs.RuledText.{ruled, ruled_replies, ruled_lines, ruled_text, OpeningBySizes, TextByRules}
use Rattle.spec_rack.proofs.StepPreservation.{StepFits}
use Rattle.spec_rack.proofs.SoundRecord.{Live, live_of}
use Rattle.spec_rack.proofs.OpeningLaws.{in_range_lem, open_size, open_pass, open_get, open_sound, open_bytes}
use Rattle.spec_rack.proofs.ByteLists.{Goes, goes, outcome_read, step_fits}

-- ---- the opening

-- with room for every record only the sizes decide
by_sizes : (n b t l : ℕ) → longest_record ≤ l → open_check n b t l ≡ opening_check n b t
unfolding opening_check
by_sizes n b t l room =
    ⊎_elim
    (λ (h : sizes n b t ≡ true). sym (open_pass n b t l h (omega (arith, (in_range_lem n b t h).3))) ∙ past _ _ _ _ (not_of_true (sizes n b t) h) refl)
    (λ (h : sizes n b t ≡ false). sym (open_size n b t l h) ∙ stops _ _ _ (not_of_false (sizes n b t) h))
    (either (sizes n b t))

same_reply : (k : Check) (r : Rack) → reply_of k ≡ reply (settled k Done r)
same_reply (Ok _) r = refl
same_reply (Err n) r = refl

pub opening_by_sizes : OpeningBySizes
unfolding open_reply opening
opening_by_sizes n b t s room = ap reply_of (by_sizes n b t (length s) room) ∙ same_reply (opening_check n b t) (fresh n b t)

-- ---- the steps

pub replies_ruled : (bs : List (List ℕ)) (s : List ℕ) → Live s → replies s bs ≡ ruled_replies (get s) bs
unfolding replies_of step_reply step_after
replies_ruled [] s live = refl
replies_ruled (b ∷ bs) s live = by_reading (λ q l. replies_ruled bs q l) (read_record b) (λ t e. step_fits t (read_fits b t e))
  where
    by_step : ((q : List ℕ) → Live q → replies q bs ≡ ruled_replies (get q) bs) → (o : Outcome) → Goes s o
        → reply o ∷ replies (buffer_after_outcome s o) bs ≡ reply o ∷ ruled_replies (rack_after (get s) o) bs
    by_step rest o g = ap (λ (rs : List Reply). reply o ∷ rs) (rest (buffer_after_outcome s o) g.live ∙ ap (λ (r : Rack). ruled_replies r bs) g.rack)

    by_reading : ((q : List ℕ) → Live q → replies q bs ≡ ruled_replies (get q) bs) → (k : Reading) → ((t : Step) → k ≡ Ok t → StepFits t)
        → reply (outcome k s) ∷ replies (buffer_after_outcome s (outcome k s)) bs ≡ reply (ruled (get s) k) ∷ ruled_replies (rack_after (get s) (ruled (get s) k)) bs
    by_reading rest (Err n) f = ap (λ (rs : List Reply). Err n ∷ rs) (rest s live)
    by_reading rest (Ok t) f =
        ap (λ (o : Outcome). reply o ∷ replies (buffer_after_outcome s o) bs) (outcome_read s live t) ∙ by_step rest (rules (get s) t) (goes s live t (f t refl))

-- ---- the text

module _ (s : List ℕ) (bytes : Bytes s) (room : longest_record ≤ length s) (list : List ℕ) where
  -- by the verdict on the opening
  by_check : (n b t : ℕ) (k : Check) → open_check n b t (length s) ≡ k
      → line 0 (reply_of k) ++ step_lines (reply_of k) (open_after n b t s) list ≡ line 0 (reply (settled k Done (fresh n b t))) ++ ruled_lines (settled k Done (fresh n b t)) list
  by_check n b t (Ok _) e =
      let first = open_after n b t s in
      let live = live_of first (open_bytes n b t s e bytes) (open_sound n b t s e bytes) in
      ap (λ (rs : List Reply). line 0 (Ok Done) ++ lines 1 rs)
      (replies_ruled (frames 65536 list) first live ∙ ap (λ (r : Rack). ruled_replies r (frames 65536 list)) (open_get n b t s e))
  by_check n b t (Err r) e = refl

  by_opening : (n b t : ℕ) → line 0 (open_reply n b t s) ++ step_lines (open_reply n b t s) (open_after n b t s) list
      ≡ line 0 (reply (opening n b t)) ++ ruled_lines (opening n b t) list
  unfolding open_reply opening
  by_opening n b t =
      by_check n b t (open_check n b t (length s)) refl
      ∙ ap (λ (k : Check). line 0 (reply (settled k Done (fresh n b t))) ++ ruled_lines (settled k Done (fresh n b t)) list) (by_sizes n b t (length s) room)

  by_length : (n b t : ℕ) (short : Bool)
      → line 0 (cond short (Err Torn) (open_reply n b t s)) ++ step_lines (cond short (Err Torn) (open_reply n b t s)) (cond short s (open_after n b t s)) list
      ≡ line 0 (reply (cond short (refused Torn) (opening n b t))) ++ ruled_lines (cond short (refused Torn) (opening n b t)) list
  by_length n b t true = refl
  by_length n b t false = by_opening n b t

pub text_by_rules : TextByRules
unfolding text opening_reply opening_after ruled_text
text_by_rules s input bytes room =
    let u = take 65536 input in
    by_length s bytes room (drop 3 u) (get_or u 0 0) (get_or u 1 0) (get_or u 2 0) (ltb (length u) 3)
