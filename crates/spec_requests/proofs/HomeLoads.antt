-- A load is decided by its lines other than 4, which are document 01's; and it changes nothing, so that one which is answered now leaves what the refused
-- one left. From one step to lists by induction. At home the tests of the table are 3's, and then 4's, which passes.
use Prim.Native.Nat.{ℕ, ◌<◌}
use native.Mathlib.Omega.{arith}
use mathlib.Core.Path.{◌≡◌, refl, sym, ap, ◌∙◌, subst}
use mathlib.Core.Logic.{⊎_elim}
use mathlib.Core.Bool.{Bool, true, false, not, cond, ◌||◌}
use mathlib.Core.List.{List, [], ◌∷◌}
use borrow.Author.Tests.{ne_eqb, le-ltb}
use lib.ListN.{get_or}
use lib.Dec.{eqb}
use Rattle.spec_base.specs.Number.{Bytes}
use Rattle.spec_base.proofs.Tests.{differs, either, or_none}
use Rattle.spec_wire.specs.declared.Refusal.{Refusal}
use Rattle.spec_wire.specs.declared.Refusal.TheVariants.{Unsound, OffRack, Home, NoToken, NoData}
use Rattle.std.specs.Prelude.{Ok, Err}
use Rattle.spec_rack.specs.Replies.{Reply}
use Rattle.spec_wire.specs.Answers.{Check, Reading, no_refusal}
use Rattle.spec_wire.specs.Refusals.{when◌refuse◌else◌}
use Rattle.spec_wire.specs.declared.Step.{Step}
use Rattle.spec_wire.specs.declared.Step.TheVariants.{Load, Store, Send, Deliver, Raise, Lower, Forward}
use Rattle.spec_wire.specs.Reader.{read_record}
use Rattle.spec_rack.specs.declared.Answer.{Answer}
use Rattle.spec_rack.specs.declared.Answer.TheVariants.{Word}
use Rattle.spec_rack.specs.Rack.{Cell, Rack, cell_at, held}
use Rattle.spec_rack.specs.Rules.{Outcome, refused, settled, check, after, answer, rules, off_rack, past_words, reply, rack_after}
use Rattle.spec_rack.specs.Letter.{letter_check, letter_of, lettered, letter}
use Rattle.spec_rack.specs.RecordLayout.{get, put}
use Rattle.spec_rack.specs.Soundness.{sound_bytes}
use Rattle.spec_rack.specs.Entries.{buffer_after_outcome, outcome_by, step_reply, step_after}
use Rattle.spec_rack.specs.Lists.{run_all, ruled_reply, ruled_after}
use Rattle.spec_requests.specs.HomeLoads.{load_check_before, rules_before, ruled_reply_before, ruled_after_before, step_reply_before, step_after_before, is_home_load, is_home_load_in, OrdinaryLoad, ValidLoads, SameList, SameOnRacks, SameOnBytes, StillRefused}
use Rattle.spec_rack.proofs.SoundnessFacts.{sound_facts}
use Rattle.spec_rack.proofs.BlockInvariant.{cell_sound}
use Rattle.spec_rack.proofs.StepPreservation.{in_n, in_b}
use Rattle.spec_rack.proofs.GetPut.{put_get}
use Rattle.spec_rack.proofs.SoundRecord.{live_of}
use Rattle.spec_rack.proofs.ByteLists.{runs}
use Rattle.spec_rack.proofs.Effects.{every_unsound}

-- ---- one load, with the line of home and without it

abbrev word : Cell → ℕ → Answer
word x w = Word (get_or x.words w 0)

-- what is said of both, where `rest` has the lines below
module _ (rest : Check) (a : Answer) (r : Rack) where
  still_accepted : (off home : Bool) (a' : Answer)
      → reply (settled (when off refuse OffRack else when home refuse Home else rest) a r) ≡ Ok a'
      → reply (settled (when off refuse OffRack else rest) a r) ≡ Ok a'
  unfolding when◌refuse◌else◌
  still_accepted true home a' e = e
  still_accepted false true a' e = cc
  still_accepted false false a' e = e

  same_away : (off home : Bool) → home ≡ false
      → settled (when off refuse OffRack else rest) a r ≡ settled (when off refuse OffRack else when home refuse Home else rest) a r
  unfolding when◌refuse◌else◌
  same_away off true e = differs e
  same_away off false e = refl

-- a load leaves the rack, whatever its lines say
leaves : (k : Check) (a : Answer) (r : Rack) → rack_after r (settled k a r) ≡ r
leaves (Ok _) a r = refl
leaves (Err n) a r = refl

-- ---- one step, on a rack

-- what is true of a load's two outcomes, and of an outcome beside itself, is true of those of every step
by_kind : (r : Rack) (P : Step → Outcome → Outcome → Type 0) → ((t : Step) (o : Outcome) → P t o o)
    → ((c b w : ℕ) → P (Load c b w) (rules r (Load c b w)) (rules_before r (Load c b w))) → (t : Step) → P t (rules r t) (rules_before r t)
by_kind r P same load (Load c b w) = load c b w
by_kind r P same load (Store c b w v) = same (Store c b w v) _
by_kind r P same load (Send c b t p o d) = same (Send c b t p o d) _
by_kind r P same load (Deliver i) = same (Deliver i) _
by_kind r P same load (Raise c b) = same (Raise c b) _
by_kind r P same load (Lower c b) = same (Lower c b) _
by_kind r P same load (Forward c b) = same (Forward c b) _

step_left : (r : Rack) (t : Step) → ruled_after r t ≡ ruled_after_before r t
unfolding rules after
step_left r =
    by_kind r (λ _ o o'. rack_after r o ≡ rack_after r o') (λ _ o. refl)
    (λ c b w. leaves (check r (Load c b w)) (answer r (Load c b w)) r ∙ sym (leaves (load_check_before r c b w) (word (cell_at r b c) w) r))

step_answered : (r : Rack) (t : Step) (a : Answer) → ruled_reply_before r t ≡ Ok a → ruled_reply r t ≡ Ok a
unfolding rules check after answer
step_answered r =
    by_kind r (λ _ o o'. (a : Answer) → reply o' ≡ Ok a → reply o ≡ Ok a) (λ _ o a e. e)
    (λ c b w. still_accepted _ (word (cell_at r b c) w) r (off_rack r c b || past_words w) (eqb c 0))

step_other : (r : Rack) (t : Step) → is_home_load t ≡ false → rules r t ≡ rules_before r t
unfolding rules check after answer
step_other r =
    by_kind r (λ t o o'. is_home_load t ≡ false → o ≡ o') (λ _ o _. refl)
    (λ c b w. same_away _ (word (cell_at r b c) w) r (off_rack r c b || past_words w) (eqb c 0))

-- ---- a load at home, by the ordinary rule

-- the lines of a load, by whether it is off the rack and by its cell
abbrev lines : Bool → Cell → ℕ → Check
lines off x w = when off || past_words w refuse OffRack else when eqb (held x) 0 refuse NoToken else when not x.valid refuse NoData else no_refusal

-- a reply does not tell the rack that is left
pub any_rack : (k : Check) (a : Answer) (r r' : Rack) → reply (settled k a r) ≡ reply (settled k a r')
any_rack (Ok _) a r r' = refl
any_rack (Err n) a r r' = refl

pub ordinary_load : OrdinaryLoad
unfolding rules check answer after
ordinary_load r r' b b' c w board off same =
    (λ i. reply (settled (lines (off i) (same i) w) (word (same i) w) r))
    ∙ any_rack (lines (off_rack r' c b') (cell_at r' b' c) w) (word (cell_at r' b' c) w) r r'
    ∙ ap reply (step_other r' (Load c b' w) (ne_eqb c 0 board))

-- ---- by the valid mark, which is only where a token is held

by_valid : (r : Rack) (a : Answer) (off none valid : Bool) → off ≡ false → (valid ≡ true → none ≡ false)
    → reply (settled (when off refuse OffRack else when none refuse NoToken else when not valid refuse NoData else no_refusal) a r)
    ≡ cond valid (Ok a) (Err (cond none NoToken NoData))
unfolding when◌refuse◌else◌
by_valid r a true none valid on token = differs on
by_valid r a false true true on token = differs (token refl)
by_valid r a false true false on token = refl
by_valid r a false false true on token = refl
by_valid r a false false false on token = refl

pub valid_loads : ValidLoads
unfolding rules check answer after
valid_loads r c b w ok on low =
    let s = sound_facts r ok in
    by_valid r _ _ (eqb (held (cell_at r b c)) 0) (cell_at r b c).valid (or_none _ _ on (le-ltb 7 w (omega arith)))
    (λ valid.
    ne_eqb _ 0
    (λ (none : held (cell_at r b c) ≡ 0).
    let some : 0 < held (cell_at r b c) = (cell_sound r s b c (in_b r s c b on) (in_n r s c b on)).token valid in absurd (omega arith)))

-- ---- from one item to lists

module _ {S I : Type 0} (after after_before : S → I → S) (reply reply_before : S → I → Reply) (home_load : I → Bool)
    (P : S → Type 0) (kept : (s : S) (x : I) → P s → P (after s x))
    (left : (s : S) (x : I) → P s → after s x ≡ after_before s x)
    (answered : (s : S) (x : I) (a : Answer) → reply_before s x ≡ Ok a → reply s x ≡ Ok a)
    (other : (s : S) (x : I) → home_load x ≡ false → reply s x ≡ reply_before s x) where
  same_list : (items : List I) (s : S) → P s → SameList after after_before reply reply_before home_load s items
  unfolding run_all
  same_list [] s ok = record { state = refl; answered = answered s; others = other s }
  same_list (x ∷ xs) s ok =
      let rest = same_list xs (after s x) (kept s x ok) in
      let same = left s x ok in
      record {
        state = rest.state ∙ ap (λ (q : S). run_all after_before q xs) same;
        answered = λ y a e. rest.answered y a (subst (λ (q : S). reply_before (run_all after_before q xs) y ≡ Ok a) (sym same) e);
        others = λ y e. rest.others y e ∙ ap (λ (q : S). reply_before (run_all after_before q xs) y) same;
      }

pub same_on_racks : SameOnRacks
same_on_racks r ss =
    same_list ruled_after ruled_after_before ruled_reply ruled_reply_before is_home_load (λ _. Unit {0}) (λ _ _ _. tt) (λ q s _. step_left q s) step_answered
    (λ q s e. ap reply (step_other q s e)) ss r tt

-- ---- byte strings

-- to write the rack that is there changes nothing
writes_nothing : (s : List ℕ) → put (get s) s ≡ s → (k : Check) (a : Answer) → buffer_after_outcome s (settled k a (get s)) ≡ s
writes_nothing s same (Ok _) a = same
writes_nothing s same (Err n) a = refl

module _ (s : List ℕ) where
  step_writes : put (get s) s ≡ s → (t : Step) → buffer_after_outcome s (rules (get s) t) ≡ buffer_after_outcome s (rules_before (get s) t)
  unfolding rules after
  step_writes same =
      by_kind (get s) (λ _ o o'. buffer_after_outcome s o ≡ buffer_after_outcome s o') (λ _ o. refl)
      (λ c b w.
      writes_nothing s same (check (get s) (Load c b w)) (answer (get s) (Load c b w))
      ∙ sym (writes_nothing s same (load_check_before (get s) c b w) (word (cell_at (get s) b c) w)))

  by_reading : (k : Reading) → (sound_bytes s ≡ true → put (get s) s ≡ s)
      → buffer_after_outcome s (outcome_by rules k s) ≡ buffer_after_outcome s (outcome_by rules_before k s)
  by_reading (Err n) same = refl
  by_reading (Ok t) same = go (sound_bytes s) refl
    where
      go : (u : Bool) → sound_bytes s ≡ u
          → buffer_after_outcome s (cond u (rules (get s) t) (refused Unsound)) ≡ buffer_after_outcome s (cond u (rules_before (get s) t) (refused Unsound))
      go true e = step_writes (same e) t
      go false e = refl

  reading_answered : (k : Reading) (a : Answer) → reply (outcome_by rules_before k s) ≡ Ok a → reply (outcome_by rules k s) ≡ Ok a
  reading_answered (Err n) a e = e
  reading_answered (Ok t) a e = go (sound_bytes s) e
    where
      go : (u : Bool) → reply (cond u (rules_before (get s) t) (refused Unsound)) ≡ Ok a → reply (cond u (rules (get s) t) (refused Unsound)) ≡ Ok a
      go true e = step_answered (get s) t a e
      go false e = e

  reading_other : (k : Reading) → is_home_load_in k ≡ false → reply (outcome_by rules k s) ≡ reply (outcome_by rules_before k s)
  reading_other (Err n) e = refl
  reading_other (Ok t) e = ap (λ (o : Outcome). reply (cond (sound_bytes s) o (refused Unsound))) (step_other (get s) t e)

bytes_left : (s bytes : List ℕ) → Bytes s → step_after s bytes ≡ step_after_before s bytes
unfolding step_after
bytes_left s bytes ok = by_reading s (read_record bytes) (λ sound. put_get s (live_of s ok sound).well_formed)

bytes_answered : (s bytes : List ℕ) (a : Answer) → step_reply_before s bytes ≡ Ok a → step_reply s bytes ≡ Ok a
unfolding step_reply
bytes_answered s bytes a = reading_answered s (read_record bytes) a

bytes_other : (s bytes : List ℕ) → is_home_load_in (read_record bytes) ≡ false → step_reply s bytes ≡ step_reply_before s bytes
unfolding step_reply
bytes_other s bytes = reading_other s (read_record bytes)

-- what a step leaves are bytes
bytes_kept : (s bytes : List ℕ) → Bytes s → Bytes (step_after s bytes)
unfolding run_all
bytes_kept s bytes ok =
    ⊎_elim
    (λ (sound : sound_bytes s ≡ true). (runs (bytes ∷ []) s (live_of s ok sound)).live.well_formed.bytes)
    (λ (bad : sound_bytes s ≡ false). subst Bytes (sym ((every_unsound s bad).step bytes).1) ok)
    (either (sound_bytes s))

pub same_on_bytes : SameOnBytes
same_on_bytes s steps ok =
    same_list step_after step_after_before step_reply step_reply_before (λ bytes. is_home_load_in (read_record bytes)) Bytes bytes_kept bytes_left bytes_answered bytes_other
    steps s ok

-- ---- what home is still refused

-- at home the second test of the table passes, so the first decides
at_home : (off : Bool) (rest : Check) → (when off refuse OffRack else when true refuse Home else rest) ≡ Err (cond off OffRack Home)
unfolding when◌refuse◌else◌
at_home true rest = refl
at_home false rest = refl

-- a step whose check refuses it is refused
refused_with : {n : Refusal} (r : Rack) (t : Step) → check r t ≡ Err n → ruled_reply r t ≡ Err n
unfolding rules
refused_with r t e = ap (λ (k : Check). reply (settled k (answer r t) (after r t))) e

pub still_refused : StillRefused
unfolding check letter_check letter
still_refused =
    record {
      store = λ r b w v. refused_with r (Store 0 b w v) (at_home (off_rack r 0 b || past_words w) _);
      raise = λ r b. refused_with r (Raise 0 b) (at_home (off_rack r 0 b) _);
      lower = λ r b. refused_with r (Lower 0 b) (at_home (off_rack r 0 b) _);
      letter_at_home = λ r b. ap (λ (k : Check). lettered k (letter_of r.tokens (cell_at r b 0))) (at_home (off_rack r 0 b) _);
    }
