-- Document 02, No. 7: a load at home is answered by the ordinary load rule. The definition is `check` in Rules.antt, which no longer has document 01's
-- line 4 for a load; here is what that means for home, what stays of document 01's loads, and what home is still refused.
use Rattle.std.specs.Prelude.{ℕ, ◌<◌, ◌≡◌, Bool, true, false, not, cond, ◌||◌, List, [], ◌∷◌, map, get_or, eqb, Ok, Err}
use Rattle.spec_base.specs.Number.{Bytes}
use Rattle.spec_wire.specs.declared.Refusal.TheVariants.{OffRack, Home, NoToken, NoData}
use Rattle.spec_rack.specs.Replies.{Reply}
use Rattle.spec_wire.specs.Answers.{Check, Reading, no_refusal}
use Rattle.spec_wire.specs.Refusals.{when◌refuse◌else◌}
use Rattle.spec_wire.specs.declared.Step.{Step}
use Rattle.spec_wire.specs.declared.Step.TheVariants.{Load, Store, Send, Deliver, Raise, Lower, Forward}
use Rattle.spec_wire.specs.Reader.{read_record}
use Rattle.spec_rack.specs.declared.Answer.{Answer}
use Rattle.spec_rack.specs.declared.Answer.TheVariants.{Word}
use Rattle.spec_rack.specs.Rack.{Rack, fresh, is_home, cell_at, held}
use Rattle.spec_rack.specs.Soundness.{sound}
use Rattle.spec_rack.specs.Rules.{Outcome, settled, rules, off_rack, past_words, reply, rack_after}
use Rattle.spec_rack.specs.Letter.{letter}
use Rattle.spec_rack.specs.Entries.{buffer_after_outcome, outcome_by, step_reply, step_after}
use Rattle.spec_rack.specs.Lists.{run_all, replies_of, ruled_reply, ruled_after}
use Rattle.spec_rack.specs.Examples.{code, home_reads}

-- ---- before: a load as document 01 has it, with 4 at home; every other step by the rules of today

abbrev pub load_check_before : Rack → ℕ → ℕ → ℕ → Check
load_check_before r c b w =
    when off_rack r c b || past_words w refuse OffRack else
    when is_home c refuse Home else
    when eqb (held (cell_at r b c)) 0 refuse NoToken else
    when not (cell_at r b c).valid refuse NoData else
    no_refusal

abbrev pub rules_before : Rack → Step → Outcome
rules_before r (Load c b w) = settled (load_check_before r c b w) (Word (get_or (cell_at r b c).words w 0)) r
rules_before r (Store c b w v) = rules r (Store c b w v)
rules_before r (Send c b t p o d) = rules r (Send c b t p o d)
rules_before r (Deliver i) = rules r (Deliver i)
rules_before r (Raise c b) = rules r (Raise c b)
rules_before r (Lower c b) = rules r (Lower c b)
rules_before r (Forward c b) = rules r (Forward c b)

-- on a rack, and on the record in a lent buffer
abbrev pub ruled_reply_before : Rack → Step → Reply
ruled_reply_before r s = reply (rules_before r s)

abbrev pub ruled_after_before : Rack → Step → Rack
ruled_after_before r s = rack_after r (rules_before r s)

abbrev pub step_reply_before : List ℕ → List ℕ → Reply
step_reply_before s bytes = reply (outcome_by rules_before (read_record bytes) s)

abbrev pub step_after_before : List ℕ → List ℕ → List ℕ
step_after_before s bytes = buffer_after_outcome s (outcome_by rules_before (read_record bytes) s)

-- ---- a load at home is answered by the ordinary load rule, 5 and 6 included

-- Home's cell of block b is that of board c of block b' on a second rack, and block b is off its rack exactly where board c or block b' is off its: the load
-- at home has the reply that document 01 gives to the board's.
abbrev pub OrdinaryLoad : Type 0
OrdinaryLoad =
    (r r' : Rack) (b b' c w : ℕ) → (c ≡ 0 → ⊥) → off_rack r 0 b ≡ off_rack r' c b' → cell_at r b 0 ≡ cell_at r' b' c
    → ruled_reply r (Load 0 b w) ≡ ruled_reply_before r' (Load c b' w)

-- On a sound rack a load on the rack is answered exactly where the component is valid, and else refused with 5 or 6: at home as at every board.
abbrev pub ValidLoads : Type 0
ValidLoads =
    (r : Rack) (c b w : ℕ) → sound r ≡ true → off_rack r c b ≡ false → w < 8
    → ruled_reply r (Load c b w)
    ≡ cond (cell_at r b c).valid (Ok (Word (get_or (cell_at r b c).words w 0))) (Err (cond (eqb (held (cell_at r b c)) 0) NoToken NoData))

-- ---- every load that was answered before gives the same, every other load at a board has the same reply, and every list leaves the same

abbrev pub is_home_load : Step → Bool
is_home_load (Load c b w) = is_home c
is_home_load (Store c b w v) = false
is_home_load (Send c b t p o d) = false
is_home_load (Deliver i) = false
is_home_load (Raise c b) = false
is_home_load (Lower c b) = false
is_home_load (Forward c b) = false

abbrev pub is_home_load_in : Reading → Bool
is_home_load_in (Ok t) = is_home_load t
is_home_load_in (Err n) = false

-- A list of items given to a state, by what one item leaves and what is replied to it, now and before; and an item x behind the list. As every item of a
-- list stands behind a shorter one, this is said of each reply to a list.
module _ {S I : Type 0} (after after_before : S → I → S) (reply reply_before : S → I → Reply) (home_load : I → Bool) where
  pub record SameList (s : S) (items : List I) : Type 0 where
    -- it leaves the same
    pub state : run_all after s items ≡ run_all after_before s items
    -- what was accepted before is accepted with the same answer: an answered load gives the same word
    pub answered : (x : I) (a : Answer) → reply_before (run_all after_before s items) x ≡ Ok a → reply (run_all after s items) x ≡ Ok a
    -- and what is no load at home has the same reply, refused or not
    pub others : (x : I) → home_load x ≡ false → reply (run_all after s items) x ≡ reply_before (run_all after_before s items) x

-- of every list of steps on every rack
abbrev pub SameOnRacks : Type 0
SameOnRacks = (r : Rack) (ss : List Step) → SameList ruled_after ruled_after_before ruled_reply ruled_reply_before is_home_load r ss

-- of every list of byte strings on every buffer
abbrev pub SameOnBytes : Type 0
SameOnBytes =
    (s : List ℕ) (steps : List (List ℕ)) → Bytes s
    → SameList step_after step_after_before step_reply step_reply_before (λ bytes. is_home_load_in (read_record bytes)) s steps

-- ---- stores, raises, lowers and letters at home are still refused with 4, and off the rack with 3 before it, on every rack

pub record StillRefused : Type 0 where
  pub store : (r : Rack) (b w v : ℕ) → ruled_reply r (Store 0 b w v) ≡ Err (cond (off_rack r 0 b || past_words w) OffRack Home)
  pub raise : (r : Rack) (b : ℕ) → ruled_reply r (Raise 0 b) ≡ Err (cond (off_rack r 0 b) OffRack Home)
  pub lower : (r : Rack) (b : ℕ) → ruled_reply r (Lower 0 b) ≡ Err (cond (off_rack r 0 b) OffRack Home)
  pub letter_at_home : (r : Rack) (b : ℕ) → letter r 0 b ≡ Err (cond (off_rack r 0 b) OffRack Home)

-- ---- an example by the rules before: of `home_reads` the four loads at home that are on the rack were refused with 4

abbrev pub ReadsBefore : Type 0
ReadsBefore =
    map code (replies_of ruled_after_before ruled_reply_before (fresh 2 1 3) home_reads) ≡ 4 ∷ 0 ∷ 4 ∷ 0 ∷ 0 ∷ 0 ∷ 0 ∷ 4 ∷ 0 ∷ 0 ∷ 4 ∷ 4 ∷ 4 ∷ 4 ∷ 3 ∷ 3 ∷ 3 ∷ []
