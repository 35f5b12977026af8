-- Document 01, "The flat memory": a list given step by step, to a rack and to the record in a lent buffer; the replies, and what the flat memory is handed.
use Rattle.std.specs.Prelude.{List, [], ◌∷◌, ◌++◌, map, ℕ, ◌+◌, ◌≡◌, length, drop, Ok, Err}
use Rattle.spec_wire.specs.declared.Step.{Step}
use Rattle.spec_rack.specs.Replies.{Reply}
use Rattle.spec_wire.specs.Answers.{Reading}
use Rattle.spec_wire.specs.Reader.{read_record}
use Rattle.spec_rack.specs.declared.Answer.{Answer}
use Rattle.spec_rack.specs.declared.Answer.TheVariants.{Done, Word, Served}
use Rattle.spec_rack.specs.FlatMemory.{Access, access_of}
use Rattle.spec_rack.specs.Rack.{Rack}
use Rattle.spec_rack.specs.Rules.{rules, reply, rack_after}
use Rattle.spec_rack.specs.Entries.{step_reply, step_after}
use Rattle.spec_base.specs.Folds.{sum}
use Rattle.spec_wire.specs.Frames.{frames}
use Rattle.spec_rack.specs.Results.{packed_reply}

-- ---- any list, given to a state one item after the other. A state is a rack and an item a step; or a state is a lent buffer and an item a byte string.

-- the word of an answered load; whom a deliver served is none
abbrev pub words_of : Answer → List ℕ
words_of Done = []
words_of (Word w) = w ∷ []
words_of (Served c b) = []

abbrev pub answered : Reply → List ℕ
answered (Ok a) = words_of a
answered (Err n) = []

-- what the flat memory is handed of an item: its access, where it was accepted
abbrev pub handed : Reply → List Access → List Access
handed (Ok a) l = l
handed (Err n) l = []

-- by what one item leaves, what is replied to it, and the access that it is
module _ {S I : Type 0} (after : S → I → S) where
  -- the state after the list
  unfoldable pub run_all : S → List I → S
  run_all s [] = s
  run_all s (x ∷ xs) = run_all (after s x) xs

  module _ (reply : S → I → Reply) where
    unfoldable pub replies_of : S → List I → List Reply
    replies_of s [] = []
    replies_of s (x ∷ xs) = reply s x ∷ replies_of (after s x) xs

    -- the words of the answered loads
    unfoldable pub answers_of : S → List I → List ℕ
    answers_of s [] = []
    answers_of s (x ∷ xs) = answered (reply s x) ++ answers_of (after s x) xs

    -- the accepted loads and stores
    unfoldable pub accesses_of : (I → List Access) → S → List I → List Access
    accesses_of access s [] = []
    accesses_of access s (x ∷ xs) = handed (reply s x) (access x) ++ accesses_of access (after s x) xs

-- ---- to a rack, by the rules

abbrev pub ruled_after : Rack → Step → Rack
ruled_after r t = rack_after r (rules r t)

abbrev pub ruled_reply : Rack → Step → Reply
ruled_reply r t = reply (rules r t)

abbrev pub run : Rack → List Step → Rack
run r ts = run_all ruled_after r ts

abbrev pub rack_replies : Rack → List Step → List Reply
rack_replies r ts = replies_of ruled_after ruled_reply r ts

abbrev pub rack_answers : Rack → List Step → List ℕ
rack_answers r ts = answers_of ruled_after ruled_reply r ts

abbrev pub rack_accesses : Rack → List Step → List Access
rack_accesses r ts = accesses_of ruled_after ruled_reply access_of r ts

-- ---- byte strings

-- the steps among byte strings
abbrev pub step_in : Reading → List Step
step_in (Ok t) = t ∷ []
step_in (Err n) = []

abbrev pub steps_of : List (List ℕ) → List Step
steps_of [] = []
steps_of (b ∷ bs) = step_in (read_record b) ++ steps_of bs

-- the access of a byte string that is a load or a store
abbrev pub access_in : Reading → List Access
access_in (Ok t) = access_of t
access_in (Err n) = []

-- ---- to a lent buffer: the buffer after the list, the replies, the words of the answered loads, the accepted loads and stores

abbrev pub after : List ℕ → List (List ℕ) → List ℕ
after s bs = run_all step_after s bs

abbrev pub replies : List ℕ → List (List ℕ) → List Reply
replies s bs = replies_of step_after step_reply s bs

abbrev pub answers : List ℕ → List (List ℕ) → List ℕ
answers s bs = answers_of step_after step_reply s bs

abbrev pub accesses : List ℕ → List (List ℕ) → List Access
accesses s bs = accesses_of step_after step_reply (λ b. access_in (read_record b)) s bs

-- ---- a list of step records in one slice

-- the step records from a place of the list on, as many as there are places for replies
abbrev pub frames_from : List ℕ → ℕ → List ℕ → List (List ℕ)
frames_from list at out = frames (length out) (drop at list)

-- What a run leaves: each step record given singly, in order; a packed reply for each at the front of the lent replies, the rest as they were;
-- the count of steps; and the place behind the last step record, from which the next run goes on.
pub record RunResult (rec list : List ℕ) (at : ℕ) (out : List ℕ) (made : ℕ) (rec' : List ℕ) (at' : ℕ) (out' : List ℕ) : Type 0 where
  pub count : made ≡ length (frames_from list at out)
  pub buffer : rec' ≡ after rec (frames_from list at out)
  pub replies : out' ≡ map packed_reply (replies rec (frames_from list at out)) ++ drop (length (frames_from list at out)) out
  pub place : at' ≡ at + sum length (frames_from list at out)
