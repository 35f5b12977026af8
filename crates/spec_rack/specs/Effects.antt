-- Document 01, "The rack", "Steps" and "Refusal table": what a step, a list of steps, a run and an opening leave in a lent buffer. Each is said of every
-- buffer, sound or not, and of all bytes, step records or not. Of a buffer without a sound record also what is replied.
use Rattle.std.specs.Prelude.{ℕ, ◌≡◌, true, false, List, ◌++◌, map, length, drop, Ok, Err}
use Rattle.spec_base.specs.Number.{Bytes}
use Rattle.spec_wire.specs.declared.Refusal.{Refusal}
use Rattle.spec_wire.specs.declared.Refusal.TheVariants.{Unsound}
use Rattle.spec_wire.specs.declared.Step.{Step}
use Rattle.spec_rack.specs.Replies.{Reply}
use Rattle.spec_wire.specs.Answers.{Reading}
use Rattle.spec_wire.specs.Reader.{read_record}
use Rattle.spec_rack.specs.declared.Answer.{Answer}
use Rattle.spec_rack.specs.declared.Answer.TheVariants.{Done}
use Rattle.spec_rack.specs.Rack.{fresh}
use Rattle.spec_rack.specs.Rules.{accepted, rules}
use Rattle.spec_rack.specs.Lists.{run, steps_of, after, replies, frames_from, RunResult}
use Rattle.spec_rack.specs.RecordLayout.{record_length, get, blocks_in, boards_in, tokens_in}
use Rattle.spec_rack.specs.Soundness.{sound_bytes}
use Rattle.spec_rack.specs.RecordFormat.{format_bytes_in}
use Rattle.spec_rack.specs.Opening.{open_reply, open_after}
use Rattle.spec_rack.specs.Entries.{step_reply, step_after}
use Rattle.spec_rack.specs.Letter.{letter_reply}
use Rattle.spec_rack.specs.Results.{packed_reply}

-- from s to s': nothing behind the record of b blocks changes
pub record Behind (b : ℕ) (s s' : List ℕ) : Type 0 where
  pub size : length s' ≡ length s
  pub behind : drop (record_length b) s' ≡ drop (record_length b) s

-- and the record keeps N, B, T and its format, and stays sound, or unsound
pub record Steady (s s' : List ℕ) : Type 0 where
  pub rest : Behind (blocks_in s) s s'
  pub boards : boards_in s' ≡ boards_in s
  pub blocks : blocks_in s' ≡ blocks_in s
  pub tokens : tokens_in s' ≡ tokens_in s
  pub format : format_bytes_in s' ≡ format_bytes_in s
  pub sound : sound_bytes s' ≡ sound_bytes s

-- ---- a step

-- bytes that were accepted with the answer a: they were a step, the record was sound, and the rules give that answer and the rack that the record has now
pub record AcceptedAs (s bytes : List ℕ) (a : Answer) : Type 0 where
  pub step : Step
  pub read : read_record bytes ≡ Ok step
  pub sound : sound_bytes s ≡ true
  pub ruled : rules (get s) step ≡ accepted a (get (step_after s bytes))

pub record StepLeaves (s bytes : List ℕ) : Type 0 where
  pub steady : Steady s (step_after s bytes)
  pub if_accepted : (a : Answer) → step_reply s bytes ≡ Ok a → AcceptedAs s bytes a
  pub if_refused : (n : Refusal) → step_reply s bytes ≡ Err n → step_after s bytes ≡ s

abbrev pub EveryStep : Type 0
EveryStep = (s bytes : List ℕ) → Bytes s → StepLeaves s bytes

-- ---- a list of byte strings

pub record ListLeaves (s : List ℕ) (steps : List (List ℕ)) : Type 0 where
  pub steady : Steady s (after s steps)
  -- the record has the rack to which the steps among the strings take the rack
  pub if_sound : sound_bytes s ≡ true → get (after s steps) ≡ run (get s) (steps_of steps)

abbrev pub EveryList : Type 0
EveryList = (s : List ℕ) (steps : List (List ℕ)) → Bytes s → ListLeaves s steps

-- ---- a buffer that holds no sound record

-- what is replied to bytes then: torn, or unsound
abbrev pub unsound_reply : Reading → Reply
unsound_reply (Err n) = Err n
unsound_reply (Ok t) = Err Unsound

-- every call that looks at a record is refused, each reply of a list too, and nothing changes
pub record UnsoundLeaves (s : List ℕ) : Type 0 where
  pub step : (bytes : List ℕ) → (step_reply s bytes ≡ unsound_reply (read_record bytes)) × (step_after s bytes ≡ s)
  pub list : (steps : List (List ℕ)) → (replies s steps ≡ map (λ bytes. unsound_reply (read_record bytes)) steps) × (after s steps ≡ s)
  pub letter : (c b : ℕ) → letter_reply s c b ≡ Err Unsound

abbrev pub EveryUnsound : Type 0
EveryUnsound = (s : List ℕ) → sound_bytes s ≡ false → UnsoundLeaves s

-- ---- an opening

pub record OpenedAs (n b t : ℕ) (s : List ℕ) : Type 0 where
  pub rest : Behind b s (open_after n b t s)
  pub rack : get (open_after n b t s) ≡ fresh n b t
  pub sound : sound_bytes (open_after n b t s) ≡ true

pub record OpeningLeaves (n b t : ℕ) (s : List ℕ) : Type 0 where
  pub if_accepted : open_reply n b t s ≡ Ok Done → OpenedAs n b t s
  pub if_refused : (r : Refusal) → open_reply n b t s ≡ Err r → open_after n b t s ≡ s

abbrev pub EveryOpening : Type 0
EveryOpening = (n b t : ℕ) (s : List ℕ) → Bytes s → OpeningLeaves n b t s

-- ---- a run over the records of one slice

-- What a run leaves of a buffer and of the lent replies. A sound record has the rack to which the steps among the step records take it. A buffer without one
-- stays as it is, and every step is refused.
pub record RunLeaves (rec list : List ℕ) (at : ℕ) (out rec' out' : List ℕ) : Type 0 where
  pub steady : Steady rec rec'
  pub if_sound : sound_bytes rec ≡ true → get rec' ≡ run (get rec) (steps_of (frames_from list at out))
  pub if_unsound : sound_bytes rec ≡ false → rec' ≡ rec
  pub unsound_replies : sound_bytes rec ≡ false
      → out' ≡ map (λ bytes. packed_reply (unsound_reply (read_record bytes))) (frames_from list at out) ++ drop (length (frames_from list at out)) out

abbrev pub EveryRun : Type 0
EveryRun =
    (rec list : List ℕ) (at : ℕ) (out : List ℕ) (made : ℕ) (rec' : List ℕ) (at' : ℕ) (out' : List ℕ) → Bytes rec → RunResult rec list at out made rec' at' out'
    → RunLeaves rec list at out rec' out'
