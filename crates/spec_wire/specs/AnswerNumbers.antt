-- Document 01, "Language forms in the code": "When an answer is an enum, a definition sets out this paper's number and values for each of its cases."
-- The definitions are `number`, `read_result` and `write_result`. The enum entries of the reader and the writer promise the same answers as the entries
-- for C: the numbers of an answer give back its case and its values.
use Rattle.std.specs.Prelude.{ℕ, ◌/◌, ◌%◌, ◌≤◌, ◌<◌, ◌≡◌, Bool, true, cond, List, length, eqb, ltb, Ok, Err}
use Rattle.spec_wire.specs.declared.Refusal.{Refusal}
use Rattle.spec_wire.specs.declared.Refusal.TheVariants.{ShortBuffer}
use Rattle.spec_wire.specs.Refusals.{number, numbered}
use Rattle.spec_wire.specs.Results.{packed, refused}
use Rattle.spec_wire.specs.Answers.{Reading, Written}
use Rattle.spec_wire.specs.declared.Step.{Step}
use Rattle.spec_wire.specs.Kinds.{step_in_bounds}
use Rattle.spec_wire.specs.FieldArray.{step_of_array, read_result, read_after, write_result}

-- the parts of a packed number
abbrev pub kind_part : ℕ → ℕ
kind_part x = x / 0x100_0000_0000_0000

abbrev pub component_part : ℕ → ℕ
component_part x = x / 0x1_0000_0000_0000 % 0x100

abbrev pub block_part : ℕ → ℕ
block_part x = x / 0x1_0000_0000 % 0x1_0000

abbrev pub number_part : ℕ → ℕ
number_part x = x % 0x1_0000_0000

abbrev pub unpacked : ℕ → ℕ × ℕ × ℕ × ℕ
unpacked x = (kind_part x, component_part x, block_part x, number_part x)

-- What C makes of the writer's answer, and of the reader's with the numbers beside it: by the kind, refused where it is not 0.
abbrev pub decoded_written : ℕ → ℕ → Written
decoded_written kind n = cond (eqb kind 0) (Ok n) (Err (numbered n))

abbrev pub unpacked_written : ℕ → Written
unpacked_written x = decoded_written (kind_part x) (number_part x)

abbrev pub decoded_reading : ℕ → ℕ → List ℕ → Reading
decoded_reading kind n out = cond (eqb kind 0) (step_of_array out) (Err (numbered n))

abbrev pub unpacked_reading : ℕ → List ℕ → Reading
unpacked_reading x out = decoded_reading (kind_part x) (number_part x) out

-- a count that fits, as that of every record does
abbrev pub written_fits : Written → Bool
written_fits (Ok n) = ltb n 0x1_0000_0000
written_fits (Err r) = true

pub record AnswerNumbers : Type 0 where
  -- a refusal carries its number, and the number tells it
  pub refusal_kind : (r : Refusal) → kind_part (refused r) ≡ 1
  pub refusal_number : (r : Refusal) → number_part (refused r) ≡ number r
  pub refusal_back : (r : Refusal) → numbered (number r) ≡ r
  -- and so do the answers
  pub written_back : (w : Written) → written_fits w ≡ true → unpacked_written (write_result w) ≡ w
  -- a step that was read, where there is room for its twelve numbers; a refusal always
  pub step_back : (s : Step) (out : List ℕ) → step_in_bounds s ≡ true → 12 ≤ length out → unpacked_reading (read_result (Ok s) out) (read_after (Ok s) out) ≡ Ok s
  pub refused_back : (r : Refusal) (out : List ℕ) → unpacked_reading (read_result (Err r) out) (read_after (Err r) out) ≡ Err r
  -- every part is found again
  pub parts_back : (k c b n : ℕ) → c < 0x100 → b < 0x1_0000 → n < 0x1_0000_0000 → unpacked (packed k c b n) ≡ (k, c, b, n)
  -- kind, component, block and number stand one after the other
  pub parts : packed 0x12 0x34 0x5678 0x9ABC_DEF0 ≡ 0x1234_5678_9ABC_DEF0
  pub count_27 : write_result (Ok 27) ≡ 0x0000_0000_0000_001B
  pub written_20 : write_result (Err ShortBuffer) ≡ 0x0100_0000_0000_0014
