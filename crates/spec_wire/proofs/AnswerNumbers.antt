-- The numbers of the reader's and the writer's answers tell their cases and values.
use Prim.Native.Nat.{ℕ, ◌+◌, ◌≤◌, ◌<◌}
use native.Mathlib.Omega.{arith}
use mathlib.Core.Path.{◌≡◌, refl, sym, ap, ◌∙◌}
use mathlib.Core.Bool.{true, cond}
use mathlib.Core.List.{List, ◌++◌}
use lib.ListN.{length, take, drop, length-append}
use lib.Seq.{take_at, take_all}
use lib.Dec.{leb}
use borrow.Author.Tests.{ltb-true, le-leb}
use Rattle.spec_base.specs.Placing.{place}
use Rattle.spec_wire.specs.declared.Refusal.{Refusal}
use Rattle.spec_wire.specs.declared.Refusal.TheVariants.{Torn}
use Rattle.spec_wire.specs.declared.Step.{Step}
use Rattle.std.specs.Prelude.{Ok, Err}
use Rattle.spec_wire.specs.Answers.{Written}
use Rattle.spec_wire.specs.Refusals.{number, numbered}
use Rattle.spec_wire.specs.Results.{packed, done, refused}
use Rattle.spec_wire.specs.Kinds.{field_array, step_in_bounds}
use Rattle.spec_wire.specs.FieldArray.{step_of_twelve, step_of_array, read_result, read_after, write_result}
use Rattle.spec_wire.specs.Writer.{placed}
use Rattle.spec_wire.specs.AnswerNumbers.{kind_part, component_part, block_part, number_part, unpacked, decoded_written, decoded_reading, unpacked_written, unpacked_reading, written_fits, AnswerNumbers}
use Rattle.spec_wire.proofs.RefusalTable.{number_known, number_back}
use Rattle.spec_wire.proofs.KindTable.{places_length}
use Rattle.spec_wire.proofs.FieldArrays.{told_places}

-- the parts of a packed number, each within its bits
module _ (k c b n : ℕ) (in8 : c < 0x100) (in16 : b < 0x1_0000) (in32 : n < 0x1_0000_0000) where
  pub packed_kind : kind_part (packed k c b n) ≡ k
  packed_kind = omega arith

  pub packed_component : component_part (packed k c b n) ≡ c
  packed_component = omega arith

  pub packed_block : block_part (packed k c b n) ≡ b
  packed_block = omega arith

  pub packed_number : number_part (packed k c b n) ≡ n
  packed_number = omega arith

  pub parts_back : unpacked (packed k c b n) ≡ (k, c, b, n)
  parts_back = λ i. (packed_kind i, packed_component i, packed_block i, packed_number i)

-- of a kind and a number alone
pub plain_kind : (k n : ℕ) → n < 0x1_0000_0000 → kind_part (packed k 0 0 n) ≡ k
plain_kind k n h = packed_kind k 0 0 n (omega arith) (omega arith) h

pub plain_number : (k n : ℕ) → n < 0x1_0000_0000 → number_part (packed k 0 0 n) ≡ n
plain_number k n h = packed_number k 0 0 n (omega arith) (omega arith) h

refusal_small : (r : Refusal) → number r < 0x1_0000_0000
refusal_small r = omega (arith, number_known r)

pub refusal_kind : (r : Refusal) → kind_part (refused r) ≡ 1
refusal_kind r = plain_kind 1 (number r) (refusal_small r)

pub refusal_number : (r : Refusal) → number_part (refused r) ≡ number r
refusal_number r = plain_number 1 (number r) (refusal_small r)

-- a refusal's number tells it
pub refusal_told : (r : Refusal) → numbered (number_part (refused r)) ≡ r
refusal_told r = ap numbered (refusal_number r) ∙ number_back r

-- the numbers of a step tell it, whatever stands behind them
told_front : (s : Step) (q : List ℕ) → step_in_bounds s ≡ true → step_of_array (field_array s ++ q) ≡ Ok s
unfolding step_of_array
told_front s q h =
    let p : List ℕ = field_array s in
    let n : length p ≡ 12 = places_length s in
    let long : leb 12 (length (p ++ q)) ≡ leb 12 (length p) =
    le-leb 12 (length (p ++ q)) (omega (arith, length-append p q)) ∙ sym (le-leb 12 (length p) (omega arith)) in
    let same : take 12 (p ++ q) ≡ take 12 p = take_at p q 12 n ∙ sym (take_all 12 p (omega arith)) in
    (λ i. cond (long i) (step_of_twelve (same i)) (Err Torn)) ∙ told_places s h

pub step_back : (s : Step) (out : List ℕ) → step_in_bounds s ≡ true → 12 ≤ length out → unpacked_reading (read_result (Ok s) out) (read_after (Ok s) out) ≡ Ok s
unfolding read_result read_after placed place
step_back s out h l = rw (le-leb (0 + length (field_array s)) (length out) (omega (arith, places_length s))) (told_front s (drop (0 + length (field_array s)) out) h)

pub refused_back : (r : Refusal) (out : List ℕ) → unpacked_reading (read_result (Err r) out) (read_after (Err r) out) ≡ Err r
unfolding read_result read_after
refused_back r out = ap (λ (k : ℕ). decoded_reading k (number_part (refused r)) out) (refusal_kind r) ∙ ap Err (refusal_told r)

pub written_back : (w : Written) → written_fits w ≡ true → unpacked_written (write_result w) ≡ w
written_back (Ok n) h =
    let small : n < 0x1_0000_0000 = ltb-true n 0x1_0000_0000 h in
    ap (λ (k : ℕ). decoded_written k (number_part (done n))) (plain_kind 0 n small) ∙ ap Ok (plain_number 0 n small)
written_back (Err r) h = ap (λ (k : ℕ). decoded_written k (number_part (refused r))) (refusal_kind r) ∙ ap Err (refusal_told r)

pub answer_numbers : AnswerNumbers
answer_numbers =
    record {
      refusal_kind = refusal_kind;
      refusal_number = refusal_number;
      refusal_back = number_back;
      written_back = written_back;
      step_back = step_back;
      refused_back = refused_back;
      parts_back = parts_back;
      parts = refl;
      count_27 = refl;
      written_20 = refl;
    }
