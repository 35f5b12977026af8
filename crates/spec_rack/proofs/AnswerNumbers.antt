-- The numbers of the engine's answers tell their cases and values.
use Prim.Native.Nat.{ℕ, ◌<◌}
use native.Mathlib.Omega.{arith}
use mathlib.Core.Path.{◌≡◌, refl, sym, ap, ◌∙◌}
use mathlib.Core.Bool.{true}
use lib.Dec.{ltb}
use borrow.Author.Tests.{ltb-true}
use Rattle.spec_base.proofs.Tests.{and_l, and_r}
use Rattle.spec_wire.specs.Results.{refused}
use Rattle.spec_wire.proofs.RefusalTable.{number_known}
use Rattle.spec_wire.specs.AnswerNumbers.{component_part, block_part, number_part}
use Rattle.spec_wire.proofs.AnswerNumbers.{packed_kind, packed_component, packed_block, plain_kind, plain_number, refusal_kind, refusal_told}
use Rattle.spec_rack.specs.declared.Answer.TheVariants.{Done, Word, Served}
use Rattle.std.specs.Prelude.{Ok, Err}
use Rattle.spec_rack.specs.Replies.{Lettered, Reply}
use Rattle.spec_rack.specs.declared.Letter.TheVariants.{M, O, E, S, I}
use Rattle.spec_rack.specs.Results.{word, served, packed_reply, packed_letter}
use Rattle.spec_rack.specs.AnswerNumbers.{decoded_reply, unpacked_reply, decoded_letter, unpacked_letter, reply_fits, AnswerNumbers}

pub reply_back : (r : Reply) → reply_fits r ≡ true → unpacked_reply (packed_reply r) ≡ r
reply_back (Ok Done) h = refl
reply_back (Ok (Word w)) h =
    let small : w < 0x1_0000_0000 = ltb-true w 0x1_0000_0000 h in
    ap (λ (k : ℕ). decoded_reply k (component_part (word w)) (block_part (word w)) (number_part (word w))) (plain_kind 2 w small)
    ∙ ap (λ (n : ℕ). Ok (Word n)) (plain_number 2 w small)
reply_back (Ok (Served c b)) h =
    let in8 : c < 0x100 = ltb-true c 0x100 (and_l (ltb c 0x100) (ltb b 0x1_0000) h) in
    let in16 : b < 0x1_0000 = ltb-true b 0x1_0000 (and_r (ltb c 0x100) (ltb b 0x1_0000) h) in
    ap (λ (k : ℕ). decoded_reply k (component_part (served c b)) (block_part (served c b)) (number_part (served c b))) (packed_kind 4 c b 0 in8 in16 (omega arith))
    ∙ (λ i. Ok (Served (packed_component 4 c b 0 in8 in16 (omega arith) i) (packed_block 4 c b 0 in8 in16 (omega arith) i)))
reply_back (Err r) h =
    ap (λ (k : ℕ). decoded_reply k (component_part (refused r)) (block_part (refused r)) (number_part (refused r))) (refusal_kind r) ∙ ap Err (refusal_told r)

reply_64 : (r : Reply) → reply_fits r ≡ true → packed_reply r < 0x1_0000_0000_0000_0000
reply_64 (Ok Done) h = omega arith
reply_64 (Ok (Word w)) h = omega (arith, ltb-true w 0x1_0000_0000 h)
reply_64 (Ok (Served c b)) h =
    omega (arith, ltb-true c 0x100 (and_l (ltb c 0x100) (ltb b 0x1_0000) h), ltb-true b 0x1_0000 (and_r (ltb c 0x100) (ltb b 0x1_0000) h))
reply_64 (Err r) h = omega (arith, number_known r)

pub letter_back : (l : Lettered) → unpacked_letter (packed_letter l) ≡ l
letter_back (Ok M) = refl
letter_back (Ok O) = refl
letter_back (Ok E) = refl
letter_back (Ok S) = refl
letter_back (Ok I) = refl
letter_back (Err r) = ap (λ (k : ℕ). decoded_letter k (number_part (refused r))) (refusal_kind r) ∙ ap Err (refusal_told r)

pub answer_numbers : AnswerNumbers
answer_numbers =
    record {
      reply_back = reply_back;
      letter_back = letter_back;
      one_reply = λ p q hp hq e. sym (reply_back p hp) ∙ ap unpacked_reply e ∙ reply_back q hq;
      one_letter = λ p q e. sym (letter_back p) ∙ ap unpacked_letter e ∙ letter_back q;
      reply_64 = reply_64;
      done_0 = refl;
      word_2_a = refl;
      refused_5 = refl;
      served_1_0 = refl;
      served_3_10 = refl;
      served_15_31 = refl;
      served_0_0 = refl;
      letter_M = refl;
      letter_O = refl;
      letter_E = refl;
      letter_S = refl;
      letter_I = refl;
    }
