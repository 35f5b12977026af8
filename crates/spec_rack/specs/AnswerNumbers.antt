-- Document 01, "Language forms in the code": "When an answer is an enum, a definition sets out this paper's number and values for each of its cases."
-- The definitions are `packed_reply` and `packed_letter`. The enum entries of the engine promise the same answers as the entries for C: the number of an
-- answer gives back its case and its values, so two answers with one number are the same.
use Rattle.std.specs.Prelude.{ℕ, ◌<◌, ◌≡◌, Bool, true, cond, ◌&&◌, eqb, ltb, Ok, Err}
use Rattle.spec_wire.specs.declared.Refusal.TheVariants.{NoToken}
use Rattle.spec_wire.specs.Refusals.{numbered}
use Rattle.spec_wire.specs.AnswerNumbers.{kind_part, component_part, block_part, number_part}
use Rattle.spec_rack.specs.declared.Answer.TheVariants.{Done, Word, Served}
use Rattle.spec_rack.specs.Replies.{Lettered, Reply}
use Rattle.spec_rack.specs.declared.Letter.{Letter}
use Rattle.spec_rack.specs.declared.Letter.TheVariants.{M, O, E, S, I}
use Rattle.spec_rack.specs.Results.{packed_reply, packed_letter}

-- What C makes of a reply: kind 0 is done, kind 2 a word, kind 4 whom a deliver served, else a refusal with its number.
abbrev pub decoded_reply : ℕ → ℕ → ℕ → ℕ → Reply
decoded_reply kind component block n =
    cond (eqb kind 0) (Ok Done)
    (cond (eqb kind 2) (Ok (Word n))
    (cond (eqb kind 4) (Ok (Served component block))
    (Err (numbered n))))

abbrev pub unpacked_reply : ℕ → Reply
unpacked_reply x = decoded_reply (kind_part x) (component_part x) (block_part x) (number_part x)

-- and of a letter's: kind 3 is a letter, by its ASCII code, else a refusal
abbrev pub ascii_letter : ℕ → Letter
ascii_letter n = cond (eqb n 77) M (cond (eqb n 79) O (cond (eqb n 69) E (cond (eqb n 83) S I)))

abbrev pub decoded_letter : ℕ → ℕ → Lettered
decoded_letter kind n = cond (eqb kind 3) (Ok (ascii_letter n)) (Err (numbered n))

abbrev pub unpacked_letter : ℕ → Lettered
unpacked_letter x = decoded_letter (kind_part x) (number_part x)

-- a word of 32 bits, as every word of a record is; a component of 8 bits and a block of 16
abbrev pub reply_fits : Reply → Bool
reply_fits (Ok Done) = true
reply_fits (Ok (Word w)) = ltb w 0x1_0000_0000
reply_fits (Ok (Served c b)) = ltb c 0x100 && ltb b 0x1_0000
reply_fits (Err r) = true

pub record AnswerNumbers : Type 0 where
  pub reply_back : (r : Reply) → reply_fits r ≡ true → unpacked_reply (packed_reply r) ≡ r
  pub letter_back : (l : Lettered) → unpacked_letter (packed_letter l) ≡ l
  pub one_reply : (p q : Reply) → reply_fits p ≡ true → reply_fits q ≡ true → packed_reply p ≡ packed_reply q → p ≡ q
  pub one_letter : (p q : Lettered) → packed_letter p ≡ packed_letter q → p ≡ q
  -- in 64 bits
  pub reply_64 : (r : Reply) → reply_fits r ≡ true → packed_reply r < 0x1_0000_0000_0000_0000
  -- the cases: done, a load's word, a refusal by the table's number
  pub done_0 : packed_reply (Ok Done) ≡ 0x0000_0000_0000_0000
  pub word_2_a : packed_reply (Ok (Word 0x2A)) ≡ 0x0200_0000_0000_002A
  pub refused_5 : packed_reply (Err NoToken) ≡ 0x0100_0000_0000_0005
  -- whom a deliver served. Block 0 to home is not the number of done.
  pub served_1_0 : packed_reply (Ok (Served 1 0)) ≡ 0x0401_0000_0000_0000
  pub served_3_10 : packed_reply (Ok (Served 3 10)) ≡ 0x0403_000A_0000_0000
  pub served_15_31 : packed_reply (Ok (Served 15 31)) ≡ 0x040F_001F_0000_0000
  pub served_0_0 : packed_reply (Ok (Served 0 0)) ≡ 0x0400_0000_0000_0000
  -- the letters, by their ASCII codes
  pub letter_M : packed_letter (Ok M) ≡ 0x0300_0000_0000_004D
  pub letter_O : packed_letter (Ok O) ≡ 0x0300_0000_0000_004F
  pub letter_E : packed_letter (Ok E) ≡ 0x0300_0000_0000_0045
  pub letter_S : packed_letter (Ok S) ≡ 0x0300_0000_0000_0053
  pub letter_I : packed_letter (Ok I) ≡ 0x0300_0000_0000_0049
