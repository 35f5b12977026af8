-- Document 01, "Language forms in the code": the number that stands for each reply and each state letter at an exported entry.
use Rattle.std.specs.Prelude.{ℕ, cond, ◌&&◌, leb, Ok, Err}
use Rattle.spec_wire.specs.declared.Refusal.TheVariants.{Size}
use Rattle.spec_rack.specs.RecordLayout.{record_length}
use Rattle.spec_wire.specs.Results.{packed, done, refused}
use Rattle.spec_rack.specs.declared.Answer.TheVariants.{Done, Word, Served}
use Rattle.spec_rack.specs.Replies.{Lettered, Reply}
use Rattle.spec_rack.specs.declared.Letter.{Letter}
use Rattle.spec_rack.specs.declared.Letter.TheVariants.{M, O, E, S, I}

-- kind 2: the word of a load
abbrev pub word : ℕ → ℕ
word w = packed 2 0 0 w

-- kind 3: a state letter, by its ASCII code
abbrev pub letter_number : Letter → ℕ
letter_number M = packed 3 0 0 77
letter_number O = packed 3 0 0 79
letter_number E = packed 3 0 0 69
letter_number S = packed 3 0 0 83
letter_number I = packed 3 0 0 73

-- kind 4: whom a deliver served, its component and its block (document 02, No. 1)
abbrev pub served : ℕ → ℕ → ℕ
served c b = packed 4 c b 0

abbrev pub packed_reply : Reply → ℕ
packed_reply (Ok Done) = done 0
packed_reply (Ok (Word w)) = word w
packed_reply (Ok (Served c b)) = served c b
packed_reply (Err r) = refused r

abbrev pub packed_letter : Lettered → ℕ
packed_letter (Ok l) = letter_number l
packed_letter (Err r) = refused r

-- the length of a record of b blocks, where 1 to 32 blocks are possible
abbrev pub packed_length : ℕ → ℕ
packed_length b = cond (leb 1 b && leb b 32) (done (record_length b)) (refused Size)
