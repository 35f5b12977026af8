-- Document 01, "Program rackrun": the line that the program writes of a reply, and the text that it writes for its input.
use Rattle.std.specs.Prelude.{ℕ, zero, suc, ◌+◌, ◌/◌, ◌%◌, cond, List, [], ◌∷◌, ◌++◌, ltb, length, get_or, take, drop, Ok, Err}
use Rattle.spec_wire.specs.Refusals.{number}
use Rattle.spec_rack.specs.declared.Answer.TheVariants.{Done, Word, Served}
use Rattle.spec_rack.specs.Replies.{Reply}
use Rattle.spec_wire.specs.declared.Refusal.TheVariants.{Torn}
use Rattle.spec_rack.specs.Opening.{open_reply, open_after}
use Rattle.spec_wire.specs.Frames.{frames}
use Rattle.spec_rack.specs.Lists.{replies, after}

-- a digit in ASCII, lower case above 9
abbrev pub digit : ℕ → ℕ
digit n = cond (ltb n 10) (48 + n) (87 + n)

-- a number in decimal, of at most k + 1 digits
unfoldable pub decimal : ℕ → ℕ → List ℕ
decimal zero n = digit (n % 10) ∷ []
decimal (suc k) n = cond (ltb n 10) (digit n ∷ []) (decimal k (n / 10) ++ digit (n % 10) ∷ [])

-- the lowest k digits of a number in a base
unfoldable pub digits : ℕ → ℕ → ℕ → List ℕ
digits b zero n = []
digits b (suc k) n = digits b k (n / b) ++ digit (n % b) ∷ []

-- `ok`, `v` with eight hexadecimal digits, `r` with the refusal's number, or `d` with the component and the block of a deliver, a point between them
-- (document 02, No. 1)
unfoldable pub reply_text : Reply → List ℕ
reply_text (Ok Done) = 111 ∷ 107 ∷ []
reply_text (Ok (Word w)) = 118 ∷ digits 16 8 w
reply_text (Ok (Served c b)) = 100 ∷ (decimal 2 c ++ 46 ∷ decimal 2 b)
reply_text (Err r) = 114 ∷ decimal 1 (number r)

-- the text of a reply, and a newline
abbrev pub reply_line : Reply → List ℕ
reply_line r = reply_text r ++ 10 ∷ []

-- a line: the index, a space, what is said, a newline
unfoldable pub line : ℕ → Reply → List ℕ
line i r = decimal 4 i ++ 32 ∷ reply_line r

-- lines of replies, with rising indices
unfoldable pub lines : ℕ → List Reply → List ℕ
lines i [] = []
lines i (r ∷ rs) = line i r ++ lines (suc i) rs

-- the first 65,536 bytes of the input are used
abbrev pub used_input : List ℕ → List ℕ
used_input input = take 65536 input

-- the steps' lines, where the opening was accepted
abbrev pub step_lines : Reply → List ℕ → List ℕ → List ℕ
step_lines (Ok a) s list = lines 1 (replies s (frames 65536 list))
step_lines (Err r) s list = []

-- the reply to the opening with N, B and T, the first three bytes, of a record in the buffer s; under three bytes it is torn
unfoldable pub opening_reply : List ℕ → List ℕ → Reply
opening_reply s u = cond (ltb (length u) 3) (Err Torn) (open_reply (get_or u 0 0) (get_or u 1 0) (get_or u 2 0) s)

-- what the buffer holds after the opening
unfoldable pub opening_after : List ℕ → List ℕ → List ℕ
opening_after s u = cond (ltb (length u) 3) s (open_after (get_or u 0 0) (get_or u 1 0) (get_or u 2 0) s)

-- where the steps start in an input of so many bytes
abbrev pub steps_offset : Reply → ℕ → ℕ
steps_offset (Ok a) count = 3
steps_offset (Err r) count = count

-- the whole text, with a record in the buffer s: the opening's line, then the records'
unfoldable pub text : List ℕ → List ℕ → List ℕ
text s input =
    let u = used_input input in
    line 0 (opening_reply s u) ++ step_lines (opening_reply s u) (opening_after s u) (drop 3 u)

-- the record after the steps, where the opening was accepted
abbrev pub after_steps : Reply → List ℕ → List ℕ → List ℕ
after_steps (Ok a) s list = after s (frames 65536 list)
after_steps (Err r) s list = s

-- what the buffer s holds after the run
unfoldable pub record_after_run : List ℕ → List ℕ → List ℕ
record_after_run s input =
    let u = used_input input in
    after_steps (opening_reply s u) (opening_after s u) (drop 3 u)
