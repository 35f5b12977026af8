-- Document 01, "Program rackrun", with document 02, Nos. 1, 2 and 7: lines and texts as they are printed. Each is an equation that is computed, but for what is
-- used of an input, which is of every input. They hold the definitions to the paper where a theorem about both definition and code could not tell a wrong reading.
use Rattle.std.specs.Prelude.{ℕ, ◌≤◌, ◌≡◌, true, false, List, [], ◌∷◌, ◌++◌, map, length, replicate, Ok, Err}
use Prim.Native.Char.{code}
use Prim.Native.String.{String, [] as nothing, ◌∷◌ as ◌then◌}
use Rattle.spec_wire.specs.declared.Refusal.TheVariants.{NoToken, ShortBuffer}
use Rattle.spec_wire.specs.declared.Step.TheVariants.{Send, Deliver}
use Rattle.spec_wire.specs.StepRecord.{step_bytes}
use Rattle.spec_wire.specs.Readings.{listing}
use Rattle.spec_rack.specs.declared.Answer.TheVariants.{Done, Word, Served}
use Rattle.spec_rackrun.specs.Rackrun.{used_input, line}
use Rattle.spec_rackrun.specs.RuledText.{ruled_text}

-- byte strings one after the other
abbrev pub joined : List (List ℕ) → List ℕ
joined [] = []
joined (b ∷ bs) = b ++ joined bs

-- the bytes of a text: of each character its number, which in ASCII is its byte
abbrev pub ascii : String → List ℕ
ascii nothing = []
ascii (c then s) = code c ∷ ascii s

-- lines of text, each with its newline
abbrev pub output : List String → List ℕ
output [] = []
output (l ∷ ls) = ascii l ++ 10 ∷ output ls

-- the step record of a load at component 0, block 0, word 0
abbrev pub home_load_bytes : List ℕ
home_load_bytes = 0x10 ∷ 0x00 ∷ 0x0C ∷ 0x01 ∷ 0x00 ∷ 0x01 ∷ 0x00 ∷ 0x02 ∷ 0x00 ∷ 0x01 ∷ 0x00 ∷ 0x03 ∷ 0x00 ∷ 0x01 ∷ 0x00 ∷ []

-- the step record of a send of board 2's two plain tokens and the owner of block 0 to home, without data
abbrev pub bare_send_bytes : List ℕ
bare_send_bytes =
    0x12 ∷ 0x00 ∷ 0x18 ∷ 0x01 ∷ 0x00 ∷ 0x01 ∷ 0x02 ∷ 0x02 ∷ 0x00 ∷ 0x01 ∷ 0x00 ∷ 0x05 ∷ 0x00 ∷ 0x01 ∷ 0x00 ∷ 0x06 ∷ 0x00 ∷ 0x01 ∷ 0x02 ∷ 0x07 ∷ 0x00 ∷ 0x01 ∷ 0x01
    ∷ 0x08 ∷ 0x00 ∷ 0x01 ∷ 0x00 ∷ []

pub record Printed : Type 0 where
  -- the characters of a line, in ASCII
  pub characters : ascii "09afdkorv. \n" ≡ 48 ∷ 57 ∷ 97 ∷ 102 ∷ 100 ∷ 107 ∷ 111 ∷ 114 ∷ 118 ∷ 46 ∷ 32 ∷ 10 ∷ []
  -- the index, a space, what is said, a newline
  pub ok : line 0 (Ok Done) ≡ ascii "0 ok\n"
  pub word : line 4 (Ok (Word 42)) ≡ ascii "4 v0000002a\n"
  pub all_digits : line 10 (Ok (Word 0x89ABCDEF)) ≡ ascii "10 v89abcdef\n"
  pub refusal : line 5 (Err NoToken) ≡ ascii "5 r5\n"
  pub longest : line 21845 (Err ShortBuffer) ≡ ascii "21845 r20\n"
  -- whom a deliver served, and the largest numbers of a byte: both decimal, with no zero in front
  pub served : line 3 (Ok (Served 3 10)) ≡ ascii "3 d3.10\n"
  pub served_largest : line 21845 (Ok (Served 255 255)) ≡ ascii "21845 d255.255\n"
  -- "It uses the first 65,536 bytes": of any input as long or longer those, and of a shorter one all
  pub used : (front rest : List ℕ) → length front ≡ 65536 → used_input (front ++ rest) ≡ front
  pub used_all : (input : List ℕ) → length input ≤ 65536 → used_input input ≡ input
  -- under three bytes; three and no good sizes, and nothing of the records behind
  pub under_three : map ruled_text ([] ∷ (2 ∷ []) ∷ (2 ∷ 1 ∷ []) ∷ []) ≡ replicate 3 (output ("0 r1" ∷ []))
  pub bad_sizes : ruled_text (2 ∷ 1 ∷ 1 ∷ 0x13 ∷ 0 ∷ 4 ∷ 9 ∷ 0 ∷ 1 ∷ 0 ∷ []) ≡ output ("0 r19" ∷ [])
  -- the paper's input, and its output, whole; line 2 is as document 02, No. 1, has it
  pub example : ruled_text (0x02 ∷ 0x01 ∷ 0x03 ∷ joined listing) ≡ output ("0 ok" ∷ "1 ok" ∷ "2 d1.0" ∷ "3 ok" ∷ "4 v0000002a" ∷ "5 r5" ∷ [])
  -- two plain tokens from home, of block 31 to board 15 and of block 10 with data to board 3; the younger is delivered first
  pub whom :
      ruled_text
      (0x0F ∷ 0x20 ∷ 0x0F ∷ joined (map step_bytes (Send 0 31 15 1 false false ∷ Send 0 10 3 1 false true ∷ Deliver 1 ∷ Deliver 0 ∷ Deliver 0 ∷ [])))
      ≡ output ("0 ok" ∷ "1 ok" ∷ "2 ok" ∷ "3 d3.10" ∷ "4 d15.31" ∷ "5 r14" ∷ [])
  -- a load at home, byte for byte, all tokens sent to board 1, and the load again (document 02, No. 7)
  pub home_loads :
      ruled_text (0x02 ∷ 0x01 ∷ 0x03 ∷ joined (home_load_bytes ∷ step_bytes (Send 0 0 1 2 true true) ∷ home_load_bytes ∷ []))
      ≡ output ("0 ok" ∷ "1 v00000000" ∷ "2 ok" ∷ "3 r5" ∷ [])
  -- home's tokens go to board 2 and come back bare, byte for byte, and home reads (document 02, No. 2)
  pub bare_home :
      ruled_text
      (0x02 ∷ 0x01 ∷ 0x03 ∷ joined (step_bytes (Send 0 0 2 2 true true) ∷ step_bytes (Deliver 0) ∷ bare_send_bytes ∷ step_bytes (Deliver 0) ∷ home_load_bytes ∷ []))
      ≡ output ("0 ok" ∷ "1 ok" ∷ "2 d2.0" ∷ "3 ok" ∷ "4 d0.0" ∷ "5 v00000000" ∷ [])
  -- a torn record costs only itself; two bytes left over are one torn step
  pub torn_ones :
      ruled_text (0x02 ∷ 0x01 ∷ 0x03 ∷ 0xFF ∷ 0x00 ∷ 0x01 ∷ 0x13 ∷ 0x13 ∷ 0x00 ∷ 0x04 ∷ 0x09 ∷ 0x00 ∷ 0x01 ∷ 0x00 ∷ 0x13 ∷ 0x00 ∷ [])
      ≡ output ("0 ok" ∷ "1 r1" ∷ "2 r14" ∷ "3 r1" ∷ [])
