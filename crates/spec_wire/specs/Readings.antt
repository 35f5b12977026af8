-- Document 01, "Step records", "Refusal table" and "Program rackrun": the bytes of records, each an equation that is computed, so that the paper's own
-- bytes decide and not only that reader and writer agree.
use Rattle.std.specs.Prelude.{ℕ, ◌≡◌, true, false, List, [], ◌∷◌, ◌++◌, map, replicate, Ok, Err}
use Rattle.spec_wire.specs.declared.Refusal.TheVariants.{Torn, ShortBuffer}
use Rattle.spec_wire.specs.Refusals.{number, table}
use Rattle.spec_wire.specs.Results.{done, refused}
use Rattle.spec_wire.specs.declared.Step.{Step}
use Rattle.spec_wire.specs.declared.Step.TheVariants.{Load, Store, Send, Deliver, Raise, Lower, Forward}
use Rattle.spec_wire.specs.Kinds.{field_array}
use Rattle.spec_wire.specs.StepRecord.{step_bytes}
use Rattle.spec_wire.specs.Reader.{read_record}
use Rattle.spec_wire.specs.Writer.{written, placed, written_of, placed_of}
use Rattle.spec_wire.specs.FieldArray.{step_of_array, read_result, read_after, write_result}
use Rattle.spec_wire.specs.Frames.{frames}

-- ---- the table's numbers, in its order

-- torn, unsound, off rack, home, no token, no data, short, self, claimed, empty, not held, bare owner, mesh full, no message, waiting, barred, not waiting,
-- unclaimed, size, short buffer
abbrev pub Numbers : Type 0
Numbers = map number table ≡ 1 ∷ 2 ∷ 3 ∷ 4 ∷ 5 ∷ 6 ∷ 7 ∷ 8 ∷ 9 ∷ 10 ∷ 11 ∷ 12 ∷ 13 ∷ 14 ∷ 15 ∷ 16 ∷ 17 ∷ 18 ∷ 19 ∷ 20 ∷ []

-- ---- a record of each kind

-- the five records of the paper's input to rackrun
abbrev pub listing : List (List ℕ)
listing =
    (0x12 ∷ 0x00 ∷ 0x18 ∷ 0x01 ∷ 0x00 ∷ 0x01 ∷ 0x00 ∷ 0x02 ∷ 0x00 ∷ 0x01 ∷ 0x00 ∷ 0x05 ∷ 0x00 ∷ 0x01 ∷ 0x01 ∷ 0x06 ∷ 0x00 ∷ 0x01 ∷ 0x02 ∷ 0x07 ∷ 0x00 ∷ 0x01 ∷ 0x01 ∷ 0x08 ∷ 0x00 ∷ 0x01 ∷ 0x01 ∷ [])
    ∷ (0x13 ∷ 0x00 ∷ 0x04 ∷ 0x09 ∷ 0x00 ∷ 0x01 ∷ 0x00 ∷ [])
    ∷ (0x11 ∷ 0x00 ∷ 0x13 ∷ 0x01 ∷ 0x00 ∷ 0x01 ∷ 0x01 ∷ 0x02 ∷ 0x00 ∷ 0x01 ∷ 0x00 ∷ 0x03 ∷ 0x00 ∷ 0x01 ∷ 0x00 ∷ 0x04 ∷ 0x00 ∷ 0x04 ∷ 0x00 ∷ 0x00 ∷ 0x00 ∷ 0x2A ∷ [])
    ∷ (0x10 ∷ 0x00 ∷ 0x0C ∷ 0x01 ∷ 0x00 ∷ 0x01 ∷ 0x01 ∷ 0x02 ∷ 0x00 ∷ 0x01 ∷ 0x00 ∷ 0x03 ∷ 0x00 ∷ 0x01 ∷ 0x00 ∷ [])
    ∷ (0x10 ∷ 0x00 ∷ 0x0C ∷ 0x01 ∷ 0x00 ∷ 0x01 ∷ 0x02 ∷ 0x02 ∷ 0x00 ∷ 0x01 ∷ 0x00 ∷ 0x03 ∷ 0x00 ∷ 0x01 ∷ 0x00 ∷ [])
    ∷ []

-- and their steps
abbrev pub listed : List Step
listed = Send 0 0 1 2 true true ∷ Deliver 0 ∷ Store 1 0 0 42 ∷ Load 1 0 0 ∷ Load 2 0 0 ∷ []

-- a record of each kind, in which every field has a value of its own
abbrev pub load_bytes : List ℕ
load_bytes = 0x10 ∷ 0x00 ∷ 0x0C ∷ 0x01 ∷ 0x00 ∷ 0x01 ∷ 0xA1 ∷ 0x02 ∷ 0x00 ∷ 0x01 ∷ 0xA2 ∷ 0x03 ∷ 0x00 ∷ 0x01 ∷ 0xA3 ∷ []

abbrev pub store_bytes : List ℕ
store_bytes =
    0x11 ∷ 0x00 ∷ 0x13 ∷ 0x01 ∷ 0x00 ∷ 0x01 ∷ 0xA1 ∷ 0x02 ∷ 0x00 ∷ 0x01 ∷ 0xA2 ∷ 0x03 ∷ 0x00 ∷ 0x01 ∷ 0xA3 ∷ 0x04 ∷ 0x00 ∷ 0x04 ∷ 0x01 ∷ 0x02 ∷ 0x03 ∷ 0x04 ∷ []

abbrev pub send_bytes : List ℕ
send_bytes =
    0x12 ∷ 0x00 ∷ 0x18 ∷ 0x01 ∷ 0x00 ∷ 0x01 ∷ 0xA1 ∷ 0x02 ∷ 0x00 ∷ 0x01 ∷ 0xA2 ∷ 0x05 ∷ 0x00 ∷ 0x01 ∷ 0xA5 ∷ 0x06 ∷ 0x00 ∷ 0x01 ∷ 0xA6 ∷ 0x07 ∷ 0x00 ∷ 0x01 ∷ 0x00 ∷ 0x08 ∷ 0x00 ∷ 0x01 ∷ 0x01 ∷ []

abbrev pub deliver_bytes : List ℕ
deliver_bytes = 0x13 ∷ 0x00 ∷ 0x04 ∷ 0x09 ∷ 0x00 ∷ 0x01 ∷ 0xA9 ∷ []

abbrev pub raise_bytes : List ℕ
raise_bytes = 0x14 ∷ 0x00 ∷ 0x08 ∷ 0x01 ∷ 0x00 ∷ 0x01 ∷ 0xA1 ∷ 0x02 ∷ 0x00 ∷ 0x01 ∷ 0xA2 ∷ []

abbrev pub lower_bytes : List ℕ
lower_bytes = 0x15 ∷ 0x00 ∷ 0x08 ∷ 0x01 ∷ 0x00 ∷ 0x01 ∷ 0xA1 ∷ 0x02 ∷ 0x00 ∷ 0x01 ∷ 0xA2 ∷ []

abbrev pub forward_bytes : List ℕ
forward_bytes = 0x16 ∷ 0x00 ∷ 0x08 ∷ 0x01 ∷ 0x00 ∷ 0x01 ∷ 0xA1 ∷ 0x02 ∷ 0x00 ∷ 0x01 ∷ 0xA2 ∷ []

pub record Records : Type 0 where
  -- the paper's own
  pub listing_bytes : map step_bytes listed ≡ listing
  pub listing_read : map read_record listing ≡ map Ok listed
  -- the bytes of each kind
  pub load : step_bytes (Load 0xA1 0xA2 0xA3) ≡ load_bytes
  pub store : step_bytes (Store 0xA1 0xA2 0xA3 0x0102_0304) ≡ store_bytes
  pub send : step_bytes (Send 0xA1 0xA2 0xA5 0xA6 false true) ≡ send_bytes
  pub deliver : step_bytes (Deliver 0xA9) ≡ deliver_bytes
  pub raise : step_bytes (Raise 0xA1 0xA2) ≡ raise_bytes
  pub lower : step_bytes (Lower 0xA1 0xA2) ≡ lower_bytes
  pub forward : step_bytes (Forward 0xA1 0xA2) ≡ forward_bytes
  -- read back
  pub load_read : read_record load_bytes ≡ Ok (Load 0xA1 0xA2 0xA3)
  pub store_read : read_record store_bytes ≡ Ok (Store 0xA1 0xA2 0xA3 0x0102_0304)
  pub send_read : read_record send_bytes ≡ Ok (Send 0xA1 0xA2 0xA5 0xA6 false true)
  pub deliver_read : read_record deliver_bytes ≡ Ok (Deliver 0xA9)
  pub raise_read : read_record raise_bytes ≡ Ok (Raise 0xA1 0xA2)
  pub lower_read : read_record lower_bytes ≡ Ok (Lower 0xA1 0xA2)
  pub forward_read : read_record forward_bytes ≡ Ok (Forward 0xA1 0xA2)
  -- the ends of the values: FF in one byte, FF FF FF FF in four
  pub highest : read_record (0x13 ∷ 0x00 ∷ 0x04 ∷ 0x09 ∷ 0x00 ∷ 0x01 ∷ 0xFF ∷ []) ≡ Ok (Deliver 255)
  pub highest_value :
      read_record (0x11 ∷ 0x00 ∷ 0x13 ∷ 0x01 ∷ 0x00 ∷ 0x01 ∷ 0x00 ∷ 0x02 ∷ 0x00 ∷ 0x01 ∷ 0x00 ∷ 0x03 ∷ 0x00 ∷ 0x01 ∷ 0x00 ∷ 0x04 ∷ 0x00 ∷ 0x04 ∷ 0xFF ∷ 0xFF ∷ 0xFF ∷ 0xFF ∷ [])
      ≡ Ok (Store 0 0 0 0xFFFF_FFFF)

-- ---- torn: what is no step record

-- a kind byte, the two bytes of a length, and a body
abbrev pub record_with : ℕ → ℕ → ℕ → List ℕ → List ℕ
record_with kind high low body = kind ∷ high ∷ low ∷ body

abbrev pub component : List ℕ
component = 0x01 ∷ 0x00 ∷ 0x01 ∷ 0x02 ∷ []

abbrev pub block : List ℕ
block = 0x02 ∷ 0x00 ∷ 0x01 ∷ 0x00 ∷ []

abbrev pub word : List ℕ
word = 0x03 ∷ 0x00 ∷ 0x01 ∷ 0x00 ∷ []

-- a send with its owner and data bytes
abbrev pub send_with : ℕ → ℕ → List ℕ
send_with o d =
    0x12 ∷ 0x00 ∷ 0x18 ∷ 0x01 ∷ 0x00 ∷ 0x01 ∷ 0x00 ∷ 0x02 ∷ 0x00 ∷ 0x01 ∷ 0x00 ∷ 0x05 ∷ 0x00 ∷ 0x01 ∷ 0x01 ∷ 0x06 ∷ 0x00 ∷ 0x01 ∷ 0x02 ∷ 0x07 ∷ 0x00 ∷ 0x01 ∷ o ∷ 0x08 ∷ 0x00 ∷ 0x01 ∷ d ∷ []

abbrev pub TornAll : List (List ℕ) → Type 0
TornAll bss = map read_record bss ≡ map (λ bs. Err Torn) bss

pub record TornBytes : Type 0 where
  -- beside these, a good one
  pub good : read_record (record_with 0x14 0x00 0x08 (component ++ block)) ≡ Ok (Raise 2 0)
  -- no bytes, one, two; three of a kind with fields
  pub few : TornAll ([] ∷ (0x14 ∷ []) ∷ (0x14 ∷ 0x00 ∷ []) ∷ (0x14 ∷ 0x00 ∷ 0x00 ∷ []) ∷ [])
  -- a kind byte that is none: below, above, 0, FF
  pub kinds :
      TornAll (map (λ k. record_with k 0x00 0x08 (component ++ block)) (0x0F ∷ 0x17 ∷ 0x18 ∷ 0x00 ∷ 0xFF ∷ []))
  -- and with no body
  pub bare_kinds : TornAll (map (λ k. record_with k 0x00 0x00 []) (0x00 ∷ 0x0F ∷ 0x13 ∷ 0x17 ∷ []))
  -- another kind's fields
  pub other_kind : TornAll (map (λ k. record_with k 0x00 0x08 (component ++ block)) (0x10 ∷ 0x11 ∷ 0x12 ∷ 0x13 ∷ []))
  -- the fields in another order
  pub order : TornAll (record_with 0x14 0x00 0x08 (block ++ component) ∷ [])
  -- a field twice, instead of another and besides
  pub twice : TornAll (record_with 0x14 0x00 0x08 (component ++ component) ∷ record_with 0x14 0x00 0x0C (component ++ block ++ block) ∷ [])
  -- a field missing, the first and the last
  pub missing : TornAll (record_with 0x14 0x00 0x04 block ∷ record_with 0x14 0x00 0x04 component ∷ [])
  -- a field that the kind has not
  pub foreign : TornAll (record_with 0x14 0x00 0x0C (component ++ block ++ word) ∷ record_with 0x14 0x00 0x08 (component ++ word) ∷ [])
  -- a byte behind the record, and one behind the fields that the length covers
  pub extra : TornAll (record_with 0x14 0x00 0x08 (component ++ block ++ 0x00 ∷ []) ∷ record_with 0x14 0x00 0x09 (component ++ block ++ 0x00 ∷ []) ∷ [])
  -- the last byte is missing, with its length and without
  pub cut : TornAll (record_with 0x14 0x00 0x08 (component ++ 0x02 ∷ 0x00 ∷ 0x01 ∷ []) ∷ record_with 0x14 0x00 0x07 (component ++ 0x02 ∷ 0x00 ∷ 0x01 ∷ []) ∷ [])
  -- a wrong length: one less, one more, low byte first
  pub lengths : TornAll (map (λ n. record_with 0x14 0x00 n (component ++ block)) (0x07 ∷ 0x09 ∷ []))
  pub length_low_first : TornAll (record_with 0x14 0x08 0x00 (component ++ block) ∷ [])
  -- a field's length is wrong: 0, 2 with two bytes, low byte first
  pub field_lengths :
      TornAll
      (record_with 0x14 0x00 0x07 (component ++ 0x02 ∷ 0x00 ∷ 0x00 ∷ []) ∷ record_with 0x14 0x00 0x09 (component ++ 0x02 ∷ 0x00 ∷ 0x02 ∷ 0x00 ∷ 0x00 ∷ []) ∷ record_with 0x14 0x00 0x08 (component ++ 0x02 ∷ 0x01 ∷ 0x00 ∷ 0x00 ∷ []) ∷ [])
  -- owner and data are 00 or 01
  pub marks :
      map read_record (send_with 0x00 0x00 ∷ send_with 0x01 0x00 ∷ send_with 0x00 0x01 ∷ [])
      ≡ map Ok (Send 0 0 1 2 false false ∷ Send 0 0 1 2 true false ∷ Send 0 0 1 2 false true ∷ [])
  pub bad_marks : TornAll (send_with 0x02 0x00 ∷ send_with 0x00 0x02 ∷ send_with 0xFF 0x01 ∷ send_with 0x01 0xFF ∷ [])

-- ---- the writer, and the entries for C

-- a lent buffer of twelve bytes
abbrev pub around : List ℕ
around = replicate 12 0xEE

pub record Placed : Type 0 where
  -- the record of a delivery, seven bytes, from offset 3 on; the count of bytes placed, bytes around it untouched
  pub count : written (step_bytes (Deliver 5)) 3 around ≡ Ok 7
  pub placing : placed (step_bytes (Deliver 5)) 3 around ≡ 0xEE ∷ 0xEE ∷ 0xEE ∷ 0x13 ∷ 0x00 ∷ 0x04 ∷ 0x09 ∷ 0x00 ∷ 0x01 ∷ 0x05 ∷ 0xEE ∷ 0xEE ∷ []
  -- up to the buffer's end it is placed, one further it is 20 and nothing is placed
  pub last : written (step_bytes (Deliver 5)) 5 around ≡ Ok 7
  pub past : written (step_bytes (Deliver 5)) 6 around ≡ Err ShortBuffer
  pub past_leaves : placed (step_bytes (Deliver 5)) 6 around ≡ around
  -- the numbers of a step from C: 1 before 20; too few numbers, a number that does not fit, a place that the kind has not
  pub numbers : field_array (Send 1 2 5 6 false true) ≡ 0x12 ∷ 1 ∷ 2 ∷ 0 ∷ 0 ∷ 5 ∷ 6 ∷ 0 ∷ 1 ∷ 0 ∷ 0 ∷ 0 ∷ []
  pub write_1 :
      map (λ ns. written_of (step_of_array ns) 0 []) ([] ∷ replicate 11 0 ∷ replicate 12 0 ∷ (0x13 ∷ replicate 8 0 ++ 256 ∷ 0 ∷ 0 ∷ []) ∷ (0x13 ∷ 1 ∷ replicate 10 0) ∷ [])
      ≡ replicate 5 (Err Torn)
  pub write_20 : written_of (step_of_array (0x13 ∷ replicate 11 0)) 0 [] ≡ Err ShortBuffer
  pub write_leaves : placed_of (step_of_array []) 0 around ≡ around
  -- reading for C: 1 before 20, where the place for the twelve numbers is too short; a step needs twelve
  pub read_1 : read_result (read_record []) [] ≡ refused Torn
  pub read_20 : read_result (read_record deliver_bytes) (replicate 11 0) ≡ refused ShortBuffer
  pub read_20_leaves : read_after (read_record deliver_bytes) (replicate 11 7) ≡ replicate 11 7
  pub read_done : read_result (read_record deliver_bytes) (replicate 12 7) ≡ done 0
  pub read_numbers : read_after (read_record deliver_bytes) (replicate 13 7) ≡ 0x13 ∷ 0 ∷ 0 ∷ 0 ∷ 0 ∷ 0 ∷ 0 ∷ 0 ∷ 0 ∷ 0xA9 ∷ 0 ∷ 0 ∷ 7 ∷ []
  -- answers as numbers
  pub refused_number : refused ShortBuffer ≡ 0x0100_0000_0000_0014
  pub written_number : write_result (Ok 27) ≡ 27

-- ---- rackrun: "records, cut by their lengths; an incomplete last one is one torn step"
pub record Cuts : Type 0 where
  pub none : frames 65536 [] ≡ []
  -- several, one after the other
  pub several :
      frames 65536 (deliver_bytes ++ load_bytes ++ raise_bytes) ≡ deliver_bytes ∷ load_bytes ∷ raise_bytes ∷ []
  -- by the length alone, whatever the kind byte; one of length 0; the length reaches past the end
  pub by_length :
      frames 65536 (0x13 ∷ 0x00 ∷ 0x01 ∷ 0x09 ∷ 0xFF ∷ 0x00 ∷ 0x00 ∷ 0x10 ∷ 0x00 ∷ 0x02 ∷ 0x01 ∷ [])
      ≡ (0x13 ∷ 0x00 ∷ 0x01 ∷ 0x09 ∷ []) ∷ (0xFF ∷ 0x00 ∷ 0x00 ∷ []) ∷ (0x10 ∷ 0x00 ∷ 0x02 ∷ 0x01 ∷ []) ∷ []
  -- the length has its high byte first
  pub high_byte : frames 65536 (0x13 ∷ 0x01 ∷ 0x00 ∷ replicate 256 0x14) ≡ (0x13 ∷ 0x01 ∷ 0x00 ∷ replicate 256 0x14) ∷ []
  -- two bytes left over, and one
  pub two_left : frames 65536 (0x13 ∷ 0x00 ∷ 0x00 ∷ 0x13 ∷ 0x00 ∷ []) ≡ (0x13 ∷ 0x00 ∷ 0x00 ∷ []) ∷ (0x13 ∷ 0x00 ∷ []) ∷ []
  pub one_left : frames 65536 (0x13 ∷ 0x00 ∷ 0x00 ∷ 0x13 ∷ []) ≡ (0x13 ∷ 0x00 ∷ 0x00 ∷ []) ∷ (0x13 ∷ []) ∷ []
