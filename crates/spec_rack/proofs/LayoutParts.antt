-- The parts of the record obey the laws of layouts: each is made by the algebra, so its laws are those of its parts.
use Prim.Native.Nat.{ℕ, suc, ◌^◌, ◌≤◌, ◌<◌, suc-le-suc}
use native.Mathlib.Nat.{le_refl}
use native.Mathlib.Omega.{arith}
use mathlib.Core.Path.{◌≡◌, refl, sym, ap, ◌∙◌}
use mathlib.Core.Bool.{Bool, true, false, ◌&&◌}
use mathlib.Core.List.{List, [], ◌∷◌, map}
use lib.Dec.{eqb}
use lib.ListN.{length, get_or, take, drop, length-map}
use lib.Seq.{take-take}
use Rattle.spec_base.specs.Folds.{implies, All, zip}
use Rattle.spec_base.specs.Layout.{Layout, byte, flag, big, pair, items, room, zeroed, constant, padded, lane, zipped}
use Rattle.spec_base.proofs.Laws.{Lawful, byte_lawful, flag_lawful, big_lawful, pair_lawful, iso_lawful, where_lawful, items_lawful, Items}
use Rattle.spec_base.proofs.Copies.{Full, full_byte, full_flag, full_big, full_pair, full_iso, full_where, full_items}
use Rattle.spec_base.proofs.Padded.{Nothing, room_lawful, zeroed_lawful, full_zeroed, constant_lawful, padded_lawful, padded_place, full_padded, formed_room}
use Rattle.spec_base.proofs.Forms.{formed_pair}
use Rattle.spec_base.proofs.Places.{Place, within, first}
use Rattle.spec_base.proofs.Lanes.{lane_lawful, zipped_lawful, each_lawful, zip_length, all_zip, all_mapped, place_iso}
use Rattle.spec_arbiter.specs.Claims.{Claims}
use Rattle.spec_rack.specs.RecordLayout.{barring_sets, to_claims, from_claims, claims, Tokens, dirty, owner_of, TokenBytes, to_tokens, from_tokens, dirty_has_owner, token_bytes, byte_lanes, tokens, words, Endpoints, endpoints, message_header, to_message, from_message, message, token_lanes, to_cell, cell_tokens, to_block, from_block, block, header_bytes, formatted, header, format_offset, format_magic, format_in, block_size, claims_offset, claims_room, claims_size, lanes_size, message_size, header_size, lane_size}
use Rattle.spec_rack.specs.declared.Owner.{Owner}
use Rattle.spec_rack.specs.declared.Owner.TheVariants.{Away, Dirty, Clean}
use Rattle.spec_rack.specs.declared.Message.{Message}
use Rattle.spec_rack.specs.Rack.{present, Cell, Block}

-- the tokens of a component that has nothing of a block
abbrev pub no_tokens : Tokens
no_tokens = (0, (Away, false))

-- ---- what each part can hold

abbrev pub TokensFit : Tokens → Type 0
TokensFit v = (v.0 < 256) × (Unit {0} × Unit {0})

abbrev pub TokenBytesFit : TokenBytes → Type 0
TokenBytesFit v = (v.0 < 256) × (Unit {0} × (Unit {0} × Unit {0}))

abbrev pub WordsFit : List ℕ → Type 0
WordsFit ws = Items (λ (w : ℕ). w < 2 ^ 32) 8 ws

abbrev pub CellFits : Cell → Type 0
CellFits x = TokensFit (cell_tokens x) × WordsFit x.words

abbrev pub EndsFit : Endpoints → Type 0
EndsFit v = (v.0 < 256) × ((v.1.0 < 256) × (v.1.1 < 256))

abbrev pub MessageFits : Message → Type 0
MessageFits m = (EndsFit (m.header.sender, (m.header.target, m.header.block)) × TokensFit (m.header.plain, (m.header.owner, m.header.«data»))) × WordsFit m.words

abbrev pub ClaimsFit : ℕ → Claims → Type 0
ClaimsFit n k = Items (λ (v : ℕ). v < 256 ^ 2) (suc n) k

abbrev pub BlockFits : ℕ → Block → Type 0
BlockFits n k = Items CellFits (suc n) k.cells × ClaimsFit n k.claims

abbrev pub HeaderFits : ℕ × (ℕ × (ℕ × ℕ)) → Type 0
HeaderFits v = (v.0 < 256) × ((v.1.0 < 256) × ((v.1.1.0 < 256) × (v.1.1.1 < 256)))

-- ---- sizes

pub words_size_lem : words.size ≡ 32
unfolding words
words_size_lem = refl

pub heading_size : message_header.size ≡ 8
unfolding message_header
heading_size = refl

pub message_size_lem : message.size ≡ message_size
unfolding message message_header words
message_size_lem = refl

pub lanes_size_lem : (n : ℕ) → (token_lanes n).size ≡ lanes_size
unfolding token_lanes byte_lanes
lanes_size_lem n = refl

pub claims_size_lem : (n : ℕ) → (claims n).size ≡ claims_size
unfolding claims barring_sets
claims_size_lem n = refl

pub block_size_lem : (n : ℕ) → (block n).size ≡ block_size
unfolding block words
block_size_lem n = refl

pub header_size_lem : header.size ≡ header_size
unfolding header
header_size_lem = refl

-- ---- laws

-- an owner as two flags, and two flags that are an owner's

flags_form : (o : Owner) → implies (dirty o) (present o) ≡ true
flags_form Away = refl
flags_form Dirty = refl
flags_form Clean = refl

owner_back : (o : Owner) → owner_of (present o) (dirty o) ≡ o
owner_back Away = refl
owner_back Dirty = refl
owner_back Clean = refl

flags_back : (here mark : Bool) → implies mark here ≡ true → (present (owner_of here mark) ≡ here) × (dirty (owner_of here mark) ≡ mark)
flags_back true true h = (refl, refl)
flags_back true false h = (refl, refl)
flags_back false true h = (refl, h)
flags_back false false h = (refl, refl)

pub token_bytes_back : (v : TokenBytes) → dirty_has_owner v ≡ true → from_tokens (to_tokens v) ≡ v
token_bytes_back v h = let e = flags_back v.1.0 v.1.1.1 (search flags_form) in λ i. (v.0, (e.0 i, (v.1.1.0, e.1 i)))

pub tokens_back : (v : Tokens) → to_tokens (from_tokens v) ≡ v
tokens_back v i = (v.0, (owner_back v.1.0 i, v.1.1))

token_bytes_lawful : Lawful token_bytes TokenBytesFit
token_bytes_lawful = pair_lawful _ _ byte_lawful (pair_lawful _ _ flag_lawful (pair_lawful _ _ flag_lawful flag_lawful))

pub tokens_lawful : Lawful tokens TokensFit
tokens_lawful =
    where_lawful token_bytes dirty_has_owner to_tokens from_tokens token_bytes_lawful
    (λ a o. (o.0, (tt, tt))) (λ b o. (o.0, (tt, (tt, tt)))) (λ b. flags_form b.1.0) token_bytes_back tokens_back

pub words_lawful : Lawful words WordsFit
unfolding words
words_lawful = items_lawful (big 4) (big_lawful 4) 8 8 (le_refl 8)

pub ends_lawful : Lawful endpoints EndsFit
ends_lawful = pair_lawful _ _ byte_lawful (pair_lawful _ _ byte_lawful byte_lawful)

pub heading_lawful : Lawful message_header (λ v. EndsFit v.0 × TokensFit v.1)
unfolding message_header
heading_lawful = padded_lawful zeroed (λ k. refl) zeroed_lawful 8 (pair endpoints tokens) (pair_lawful endpoints tokens ends_lawful tokens_lawful) (omega arith)

pub message_lawful : Lawful message MessageFits
unfolding message
message_lawful =
    iso_lawful (pair message_header words) to_message from_message (pair_lawful message_header words heading_lawful words_lawful) (λ a o. o) (λ b o. o) (λ a o. refl) (λ b o. refl)

-- a header that begins with a value: its laws, where the value stands, and its form, which is the value's and the format
module _ {A : Type 0} {P : A → Type 0} (L : Layout A) (λL : Lawful L P) (fits : L.size ≤ format_offset) where
  pub front_lawful : Lawful (padded room format_offset L) P
  front_lawful = padded_lawful room (λ k. refl) room_lawful format_offset L λL fits

  format_lawful : Lawful (constant 4 format_magic) Nothing
  format_lawful = constant_lawful 4 format_magic (omega arith)

  pub formatted_lawful : Lawful (formatted L) P
  formatted_lawful =
      iso_lawful (pair (padded room format_offset L) (constant 4 format_magic)) (λ v. v.0) (λ v. (v, tt)) (pair_lawful _ _ front_lawful format_lawful)
      (λ a o. o.0) (λ b o. (o, tt)) (λ a o. refl) (λ b o. refl)

  pub formatted_place : Place (formatted L) L 0 (λ a. a) (λ v a. v)
  formatted_place =
      place_iso (within (first (padded room format_offset L) (constant 4 format_magic) front_lawful format_lawful) (padded_place room (λ k. refl) room_lawful format_offset L λL fits))
      (λ v. v.0) (λ v. (v, tt)) (λ a. a) (λ v a. v) (λ s. refl) (λ v s. refl)

  pub formatted_read : (s : List ℕ) → (formatted L).read (take header_size s) ≡ L.read (take L.size s)
  formatted_read s = ap L.read (take-take L.size format_offset (take header_size s) fits ∙ take-take L.size header_size s (omega (arith, fits)))

  pub formatted_form : (s : List ℕ) → (formatted L).well_formed (take header_size s) ≡ (L.well_formed (take L.size s) && eqb (format_in s) format_magic)
  formatted_form s =
      formed_pair (padded room format_offset L) (constant 4 format_magic) 0 s
      ∙ ap (λ (w : Bool). w && eqb (format_in s) format_magic) (formed_room format_offset L fits 0 s)

pub header_bytes_lawful : Lawful header_bytes HeaderFits
header_bytes_lawful = pair_lawful _ _ byte_lawful (pair_lawful _ _ byte_lawful (pair_lawful _ _ byte_lawful byte_lawful))

-- the form of the header is the format
pub header_form : (s : List ℕ) → header.well_formed (take header_size s) ≡ eqb (format_in s) format_magic
unfolding header
header_form s = formatted_form header_bytes header_bytes_lawful (omega arith) s

pub header_lawful : Lawful header HeaderFits
unfolding header
header_lawful = formatted_lawful header_bytes header_bytes_lawful (omega arith)

-- ---- cells from their tokens and their words

-- what the cells of tokens and words have
pub cells_tokens : (ts : List Tokens) (ws : List (List ℕ)) → length ts ≡ length ws → map cell_tokens (map to_cell (zip ts ws)) ≡ ts
cells_tokens [] ws e = refl
cells_tokens (t ∷ ts) [] e = absurd (omega arith)
cells_tokens (t ∷ ts) (w ∷ ws) e = ap {B = List Tokens} (λ l. t ∷ l) (cells_tokens ts ws (omega arith))

pub cells_words : (ts : List Tokens) (ws : List (List ℕ)) → length ts ≡ length ws → map (λ x. x.words) (map to_cell (zip ts ws)) ≡ ws
cells_words [] [] e = refl
cells_words [] (w ∷ ws) e = absurd (omega arith)
cells_words (t ∷ ts) [] e = absurd (omega arith)
cells_words (t ∷ ts) (w ∷ ws) e = ap {B = List (List ℕ)} (λ l. w ∷ l) (cells_words ts ws (omega arith))

cells_back : (l : List Cell) → map to_cell (zip (map cell_tokens l) (map (λ x. x.words) l)) ≡ l
cells_back [] = refl
cells_back (x ∷ l) = ap {B = List Cell} (λ r. x ∷ r) (cells_back l)

all_tokens : (l : List Cell) → All CellFits l → All TokensFit (map cell_tokens l)
all_tokens [] h = tt
all_tokens (x ∷ l) h = (h.0.0, all_tokens l h.1)

all_words : (l : List Cell) → All CellFits l → All WordsFit (map (λ x. x.words) l)
all_words [] h = tt
all_words (x ∷ l) h = (h.0.1, all_words l h.1)

-- ---- the parts of a block on a rack of n boards

abbrev pub block_tokens : ℕ → Layout (List Tokens)
block_tokens n = padded room claims_offset (token_lanes n)

abbrev pub block_claims : ℕ → Layout Claims
block_claims n = padded room claims_room (claims n)

abbrev pub block_words : ℕ → Layout (List (List ℕ))
block_words n = items words lane_size (suc n)

module _ (n : ℕ) (h : n ≤ 15) where
  abbrev flag_lane : Layout (List Bool)
  flag_lane = lane flag (suc n)

  flag_lane_lem : Lawful flag_lane (Items (λ v. Unit {0}) (suc n))
  flag_lane_lem = lane_lawful flag flag_lawful (suc n) (suc-le-suc h)

  byte_lanes_lawful : Lawful (byte_lanes n) (Items TokenBytesFit (suc n))
  unfolding byte_lanes
  byte_lanes_lawful =
      zipped_lawful (lane byte (suc n)) (zipped flag_lane (zipped flag_lane flag_lane)) (suc n) (lane_lawful byte byte_lawful (suc n) (suc-le-suc h))
      (zipped_lawful flag_lane (zipped flag_lane flag_lane) (suc n) flag_lane_lem (zipped_lawful flag_lane flag_lane (suc n) flag_lane_lem flag_lane_lem))

  pub lanes_lawful : Lawful (token_lanes n) (Items TokensFit (suc n))
  unfolding token_lanes
  lanes_lawful =
      each_lawful (byte_lanes n) dirty_has_owner to_tokens from_tokens (suc n) byte_lanes_lawful
      (λ a o. (o.0, (tt, tt))) (λ b o. (o.0, (tt, (tt, tt)))) (λ b. flags_form b.1.0) token_bytes_back tokens_back

  pub block_tokens_lawful : Lawful (block_tokens n) (Items TokensFit (suc n))
  block_tokens_lawful = padded_lawful room (λ k. refl) room_lawful claims_offset (token_lanes n) lanes_lawful (rw (lanes_size_lem n) (omega arith))

  pub block_words_lawful : Lawful (block_words n) (Items WordsFit (suc n))
  block_words_lawful = items_lawful words words_lawful lane_size (suc n) (suc-le-suc h)

  pub sets_lawful : Lawful (barring_sets n) (Items (λ v. v < 256 ^ 2) n)
  unfolding barring_sets
  sets_lawful = padded_lawful zeroed (λ k. refl) zeroed_lawful 30 (items (big 2) n n) (items_lawful (big 2) (big_lawful 2) n n (le_refl n)) (omega arith)

  pub claims_lawful : Lawful (claims n) (ClaimsFit n)
  unfolding claims
  claims_lawful =
      iso_lawful (pair (zeroed 2) (pair (barring_sets n) (big 2))) to_claims from_claims
      (pair_lawful (zeroed 2) (pair (barring_sets n) (big 2)) (zeroed_lawful 2) (pair_lawful (barring_sets n) (big 2) sets_lawful (big_lawful 2)))
      (λ v o. (ap suc o.1.0.0, (o.1.1, o.1.0.1))) here (λ v o. refl) back
    where
      here : (c : Claims) → ClaimsFit n c → Unit {0} × (Items (λ v. v < 256 ^ 2) n (drop 1 c) × (get_or c 0 0 < 256 ^ 2))
      here [] o = absurd (omega (arith, o.0))
      here (w ∷ c) o = (tt, ((omega (arith, o.0), o.1.1), o.1.0))

      back : (c : Claims) → ClaimsFit n c → to_claims (from_claims c) ≡ c
      back [] o = absurd (omega (arith, o.0))
      back (w ∷ c) o = refl

  pub block_claims_lawful : Lawful (block_claims n) (ClaimsFit n)
  block_claims_lawful = padded_lawful room (λ k. refl) room_lawful claims_room (claims n) claims_lawful (rw (claims_size_lem n) (omega arith))

  pub block_lawful : Lawful (block n) (BlockFits n)
  unfolding block
  block_lawful =
      iso_lawful (pair (block_tokens n) (pair (block_claims n) (block_words n))) to_block from_block
      (pair_lawful (block_tokens n) (pair (block_claims n) (block_words n)) block_tokens_lawful (pair_lawful (block_claims n) (block_words n) block_claims_lawful block_words_lawful))
      (λ v o. (
        (
          length-map (zip v.0 v.1.1) to_cell ∙ zip_length v.0 v.1.1 (o.0.0 ∙ sym o.1.1.0) ∙ o.0.0,
          all_mapped to_cell CellFits (zip v.0 v.1.1) (all_zip TokensFit WordsFit v.0 v.1.1 o.0.1 o.1.1.1),
        ),
        o.1.0,
      ))
      (λ k o. (
        (length-map k.cells cell_tokens ∙ o.0.0, all_tokens k.cells o.0.1),
        (o.1, (length-map k.cells (λ x. x.words) ∙ o.0.0, all_words k.cells o.0.1)),
      ))
      (λ v o. λ i. (cells_tokens v.0 v.1.1 (o.0.0 ∙ sym o.1.1.0) i, (v.1.0, cells_words v.0 v.1.1 (o.0.0 ∙ sym o.1.1.0) i)))
      (λ k o. λ i. record { cells = cells_back k.cells i; claims = k.claims })

-- ---- parts that leave none of their bytes as it was

pub words_full : Full words WordsFit
unfolding words
words_full = full_items (big 4) (full_big 4) 8

heading_full : Full message_header (λ v. EndsFit v.0 × TokensFit v.1)
unfolding message_header
heading_full =
    full_padded zeroed (λ k. refl) zeroed_lawful 8 (pair endpoints tokens) (pair_lawful endpoints tokens ends_lawful tokens_lawful) (omega arith)
    (full_pair endpoints tokens (full_pair _ _ full_byte (full_pair _ _ full_byte full_byte)) tokens_full) (full_zeroed 1)
  where
    tokens_full : Full tokens TokensFit
    tokens_full =
        full_where token_bytes to_tokens from_tokens dirty_has_owner (λ b o. (o.0, (tt, (tt, tt))))
        (full_pair _ _ full_byte (full_pair _ _ full_flag (full_pair _ _ full_flag full_flag)))

pub message_full : Full message MessageFits
unfolding message
message_full = full_iso (pair message_header words) to_message from_message (λ b o. o) (full_pair message_header words heading_full words_full)
