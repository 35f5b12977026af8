-- The record's laws: what is written is read back, to write what is read changes nothing, a second write covers a first,
-- and each figure of the rack has a place of its own. All follow from the laws of the parts.
use Prim.Native.Nat.{ℕ, suc, ◌+◌, ◌*◌, ◌≤◌, ◌<◌, suc-le-suc}
use native.Mathlib.Nat.{le_refl, zero-add, le_trans, le_of_eq, mul-le-mul_right}
use native.Mathlib.Omega.{arith}
use mathlib.Core.Path.{◌≡◌, refl, sym, ap, ◌∙◌, subst}
use mathlib.Core.Bool.{Bool, true, false}
use mathlib.Core.List.{List, [], ◌∷◌, ◌++◌, map}
use lib.Dec.{eqb, leb}
use lib.ListN.{length, get_or, set, take, drop, length-set, length-map, get_or-map}
use lib.Seq.{length-take-le, take-take, get_or-take, get_or-drop, set-get_or}
use borrow.Author.Tests.{leb-true, le-leb}
use Rattle.spec_base.specs.Folds.{toℕ, All, zip}
use Rattle.spec_base.proofs.Tests.{and_l, and_r, and_of}
use Rattle.spec_base.specs.Number.{Bytes}
use Rattle.spec_base.specs.Layout.{Layout, slice, modify_at, byte, flag, pair, items, read_items, write_items, room, lane, zipped}
use Rattle.spec_base.proofs.Parts.{bytes_take, length_part, part_part, over_over}
use Rattle.spec_base.proofs.Laws.{Stands, StandItems, stand_items, Lawful, byte_lawful, pair_lawful, pair_again, items_again, items_unchanged, items_lawful, Items, length_read_items, cut_rest}
use Rattle.spec_base.proofs.Places.{Place, within, first, second, item, write_byte}
use Rattle.spec_base.proofs.Padded.{room_lawful, padded_place}
use Rattle.spec_base.proofs.Lanes.{zip_length, zip_at, map_set, length_lane, Spread, place_iso, spread_place, spread_within, spread_as, spread_iso, spread_pair, over_both, spread_zipped, spread_byte, spread_flag, spread_each, first_set, over_one, over_two, over_three, over_four}
use Rattle.spec_arbiter.specs.Claims.{Claims}
use Rattle.spec_rack.specs.RecordLayout.{claims, header_size, block_size, block_offset, dirty_offset, words_offset, words_size, Tokens, TokenBytes, to_tokens, from_tokens, dirty_has_owner, byte_lanes, lanes_at, set_token_bytes, set_lanes, words, message, token_lanes, to_cell, cell_tokens, to_block, from_block, block, header_bytes, header, RackFields, rack_layout, record_length, to_rack, from_rack, layout_of, get, put, blocks_in, boards_in, claims_offset, claims_room, messages_in, tokens_in, mesh_room, lane_size}
use Rattle.spec_rack.specs.declared.Message.{Message}
use Rattle.spec_rack.specs.Rack.{Cell, Block, Rack, zeros, no_cell, no_block, block_at}
use Rattle.spec_rack.specs.Rules.{changed}
use Rattle.spec_rack.specs.Soundness.{well_formed_record}
use Rattle.spec_rack.proofs.LayoutParts.{no_tokens, WordsFit, ClaimsFit, MessageFits, BlockFits, HeaderFits, words_size_lem, lanes_size_lem, token_bytes_back, claims_size_lem, message_size_lem, block_size_lem, header_size_lem, words_lawful, message_lawful, formatted_read, formatted_place, lanes_lawful, claims_lawful, block_tokens, block_claims, block_words, block_tokens_lawful, block_claims_lawful, block_words_lawful, block_lawful, header_bytes_lawful, header_lawful, cells_tokens, cells_words}

-- ---- N, B, T and the count of messages

four_read : (s : List ℕ) → header_bytes.read (take 4 s) ≡ (boards_in s, (blocks_in s, (tokens_in s, messages_in s)))
four_read [] = refl
four_read (n ∷ []) = refl
four_read (n ∷ b ∷ []) = refl
four_read (n ∷ b ∷ t ∷ []) = refl
four_read (n ∷ b ∷ t ∷ m ∷ s) = refl

pub header_read : (s : List ℕ) → header.read (take header.size s) ≡ (boards_in s, (blocks_in s, (tokens_in s, messages_in s)))
unfolding header
header_read s = formatted_read header_bytes header_bytes_lawful (omega arith) s ∙ four_read s

-- the count has a place of its own
pub count_write : (s : List ℕ) (m : ℕ) → header_size ≤ length s → Stands header (take header.size s)
    → header.write (boards_in s, (blocks_in s, (tokens_in s, m))) (take header.size s) ≡ set (take header.size s) 3 m
unfolding header
count_write s m l h =
    let lt : length (take header_size s) ≡ header_size = length-take-le header_size s l in
    let three-law = pair_lawful byte (pair byte byte) byte_lawful (pair_lawful byte byte byte_lawful byte_lawful) in
    let place =
    within (formatted_place header_bytes header_bytes_lawful (omega arith))
    (within (second byte (pair byte (pair byte byte)) byte_lawful three-law)
    (within (second byte (pair byte byte) byte_lawful (pair_lawful byte byte byte_lawful byte_lawful)) (second byte byte byte_lawful byte_lawful))) in
    ap (λ (v : ℕ × (ℕ × (ℕ × ℕ))). header.write (v.0, (v.1.0, (v.1.1.0, m))) (take header_size s)) (sym (header_read s))
    ∙ place.changes m (take header_size s) h
    ∙ sym (write_byte 3 m (take header_size s) (omega arith))

-- ---- the whole

abbrev pub FiguresFit : ℕ → ℕ → ℕ → RackFields → Type 0
FiguresFit n b m v =
    HeaderFits v.0 × (Items MessageFits m v.1.0 × Items (BlockFits n) b v.1.1)

module _ (n b m : ℕ) where
  pub figures_size : (rack_layout n b m).size ≡ record_length b
  unfolding rack_layout
  figures_size =
      (λ i. header_size_lem i + (64 * message_size_lem i + b * block_size_lem n i)) ∙ omega arith

  module _ (hn : n ≤ 15) (hm : m ≤ 64) where
    mesh_law : Lawful (items message mesh_room m) (Items MessageFits m)
    mesh_law = items_lawful message message_lawful 64 m hm

    blocks_law : Lawful (items (block n) b b) (Items (BlockFits n) b)
    blocks_law = items_lawful (block n) (block_lawful n hn) b b (le_refl b)

    body_law : Lawful (pair (items message mesh_room m) (items (block n) b b)) (λ v. Items MessageFits m v.0 × Items (BlockFits n) b v.1)
    body_law = pair_lawful _ _ mesh_law blocks_law

    pub figures_lawful : Lawful (rack_layout n b m) (FiguresFit n b m)
    unfolding rack_layout
    figures_lawful = pair_lawful header (pair (items message mesh_room m) (items (block n) b b)) header_lawful body_law

    pub mesh_place : Place (rack_layout n b m) (items message mesh_room m) header_size (λ v. v.1.0) (λ x v. (v.0, (x, v.1.1)))
    unfolding rack_layout
    mesh_place =
        subst (λ (p : ℕ). Place (rack_layout n b m) (items message mesh_room m) (p + 0) (λ v. v.1.0) (λ x v. (v.0, (x, v.1.1)))) header_size_lem
        (within (second header (pair (items message mesh_room m) (items (block n) b b)) header_lawful body_law) (first _ _ mesh_law blocks_law))

    blocks_place : Place (rack_layout n b m) (items (block n) b b) (header.size + mesh_room * message.size) (λ v. v.1.1) (λ x v. (v.0, (v.1.0, x)))
    unfolding rack_layout
    blocks_place = within (second header (pair (items message mesh_room m) (items (block n) b b)) header_lawful body_law) (second _ _ mesh_law blocks_law)

    pub block_place : (i : ℕ) → i < b
        → Place (rack_layout n b m) (block n) (block_offset i) (λ v. get_or v.1.1 i no_block) (λ k v. (v.0, (v.1.0, set v.1.1 i k)))
    block_place i h =
        subst (λ (p : ℕ). Place (rack_layout n b m) (block n) p (λ v. get_or v.1.1 i no_block) (λ k v. (v.0, (v.1.0, set v.1.1 i k))))
        ((λ j. header_size_lem j + 64 * message_size_lem j + i * block_size_lem n j) ∙ omega arith)
        (within blocks_place (item (block n) (block_lawful n hn) no_block b b i (le_refl b) h))

-- ---- the places in a block: its claims, the tokens of a component, its words

module _ (n : ℕ) where
  abbrev flags : Layout (List Bool)
  flags = lane flag (suc n)

  two_long : (t : List ℕ) → length ((zipped flags flags).read t) ≡ suc n
  two_long t =
      zip_length (flags.read (take lane_size t)) (flags.read (slice lane_size lane_size t))
      (length_lane flag (suc n) (take lane_size t) ∙ sym (length_lane flag (suc n) (slice lane_size lane_size t)))
      ∙ length_lane flag (suc n) (take lane_size t)

  three_long : (t : List ℕ) → length ((zipped flags (zipped flags flags)).read t) ≡ suc n
  three_long t =
      zip_length (flags.read (take lane_size t)) ((zipped flags flags).read (slice lane_size (2 * lane_size) t))
      (length_lane flag (suc n) (take lane_size t) ∙ sym (two_long (slice lane_size (2 * lane_size) t)))
      ∙ length_lane flag (suc n) (take lane_size t)

  pub bytes_length : (s : List ℕ) → length ((byte_lanes n).read s) ≡ suc n
  unfolding byte_lanes
  bytes_length s =
      zip_length ((lane byte (suc n)).read (take lane_size s)) ((zipped flags (zipped flags flags)).read (slice lane_size (3 * lane_size) s))
      (length_lane byte (suc n) (take lane_size s) ∙ sym (three_long (slice lane_size (3 * lane_size) s)))
      ∙ length_lane byte (suc n) (take lane_size s)

  pub lanes_length : (s : List ℕ) → length ((token_lanes n).read s) ≡ suc n
  unfolding token_lanes
  lanes_length s = length-map ((byte_lanes n).read s) to_tokens ∙ bytes_length s

  -- the bytes of component c, one in each lane
  module _ (h : n ≤ 15) (c : ℕ) (hc : c ≤ n) where
    known : c < lane_size
    known = omega arith

    lane_byte : Spread (lane byte (suc n)) (λ xs. get_or xs c 0) (λ v xs. set xs c v) (λ s. get_or s c 0) (λ v s. set s c v)
    lane_byte = spread_byte (suc n) (suc-le-suc h) c (suc-le-suc hc)

    lane_flag : Spread flags (λ xs. get_or xs c false) (λ v xs. set xs c v) (λ s. eqb (get_or s c 0) 1) (λ v s. set s c (toℕ v))
    lane_flag = spread_flag (suc n) (suc-le-suc h) c (suc-le-suc hc)

    -- a byte behind the first lane
    behind : (m : ℕ) (s : List ℕ) (i j : ℕ) → i < m → lane_size + i ≡ j → get_or (slice lane_size m s) i 0 ≡ get_or s j 0
    behind m s i j l e = get_or-take m (drop lane_size s) i 0 l ∙ get_or-drop lane_size s i 0 ∙ ap (λ (k : ℕ). get_or s k 0) e

    two : Spread {B = Bool × Bool} (zipped flags flags) (λ l. get_or l c (false, false)) (λ v l. set l c v)
        (λ s. (eqb (get_or s c 0) 1, eqb (get_or s (c + 16) 0) 1)) (λ v s. set (set s c (toℕ v.0)) (c + 16) (toℕ v.1))
    two =
        spread_as (spread_zipped (λ s t. length_lane flag (suc n) s ∙ sym (length_lane flag (suc n) t)) c false false lane_flag lane_flag)
        (λ s. (eqb (get_or s c 0) 1, eqb (get_or s (c + 16) 0) 1)) (λ v s. set (set s c (toℕ v.0)) (c + 16) (toℕ v.1))
        (λ s. λ i. (eqb (get_or-take 16 s c 0 known i) 1, eqb (behind 16 s c (c + 16) known (omega arith) i) 1))
        (λ v s l.
        first_set 16 16 s (λ t. set t c (toℕ v.1)) c (toℕ v.0) l known
        ∙ over_one 16 16 (set s c (toℕ v.0)) (simp length-set l) c (toℕ v.1) known
        ∙ ap (λ (k : ℕ). set (set s c (toℕ v.0)) k (toℕ v.1)) (let e : 16 + c ≡ c + 16 = omega arith in e))

    three : Spread {B = Bool × (Bool × Bool)} (zipped flags (zipped flags flags)) (λ l. get_or l c (false, (false, false))) (λ v l. set l c v)
        (λ s. (eqb (get_or s c 0) 1, (eqb (get_or s (c + 16) 0) 1, eqb (get_or s (c + 32) 0) 1)))
        (λ v s. set (set (set s c (toℕ v.0)) (c + 16) (toℕ v.1.0)) (c + 32) (toℕ v.1.1))
    three =
        spread_as (spread_zipped (λ s t. length_lane flag (suc n) s ∙ sym (two_long t)) c false (false, false) lane_flag two)
        (λ s. (eqb (get_or s c 0) 1, (eqb (get_or s (c + 16) 0) 1, eqb (get_or s (c + 32) 0) 1)))
        (λ v s. set (set (set s c (toℕ v.0)) (c + 16) (toℕ v.1.0)) (c + 32) (toℕ v.1.1))
        (λ s. λ i. (
          eqb (get_or-take 16 s c 0 known i) 1,
          (eqb (behind 32 s c (c + 16) (omega (arith, known)) (omega arith) i) 1, eqb (behind 32 s (c + 16) (c + 32) (omega (arith, known)) (omega arith) i) 1),
        ))
        (λ v s l.
        first_set 16 32 s (λ t. set (set t c (toℕ v.1.0)) (c + 16) (toℕ v.1.1)) c (toℕ v.0) l known
        ∙ over_two 16 32 (set s c (toℕ v.0)) (simp length-set l) c (c + 16) (toℕ v.1.0) (toℕ v.1.1) (omega (arith, known)) (omega (arith, known))
        ∙ (λ i.
        set (set (set s c (toℕ v.0)) (let e : 16 + c ≡ c + 16 = omega arith in e i) (toℕ v.1.0))
        (let e : 16 + (c + 16) ≡ c + 32 = omega arith in e i) (toℕ v.1.1)))

    pub bytes_spread : Spread {B = TokenBytes} (byte_lanes n) (λ l. get_or l c (0, (false, (false, false)))) (λ v l. set l c v)
        (λ s. (get_or s c 0, (eqb (get_or s (c + 16) 0) 1, (eqb (get_or s (c + 32) 0) 1, eqb (get_or s (c + 48) 0) 1)))) (set_token_bytes c)
    unfolding byte_lanes
    bytes_spread =
        spread_as (spread_zipped (λ s t. length_lane byte (suc n) s ∙ sym (three_long t)) c 0 (false, (false, false)) lane_byte three)
        (λ s. (get_or s c 0, (eqb (get_or s (c + 16) 0) 1, (eqb (get_or s (c + 32) 0) 1, eqb (get_or s (c + 48) 0) 1)))) (set_token_bytes c)
        (λ s. λ i. (
          get_or-take 16 s c 0 known i,
          (
            eqb (behind 48 s c (c + 16) (omega (arith, known)) (omega arith) i) 1,
            (eqb (behind 48 s (c + 16) (c + 32) (omega (arith, known)) (omega arith) i) 1, eqb (behind 48 s (c + 32) (c + 48) (omega (arith, known)) (omega arith) i) 1),
          ),
        ))
        (λ v s l.
        first_set 16 48 s (λ t. set (set (set t c (toℕ v.1.0)) (c + 16) (toℕ v.1.1.0)) (c + 32) (toℕ v.1.1.1)) c v.0 l known
        ∙ over_three 16 48 (set s c v.0) (simp length-set l) c (c + 16) (c + 32) (toℕ v.1.0) (toℕ v.1.1.0) (toℕ v.1.1.1)
        (omega (arith, known)) (omega (arith, known)) (omega (arith, known))
        ∙ (λ i.
        set
        (set (set (set s c v.0) (let e : 16 + c ≡ c + 16 = omega arith in e i) (toℕ v.1.0))
        (let e : 16 + (c + 16) ≡ c + 32 = omega arith in e i) (toℕ v.1.1.0))
        (let e : 16 + (c + 32) ≡ c + 48 = omega arith in e i) (toℕ v.1.1.1)))

    -- read as tokens
    lanes_spread : Spread {B = Tokens} (token_lanes n) (λ l. get_or l c no_tokens) (λ v l. set l c v) (lanes_at c) (set_lanes c)
    unfolding token_lanes
    lanes_spread = spread_each dirty_has_owner to_tokens from_tokens token_bytes_back c (0, (false, (false, false))) bytes_spread

-- four bytes written in a part, and read of it
module _ (p m c : ℕ) (s : List ℕ) (h : c + dirty_offset < m) where
  pub token_bytes_in : (v : TokenBytes) → p + m ≤ length s → modify_at p m (set_token_bytes c v) s ≡ set_token_bytes (p + c) v s
  token_bytes_in v l =
      over_four p m s l c (c + 16) (c + 32) (c + 48) v.0 (toℕ v.1.0) (toℕ v.1.1.0) (toℕ v.1.1.1) (omega arith) (omega arith) (omega arith) (omega arith)
      ∙ (λ i.
      set
      (set (set (set s (p + c) v.0) (let e : p + (c + 16) ≡ p + c + 16 = omega arith in e i) (toℕ v.1.0))
      (let e : p + (c + 32) ≡ p + c + 32 = omega arith in e i) (toℕ v.1.1.0))
      (let e : p + (c + 48) ≡ p + c + 48 = omega arith in e i) (toℕ v.1.1.1))

  pub lanes_in : lanes_at c (slice p m s) ≡ lanes_at (p + c) s
  lanes_in = λ i. to_tokens (
    there c (p + c) (omega arith) refl i,
    (
      eqb (there (c + 16) (p + c + 16) (omega arith) (omega arith) i) 1,
      (eqb (there (c + 32) (p + c + 32) (omega arith) (omega arith) i) 1, eqb (there (c + 48) (p + c + 48) (omega arith) (omega arith) i) 1),
    ),
  )
    where
      there : (i j : ℕ) → i < m → p + i ≡ j → get_or (slice p m s) i 0 ≡ get_or s j 0
      there i j l e = get_or-take m (drop p s) i 0 l ∙ get_or-drop p s i 0 ∙ ap (λ (k : ℕ). get_or s k 0) e

-- the same of the first k bytes
module _ (k c : ℕ) (s : List ℕ) (h : c + dirty_offset < k) where
  token_bytes_front : (v : TokenBytes) → k ≤ length s → modify_at 0 k (set_token_bytes c v) s ≡ set_token_bytes c v s
  token_bytes_front v l = token_bytes_in 0 k c s h v (omega arith) ∙ ap (λ (j : ℕ). set_token_bytes j v s) (zero-add c)

  lanes_front : lanes_at c (take k s) ≡ lanes_at c s
  lanes_front = lanes_in 0 k c s h ∙ ap (λ (j : ℕ). lanes_at j s) (zero-add c)

-- a block with another cell of component c, with other tokens of it, with other words of it
abbrev pub with_cell_of : ℕ → Cell → Block → Block
with_cell_of c x k = record { cells = set k.cells c x; claims = k.claims }

abbrev pub with_tokens : ℕ → Tokens → Block → Block
with_tokens c v k = with_cell_of c (to_cell (v, (get_or k.cells c no_cell).words)) k

abbrev pub with_words : ℕ → List ℕ → Block → Block
with_words c ws k = with_cell_of c (to_cell (cell_tokens (get_or k.cells c no_cell), ws)) k

module _ (n : ℕ) (h : n ≤ 15) where
  abbrev raw : Layout (List Tokens × (Claims × List (List ℕ)))
  raw = pair (block_tokens n) (pair (block_claims n) (block_words n))

  rest_lawful : Lawful (pair (block_claims n) (block_words n)) (λ v. ClaimsFit n v.0 × Items WordsFit (suc n) v.1)
  rest_lawful = pair_lawful (block_claims n) (block_words n) (block_claims_lawful n h) (block_words_lawful n h)

  -- as many tokens as words
  as_many : (s : List ℕ) → length (raw.read s).0 ≡ length (raw.read s).1.1
  as_many s = lanes_length n (take (token_lanes n).size (take claims_offset s)) ∙ sym (length_read_items words (suc n) (slice claims_room (lane_size * words.size) (slice claims_offset (claims_room + lane_size * words.size) s)))

  -- ---- the claims

  pub claims_place : Place (block n) (claims n) claims_offset (λ k. k.claims) (λ x k. record { cells = k.cells; claims = x })
  unfolding block
  claims_place =
      place_iso
      (within (second (block_tokens n) (pair (block_claims n) (block_words n)) (block_tokens_lawful n h) rest_lawful)
      (within (first (block_claims n) (block_words n) (block_claims_lawful n h) (block_words_lawful n h))
      (padded_place room (λ k. refl) room_lawful claims_room (claims n) (claims_lawful n h) (rw (claims_size_lem n) (omega arith)))))
      to_block from_block (λ k. k.claims) (λ x k. record { cells = k.cells; claims = x })
      (λ s. refl)
      (λ v s. λ i. (cells_tokens (raw.read s).0 (raw.read s).1.1 (as_many s) i, (v, cells_words (raw.read s).0 (raw.read s).1.1 (as_many s) i)))

  -- ---- what component c has

  module _ (c : ℕ) (hc : c ≤ n) where
    -- the cell that is read of tokens and words
    cell_of : (s : List ℕ) → get_or (to_block (raw.read s)).cells c no_cell ≡ to_cell (get_or (raw.read s).0 c no_tokens, get_or (raw.read s).1.1 c zeros)
    cell_of s =
        get_or-map to_cell (zip (raw.read s).0 (raw.read s).1.1) c (no_tokens, zeros)
        ∙ ap to_cell (zip_at (raw.read s).0 (raw.read s).1.1 c no_tokens zeros (as_many s))

    -- what is left of the others
    set_tokens : (s : List ℕ) (x : Cell) → map cell_tokens (set (to_block (raw.read s)).cells c x) ≡ set (raw.read s).0 c (cell_tokens x)
    set_tokens s x = map_set cell_tokens (to_block (raw.read s)).cells c x ∙ ap (λ (l : List Tokens). set l c (cell_tokens x)) (cells_tokens (raw.read s).0 (raw.read s).1.1 (as_many s))

    set_words : (s : List ℕ) (x : Cell) → map (λ y. y.words) (set (to_block (raw.read s)).cells c x) ≡ set (raw.read s).1.1 c x.words
    set_words s x =
        map_set (λ y. y.words) (to_block (raw.read s)).cells c x ∙ ap (λ (l : List (List ℕ)). set l c x.words) (cells_words (raw.read s).0 (raw.read s).1.1 (as_many s))

    lanes_here : Place (block_tokens n) (token_lanes n) 0 (λ a. a) (λ v a. v)
    lanes_here = padded_place room (λ k. refl) room_lawful claims_offset (token_lanes n) (lanes_lawful n h) (rw (lanes_size_lem n) (omega arith))

    words_here : Place (pair (block_claims n) (block_words n)) words (claims_room + c * words.size) (λ v. get_or v.1 c zeros) (λ ws v. (v.0, set v.1 c ws))
    words_here =
        within (second (block_claims n) (block_words n) (block_claims_lawful n h) (block_words_lawful n h))
        (item words words_lawful zeros lane_size (suc n) c (suc-le-suc h) (suc-le-suc hc))

    tokens_here : Spread {B = Tokens} (block_tokens n) (λ l. get_or l c no_tokens) (λ v l. set l c v) (lanes_at c) (set_lanes c)
    tokens_here =
        let k : ℕ = (token_lanes n).size in
        spread_as (spread_within lanes_here (lanes_spread n h c hc)) (lanes_at c) (set_lanes c)
        (λ s. lanes_front k c s (omega (arith, lanes_size_lem n)))
        (λ v s l. token_bytes_front k c s (omega (arith, lanes_size_lem n)) (from_tokens v) (omega (arith, lanes_size_lem n, l)))

    -- its tokens: four bytes, one in each lane
    pub tokens_spread : Spread (block n) (λ k. cell_tokens (get_or k.cells c no_cell)) (with_tokens c) (lanes_at c) (set_lanes c)
    unfolding block
    tokens_spread =
        spread_iso
        (spread_as (spread_within (first (block_tokens n) (pair (block_claims n) (block_words n)) (block_tokens_lawful n h) rest_lawful) tokens_here)
        (lanes_at c) (set_lanes c)
        (λ s. lanes_front claims_offset c s (omega arith))
        (λ v s l. token_bytes_front claims_offset c s (omega arith) (from_tokens v) (omega arith)))
        to_block from_block (λ k. cell_tokens (get_or k.cells c no_cell)) (with_tokens c)
        (λ s. ap cell_tokens (cell_of s))
        (λ v s. λ i. (
          set_tokens s (to_cell (v, (get_or (to_block (raw.read s)).cells c no_cell).words)) i,
          (
            (raw.read s).1.0,
            (set_words s (to_cell (v, (get_or (to_block (raw.read s)).cells c no_cell).words))
                ∙ ap (λ (x : Cell). set (raw.read s).1.1 c x.words) (cell_of s) ∙ set-get_or (raw.read s).1.1 c zeros) i,
          ),
        ))

    -- its words: 32 bytes
    pub words_place : Place (block n) words (words_offset + words_size * c) (λ k. (get_or k.cells c no_cell).words) (with_words c)
    unfolding block
    words_place =
        subst (λ (p : ℕ). Place (block n) words p (λ k. (get_or k.cells c no_cell).words) (with_words c))
        (ap (λ (k : ℕ). claims_offset + (claims_room + c * k)) words_size_lem ∙ omega arith)
        (place_iso
        (within (second (block_tokens n) (pair (block_claims n) (block_words n)) (block_tokens_lawful n h) rest_lawful) words_here)
        to_block from_block (λ k. (get_or k.cells c no_cell).words) (with_words c)
        (λ s. ap (λ (x : Cell). x.words) (cell_of s))
        (λ v s. λ i. (
          (set_tokens s (to_cell (cell_tokens (get_or (to_block (raw.read s)).cells c no_cell), v))
              ∙ ap (λ (x : Cell). set (raw.read s).0 c (cell_tokens x)) (cell_of s) ∙ set-get_or (raw.read s).0 c no_tokens) i,
          ((raw.read s).1.0, set_words s (to_cell (cell_tokens (get_or (to_block (raw.read s)).cells c no_cell), v)) i),
        )))

    -- both: the cell
    pub cell_spread : Spread {B = Tokens × List ℕ} (block n) (λ k. (cell_tokens (get_or k.cells c no_cell), (get_or k.cells c no_cell).words)) (λ v. with_cell_of c (to_cell v))
        (λ s. (lanes_at c s, words.read (slice (words_offset + words_size * c) words_size s)))
        (λ v s. modify_at (words_offset + words_size * c) words_size (words.write v.1) (set_lanes c v.0 s))
    unfolding block
    cell_spread =
        spread_iso
        (spread_as (spread_pair tokens_here (spread_place words_here))
        (λ s. (lanes_at c s, words.read (slice (words_offset + words_size * c) words_size s)))
        (λ v s. modify_at (words_offset + words_size * c) words_size (words.write v.1) (set_lanes c v.0 s))
        (λ s. λ i. (
          lanes_front claims_offset c s (omega arith) i,
          (ap words.read (part_part claims_offset m (claims_room + c * z) z s words_here.inside)
              ∙ (λ j. words.read (slice (claims_offset + (claims_room + c * words_size_lem j)) (words_size_lem j) s))
              ∙ ap (λ (k : ℕ). words.read (slice k words_size s)) far) i,
        ))
        (λ v s l.
        over_both (set_lanes c v.0) (modify_at (claims_room + c * z) z (words.write v.1)) claims_offset m s (same_lanes v.0 (take claims_offset s)) l
        ∙ over_over (words.write v.1) claims_offset m (claims_room + c * z) z (set_lanes c v.0 (take claims_offset s) ++ drop claims_offset s) words_here.inside
        ∙ (λ j.
        modify_at (claims_offset + (claims_room + c * words_size_lem j)) (words_size_lem j) (words.write v.1)
        (token_bytes_front claims_offset c s (omega arith) (from_tokens v.0) (omega arith) j))
        ∙ ap (λ (k : ℕ). modify_at k words_size (words.write v.1) (set_lanes c v.0 s)) far))
        to_block from_block (λ k. (cell_tokens (get_or k.cells c no_cell), (get_or k.cells c no_cell).words)) (λ v. with_cell_of c (to_cell v))
        (λ s. λ i. (cell_tokens (cell_of s i), (cell_of s i).words))
        (λ v s. λ i. (set_tokens s (to_cell v) i, ((raw.read s).1.0, set_words s (to_cell v) i)))
      where
        z : ℕ
        z = words.size

        m : ℕ
        m = (pair (block_claims n) (block_words n)).size

        far : claims_offset + (claims_room + c * words_size) ≡ words_offset + words_size * c
        far = omega arith

        same_lanes : (v : Tokens) (t : List ℕ) → length (set_lanes c v t) ≡ length t
        same_lanes v t = simp length-set

-- ---- a well-formed record

-- bytes that are as the layout has them, of sizes that the layout has room for
pub record Formed (s : List ℕ) : Type 0 where
  pub bytes : Bytes s
  pub boards : boards_in s ≤ 15
  pub messages : messages_in s ≤ 64
  pub room : record_length (blocks_in s) ≤ length s
  pub well_formed : (layout_of s).well_formed s ≡ true

pub well_formed_lem : (s : List ℕ) → Formed s → well_formed_record s ≡ true
unfolding well_formed_record
well_formed_lem s f = and_of (leb (record_length (blocks_in s)) (length s)) ((layout_of s).well_formed s) (le-leb (record_length (blocks_in s)) (length s) f.room) f.well_formed

pub formed_of : (s : List ℕ) → Bytes s → boards_in s ≤ 15 → messages_in s ≤ 64 → well_formed_record s ≡ true → Formed s
unfolding well_formed_record
formed_of s h n m w =
    record {
      bytes = h;
      boards = n;
      messages = m;
      room = leb-true (record_length (blocks_in s)) (length s) (and_l (leb (record_length (blocks_in s)) (length s)) ((layout_of s).well_formed s) w);
      well_formed = and_r (leb (record_length (blocks_in s)) (length s)) ((layout_of s).well_formed s) w;
    }

-- the rack that a record holds has the record's sizes, well-formed or not
module _ (s : List ℕ) where
  pub boards_is : (get s).boards ≡ boards_in s
  unfolding get rack_layout
  boards_is = ap (λ (v : ℕ × (ℕ × (ℕ × ℕ))). v.0) (header_read s)

  pub tokens_is : (get s).tokens ≡ tokens_in s
  unfolding get rack_layout
  tokens_is = ap (λ (v : ℕ × (ℕ × (ℕ × ℕ))). v.1.1.0) (header_read s)

  pub blocks_is : length (get s).blocks ≡ blocks_in s
  unfolding get rack_layout
  blocks_is = length_read_items (block (boards_in s)) (blocks_in s) _

  pub mesh_is : length (get s).mesh ≡ messages_in s
  unfolding get rack_layout
  mesh_is = length_read_items message (messages_in s) _

  read_is : from_rack (get s) ≡ (layout_of s).read s
  unfolding get rack_layout
  read_is = λ i. (
    (
      ((layout_of s).read s).0.0,
      (
        (blocks_is ∙ sym (ap (λ (v : ℕ × (ℕ × (ℕ × ℕ))). v.1.0) (header_read s))) i,
        (((layout_of s).read s).0.1.1.0, (mesh_is ∙ sym (ap (λ (v : ℕ × (ℕ × (ℕ × ℕ))). v.1.1.1) (header_read s))) i),
      ),
    ),
    ((layout_of s).read s).1,
  )

  -- a rack of the record's sizes is written by the record's layout
  put_is : (r : Rack) → r.boards ≡ boards_in s → length r.blocks ≡ blocks_in s → length r.mesh ≡ messages_in s → put r s ≡ (layout_of s).write (from_rack r) s
  unfolding put
  put_is r a b c = λ i. (rack_layout (a i) (b i) (c i)).write (from_rack r) s

  module _ (ok : Formed s) where
    pub law : Lawful (layout_of s) (FiguresFit (boards_in s) (blocks_in s) (messages_in s))
    law = figures_lawful (boards_in s) (blocks_in s) (messages_in s) ok.boards ok.messages

    pub stands : Stands (layout_of s) s
    stands = record { bytes = ok.bytes; well_formed = ok.well_formed; room = rw (figures_size (boards_in s) (blocks_in s) (messages_in s)) ok.room }

    -- the header by itself
    pub header_stands : Stands header (take header.size s)
    unfolding rack_layout
    header_stands =
        record {
          bytes = bytes_take header.size s ok.bytes;
          well_formed = and_l (header.well_formed (take header.size s)) _ ok.well_formed;
          room = le_of_eq (sym (length-take-le header.size s (omega (arith, ok.room, header_size_lem))));
        }

    -- to write the rack that is there changes nothing
    pub put_get : put (get s) s ≡ s
    put_get = put_is (get s) boards_is blocks_is mesh_is ∙ ap (λ (v : RackFields). (layout_of s).write v s) read_is ∙ law.unchanged s stands

    changed_is : {A : Type 0} (change : A → Block → Block) (b : ℕ) (x : A) → from_rack (changed (get s) b (change x (block_at (get s) b)) (get s).mesh)
        ≡ (((layout_of s).read s).0, (((layout_of s).read s).1.0, set ((layout_of s).read s).1.1 b (change x (get_or ((layout_of s).read s).1.1 b no_block))))
    changed_is change b x =
        (λ i. (((get s).boards, (length-set (get s).blocks b (change x (block_at (get s) b)) i, ((get s).tokens, length (get s).mesh))), ((get s).mesh, set (get s).blocks b (change x (block_at (get s) b)))))
        ∙ ap (λ (v : RackFields). (v.0, (v.1.0, set v.1.1 b (change x (get_or v.1.1 b no_block))))) read_is

    -- a figure of a block: where it is read, and what it is to change it
    module _ {A : Type 0} {M : Layout A} {p : ℕ} {look : Block → A} {change : A → Block → Block} (P : Place (block (boards_in s)) M p look change) (b : ℕ) (hb : b < blocks_in s) where
      figure : Place (layout_of s) M (block_offset b + p) (λ v. look (get_or v.1.1 b no_block)) (λ x v. (v.0, (v.1.0, set v.1.1 b (change x (get_or v.1.1 b no_block)))))
      figure = within (block_place (boards_in s) (blocks_in s) (messages_in s) ok.boards ok.messages b hb) P

      pub read_figure : look (block_at (get s) b) ≡ M.read (slice (block_offset b + p) M.size s)
      unfolding get
      read_figure = figure.looks s

      pub stands_figure : Stands M (slice (block_offset b + p) M.size s)
      stands_figure = figure.stands s stands

      pub write_figure : (x : A) → put (changed (get s) b (change x (block_at (get s) b)) (get s).mesh) s ≡ modify_at (block_offset b + p) M.size (M.write x) s
      write_figure x =
          put_is (changed (get s) b (change x (block_at (get s) b)) (get s).mesh) boards_is (length-set (get s).blocks b (change x (block_at (get s) b)) ∙ blocks_is) mesh_is
          ∙ ap (λ (v : RackFields). (layout_of s).write v s) (changed_is change b x)
          ∙ figure.changes x s stands

    -- the same of a figure that stands in several places
    module _ {A : Type 0} {look : Block → A} {change : A → Block → Block} {reads : List ℕ → A} {writes : A → List ℕ → List ℕ} (S : Spread (block (boards_in s)) look change reads writes) (b : ℕ) (hb : b < blocks_in s) where
      spread : Spread (layout_of s) (λ v. look (get_or v.1.1 b no_block)) (λ x v. (v.0, (v.1.0, set v.1.1 b (change x (get_or v.1.1 b no_block)))))
          (λ t. reads (slice (block_offset b) (block (boards_in s)).size t)) (λ x t. modify_at (block_offset b) (block (boards_in s)).size (writes x) t)
      spread = spread_within (block_place (boards_in s) (blocks_in s) (messages_in s) ok.boards ok.messages b hb) S

      pub read_spread : look (block_at (get s) b) ≡ reads (slice (block_offset b) block_size s)
      unfolding get
      read_spread = spread.looks s ∙ ap (λ (k : ℕ). reads (slice (block_offset b) k s)) (block_size_lem (boards_in s))

      pub write_spread : (x : A) → put (changed (get s) b (change x (block_at (get s) b)) (get s).mesh) s ≡ modify_at (block_offset b) block_size (writes x) s
      write_spread x =
          put_is (changed (get s) b (change x (block_at (get s) b)) (get s).mesh) boards_is (length-set (get s).blocks b (change x (block_at (get s) b)) ∙ blocks_is) mesh_is
          ∙ ap (λ (v : RackFields). (layout_of s).write v s) (changed_is change b x)
          ∙ spread.changes x s stands
          ∙ ap (λ (k : ℕ). modify_at (block_offset b) k (writes x) s) (block_size_lem (boards_in s))

-- ---- the bytes of the messages, and the room behind them

abbrev pub mesh_bytes : List ℕ → List ℕ
mesh_bytes s = slice header_size (mesh_room * message.size) s

module _ (s : List ℕ) (ok : Formed s) where
  mesh_here : Place (layout_of s) (items message mesh_room (messages_in s)) header_size (λ v. v.1.0) (λ x v. (v.0, (x, v.1.1)))
  mesh_here = mesh_place (boards_in s) (blocks_in s) (messages_in s) ok.boards ok.messages

  pub mesh_items : (get s).mesh ≡ read_items message (messages_in s) (mesh_bytes s)
  unfolding get
  mesh_items = mesh_here.looks s

  pub mesh_stands : StandItems message (messages_in s) (mesh_bytes s)
  mesh_stands = stand_items message mesh_room (messages_in s) (mesh_bytes s) ok.messages (mesh_here.stands s (stands s ok))

  -- to write the messages that are there changes nothing
  pub mesh_unchanged : write_items message (get s).mesh (mesh_bytes s) ≡ mesh_bytes s
  mesh_unchanged =
      ap (λ (l : List Message). write_items message l (mesh_bytes s)) mesh_items ∙ items_unchanged message message_lawful (messages_in s) (mesh_bytes s) mesh_stands

-- ---- a rack that a record can hold

pub record Fits (r : Rack) : Type 0 where
  pub boards : r.boards ≤ 15
  pub blocks : length r.blocks ≤ 32
  pub tokens : r.tokens ≤ 64
  pub messages : length r.mesh ≤ 64
  pub blocks_fit : All (BlockFits r.boards) r.blocks
  pub mesh_fits_lem : All MessageFits r.mesh

fitting : (r : Rack) → Fits r → FiguresFit r.boards (length r.blocks) (length r.mesh) (from_rack r)
fitting r fits = (omega (arith, fits), ((refl, fits.mesh_fits_lem), (refl, fits.blocks_fit)))

module _ (r : Rack) (fits : Fits r) where
  rack_law : Lawful (rack_layout r.boards (length r.blocks) (length r.mesh)) (FiguresFit r.boards (length r.blocks) (length r.mesh))
  rack_law = figures_lawful r.boards (length r.blocks) (length r.mesh) fits.boards fits.messages

  module _ (s : List ℕ) (room : record_length (length r.blocks) ≤ length s) where
    room' : (rack_layout r.boards (length r.blocks) (length r.mesh)).size ≤ length s
    room' = rw (figures_size r.boards (length r.blocks) (length r.mesh)) room

    pub put_keeps : length (put r s) ≡ length s
    unfolding put
    put_keeps = rack_law.keeps (from_rack r) s

    put_reads : (rack_layout r.boards (length r.blocks) (length r.mesh)).read (put r s) ≡ from_rack r
    unfolding put
    put_reads = rack_law.back (from_rack r) s (fitting r fits) room'

    put_sizes : ◌≡◌ {A = ℕ × (ℕ × (ℕ × ℕ))} (boards_in (put r s), (blocks_in (put r s), (tokens_in (put r s), messages_in (put r s)))) (r.boards, (length r.blocks, (r.tokens, length r.mesh)))
    unfolding rack_layout
    put_sizes = sym (header_read (put r s)) ∙ ap (λ (v : RackFields). v.0) put_reads

    -- what is written is read back
    pub get_put : get (put r s) ≡ r
    unfolding get
    get_put =
        (λ i. to_rack ((rack_layout (put_sizes i).0 (put_sizes i).1.0 (put_sizes i).1.1.1).read (put r s)))
        ∙ ap to_rack put_reads

    -- and well well-formed
    pub put_formed : Bytes s → Formed (put r s)
    unfolding put
    put_formed b =
        let n : boards_in (put r s) ≡ r.boards = ap (λ (v : ℕ × (ℕ × (ℕ × ℕ))). v.0) put_sizes in
        let k : blocks_in (put r s) ≡ length r.blocks = ap (λ (v : ℕ × (ℕ × (ℕ × ℕ))). v.1.0) put_sizes in
        let m : messages_in (put r s) ≡ length r.mesh = ap (λ (v : ℕ × (ℕ × (ℕ × ℕ))). v.1.1.1) put_sizes in
        let l : length (put r s) ≡ length s = put_keeps in
        record {
          bytes = rack_law.bytes (from_rack r) s (fitting r fits) b;
          boards = omega (arith, fits.boards);
          messages = omega (arith, fits.messages);
          room = omega (arith, room);
          well_formed =
              subst (λ (v : ℕ × (ℕ × (ℕ × ℕ))). (rack_layout v.0 v.1.0 v.1.1.1).well_formed (put r s) ≡ true) (sym put_sizes)
              (rack_law.forms (from_rack r) s (fitting r fits) room');
        }

    -- what stands behind the record stays
    pub put_behind : drop (record_length (length r.blocks)) (put r s) ≡ drop (record_length (length r.blocks)) s
    unfolding put rack_layout
    put_behind =
        let k : ℕ = length r.blocks in
        let rest : Layout (List Message × List Block) = pair (items message mesh_room (length r.mesh)) (items (block r.boards) k k) in
        let e : record_length k ≡ header.size + rest.size = sym (figures_size r.boards k (length r.mesh)) in
        ap (λ (j : ℕ). drop j (put r s)) e
        ∙ cut_rest header.size rest.size (header.write (from_rack r).0 (take header.size s)) (rest.write (from_rack r).1 (slice header.size rest.size s)) s
        (header_lawful.keeps (from_rack r).0 (take header.size s))
        ((body_law r.boards k (length r.mesh) fits.boards fits.messages).keeps (from_rack r).1 (slice header.size rest.size s)) room'
        ∙ ap (λ (j : ℕ). drop j s) (sym e)

    -- a second rack of these sizes covers a first if its messages cover those of the first
    put_over : (q : Rack) → Fits q → q.boards ≡ r.boards → length q.blocks ≡ length r.blocks
        → write_items message r.mesh (write_items message q.mesh (mesh_bytes s)) ≡ write_items message r.mesh (mesh_bytes s) → put r (put q s) ≡ put r s
    unfolding put rack_layout
    put_over q f n b m =
        let k : ℕ = length r.blocks in
        let M : Layout (List Message) = items message mesh_room (length r.mesh) in
        let K : Layout (List Block) = items (block r.boards) k k in
        let u : List ℕ = slice header.size (M.size + K.size) s in
        let lu : length u ≡ M.size + K.size = length_part header.size (M.size + K.size) s room' in
        let blocks-room : k * (block r.boards).size ≤ length (slice M.size K.size u) =
        le_of_eq (sym (length_part M.size K.size u (le_of_eq (sym lu)))) in
        let slots : mesh_bytes s ≡ take M.size u =
        ap (λ (j : ℕ). slice j M.size s) (sym header_size_lem) ∙ sym (take-take M.size (M.size + K.size) (drop header.size s) (omega arith)) in
        let mlaw = mesh_law r.boards k (length r.mesh) fits.boards fits.messages in
        let klaw = blocks_law r.boards k (length r.mesh) fits.boards fits.messages in
        ap (λ (t : List ℕ). (rack_layout r.boards k (length r.mesh)).write (from_rack r) t) (λ i. (rack_layout (n i) (b i) (length q.mesh)).write (from_rack q) s)
        ∙ pair_again header (pair M K) header_lawful (pair_lawful M K mlaw klaw) (from_rack r) (from_rack q) s room'
        (header_lawful.again (from_rack r).0 (from_rack q).0 (take header.size s) (fitting r fits).0 (fitting q f).0 (le_of_eq (sym (length-take-le header.size s (omega (arith, room, header_size_lem))))))
        (pair_again M K mlaw klaw (from_rack r).1 (from_rack q).1 u (le_of_eq (sym lu))
        (subst (λ (t : List ℕ). write_items message r.mesh (write_items message q.mesh t) ≡ write_items message r.mesh t) slots m)
        (items_again (block r.boards) (block_lawful r.boards fits.boards) r.blocks q.blocks (slice M.size K.size u) fits.blocks_fit
        (subst (λ (j : ℕ). All (BlockFits j) q.blocks) n f.blocks_fit) (le_of_eq b) blocks-room))

    -- so it does with no fewer messages,
    pub put_put : (q : Rack) → Fits q → q.boards ≡ r.boards → length q.blocks ≡ length r.blocks → length q.mesh ≤ length r.mesh → put r (put q s) ≡ put r s
    put_put q f n b m =
        put_over q f n b
        (items_again message message_lawful r.mesh q.mesh (mesh_bytes s) fits.mesh_fits_lem f.mesh_fits_lem m
        (le_trans (mul-le-mul_right message.size fits.messages) (le_of_eq (sym (length_part header_size (mesh_room * message.size) s (rw message_size_lem (omega (arith, room))))))))

    -- and, whatever its messages, if the first has those that stood there
    pub put_changed : (q : Rack) → Fits q → q.boards ≡ r.boards → length q.blocks ≡ length r.blocks → Formed s → q.mesh ≡ (get s).mesh → put r (put q s) ≡ put r s
    put_changed q f n b ok e =
        put_over q f n b (ap (write_items message r.mesh) (ap (λ (l : List Message). write_items message l (mesh_bytes s)) e ∙ mesh_unchanged s ok))
