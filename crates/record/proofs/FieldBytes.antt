-- The figures of a cell and of a message, byte by byte, and the bytes that make a record of the layout's form: by the laws of pairs and of items.
use Prim.Native.Nat.{ℕ, suc, ◌+◌, ◌*◌, ◌≤◌, ◌<◌}
use native.Mathlib.Nat.{le_refl}
use native.Mathlib.Omega.{arith}
use mathlib.Core.Path.{◌≡◌, refl, sym, ap, ◌∙◌}
use mathlib.Core.Bool.{Bool, true, false, ◌&&◌}
use mathlib.Core.Logic.{⊎_elim}
use mathlib.Core.List.{List}
use lib.ListN.{length, get_or, take, drop}
use lib.Seq.{get_or-take, get_or-drop}
use lib.Dec.{eqb, ltb}
use borrow.Author.Tests.{eq-eqb, eqb-true}
use Rattle.spec_base.specs.Folds.{all_below, all, implies}
use Rattle.spec_base.proofs.Tests.{and_true, implied, implies_of, lt_or_le}
use Rattle.spec_base.proofs.Folds.{below_of, below_same}
use Rattle.spec_base.specs.Layout.{slice, byte, flag, big, pair, items, well_formed_items, zeroed}
use Rattle.spec_base.proofs.Laws.{length_read_items}
use Rattle.spec_base.proofs.Places.{read_byte, read_pair, formed_below}
use Rattle.spec_rack.specs.Rack.{present}
use Rattle.spec_rack.specs.RecordLayout.{claims, message_size, message_offset, block_size, block_offset, claims_offset, owner_of, to_tokens, dirty_has_owner, token_bytes, tokens, words, endpoints, message_header, to_message, message, token_lanes, block, header, rack_layout, layout_of, blocks_in, boards_in, format_magic, format_in, claims_room, claims_size, lanes_size, messages_in, mesh_room, header_size, target_offset, message_block_offset, message_plain_offset, message_owner_offset, data_offset, message_dirty_offset, message_zero_offset, message_words_offset, words_size, lane_size}
use Rattle.spec_rack.proofs.LayoutParts.{heading_size, words_size_lem, message_size_lem, lanes_size_lem, claims_size_lem, block_size_lem, header_size_lem, header_form, block_tokens, block_claims, block_words}
use Rattle.spec_base.proofs.Padded.{formed_room, formed_zeroed, padded_read}
use Rattle.spec_base.proofs.Forms.{formed_pair, formed_items, numbers_zero}

-- ---- words

pub words_eight : (t : List ℕ) → length (words.read t) ≡ 8
unfolding words
words_eight t = length_read_items (big 4) 8 t

-- any bytes are words
pub words_formed : (t : List ℕ) → words.well_formed t ≡ true
unfolding words
words_formed t = formed_below (big 4) 8 t ∙ below_of (λ i. true) 8 (λ i l. refl)

-- the words are all 0 where all their bytes are
pub words_zero : (s : List ℕ) (at : ℕ) → all (eqb 0) (words.read (slice at words_size s)) ≡ all_below words_size (λ i. eqb (get_or s (at + i) 0) 0)
unfolding words
words_zero s at =
    numbers_zero 4 8 (slice at words_size s)
    ∙ below_same (λ i. eqb (get_or (slice at words_size s) i 0) 0) (λ i. eqb (get_or s (at + i) 0) 0) words_size
    (λ i l. ap (λ (n : ℕ). eqb n 0) (get_or-take words_size (drop at s) i 0 l ∙ get_or-drop at s i 0))

-- ---- the owner's two flags

pub present_is : (here dirty : Bool) → present (owner_of here dirty) ≡ here
present_is true true = refl
present_is true false = refl
present_is false d = refl

-- a mark beside an owner's byte: it stands only with the owner where it is no more
pub dirty_most : (o d : ℕ) → d < 2 → implies (eqb d 1) (eqb o 1) ≡ true → d ≤ o
dirty_most o d c q = ⊎_elim (λ z. omega arith) (λ z. omega (arith, eqb-true o 1 (implied (eqb d 1) (eqb o 1) q (eq-eqb d 1 (omega arith))))) (lt_or_le d 1)

pub dirty_only : (o d : ℕ) → o < 2 → d ≤ o → implies (eqb d 1) (eqb o 1) ≡ true
dirty_only o d a c = implies_of (eqb d 1) (eqb o 1) (λ e. eq-eqb o 1 (omega (arith, eqb-true d 1 e)))

-- ---- bytes and flags

module _ (s : List ℕ) where
  flag_read : (p q : ℕ) → p ≡ q → flag.read (slice p 1 s) ≡ eqb (get_or s q 0) 1
  flag_read p q e = ap (λ (n : ℕ). eqb n 1) (read_byte p s) ∙ ap (λ (k : ℕ). eqb (get_or s k 0) 1) e

  pub flag_formed : (p q : ℕ) → p ≡ q → flag.well_formed (slice p 1 s) ≡ ltb (get_or s q 0) 2
  flag_formed p q e = ap (λ (n : ℕ). ltb n 2) (read_byte p s) ∙ ap (λ (k : ℕ). ltb (get_or s k 0) 2) e

  byte_read : (p q : ℕ) → p ≡ q → byte.read (slice p 1 s) ≡ get_or s q 0
  byte_read p q e = read_byte p s ∙ ap (λ (k : ℕ). get_or s k 0) e

-- ---- a message at a place

module _ (s : List ℕ) (at : ℕ) where
  token_bytes_read : token_bytes.read (slice (at + message_plain_offset) 4 s)
      ≡ (get_or s (at + message_plain_offset) 0, (eqb (get_or s (at + message_owner_offset) 0) 1, (eqb (get_or s (at + data_offset) 0) 1, eqb (get_or s (at + message_dirty_offset) 0) 1)))
  token_bytes_read =
      read_pair byte (pair flag (pair flag flag)) (at + message_plain_offset) s
      ∙ (λ j. (
        read_byte (at + message_plain_offset) s j,
        (read_pair flag (pair flag flag) (at + 3 + 1) s
            ∙ (λ k. (
              flag_read s (at + 3 + 1) (at + message_owner_offset) (omega arith) k,
              (read_pair flag flag (at + 3 + 1 + 1) s
                  ∙ (λ l. (flag_read s (at + 3 + 1 + 1) (at + data_offset) (omega arith) l, flag_read s (at + 3 + 1 + 1 + 1) (at + message_dirty_offset) (omega arith) l))) k,
            ))) j,
      ))

  heading_read : message_header.read (slice at message_words_offset s)
      ≡ ((get_or s at 0, (get_or s (at + target_offset) 0, get_or s (at + message_block_offset) 0)), (get_or s (at + message_plain_offset) 0, (owner_of (eqb (get_or s (at + message_owner_offset) 0) 1) (eqb (get_or s (at + message_dirty_offset) 0) 1), eqb (get_or s (at + data_offset) 0) 1)))
  unfolding message_header
  heading_read =
      padded_read 8 (pair endpoints tokens) (omega arith) at s zeroed
      ∙ read_pair endpoints tokens at s
      ∙ (λ i. (
        (read_pair byte (pair byte byte) at s
            ∙ (λ j. (read_byte at s j, (read_pair byte byte (at + target_offset) s ∙ (λ k. (read_byte (at + target_offset) s k, byte_read s (at + 1 + 1) (at + message_block_offset) (omega arith) k))) j))) i,
        to_tokens (token_bytes_read i),
      ))

  pub message_read : message.read (slice at message_size s)
      ≡ record {
        header =
            record {
              sender = get_or s at 0;
              target = get_or s (at + target_offset) 0;
              block = get_or s (at + message_block_offset) 0;
              plain = get_or s (at + message_plain_offset) 0;
              owner = owner_of (eqb (get_or s (at + message_owner_offset) 0) 1) (eqb (get_or s (at + message_dirty_offset) 0) 1);
              «data» = eqb (get_or s (at + data_offset) 0) 1;
            };
        words = words.read (slice (at + message_words_offset) words_size s);
      }
  unfolding message
  message_read =
      ap to_message
      ((λ i. (pair message_header words).read (slice at (sym heading_size i + sym words_size_lem i) s))
      ∙ read_pair message_header words at s
      ∙ (λ i. (message_header.read (slice at (heading_size i) s), words.read (slice (at + heading_size i) (words_size_lem i) s)))
      ∙ (λ i. (heading_read i, words.read (slice (at + message_words_offset) words_size s))))

  -- owner, data and dirty are flags, dirty only beside the owner, and the byte behind them is 0
  pub message_formed : message.well_formed (slice at message_size s)
      ≡ ((ltb (get_or s (at + message_owner_offset) 0) 2 && (ltb (get_or s (at + data_offset) 0) 2 && ltb (get_or s (at + message_dirty_offset) 0) 2)
      && implies (eqb (get_or s (at + message_dirty_offset) 0) 1) (eqb (get_or s (at + message_owner_offset) 0) 1))
      && all_below 1 (λ i. eqb (get_or s (at + message_zero_offset + i) 0) 0))
  unfolding message message_header words
  message_formed =
      formed_pair message_header words at s
      ∙ (λ i. message_header.well_formed (slice at message_words_offset s) && words_formed (slice (at + message_words_offset) words_size s) i)
      ∙ and_true (message_header.well_formed (slice at message_words_offset s))
      ∙ formed_zeroed 8 (pair endpoints tokens) (omega arith) at s
      ∙ ap (λ (t : Bool). t && all_below 1 (λ i. eqb (get_or s (at + message_zero_offset + i) 0) 0))
      (formed_pair endpoints tokens at s
      ∙ (λ i.
      (formed_pair byte (pair flag (pair flag flag)) (at + message_plain_offset) s
      ∙ formed_pair flag (pair flag flag) (at + 3 + 1) s
      ∙ (λ j.
      flag_formed s (at + 3 + 1) (at + message_owner_offset) (omega arith) j
      && (formed_pair flag flag (at + 3 + 1 + 1) s
      ∙ (λ k. flag_formed s (at + 3 + 1 + 1) (at + data_offset) (omega arith) k && flag_formed s (at + 3 + 1 + 1 + 1) (at + message_dirty_offset) (omega arith) k)) j)) i
      && dirty_has_owner (token_bytes_read i)))

-- ---- the record is of the layout's form where each message is, and of each block the lanes and the claims

module _ (s : List ℕ) where
  pub block_formed : (n at : ℕ) → n ≤ 15 → (block n).well_formed (slice at block_size s) ≡ ((token_lanes n).well_formed (slice at lanes_size s) && (claims n).well_formed (slice (at + claims_offset) claims_size s))
  unfolding block
  block_formed n at h =
      ap (λ (z : ℕ). (block n).well_formed (slice at z s)) (sym (block_size_lem n))
      ∙ formed_pair (block_tokens n) (pair (block_claims n) (block_words n)) at s
      ∙ (λ i.
      (formed_room claims_offset (token_lanes n) (rw (lanes_size_lem n) (omega arith)) at s ∙ ap (λ (z : ℕ). (token_lanes n).well_formed (slice at z s)) (lanes_size_lem n)) i
      && (formed_pair (block_claims n) (block_words n) (at + claims_offset) s
      ∙ (λ j. (block_claims n).well_formed (slice (at + claims_offset) claims_room s) && all_words n (slice (at + claims_offset + claims_room) (lane_size * words.size) s) j)
      ∙ and_true ((block_claims n).well_formed (slice (at + claims_offset) claims_room s))
      ∙ formed_room claims_room (claims n) (rw (claims_size_lem n) (omega arith)) (at + claims_offset) s ∙ ap (λ (z : ℕ). (claims n).well_formed (slice (at + claims_offset) z s)) (claims_size_lem n)) i)
    where
      all_words : (k : ℕ) (t : List ℕ) → well_formed_items words (suc k) t ≡ true
      all_words k t = formed_below words (suc k) t ∙ below_of (λ i. words.well_formed (slice (i * words.size) words.size t)) (suc k) (λ i l. words_formed (slice (i * words.size) words.size t))

  pub record_formed : messages_in s ≤ 64
      → (layout_of s).well_formed s
      ≡ (eqb (format_in s) format_magic && (all_below (messages_in s) (λ i. message.well_formed (slice (message_offset i) message_size s)) && all_below (blocks_in s) (λ b. (block (boards_in s)).well_formed (slice (block_offset b) block_size s))))
  unfolding rack_layout
  record_formed hm =
      let n : ℕ = boards_in s in
      let b : ℕ = blocks_in s in
      let m : ℕ = messages_in s in
      (λ i. header.well_formed (take (header_size_lem i) s) && (pair (items message mesh_room m) (items (block n) b b)).well_formed (slice (header_size_lem i) (mesh_room * message.size + b * (block n).size) s))
      ∙ (λ i. header_form s i && formed_pair (items message mesh_room m) (items (block n) b b) header_size s i)
      ∙ ap (λ (w : Bool). eqb (format_in s) format_magic && w)
      (λ i.
      formed_items message message_size message_size_lem mesh_room m header_size s hm i
      && (formed_items (block n) block_size (block_size_lem n) b b (header_size + mesh_room * message.size) s (le_refl b)
      ∙ (λ j. all_below b (λ k. (block n).well_formed (slice (header_size + mesh_room * message_size_lem j + block_size * k) block_size s)))) i)
