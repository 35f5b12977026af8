-- What the passes over the bytes decide is soundness: the loops a turn at a time, and one sum for each block, which counts owners and tokens.
use Prim.Native.Nat.{ℕ, zero, suc, ◌+◌, ◌*◌, ◌≤◌, ◌<◌}
use native.Mathlib.Nat.{zero-add}
use native.Mathlib.Omega.{arith}
use mathlib.Core.Path.{◌≡◌, refl, sym, ap, ◌∙◌, subst}
use mathlib.Core.Bool.{Bool, true, false, cond, ◌&&◌, and_comm, and_assoc}
use mathlib.Core.List.{List}
use lib.ListN.{length, get_or, set, replicate, get_or-replicate}
use lib.Dec.{eqb, leb}
use borrow.Author.Tests.{eq-eqb, ne_eqb, eqb-true, le-leb, leb-true, ltb-true}
use Rattle.spec_base.specs.Folds.{all_below, sum_below, sum, all}
use Rattle.spec_base.specs.Number.{Bytes}
use Rattle.spec_base.specs.Layout.{slice}
use Rattle.spec_base.proofs.Tests.{and_l, and_r, and_of, and_left, and_right, and_known, same_test, one_lt, eqb_one, cond_of}
use Rattle.spec_base.proofs.Folds.{below_of, below_at, below_same, at_set, every_below, sum_next, sum_most, sum_below_lem, sum_short, sum_scaled}
use Rattle.spec_arbiter.specs.Claims.{sound_claims}
use Rattle.spec_rack.specs.RecordLayout.{claims, claims_at_offset as claimsBytes, message_offset, block_offset, owner_offset, valid_offset, dirty_offset, claims_offset, words_offset, words_size, Tokens, owner_of, to_tokens, words, to_cell, message, token_lanes, block, record_length, layout_of, get, format_magic, format_in, block_size, blocks_in, boards_in, claims_size, lanes_size, message_size, messages_in, tokens_in, target_offset, message_block_offset, message_plain_offset, message_owner_offset, data_offset, message_dirty_offset, message_words_offset, lane_size}
use Rattle.spec_rack.specs.declared.Owner.{Owner}
use Rattle.spec_rack.specs.declared.Message.{Message}
use Rattle.spec_rack.specs.Rack.{Cell, mesh_limit, present, owners, held, carried, no_cell, no_message, block_at, cell_at, message_at, tokens_of, owners_of}
use Rattle.spec_rack.specs.Soundness.{sizes, sound_cell, sound_message, sound_block, sound, well_formed_record, sound_bytes}
use Rattle.spec_rack.proofs.GetPut.{Formed, formed_of, well_formed_lem, boards_is, blocks_is, tokens_is, mesh_is}
use Rattle.record.proofs.FieldOffsets.{cells_many, tokens_at, words_at, claims_at_lem, message_at_lem, message_stands}
use Rattle.record.proofs.FieldBytes.{words_eight, present_is, message_read, message_formed, block_formed, record_formed}
use Rattle.record_lanes.specs.Lanes.{plain_at, owner_at, valid_at, dirty_at, sound_lane, sound_lanes, unused_lanes_empty, lane_sum}
use Rattle.record_message.specs.Messages.{token_sum_at, sound_message_at}
use Rattle.record_message.proofs.MessageLaws.{message_block}
use Rattle.record_soundness.specs.Decision.{header_sound, carried_sum_at, sum_in_flight, tokens_total, sound_claims_at, sound_block_at}
use Rattle.record_lanes.proofs.LaneLaws.{lane_cell, Lanes, lanes_facts, lanes_form, lanes_fine, lanes_same}

-- ---- the weights

weight_most : (s : List ℕ) → Bytes s → (at : ℕ) → token_sum_at s at ≤ 16711935
weight_most s h at = omega (arith, h at, h (at + 1))

module _ (s : List ℕ) where
  pub flying_none : (k : ℕ) → sum_in_flight s 0 k ≡ 0
  unfolding sum_in_flight sum_below
  flying_none k = refl

  pub flying_next : (i k : ℕ) → sum_in_flight s (i + 1) k ≡ carried_sum_at s k (message_offset i) + sum_in_flight s i k
  unfolding sum_in_flight
  flying_next i k = sum_next (λ j. carried_sum_at s k (message_offset j)) i

  module _ (h : Bytes s) where
    pub flying_most : (m k : ℕ) → sum_in_flight s m k ≤ m * 16711935
    unfolding sum_in_flight
    flying_most m k =
        sum_most (λ i. carried_sum_at s k (message_offset i)) 16711935 m
        (λ i l. cond_of (λ w. w ≤ 16711935) (eqb (get_or s (message_offset i + message_block_offset) 0) k) (token_sum_at s (message_offset i + message_plain_offset)) 0 (weight_most s h (message_offset i + message_plain_offset)) (omega arith))

  -- the sums before the first message
  pub sums_start : (k : ℕ) → k < 32 → get_or (replicate 32 0) k 0 ≡ sum_in_flight s 0 k
  sums_start k l = get_or-replicate {A = ℕ} 32 k 0 0 l ∙ sym (flying_none k)

  -- a sound message has a sum for its block
  pub block_known : (at n b block : ℕ) (test : Bool) → block ≡ get_or s (at + message_block_offset) 0 → test ≡ sound_message_at n b s at → test ≡ true → b ≤ 32 → block < 32
  block_known at n b block test e f h l = omega (arith, e, message_block s at n b (sym f ∙ h))

  -- the sums after one message more
  pub sums_turn : (sums : List ℕ) (i b v : ℕ) → length sums ≡ 32 → b < 32 → b ≡ get_or s (message_offset i + message_block_offset) 0 → v ≡ token_sum_at s (message_offset i + message_plain_offset) + get_or sums b 0
      → ((k : ℕ) → k < 32 → get_or sums k 0 ≡ sum_in_flight s i k) → (k : ℕ) → k < 32 → get_or (set sums b v) k 0 ≡ sum_in_flight s (i + 1) k
  sums_turn sums i b v n l eb ev f k q =
      at_set (λ w. w ≡ sum_in_flight s (i + 1) k) sums b k v 0 (omega arith)
      (λ (e : k ≡ b).
      ev ∙ (λ j. token_sum_at s (message_offset i + message_plain_offset) + (ap (λ (z : ℕ). get_or sums z 0) (sym e) ∙ f k q) j)
      ∙ ap (λ (t : Bool). cond t (token_sum_at s (message_offset i + message_plain_offset)) 0 + sum_in_flight s i k) (sym (eq-eqb (get_or s (message_offset i + message_block_offset) 0) k (sym eb ∙ sym e)))
      ∙ sym (flying_next i k))
      (λ (ne : k ≡ b → ⊥).
      f k q
      ∙ sym (zero-add (sum_in_flight s i k))
      ∙ ap (λ (t : Bool). cond t (token_sum_at s (message_offset i + message_plain_offset)) 0 + sum_in_flight s i k) (sym (ne_eqb (get_or s (message_offset i + message_block_offset) 0) k (λ e. ne (sym e ∙ sym eb))))
      ∙ sym (flying_next i k))

-- ---- a sum of weights is a sum of tokens and a sum of owners

sums_split : (w f g : ℕ → ℕ) (k : ℕ) → ((i : ℕ) → i < k → w i ≡ f i + 65535 * g i) → sum_below k w ≡ sum_below k f + 65535 * sum_below k g
unfolding sum_below
sums_split w f g zero e = refl
sums_split w f g (suc k) e = omega (arith, e k (omega arith), sums_split w f g k (λ i l. e i (omega arith)))

-- of the elements of a list, of which each has fewer than 257 tokens
module _ {A : Type 0} (d : A) (l : List A) (n : ℕ) (len : length l ≡ n) (f g : A → ℕ) where
  list_split : (w : ℕ → ℕ) → ((i : ℕ) → i < n → w i ≡ f (get_or l i d) + 65535 * g (get_or l i d)) → sum_below n w ≡ sum f l + 65535 * sum g l
  list_split w e =
      sums_split w (λ i. f (get_or l i d)) (λ i. g (get_or l i d)) n e
      ∙ (λ i. (ap (λ (k : ℕ). sum_below k (λ j. f (get_or l j d))) (sym len) ∙ sym (sum_below_lem d f l)) i
      + 65535 * (ap (λ (k : ℕ). sum_below k (λ j. g (get_or l j d))) (sym len) ∙ sym (sum_below_lem d g l)) i)

  list_most : ((i : ℕ) → i < n → f (get_or l i d) ≤ 256) → sum f l ≤ n * 256
  list_most e =
      subst (λ (v : ℕ). v ≤ n * 256) (ap (λ (k : ℕ). sum_below k (λ j. f (get_or l j d))) (sym len) ∙ sym (sum_below_lem d f l))
      (sum_most (λ i. f (get_or l i d)) 256 n e)

-- the two halves
halves : (v w a x b y t : ℕ) → v ≡ a + 65535 * x → w ≡ b + 65535 * y → a + b < 65535 → t < 256
    → eqb (v + w) (t + 65535) ≡ (eqb (a + b) t && eqb (x + y) 1)
halves v w a x b y t p q l h =
    same_test (eqb (v + w) (t + 65535)) (eqb (a + b) t && eqb (x + y) 1)
    (λ e. and_of (eqb (a + b) t) (eqb (x + y) 1) (eq-eqb (a + b) t (omega (arith, eqb-true (v + w) (t + 65535) e))) (eq-eqb (x + y) 1 (omega (arith, eqb-true (v + w) (t + 65535) e))))
    (λ e. eq-eqb (v + w) (t + 65535) (omega (arith, eqb-true (a + b) t (and_l (eqb (a + b) t) (eqb (x + y) 1) e), eqb-true (x + y) 1 (and_r (eqb (a + b) t) (eqb (x + y) 1) e))))

-- ---- a record of the layout's form

-- a plain count and an owner's byte by their weight
marked_weight : (p o d : ℕ) → o < 2
    → p + o * 65536 ≡ (p + owners (owner_of (eqb o 1) (eqb d 1))) + 65535 * owners (owner_of (eqb o 1) (eqb d 1))
marked_weight p o d h = rw present_is (omega (arith, eqb_one o h))

chosen_weight : (t : Bool) (w a x : ℕ) → w ≡ a + 65535 * x → cond t w 0 ≡ cond t a 0 + 65535 * cond t x 0
chosen_weight true w a x e = e
chosen_weight false w a x e = refl

module _ (s : List ℕ) (ok : Formed s) where
  abbrev n : ℕ
  n = boards_in s

  abbrev b : ℕ
  b = blocks_in s

  abbrev t : ℕ
  t = tokens_in s

  abbrev m : ℕ
  m = messages_in s

  -- ---- messages

  messages_same : all (sound_message (get s).boards (length (get s).blocks)) (get s).mesh ≡ all_below m (λ i. sound_message_at n b s (message_offset i))
  unfolding sound_message_at
  messages_same =
      every_below no_message (sound_message (get s).boards (length (get s).blocks)) (get s).mesh
      ∙ (λ i. all_below (mesh_is s i) (λ j. sound_message (boards_is s i) (blocks_is s i) (message_at (get s) j)))
      ∙ below_same (λ j. sound_message n b (message_at (get s) j)) (λ j. sound_message_at n b s (message_offset j)) m
      (λ j l. ap (sound_message n b) (message_at_lem s ok j l)
      ∙ sym (and_known (message.well_formed (slice (message_offset j) message_size s)) (sound_message n b (message.read (slice (message_offset j) message_size s))) (message_stands s ok j l).well_formed))

  -- of the message at a place: its block, tokens and owners
  module _ (k i : ℕ) (l : i < m) where
    abbrev at : ℕ
    at = message_offset i

    message_bytes : message_at (get s) i
        ≡ record {
          header =
              record {
                sender = get_or s at 0;
                target = get_or s (at + target_offset) 0;
                block = get_or s (at + message_block_offset) 0;
                plain = get_or s (at + message_plain_offset) 0;
                owner = owner_of (eqb (get_or s (at + message_owner_offset) 0) 1) (eqb (get_or s (at + message_dirty_offset) 0) 1);
                «data» = eqb (get_or s (at + data_offset) 0) 1;
              };
          words = words.read (slice (at + message_words_offset) words_size s);
        }
    message_bytes = message_at_lem s ok i l ∙ message_read s at

    abbrev owner_bytes : Owner
    owner_bytes = owner_of (eqb (get_or s (at + message_owner_offset) 0) 1) (eqb (get_or s (at + message_dirty_offset) 0) 1)

    owner_low : get_or s (at + message_owner_offset) 0 < 2
    owner_low =
        let q = sym (message_formed s at) ∙ (message_stands s ok i l).well_formed in
        ltb-true (get_or s (at + message_owner_offset) 0) 2 (search (and_l, and_r, q))

    message_weight : carried_sum_at s k at ≡ cond (eqb (message_at (get s) i).header.block k) (carried (message_at (get s) i)) 0 + 65535 * cond (eqb (message_at (get s) i).header.block k) (owners (message_at (get s) i).header.owner) 0
    message_weight =
        subst (λ (x : Message). carried_sum_at s k at ≡ cond (eqb x.header.block k) (carried x) 0 + 65535 * cond (eqb x.header.block k) (owners x.header.owner) 0) (sym message_bytes)
        (chosen_weight (eqb (get_or s (at + message_block_offset) 0) k) (token_sum_at s (at + message_plain_offset)) (get_or s (at + message_plain_offset) 0 + owners owner_bytes) (owners owner_bytes)
        (ap (λ (j : ℕ). get_or s (at + message_plain_offset) 0 + get_or s j 0 * 65536) (let e : at + 3 + 1 ≡ at + 4 = omega arith in e)
        ∙ marked_weight (get_or s (at + message_plain_offset) 0) (get_or s (at + message_owner_offset) 0) (get_or s (at + message_dirty_offset) 0) owner_low))

    message_most : cond (eqb (message_at (get s) i).header.block k) (carried (message_at (get s) i)) 0 ≤ 256
    message_most =
        subst (λ (x : Message). cond (eqb x.header.block k) (carried x) 0 ≤ 256) (sym message_bytes)
        (cond_of (λ w. w ≤ 256) (eqb (get_or s (at + message_block_offset) 0) k) (get_or s (at + message_plain_offset) 0 + owners owner_bytes) 0
        (omega (arith, ok.bytes (at + message_plain_offset), one_lt (present owner_bytes))) (omega arith))

  -- ---- cells

  module _ (k : ℕ) (hk : k < b) where
    abbrev home : ℕ
    home = block_offset k

    block_form : ((token_lanes n).well_formed (slice home lanes_size s) && (claims n).well_formed (slice (home + claims_offset) claims_size s)) ≡ true
    block_form =
        sym (block_formed s n home ok.boards)
        ∙ below_at (λ j. (block n).well_formed (slice (block_offset j) block_size s)) b
        (and_r (all_below m (λ i. message.well_formed (slice (message_offset i) message_size s))) (all_below b (λ j. (block n).well_formed (slice (block_offset j) block_size s))) (and_r (eqb (format_in s) format_magic) _ (sym (record_formed s ok.messages) ∙ ok.well_formed))) k hk

    lanes : Lanes n home s ok.boards
    lanes = lanes_facts n home s ok.boards (and_l ((token_lanes n).well_formed (slice home lanes_size s)) ((claims n).well_formed (slice (home + claims_offset) claims_size s)) block_form)

    cells_length : length (block_at (get s) k).cells ≡ suc n
    cells_length = cells_many s ok k hk

    module _ (c : ℕ) (hc : c < suc n) where
      known_cell : c ≤ n
      known_cell = omega arith

      abbrev owner_of_cell : Owner
      owner_of_cell = owner_of (eqb (owner_at s home c) 1) (eqb (dirty_at s home c) 1)

      cell_bytes : cell_at (get s) k c
          ≡ record {
            plain = plain_at s home c;
            owner = owner_of (eqb (owner_at s home c) 1) (eqb (dirty_at s home c) 1);
            valid = eqb (valid_at s home c) 1;
            words = (cell_at (get s) k c).words;
          }
      cell_bytes =
          ap (λ (v : Tokens). to_cell (v, (cell_at (get s) k c).words))
          (tokens_at s ok k c hk known_cell (home + c) refl
          ∙ (λ i. to_tokens (
            get_or s (home + c) 0,
            (
              eqb (get_or s (let e : home + c + owner_offset ≡ home + owner_offset + c = omega arith in e i) 0) 1,
              (
                eqb (get_or s (let e : home + c + valid_offset ≡ home + valid_offset + c = omega arith in e i) 0) 1,
                eqb (get_or s (let e : home + c + dirty_offset ≡ home + dirty_offset + c = omega arith in e i) 0) 1,
              ),
            ),
          )))

      cell_weight : plain_at s home c + owner_at s home c * 65536 ≡ held (cell_at (get s) k c) + 65535 * owners (cell_at (get s) k c).owner
      cell_weight =
          subst (λ (x : Cell). plain_at s home c + owner_at s home c * 65536 ≡ held x + 65535 * owners x.owner) (sym cell_bytes)
          (marked_weight (plain_at s home c) (owner_at s home c) (dirty_at s home c) (lanes.owners c known_cell))

      cell_most : held (cell_at (get s) k c) ≤ 256
      cell_most =
          subst (λ (x : Cell). held x ≤ 256) (sym cell_bytes) (omega (arith, ok.bytes (home + c), one_lt (present owner_of_cell)))

      cell_same : sound_cell (cell_at (get s) k c) ≡ sound_lane s home c
      cell_same =
          ap sound_cell cell_bytes
          ∙ lane_cell (plain_at s home c) (owner_at s home c) (valid_at s home c) (dirty_at s home c) (cell_at (get s) k c).words (lanes.owners c known_cell)
          (lanes.valids c known_cell) (lanes.dirties c known_cell)
          (ap length (words_at s ok k c hk known_cell (home + words_offset + words_size * c) refl) ∙ words_eight (slice (home + words_offset + words_size * c) 32 s))

    cells_same : all sound_cell (block_at (get s) k).cells ≡ (sound_lanes s home && unused_lanes_empty n s home)
    cells_same =
        every_below no_cell sound_cell (block_at (get s) k).cells
        ∙ ap (λ (z : ℕ). all_below z (λ c. sound_cell (cell_at (get s) k c))) cells_length
        ∙ below_same (λ c. sound_cell (cell_at (get s) k c)) (sound_lane s home) (suc n) cell_same
        ∙ lanes_same n home s ok.boards lanes

    -- ---- the sum of a block

    resting : lane_sum s home + lane_sum s (home + owner_offset) * 65536 ≡ sum_below (suc n) (λ c. plain_at s home c + owner_at s home c * 65536)
    unfolding lane_sum
    resting =
        (λ i.
        sum_short (plain_at s home) (suc n) lane_size (omega (arith, ok.boards)) (λ j l u. lanes.no_plain j l u) i
        + sum_short (owner_at s home) (suc n) lane_size (omega (arith, ok.boards)) (λ j l u. lanes.no_owner j l u) i * 65536)
        ∙ sum_scaled (plain_at s home) (owner_at s home) 65536 (suc n)

    weight_same : tokens_total t s home (sum_in_flight s m k) ≡ (eqb (tokens_of (get s) k) t && eqb (owners_of (get s) k) 1)
    unfolding sum_in_flight
    weight_same =
        let cs : List Cell = (block_at (get s) k).cells in
        let ms : List Message = (get s).mesh in
        let g : Message → ℕ = λ x. cond (eqb x.header.block k) (carried x) 0 in
        let o : Message → ℕ = λ x. cond (eqb x.header.block k) (owners x.header.owner) 0 in
        let few : sum held cs ≤ suc n * 256 = list_most no_cell cs (suc n) cells_length held (λ x. owners x.owner) cell_most in
        let some : sum g ms ≤ m * 256 = list_most no_message ms m (mesh_is s) g o (message_most k) in
        halves (lane_sum s home + lane_sum s (home + owner_offset) * 65536) (sum_in_flight s m k) (sum held cs) (sum (λ x. owners x.owner) cs) (sum g ms) (sum o ms) t
        (resting ∙ list_split no_cell cs (suc n) cells_length held (λ x. owners x.owner) (λ c. plain_at s home c + owner_at s home c * 65536) cell_weight)
        (list_split no_message ms m (mesh_is s) g o (λ i. carried_sum_at s k (message_offset i)) (message_weight k))
        (omega (arith, ok.boards, ok.messages)) (ok.bytes 2)

    block_same : sound_block (get s) k ≡ sound_block_at n t s home (sum_in_flight s m k)
    unfolding sound_block_at
    block_same =
        (λ i.
        eqb (cells_length i) (suc (boards_is s i)) && eqb (tokens_of (get s) k) (tokens_is s i) && eqb (owners_of (get s) k) 1
        && cells_same i && sound_claims (boards_is s i) (claims_at_lem s ok k hk i))
        ∙ turned (eqb (suc n) (suc n)) (eqb (tokens_of (get s) k) t) (eqb (owners_of (get s) k) 1) (sound_lanes s home && unused_lanes_empty n s home)
        (sound_claims n (claimsBytes n (home + claims_offset) s)) ((claims n).well_formed (slice (home + claims_offset) claims_size s)) (eq-eqb (suc n) (suc n) refl)
        (and_r ((token_lanes n).well_formed (slice home lanes_size s)) ((claims n).well_formed (slice (home + claims_offset) claims_size s)) block_form)
        ∙ ap (λ (w : Bool). (w && ((claims n).well_formed (slice (home + claims_offset) claims_size s) && sound_claims n (claimsBytes n (home + claims_offset) s))) && (sound_lanes s home && unused_lanes_empty n s home)) (sym weight_same)
      where
        turned : (e a o c x f : Bool) → e ≡ true → f ≡ true → (e && a && o && c && x) ≡ (((a && o) && (f && x)) && c)
        turned e a o c x f h g =
            (λ i. h i && a && o && c && x)
            ∙ and_assoc (a && o) c x ∙ ap (λ (w : Bool). (a && o) && w) (and_comm c x) ∙ sym (and_assoc (a && o) x c)
            ∙ (λ i. ((a && o) && (sym g i && x)) && c)

  -- ---- the whole

  decided : sound (get s) ≡ (sizes n b t && leb m 64 && all_below m (λ i. sound_message_at n b s (message_offset i)) && all_below b (λ k. sound_block_at n t s (block_offset k) (sum_in_flight s m k)))
  unfolding sound mesh_limit
  decided = λ i.
      sizes (boards_is s i) (blocks_is s i) (tokens_is s i) && leb (mesh_is s i) 64 && messages_same i
      && (ap (λ (z : ℕ). all_below z (sound_block (get s))) (blocks_is s)
      ∙ below_same (sound_block (get s)) (λ k. sound_block_at n t s (block_offset k) (sum_in_flight s m k)) b block_same) i

-- the lanes of each block of a well-formed record
pub lanes_of : (s : List ℕ) (ok : Formed s) (k : ℕ) → k < blocks_in s → Lanes (boards_in s) (block_offset k) s ok.boards
lanes_of s ok k hk = lanes s ok k hk

module _ (s : List ℕ) where
  -- sizes in range and few messages
  abbrev pub header_fine : Bool
  header_fine = sizes (boards_in s) (blocks_in s) (tokens_in s) && leb (messages_in s) 64

  abbrev pub format_known : Bool
  format_known = eqb (format_in s) format_magic

  abbrev pub mesh_fine : Bool
  mesh_fine = all_below (messages_in s) (λ i. sound_message_at (boards_in s) (blocks_in s) s (message_offset i))

  abbrev pub blocks_fine : Bool
  blocks_fine = all_below (blocks_in s) (λ k. sound_block_at (boards_in s) (tokens_in s) s (block_offset k) (sum_in_flight s (messages_in s) k))

  abbrev long_enough : Bool
  long_enough = leb (record_length (blocks_in s)) (length s)

  pub few_boards : header_fine ≡ true → boards_in s ≤ 15
  few_boards q = leb-true (boards_in s) 15 (search (and_l, and_r) depth 9)

  pub few_blocks : header_fine ≡ true → blocks_in s ≤ 32
  few_blocks q = leb-true (blocks_in s) 32 (search (and_l, and_r) depth 9)

  pub few_messages : header_fine ≡ true → messages_in s ≤ 64
  few_messages q = leb-true (messages_in s) 64 (search (and_l, and_r) depth 9)

  -- the sizes of the rack that the bytes hold are those of the bytes
  header_of : sound (get s) ≡ true → header_fine ≡ true
  unfolding sound mesh_limit
  header_of q = (λ i. sizes (sym (boards_is s) i) (sym (blocks_is s) i) (sym (tokens_is s) i) && leb (sym (mesh_is s) i) 64) ∙ and_l _ _ (and_l _ _ q)

  form_of : header_fine ≡ true → format_known ≡ true → mesh_fine ≡ true → blocks_fine ≡ true → (layout_of s).well_formed s ≡ true
  unfolding sound_message_at sound_block_at
  form_of q f a b =
      let n : ℕ = boards_in s in
      record_formed s (few_messages q)
      ∙ and_known format_known _ f
      ∙ and_of (all_below (messages_in s) (λ i. message.well_formed (slice (message_offset i) message_size s))) (all_below (blocks_in s) (λ k. (block n).well_formed (slice (block_offset k) block_size s)))
      (below_of (λ i. message.well_formed (slice (message_offset i) message_size s)) (messages_in s)
      (λ i l. and_l (message.well_formed (slice (message_offset i) message_size s)) _ (below_at (λ j. sound_message_at n (blocks_in s) s (message_offset j)) (messages_in s) a i l)))
      (below_of (λ k. (block n).well_formed (slice (block_offset k) block_size s)) (blocks_in s)
      (λ k l.
      let home : ℕ = block_offset k in
      let T : Bool = tokens_total (tokens_in s) s home (sum_in_flight s (messages_in s) k) in
      let C : Bool = sound_claims_at n s home in
      let all : ((T && C) && (sound_lanes s home && unused_lanes_empty n s home)) ≡ true = below_at (λ j. sound_block_at n (tokens_in s) s (block_offset j) (sum_in_flight s (messages_in s) j)) (blocks_in s) b k l in
      let fine : (sound_lanes s home && unused_lanes_empty n s home) ≡ true = and_r (T && C) (sound_lanes s home && unused_lanes_empty n s home) all in
      let sets : C ≡ true = and_r T C (and_l (T && C) (sound_lanes s home && unused_lanes_empty n s home) all) in
      block_formed s n home (few_boards q)
      ∙ and_of ((token_lanes n).well_formed (slice home lanes_size s)) ((claims n).well_formed (slice (home + claims_offset) claims_size s))
      (lanes_form n home s (few_boards q) (lanes_fine n home s (few_boards q) (and_l (sound_lanes s home) (unused_lanes_empty n s home) fine) (and_r (sound_lanes s home) (unused_lanes_empty n s home) fine)))
      (and_l ((claims n).well_formed (slice (home + claims_offset) claims_size s)) (sound_claims n (claimsBytes n (home + claims_offset) s)) sets)))

  module _ (h : Bytes s) where
    abbrev rest_sound : Bool
    rest_sound = header_fine && mesh_fine && blocks_fine

    sound_is : sound_bytes s ≡ (long_enough && (format_known && rest_sound))
    unfolding sound_bytes
    sound_is =
        same_test (sound_bytes s) (long_enough && (format_known && rest_sound))
        (λ q.
        let e : header_fine ≡ true = header_of (and_r (well_formed_record s) (sound (get s)) q) in
        let ok : Formed s = formed_of s h (few_boards e) (few_messages e) (and_l (well_formed_record s) (sound (get s)) q) in
        and_of long_enough (format_known && rest_sound) (le-leb (record_length (blocks_in s)) (length s) ok.room)
        (and_of format_known rest_sound (and_l format_known _ (sym (record_formed s ok.messages) ∙ ok.well_formed)) (sym (decided s ok) ∙ and_r (well_formed_record s) (sound (get s)) q)))
        (λ q.
        let both : (format_known && rest_sound) ≡ true = and_r long_enough (format_known && rest_sound) q in
        let fine : rest_sound ≡ true = and_r format_known rest_sound both in
        let e : header_fine ≡ true = and_l header_fine mesh_fine (and_l (header_fine && mesh_fine) blocks_fine fine) in
        let ok : Formed s =
        record {
          bytes = h;
          boards = few_boards e;
          messages = few_messages e;
          room = leb-true (record_length (blocks_in s)) (length s) (and_l long_enough (format_known && rest_sound) q);
          well_formed = form_of e (and_l format_known rest_sound both) (and_r header_fine mesh_fine (and_l (header_fine && mesh_fine) blocks_fine fine)) (and_r (header_fine && mesh_fine) blocks_fine fine);
        } in
        and_of (well_formed_record s) (sound (get s)) (well_formed_lem s ok) (decided s ok ∙ fine))

    -- ---- as the code asks

    asked : sound_bytes s ≡ (header_sound s && (mesh_fine && blocks_fine))
    asked = sound_is ∙ in_order header_fine format_known long_enough mesh_fine blocks_fine
      where
        in_order : (h f l m b : Bool) → (l && (f && (h && m && b))) ≡ ((h && f && l) && (m && b))
        in_order true true true m b = refl
        in_order true true false m b = refl
        in_order true false true m b = refl
        in_order true false false m b = refl
        in_order false true true m b = refl
        in_order false true false m b = refl
        in_order false false true m b = refl
        in_order false false false m b = refl

    pub unsound_header : header_sound s ≡ false → sound_bytes s ≡ false
    unsound_header e = asked ∙ and_left (header_sound s) (mesh_fine && blocks_fine) e

    pub unsound_mesh : mesh_fine ≡ false → sound_bytes s ≡ false
    unsound_mesh e = asked ∙ and_right (header_sound s) (mesh_fine && blocks_fine) (and_left mesh_fine blocks_fine e)

    -- with the sums of the mesh
    pub sound_blocks : header_sound s ≡ true → mesh_fine ≡ true → (sums : List ℕ) → ((k : ℕ) → k < 32 → get_or sums k 0 ≡ sum_in_flight s (messages_in s) k)
        → all_below (blocks_in s) (λ k. sound_block_at (boards_in s) (tokens_in s) s (block_offset k) (get_or sums k 0)) ≡ sound_bytes s
    sound_blocks e a sums f =
        let few : blocks_in s ≤ 32 = few_blocks (and_l header_fine format_known (and_l (header_fine && format_known) long_enough e)) in
        below_same (λ k. sound_block_at (boards_in s) (tokens_in s) s (block_offset k) (get_or sums k 0)) (λ k. sound_block_at (boards_in s) (tokens_in s) s (block_offset k) (sum_in_flight s (messages_in s) k)) (blocks_in s)
        (λ k z. ap (sound_block_at (boards_in s) (tokens_in s) s (block_offset k)) (f k (omega arith)))
        ∙ sym (asked ∙ and_known (header_sound s) (mesh_fine && blocks_fine) e ∙ and_known mesh_fine blocks_fine a)
