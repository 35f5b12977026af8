-- Where each figure of the rack stands in a record, by numbers: how it is read, and what bytes change with it.
use Prim.Native.Nat.{ℕ, zero, suc, ◌+◌, ◌*◌, ◌-◌, ◌≤◌, ◌<◌}
use native.Mathlib.Nat.{le_trans, le_of_eq, mul-le-mul_right, not-suc-le-zero, le_of_suc-le-suc}
use native.Mathlib.Omega.{arith}
use mathlib.Core.Path.{◌≡◌, sym, ap, ◌∙◌, subst}
use mathlib.Core.List.{List, [], ◌∷◌, ◌++◌}
use lib.ListN.{length, get_or, set, take, drop, length-append, length-set}
use lib.Seq.{length-take-le, set-append_left, set-get_or}
use Rattle.spec_base.specs.Folds.{remove_at}
use Rattle.spec_base.specs.Layout.{Layout, slice, modify_at, pair, items, read_items, write_items}
use Rattle.spec_base.proofs.Folds.{all_at}
use Rattle.spec_base.proofs.Parts.{over_over, length_part, part_part}
use Rattle.spec_base.proofs.Laws.{Stands, StandItems}
use Rattle.spec_base.proofs.Places.{Place, within, item, over_in}
use Rattle.spec_base.proofs.Copies.{items_more, items_removed}
use Rattle.spec_arbiter.specs.Claims.{Claims}
use Rattle.spec_rack.specs.RecordLayout.{claims, block_offset, cell_words_offset, claims_offset, words_offset, words_size, Tokens, from_tokens, lanes_at, set_lanes, words, to_cell, cell_tokens, message, block, header, rack_layout, layout_of, get, put, block_size, blocks_in, boards_in, claims_size, mesh_size, message_count_offset, message_offset, message_size, messages_in, tokens_in, header_size, mesh_room}
use Rattle.spec_rack.specs.declared.Message.{Message}
use Rattle.spec_rack.specs.Rack.{Cell, Block, Rack, no_cell, no_block, no_message, block_at, cell_at, claims_at, message_at}
use Rattle.spec_rack.specs.Rules.{with_claims}
use Rattle.record.specs.Changes.{with_mesh, replace_cell}
use Rattle.spec_rack.proofs.LayoutParts.{BlockFits, words_size_lem, claims_size_lem, message_size_lem, header_size_lem, message_lawful, message_full, header_lawful}
use Rattle.spec_rack.proofs.GetPut.{token_bytes_in, lanes_in, count_write, mesh_place, claims_place, block_place, words_place, with_words, tokens_spread, cell_spread, Formed, law, boards_is, blocks_is, tokens_is, mesh_is, put_get, stands, header_stands, read_figure, write_figure, stands_figure, read_spread, write_spread, mesh_items, mesh_stands, mesh_unchanged}

-- the words of a component, in any bytes whose header has sizes that the layout has room for
pub words_look : (s : List ℕ) (b c : ℕ) → boards_in s ≤ 15 → messages_in s ≤ 64 → b < blocks_in s → c ≤ boards_in s → (cell_at (get s) b c).words ≡ words.read (slice (cell_words_offset b c) words_size s)
unfolding get
words_look s b c hn hm hb hc =
    (within (block_place (boards_in s) (blocks_in s) (messages_in s) hn hm b hb) (words_place (boards_in s) hn c hc)).looks s
    ∙ (λ i. words.read (slice (let q : block_offset b + (words_offset + words_size * c) ≡ cell_words_offset b c = omega arith in q i) (words_size_lem i) s))

-- a rack with the cell that it has
same_cell : (r : Rack) (b c : ℕ) → replace_cell r b c (cell_at r b c) ≡ r
same_cell r b c = λ i. record {
  boards = r.boards;
  tokens = r.tokens;
  blocks =
      (ap (λ (l : List Cell). set r.blocks b (record { cells = l; claims = (block_at r b).claims })) (set-get_or (block_at r b).cells c no_cell)
      ∙ set-get_or r.blocks b no_block) i;
  mesh = r.mesh;
}

module _ (s : List ℕ) (ok : Formed s) where
  -- ---- what a component has of a block: `at` is the place of its plain count

  module _ (b c : ℕ) (hb : b < blocks_in s) (hc : c ≤ boards_in s) (at : ℕ) (e : at ≡ block_offset b + c) where
    known : c ≤ 15
    known = omega (arith, ok.boards)

    inside : block_offset b + block_size ≤ length s
    inside = omega (arith, ok.room)

    -- four bytes, one in each lane
    lanes_there : (v : Tokens) → modify_at (block_offset b) block_size (set_lanes c v) s ≡ set_lanes at v s
    lanes_there v = token_bytes_in (block_offset b) block_size c s (omega (arith, known)) (from_tokens v) inside ∙ ap (λ (k : ℕ). set_lanes k v s) (sym e)

    pub tokens_at : cell_tokens (cell_at (get s) b c) ≡ lanes_at at s
    tokens_at =
        read_spread s ok (tokens_spread (boards_in s) ok.boards c hc) b hb
        ∙ lanes_in (block_offset b) block_size c s (omega (arith, known))
        ∙ ap (λ (k : ℕ). lanes_at k s) (sym e)

    -- other tokens change four bytes
    pub tokens_put : (v : Tokens) → put (replace_cell (get s) b c (to_cell (v, (cell_at (get s) b c).words))) s ≡ set_lanes at v s
    tokens_put v = write_spread s ok (tokens_spread (boards_in s) ok.boards c hc) b hb v ∙ lanes_there v

    -- other tokens and words change those and 32 bytes
    pub cell_put : (v : Tokens) (ws : List ℕ) → put (replace_cell (get s) b c (to_cell (v, ws))) s
        ≡ modify_at (block_offset b + (words_offset + words_size * c)) words_size (words.write ws) (set_lanes at v s)
    cell_put v ws =
        write_spread s ok (cell_spread (boards_in s) ok.boards c hc) b hb (v, ws)
        ∙ sym (over_in (words.write ws) (set_lanes c v) (block_offset b) block_size (words_offset + words_size * c) words_size s (simp length-set) inside (omega (arith, known)))
        ∙ ap (modify_at (block_offset b + (words_offset + words_size * c)) words_size (words.write ws)) (lanes_there v)

    -- the tokens that are there change nothing
    pub tokens_same : set_lanes at (cell_tokens (cell_at (get s) b c)) s ≡ s
    tokens_same =
        sym (tokens_put (cell_tokens (cell_at (get s) b c)))
        ∙ ap (λ (r : Rack). put r s) (same_cell (get s) b c)
        ∙ put_get s ok

  -- as many cells as components
  pub cells_many : (b : ℕ) → b < blocks_in s → length (block_at (get s) b).cells ≡ suc (boards_in s)
  unfolding get
  cells_many b hb =
      (all_at (BlockFits (boards_in s)) (get s).blocks ((law s ok).holds s ok.bytes).1.1.1 b no_block (omega (arith, blocks_is s))).0.0

  -- ---- the words of a component, and one of them

  module _ (b c : ℕ) (hb : b < blocks_in s) (hc : c ≤ boards_in s) where
    pub words_at : (at : ℕ) → at ≡ cell_words_offset b c → (cell_at (get s) b c).words ≡ words.read (slice at words_size s)
    words_at at e = words_look s b c ok.boards ok.messages hb hc ∙ ap (λ (k : ℕ). words.read (slice k words_size s)) (sym e)

    -- other words change 32 bytes
    pub words_put : (ws : List ℕ) → put (replace_cell (get s) b c (to_cell (cell_tokens (cell_at (get s) b c), ws))) s ≡ modify_at (cell_words_offset b c) words_size (words.write ws) s
    words_put ws =
        write_figure s ok (words_place (boards_in s) ok.boards c hc) b hb ws
        ∙ (λ i. modify_at (let q : block_offset b + (words_offset + words_size * c) ≡ cell_words_offset b c = omega arith in q i) (words_size_lem i) (words.write ws) s)

    -- a part of them
    module _ {A : Type 0} {M : Layout A} {p : ℕ} {look : List ℕ → A} {change : A → List ℕ → List ℕ} (P : Place words M p look change) (at : ℕ) (e : at ≡ cell_words_offset b c + p) where
      there : Place (block (boards_in s)) M (words_offset + words_size * c + p) (λ k. look (get_or k.cells c no_cell).words) (λ v k. with_words c (change v (get_or k.cells c no_cell).words) k)
      there = within (words_place (boards_in s) ok.boards c hc) P

      pub read_words : M.read (slice at M.size s) ≡ look (cell_at (get s) b c).words
      read_words =
          ap (λ (n : ℕ). M.read (slice n M.size s)) (let q : at ≡ block_offset b + (words_offset + words_size * c + p) = omega arith in q)
          ∙ sym (read_figure s ok there b hb)

      pub write_words : (x : A) → modify_at at M.size (M.write x) s ≡ put (replace_cell (get s) b c (to_cell (cell_tokens (cell_at (get s) b c), change x (cell_at (get s) b c).words))) s
      write_words x =
          ap (λ (n : ℕ). modify_at n M.size (M.write x) s) (let q : at ≡ block_offset b + (words_offset + words_size * c + p) = omega arith in q)
          ∙ sym (write_figure s ok there b hb x)

  -- ---- the claims on a block

  module _ (b : ℕ) (hb : b < blocks_in s) where
    pub claims_at_lem : claims_at (get s) b ≡ (claims (boards_in s)).read (slice (block_offset b + claims_offset) claims_size s)
    claims_at_lem =
        read_figure s ok (claims_place (boards_in s) ok.boards) b hb
        ∙ ap (λ (k : ℕ). (claims (boards_in s)).read (slice (block_offset b + claims_offset) k s)) (claims_size_lem (boards_in s))

    pub claims_stand : Stands (claims (boards_in s)) (slice (block_offset b + claims_offset) claims_size s)
    claims_stand =
        subst (λ (k : ℕ). Stands (claims (boards_in s)) (slice (block_offset b + claims_offset) k s)) (claims_size_lem (boards_in s))
        (stands_figure s ok (claims_place (boards_in s) ok.boards) b hb)

    pub claims_put : (k : Claims) → put (with_claims (get s) b k) s ≡ modify_at (block_offset b + claims_offset) claims_size ((claims (boards_in s)).write k) s
    claims_put k =
        write_figure s ok (claims_place (boards_in s) ok.boards) b hb k
        ∙ ap (λ (z : ℕ). modify_at (block_offset b + claims_offset) z ((claims (boards_in s)).write k) s) (claims_size_lem (boards_in s))

  -- ---- the mesh

  -- room for the messages behind the header
  place : Place (layout_of s) (items message mesh_room (messages_in s)) header_size (λ v. v.1.0) (λ x v. (v.0, (x, v.1.1)))
  place = mesh_place (boards_in s) (blocks_in s) (messages_in s) ok.boards ok.messages

  pub message_at_lem : (i : ℕ) → i < messages_in s → message_at (get s) i ≡ message.read (slice (message_offset i) message_size s)
  message_at_lem i h =
      ap (λ (l : List Message). get_or l i no_message) (mesh_items s ok)
      ∙ (item message message_lawful no_message mesh_room (messages_in s) i ok.messages h).looks (slice header_size (mesh_room * message.size) s)
      ∙ ap message.read
      (part_part header_size (mesh_room * message.size) (i * message.size) message.size s (item message message_lawful no_message mesh_room (messages_in s) i ok.messages h).inside
      ∙ ap (λ (k : ℕ). slice (header_size + i * k) k s) message_size_lem
      ∙ ap (λ (k : ℕ). slice k message_size s) (let e : header_size + i * message_size ≡ message_offset i = omega arith in e))

  pub message_stands : (i : ℕ) → i < messages_in s → Stands message (slice (message_offset i) message_size s)
  message_stands i h =
      subst (Stands message)
      (part_part header_size (mesh_room * message.size) (i * message.size) message.size s (item message message_lawful no_message mesh_room (messages_in s) i ok.messages h).inside
      ∙ ap (λ (k : ℕ). slice (header_size + i * k) k s) message_size_lem
      ∙ ap (λ (k : ℕ). slice k message_size s) (let e : header_size + i * message_size ≡ message_offset i = omega arith in e))
      ((item message message_lawful no_message mesh_room (messages_in s) i ok.messages h).stands (slice header_size (mesh_room * message.size) s) (place.stands s (stands s ok)))

removed_length : {A : Type 0} (p : ℕ) (xs : List A) (n : ℕ) → length xs ≡ suc n → p ≤ n → length (remove_at xs p) ≡ n
removed_length p [] n e h = absurd (omega arith)
removed_length zero (x ∷ xs) n e h = omega arith
removed_length (suc p) (x ∷ xs) zero e h = absurd (not-suc-le-zero h)
removed_length (suc p) (x ∷ xs) (suc n) e h = ap suc (removed_length p xs n (omega arith) (le_of_suc-le-suc h))

module _ (s : List ℕ) (ok : Formed s) where
  long : header_size ≤ length s
  long = omega (arith, ok.room)

  -- with the count that it has
  same_count : (l : List Message) → (layout_of s).write (((layout_of s).read s).0, (l, ((layout_of s).read s).1.1)) s ≡ modify_at header_size (mesh_room * message.size) (write_items message l) s
  same_count l = (place s ok).changes l s (stands s ok)

  mesh_write : (l : List Message) → put (with_mesh (get s) l) s ≡ (layout_of s).write ((boards_in s, (blocks_in s, (tokens_in s, length l))), (l, ((layout_of s).read s).1.1)) s
  unfolding put get rack_layout
  mesh_write l = λ i.
      (rack_layout (boards_is s i) (blocks_is s i) (messages_in s)).write ((boards_is s i, (blocks_is s i, (tokens_is s i, length l))), (l, ((layout_of s).read s).1.1)) s

  mesh_changes : (l : List Message) → put (with_mesh (get s) l) s ≡ set (modify_at header_size (mesh_room * message.size) (write_items message l) s) message_count_offset (length l)
  unfolding rack_layout
  mesh_changes l =
      let rest : Layout (List Message × List Block) = pair (items message mesh_room (messages_in s)) (items (block (boards_in s)) (blocks_in s) (blocks_in s)) in
      let k : ℕ = header.size in
      let lk : length (take k s) ≡ k = length-take-le k s (omega (arith, long, header_size_lem)) in
      let x : List ℕ = rest.write (l, ((layout_of s).read s).1.1) (slice k rest.size s) ++ drop (k + rest.size) s in
      mesh_write l
      ∙ ap (λ (t : List ℕ). t ++ x) (count_write s (length l) long (header_stands s ok))
      ∙ sym (set-append_left (take k s) x message_count_offset (length l) (omega (arith, header_size_lem)))
      ∙ ap (λ (t : List ℕ). set t message_count_offset (length l))
      (ap (λ (t : List ℕ). t ++ x)
      (sym (header_lawful.unchanged (take k s) (header_stands s ok)))
      ∙ same_count l)

  slots_length : length (slice header_size (mesh_room * message.size) s) ≡ mesh_room * message.size
  slots_length = length_part header_size (mesh_room * message.size) s (rw message_size_lem (omega (arith, ok.room)))

  slot_inside : (n : ℕ) → n < 64 → n * message.size + message.size ≤ mesh_room * message.size
  slot_inside n h = rw message_size_lem (omega arith)

  same_places : (p m : ℕ) → modify_at (header_size + p * message_size) (m * message_size) (λ q. slice (header_size + suc p * message_size) (m * message_size) s) s ≡ modify_at (message_offset p) (message_size * m) (λ q. slice (message_offset p + message_size) (message_size * m) s) s
  same_places p m =
      let at : header_size + p * message_size ≡ message_offset p = omega arith in
      let size : m * message_size ≡ message_size * m = omega arith in
      let from : header_size + suc p * message_size ≡ message_offset p + message_size = omega arith in
      λ i. modify_at (at i) (size i) (λ q. slice (from i) (size i) s) s

  -- a message more is the message behind the others, and the count one more
  pub append_put : (m : Message) → messages_in s < 64
      → set (modify_at (message_offset (messages_in s)) message_size (message.write m) s) message_count_offset (messages_in s + 1) ≡ put (with_mesh (get s) ((get s).mesh ++ m ∷ [])) s
  append_put m h =
      let k : ℕ = message.size in
      let t : List ℕ = slice header_size (mesh_room * k) s in
      let n : ℕ = messages_in s in
      let e : length (get s).mesh ≡ n = mesh_is s in
      sym
      (mesh_changes ((get s).mesh ++ m ∷ [])
      ∙ ap (λ (j : ℕ). set (modify_at header_size (mesh_room * k) (write_items message ((get s).mesh ++ m ∷ [])) s) message_count_offset j) (length-append (get s).mesh (m ∷ []) ∙ ap (λ (j : ℕ). j + 1) e)
      ∙ ap (λ (r : List ℕ). set (take header_size s ++ (r ++ drop (header_size + mesh_room * k) s)) message_count_offset (n + 1))
      (items_more message message_lawful (get s).mesh m t (le_trans (mul-le-mul_right k (le_trans (le_of_eq (ap suc e)) h)) (le_of_eq (sym slots_length)))
      ∙ (λ i. modify_at (e i * k) k (message.write m) (mesh_unchanged s ok i)))
      ∙ ap (λ (r : List ℕ). set r message_count_offset (n + 1))
      (over_over (message.write m) header_size (mesh_room * k) (n * k) k s (slot_inside n h) ∙ ap (λ (j : ℕ). modify_at (header_size + n * j) j (message.write m) s) message_size_lem
      ∙ ap (λ (j : ℕ). modify_at j message_size (message.write m) s) (let q : header_size + n * message_size ≡ message_offset n = omega arith in q)))

  -- a message less is the messages behind it moved up, and the count one less
  pub removed_put : (p : ℕ) → p < messages_in s
      → set (modify_at (message_offset p) (message_size * (messages_in s - 1 - p)) (λ r. slice (message_offset p + message_size) (message_size * (messages_in s - 1 - p)) s) s) message_count_offset (messages_in s - 1)
      ≡ put (with_mesh (get s) (remove_at (get s).mesh p)) s
  removed_put p h =
      let k : ℕ = message.size in
      let t : List ℕ = slice header_size (mesh_room * k) s in
      let n : ℕ = messages_in s - 1 in
      let z : messages_in s ≤ 64 = ok.messages in
      let e : messages_in s ≡ suc n = omega arith in
      let fits : p * message_size + message_size + (n - p) * message_size ≤ mesh_room * message_size = omega arith in
      sym
      (mesh_changes (remove_at (get s).mesh p)
      ∙ (λ i. set (modify_at header_size (mesh_room * k) (write_items message (remove_at ((mesh_items s ok ∙ ap (λ (j : ℕ). read_items message j t) e) i) p)) s) message_count_offset (removed_length p (get s).mesh n (mesh_is s ∙ e) (omega arith) i))
      ∙ ap (λ (r : List ℕ). set (take header_size s ++ (r ++ drop (header_size + mesh_room * k) s)) message_count_offset n)
      (items_removed message message_lawful message_full n p t (omega arith) (subst (λ (j : ℕ). StandItems message j t) e (mesh_stands s ok)))
      ∙ ap (λ (r : List ℕ). set r message_count_offset n)
      (ap (λ (j : ℕ). modify_at header_size (mesh_room * j) (modify_at (p * j) ((n - p) * j) (λ r. slice (suc p * j) ((n - p) * j) (slice header_size (mesh_room * j) s))) s) message_size_lem
      ∙ over_over (λ r. slice (suc p * message_size) ((n - p) * message_size) (slice header_size mesh_size s)) header_size mesh_size (p * message_size) ((n - p) * message_size) s (omega arith)
      ∙ ap (λ (r : List ℕ). modify_at (header_size + p * message_size) ((n - p) * message_size) (λ q. r) s) (part_part header_size mesh_size (suc p * message_size) ((n - p) * message_size) s (omega arith))
      ∙ same_places p (n - p)))
