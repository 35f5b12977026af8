-- What the functions on single figures show at their returns: each figure's place in the record, and what loops over words leave.
use Prim.Native.Nat.{ℕ, zero, suc, ◌+◌, ◌*◌, ◌≤◌, ◌<◌}
use native.Mathlib.Nat.{le_refl}
use native.Mathlib.Numerals.{add-one}
use native.Mathlib.Omega.{arith}
use mathlib.Core.Path.{◌≡◌, refl, sym, ap, ◌∙◌}
use mathlib.Core.Bool.{Bool, true}
use mathlib.Core.List.{List, [], ◌∷◌, ◌++◌}
use lib.ListN.{length, get_or, set, take, drop}
use lib.Seq.{take-suc, take_all, length-take-le, ext_get_or, set-set, set-append_left, drop-set-lt}
use Rattle.spec_base.specs.Number.{Bytes}
use Rattle.spec_base.specs.Layout.{slice, modify_at, big, read_items, write_items}
use Rattle.spec_base.proofs.Parts.{length_part, part_part}
use Rattle.spec_base.proofs.Laws.{big_lawful, items_keeps, length_read_items}
use Rattle.spec_base.proofs.Places.{Place, item, over_in, item_looks}
use Rattle.spec_base.proofs.Copies.{items_more}
use Rattle.spec_base.specs.Folds.{toℕ}
use Rattle.spec_rack.specs.declared.Owner.{Owner}
use Rattle.spec_rack.specs.declared.Owner.TheVariants.{Away, Dirty, Clean}
use Rattle.spec_rack.specs.Rack.{present, cell_at}
use Rattle.spec_rack.specs.Rules.{dirtied, stored}
use Rattle.record.specs.declared.TokenState.{TokenState}
use Rattle.spec_rack.specs.RecordLayout.{block_offset, cell_words_offset, words_offset, owner_offset, valid_offset, dirty_offset, words_size, Tokens, dirty, lanes_at, set_token_bytes, set_lanes, words, cell_tokens, get, put}
use Rattle.record.specs.Needs.{InLayout, CellInRecord}
use Rattle.record.specs.Changes.{TokenStateOf, with_token_state, replace_cell}
use Rattle.spec_rack.proofs.GetPut.{Formed, formed_of}
use Rattle.record.proofs.FieldOffsets.{tokens_at, tokens_put, tokens_same, cell_put, words_at, read_words, write_words}

pub well_formed : (s : List ℕ) → Bytes s → InLayout s → Formed s
well_formed s b w = formed_of s b w.boards w.messages w.well_formed

word_place : (w : ℕ) → w < 8 → Place words (big 4) (w * 4) (λ ws. get_or ws w 0) (λ v ws. set ws w v)
unfolding words
word_place w h = item (big 4) (big_lawful 4) 0 8 8 w (le_refl 8) h

-- a byte set before a part that is changed
set_before : (g : List ℕ → List ℕ) (p m : ℕ) (s : List ℕ) (i x : ℕ) → i < p → p ≤ length s → modify_at p m g (set s i x) ≡ set (modify_at p m g s) i x
set_before g p m s i x h l =
    (λ j. take_set p s i x h j ++ (g (take m (drop-set-lt p s i x h j)) ++ drop-set-lt (p + m) s i x (omega arith) j))
    ∙ sym (set-append_left (take p s) (g (slice p m s) ++ drop (p + m) s) i x (omega (arith, length-take-le p s l)))
  where
    take_set : (p : ℕ) (s : List ℕ) (i x : ℕ) → i < p → take p (set s i x) ≡ set (take p s) i x
    take_set zero s i x h = absurd (omega arith)
    take_set (suc p) [] i x h = refl
    take_set (suc p) (y ∷ s) zero x h = refl
    take_set (suc p) (y ∷ s) (suc i) x h = ap (λ (r : List ℕ). y ∷ r) (take_set p s i x (omega arith))

-- an owner that is there, made dirty
dirtied_flags : (o : Owner) → present o ≡ true → (present (dirtied o) ≡ present o) × (dirty (dirtied o) ≡ true)
dirtied_flags Away h = (refl, h)
dirtied_flags Dirty h = (refl, refl)
dirtied_flags Clean h = (refl, refl)

-- ---- a figure of a cell

module _ (s : List ℕ) (bytes : Bytes s) (b c : ℕ) (in_Cell : CellInRecord s b c) where
  ok : Formed s
  ok = well_formed s bytes in_Cell.whole

  module _ (at : ℕ) (e : at ≡ block_offset b + c) where
    pub marks_is : TokenStateOf (cell_at (get s) b c) (record { plain = (lanes_at at s).0; owner = (lanes_at at s).1.0; valid = (lanes_at at s).1.1 })
    marks_is =
        let q = sym (tokens_at s ok b c in_Cell.block in_Cell.component at e) in
        record { plain = ap (λ (v : Tokens). v.0) q; owner = ap (λ (v : Tokens). v.1.0) q; valid = ap (λ (v : Tokens). v.1.1) q }

    pub set_marks_is : (m : TokenState) → set_lanes at (m.plain, (m.owner, m.valid)) s ≡ put (replace_cell (get s) b c (with_token_state (cell_at (get s) b c) m)) s
    set_marks_is m = sym (tokens_put s ok b c in_Cell.block in_Cell.component at e (m.plain, (m.owner, m.valid)))

  module _ (at : ℕ) (e : at ≡ cell_words_offset b c) where
    pub words_is : words.read (slice at words_size s) ≡ (cell_at (get s) b c).words
    words_is = sym (words_at s ok b c in_Cell.block in_Cell.component at e)

    module _ (w : ℕ) (hw : w < 8) where
      pub word_is : (big 4).read (slice (at + 4 * w) 4 s) ≡ get_or (cell_at (get s) b c).words w 0
      word_is = read_words s ok b c in_Cell.block in_Cell.component (word_place w hw) (at + 4 * w) (omega arith)

      -- a word, and the mark of the owner, which is there
      module _ (k : ℕ) (f : k ≡ block_offset b + c) (here : present (cell_at (get s) b c).owner ≡ true) where
        -- the three bytes that come before the mark
        abbrev lead : ℕ → Bool → Bool → List ℕ
        lead n o v = set (set (set s k n) (k + owner_offset) (toℕ o)) (k + valid_offset) (toℕ v)

        marked_dirty : set_lanes k ((cell_at (get s) b c).plain, (dirtied (cell_at (get s) b c).owner, (cell_at (get s) b c).valid)) s ≡ set s (k + dirty_offset) 1
        marked_dirty =
            let y = cell_at (get s) b c in
            let m = dirtied_flags y.owner here in
            (λ i. set_token_bytes k (y.plain, (m.0 i, (y.valid, m.1 i))) s)
            ∙ sym (set-set (lead y.plain (present y.owner) y.valid) (k + dirty_offset) (toℕ (dirty y.owner)) 1)
            ∙ ap (λ (t : List ℕ). set t (k + dirty_offset) 1) (tokens_same s ok b c in_Cell.block in_Cell.component k f)

        pub set_word_is : (v : ℕ) → set (modify_at (at + 4 * w) 4 ((big 4).write v) s) (k + dirty_offset) 1 ≡ put (stored (get s) c b w v) s
        unfolding stored
        set_word_is v =
            let y = cell_at (get s) b c in
            let ws : List ℕ = set y.words w v in
            let p : ℕ = block_offset b + (words_offset + words_size * c) in
            let q : p ≤ length s = omega (arith, ok.room, in_Cell.block, in_Cell.component, ok.boards) in
            ap (λ (t : List ℕ). set t (k + dirty_offset) 1)
            (write_words s ok b c in_Cell.block in_Cell.component (word_place w hw) (at + 4 * w) (omega arith) v
            ∙ cell_put s ok b c in_Cell.block in_Cell.component k f (cell_tokens y) ws
            ∙ ap (modify_at p words_size (words.write ws)) (tokens_same s ok b c in_Cell.block in_Cell.component k f))
            ∙ sym (set_before (words.write ws) p words_size s (k + dirty_offset) 1 (omega arith) q)
            ∙ ap (modify_at p words_size (words.write ws)) (sym marked_dirty)
            ∙ sym (cell_put s ok b c in_Cell.block in_Cell.component k f (y.plain, (dirtied y.owner, y.valid)) ws)

-- ---- loops over words

-- eight words read one by one
pub words_read : (s : List ℕ) (at : ℕ) (ws : List ℕ) → length ws ≡ 8 → ((k : ℕ) → k < 8 → get_or ws k 0 ≡ (big 4).read (slice (at + 4 * k) 4 s)) → ws ≡ words.read (slice at words_size s)
unfolding words
words_read s at ws e f =
    ext_get_or 0 ws (read_items (big 4) 8 (slice at words_size s)) (e ∙ sym (length_read_items (big 4) 8 (slice at words_size s)))
    (λ k l. f k (omega arith)
    ∙ ap (big 4).read (sym (part_part at words_size (k * 4) 4 s (omega arith) ∙ ap (λ (q : ℕ). slice q 4 s) (let q : at + k * 4 ≡ at + 4 * k = omega arith in q)))
    ∙ sym (item_looks (big 4) 0 8 k (slice at words_size s) (omega arith)))

-- the first i of eight words written
module _ (s : List ℕ) (at : ℕ) (ws : List ℕ) (e : length ws ≡ 8) (l : at + words_size ≤ length s) where
  abbrev pub lined : ℕ → List ℕ
  lined i = modify_at at words_size (write_items (big 4) (take i ws)) s

  pub lined_more : (i : ℕ) → i < 8 → modify_at (at + 4 * i) 4 ((big 4).write (get_or ws i 0)) (lined i) ≡ lined (i + 1)
  lined_more i h =
      let t : List ℕ = slice at words_size s in
      let lt : length t ≡ words_size = length_part at words_size s l in
      let lw : length (take i ws) ≡ i = length-take-le i ws (omega arith) in
      over_in ((big 4).write (get_or ws i 0)) (write_items (big 4) (take i ws)) at words_size (4 * i) 4 s (items_keeps (big 4) (big_lawful 4) (take i ws) t) l (omega arith)
      ∙ ap (λ (r : List ℕ). take at s ++ (r ++ drop (at + words_size) s))
      (ap (λ (n : ℕ). modify_at n 4 ((big 4).write (get_or ws i 0)) (write_items (big 4) (take i ws) t)) (let q : 4 * i ≡ length (take i ws) * 4 = omega arith in q)
      ∙ sym (items_more (big 4) (big_lawful 4) (take i ws) (get_or ws i 0) t (omega arith))
      ∙ ap (λ (xs : List ℕ). write_items (big 4) xs t) (sym (take-suc ws i 0 (omega arith)))
      ∙ ap (λ (n : ℕ). write_items (big 4) (take n ws) t) (sym (add-one i)))

  pub lined_all : (i : ℕ) → 8 ≤ i → lined i ≡ modify_at at words_size (words.write ws) s
  unfolding words
  lined_all i h = ap (λ (xs : List ℕ). modify_at at words_size (write_items (big 4) xs) s) (take_all i ws (omega arith))
