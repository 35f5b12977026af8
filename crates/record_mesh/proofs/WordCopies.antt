-- The words of a message copied to a component: copied bytes are written words, and all other bytes stay, by the cuts in front of the words and behind them.
use Prim.Native.Nat.{ℕ, ◌+◌, ◌≤◌, ◌<◌}
use native.Mathlib.Nat.{le_of_eq}
use native.Mathlib.Omega.{arith}
use mathlib.Core.Path.{◌≡◌, refl, sym, ap, ◌∙◌}
use mathlib.Core.List.{List, ◌++◌}
use lib.ListN.{length, get_or, take, drop}
use lib.Seq.{get_or-take}
use Rattle.spec_base.specs.Number.{Bytes}
use Rattle.spec_base.specs.Layout.{slice}
use Rattle.spec_base.proofs.Parts.{length_part, bytes_take, bytes_drop}
use Rattle.spec_base.proofs.Laws.{Stands, cuts_length, cut_first, cut_second, cut_rest}
use Rattle.spec_rack.specs.declared.Message.{Message}
use Rattle.spec_rack.specs.Rack.{cell_at, message_at}
use Rattle.spec_rack.specs.RecordLayout.{words_size, cell_words_offset, message_offset, message_words_offset, words, get, put, messages_in}
use Rattle.spec_rack.specs.WordCopy.{WordsCopied}
use Rattle.record.specs.Needs.{CellInRecord}
use Rattle.record.specs.Changes.{with_words, replace_cell}
use Rattle.spec_rack.proofs.LayoutParts.{words_size_lem, words_lawful, words_full}
use Rattle.spec_rack.proofs.GetPut.{Formed}
use Rattle.record_mesh.proofs.ByteCopies.{copied}
use Rattle.record.proofs.FieldAccess.{well_formed}
use Rattle.record.proofs.FieldBytes.{words_formed, message_read}
use Rattle.record.proofs.FieldOffsets.{message_at_lem, words_look, words_put}

-- to copy the bytes of words is to write the words that are read there
words_copied : (u t : List ℕ) → Bytes u → length u ≡ words_size → length t ≡ words_size → words.write (words.read u) t ≡ u
words_copied u t h lu lt =
    let stands : Stands words u = record { bytes = h; well_formed = words_formed u; room = le_of_eq (words_size_lem ∙ sym lu) } in
    words_full.fills (words.read u) (words_lawful.holds u h) t u (lt ∙ sym words_size_lem) (lu ∙ sym words_size_lem)
    ∙ words_lawful.unchanged u stands

-- both places are in the record, the message in front of the cell
module _ (s : List ℕ) (i b c : ℕ) (pre : CellInRecord s b c × (i < messages_in s)) where
  pub room_to : cell_words_offset b c + words_size ≤ length s
  room_to = omega (arith, pre.0.whole.room, pre.0.whole.boards, pre.0.block, pre.0.component)

  pub room_from : message_offset i + message_words_offset + words_size ≤ cell_words_offset b c
  room_from = omega (arith, pre.0.whole.messages, pre.1)

module _ (s : List ℕ) (bytes : Bytes s) (i b c : ℕ) (pre : CellInRecord s b c × (i < messages_in s)) where
  abbrev pub from : ℕ
  from = message_offset i + message_words_offset

  abbrev pub to : ℕ
  to = cell_words_offset b c

  ok : Formed s
  ok = well_formed s bytes pre.0.whole

  message_words : (message_at (get s) i).words ≡ words.read (slice from words_size s)
  message_words = ap (λ (m : Message). m.words) (message_at_lem s ok i pre.1 ∙ message_read s (message_offset i))

  length_from : length (slice from words_size s) ≡ words_size
  length_from = length_part from words_size s (omega (arith, room_from s i b c pre, room_to s i b c pre))

  length_to : length (slice to words_size s) ≡ words_size
  length_to = length_part to words_size s (room_to s i b c pre)

  same : length (slice from words_size s) ≡ length (slice to words_size s)
  same = length_from ∙ sym length_to

  pub copied_rack : copied s from to words_size ≡ put (replace_cell (get s) b c (with_words (cell_at (get s) b c) (message_at (get s) i).words)) s
  copied_rack =
      sym
      (words_put s ok b c pre.0.block pre.0.component (message_at (get s) i).words
      ∙ ap (λ (t : List ℕ). take to s ++ (t ++ drop (to + words_size) s))
      (ap (λ (ws : List ℕ). words.write ws (slice to words_size s)) message_words
      ∙ words_copied (slice from words_size s) (slice to words_size s) (bytes_take words_size (drop from s) (bytes_drop from s bytes)) length_from length_to))

  same_front : take to (copied s from to words_size) ≡ take to s
  same_front = cut_first to words_size (take to s) (slice from words_size s) s refl same (room_to s i b c pre)

  -- a byte of the header
  same_byte : (k : ℕ) → k < 4 → get_or (copied s from to words_size) k 0 ≡ get_or s k 0
  same_byte k h =
      sym (get_or-take to (copied s from to words_size) k 0 (omega arith)) ∙ ap (λ (t : List ℕ). get_or t k 0) same_front ∙ get_or-take to s k 0 (omega arith)

  pub copied_words : WordsCopied s i b c (copied s from to words_size)
  copied_words =
      let w = pre.0.whole in
      record {
        words =
            words_look (copied s from to words_size) b c (omega (arith, w.boards, same_byte 0 (omega arith))) (omega (arith, w.messages, same_byte 3 (omega arith)))
            (omega (arith, pre.0.block, same_byte 1 (omega arith))) (omega (arith, pre.0.component, same_byte 0 (omega arith)))
            ∙ ap words.read (cut_second to words_size (take to s) (slice from words_size s) s refl same (room_to s i b c pre))
            ∙ sym message_words;
        same_length = cuts_length to words_size (take to s) (slice from words_size s) s refl same;
        front = same_front;
        rest = cut_rest to words_size (take to s) (slice from words_size s) s refl same (room_to s i b c pre);
      }
