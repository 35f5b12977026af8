-- Document 02, No. 3: the copy of a message's words to its target, of the bytes of a lent buffer.
use Rattle.std.specs.Prelude.{ℕ, ◌+◌, ◌≡◌, List, length, take, drop}
use Rattle.spec_rack.specs.Rack.{cell_at, message_at}
use Rattle.spec_rack.specs.RecordLayout.{cell_words_offset, words_size, get}

-- s before the copy and t after it, from message i to component c of block b
pub record WordsCopied (s : List ℕ) (i b c : ℕ) (t : List ℕ) : Type 0 where
  -- the target's words become the message's,
  pub words : (cell_at (get t) b c).words ≡ (message_at (get s) i).words
  -- and no other byte changes: none in front of the target's words, none behind them
  pub same_length : length t ≡ length s
  pub front : take (cell_words_offset b c) t ≡ take (cell_words_offset b c) s
  pub rest : drop (cell_words_offset b c + words_size) t ≡ drop (cell_words_offset b c + words_size) s
