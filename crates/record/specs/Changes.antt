-- Document 01, "Steps": the changes of single figures that the steps are made of.
use Rattle.std.specs.Prelude.{ℕ, ◌+◌, ◌*◌, ◌≡◌, List, set}
use Rattle.spec_base.specs.Folds.{toℕ}
use Rattle.spec_rack.specs.declared.Message.{Message}
use Rattle.spec_rack.specs.Rack.{Cell, Rack}
use Rattle.spec_rack.specs.Rules.{with_cell}
use Rattle.spec_rack.specs.RecordLayout.{Tokens, from_tokens}
use Rattle.record.specs.declared.TokenState.{TokenState}

-- a cell's plain count, owner and valid mark, as the code has them
pub record TokenStateOf (x : Cell) (h : TokenState) : Type 0 where
  pub plain : h.plain ≡ x.plain
  pub owner : h.owner ≡ x.owner
  pub valid : h.valid ≡ x.valid

-- the cell with other marks and the same words, and with the same marks and other words
abbrev pub with_token_state : Cell → TokenState → Cell
with_token_state x h = record { plain = h.plain; owner = h.owner; valid = h.valid; words = x.words }

abbrev pub with_words : Cell → List ℕ → Cell
with_words x ws = record { plain = x.plain; owner = x.owner; valid = x.valid; words = ws }

-- a rack with another cell
abbrev pub replace_cell : Rack → ℕ → ℕ → Cell → Rack
replace_cell r b c x = with_cell r b c x r.mesh

-- a rack with another mesh
abbrev pub with_mesh : Rack → List Message → Rack
with_mesh r ms = record { boards = r.boards; tokens = r.tokens; blocks = r.blocks; mesh = ms }

-- tokens in four bytes, the first at a place and each so far behind the one before: 1 in a message, lane_size in a block
abbrev pub set_tokens : ℕ → ℕ → Tokens → List ℕ → List ℕ
set_tokens apart at v s =
    let bytes = from_tokens v in
    set (set (set (set s at bytes.0) (at + apart) (toℕ bytes.1.0)) (at + 2 * apart) (toℕ bytes.1.1.0)) (at + 3 * apart) (toℕ bytes.1.1.1)
