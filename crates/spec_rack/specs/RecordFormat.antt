-- Document 01, "The rack", "bytes as the written layout has them": a record says which layout it has, by four bytes at the end of its header. So a record of
-- another layout is refused, and never read as one of this.
use Rattle.std.specs.Prelude.{ℕ, ◌≡◌, false, List, [], ◌∷◌, Ok}
use Rattle.spec_base.specs.Number.{Bytes}
use Rattle.spec_base.specs.Layout.{slice}
use Rattle.spec_rack.specs.declared.Answer.TheVariants.{Done}
use Rattle.spec_rack.specs.RecordLayout.{format_offset, format_number}
use Rattle.spec_rack.specs.Soundness.{sound_bytes}
use Rattle.spec_rack.specs.Opening.{open_reply, open_after}

-- "HYL" in ASCII, and the number of the layout
abbrev pub format_bytes : List ℕ
format_bytes = 0x48 ∷ 0x59 ∷ 0x4C ∷ format_number ∷ []

-- the bytes that a buffer has at their place
abbrev pub format_bytes_in : List ℕ → List ℕ
format_bytes_in s = slice format_offset 4 s

-- In Effects.antt stand `EveryUnsound`, what every call says of an unsound buffer, and `format` of `Steady`: no step, list or run changes the four bytes, so
-- that a record of another layout does not become one of this.
pub record Format : Type 0 where
  -- a buffer with other bytes there is unsound, whatever else it holds
  pub another : (s : List ℕ) → Bytes s → (format_bytes_in s ≡ format_bytes → ⊥) → sound_bytes s ≡ false
  -- an opening writes them, whatever the buffer held
  pub opened : (n b t : ℕ) (s : List ℕ) → Bytes s → open_reply n b t s ≡ Ok Done → format_bytes_in (open_after n b t s) ≡ format_bytes
