-- Document 01, "State letter", with document 02, No. 4: the letter of a board and a block; checks 2, 3, 4.
use Rattle.std.specs.Prelude.{ℕ, cond, eqb, List, Ok, Err}
use Rattle.spec_wire.specs.declared.Refusal.TheVariants.{OffRack, Home, Unsound}
use Rattle.spec_rack.specs.Replies.{Lettered}
use Rattle.spec_wire.specs.Answers.{Check, no_refusal}
use Rattle.spec_wire.specs.Refusals.{when◌refuse◌else◌}
use Rattle.spec_rack.specs.declared.Letter.{Letter}
use Rattle.spec_rack.specs.declared.Letter.TheVariants.{M, O, E, S, I}
use Rattle.spec_rack.specs.Rack.{Cell, Rack, is_home, present, clean, cell_at, held}
use Rattle.spec_rack.specs.Rules.{off_rack}
use Rattle.spec_rack.specs.RecordLayout.{get}
use Rattle.spec_rack.specs.Soundness.{sound_bytes}

unfoldable pub letter_check : Rack → ℕ → ℕ → Check
letter_check r c b =
    when off_rack r c b refuse OffRack else
    when is_home c refuse Home else
    no_refusal

-- with T held E where the owner is clean, else M; O with the owner and fewer; S with valid plain tokens only (valid says that some are held); otherwise I
abbrev pub letter_of : ℕ → Cell → Letter
letter_of t x = cond (eqb (held x) t) (cond (clean x.owner) E M) (cond (present x.owner) O (cond x.valid S I))

abbrev pub lettered : Check → Letter → Lettered
lettered (Ok _) l = Ok l
lettered (Err n) l = Err n

unfoldable pub letter : Rack → ℕ → ℕ → Lettered
letter r c b = lettered (letter_check r c b) (letter_of r.tokens (cell_at r b c))

-- of the record in a lent buffer
unfoldable pub letter_reply : List ℕ → ℕ → ℕ → Lettered
letter_reply s c b = cond (sound_bytes s) (letter (get s) c b) (Err Unsound)
