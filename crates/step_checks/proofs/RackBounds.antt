-- A component and a block that are not off the rack: what the bytes of the record say of them.
use Prim.Native.Nat.{ℕ, ◌+◌, ◌≤◌, ◌<◌}
use native.Mathlib.Omega.{arith}
use mathlib.Core.Path.{◌≡◌, refl, sym, ap, ◌∙◌}
use mathlib.Core.Bool.{Bool, false, ◌||◌}
use mathlib.Core.List.{List}
use lib.Dec.{eqb, ltb}
use lib.ListN.{length}
use borrow.Author.Tests.{leb-true}
use Rattle.spec_base.proofs.Tests.{and_l, and_r, or_l}
use Rattle.spec_base.specs.Number.{Bytes}
use Rattle.spec_base.specs.Layout.{slice}
use Rattle.spec_wire.specs.Answers.{Check}
use Rattle.spec_arbiter.specs.Claims.{Claims}
use Rattle.spec_rack.specs.RecordLayout.{claims, block_offset, claims_offset, get, blocks_in, boards_in, claims_size}
use Rattle.spec_rack.specs.Rack.{claims_at}
use Rattle.spec_rack.specs.Rules.{off_rack}
use Rattle.record.specs.Needs.{InLayout, CellInRecord, SoundRecord}
use Rattle.spec_rack.proofs.GetPut.{boards_is, blocks_is}
use Rattle.spec_rack.proofs.SoundRecord.{rack_sound}
use Rattle.step_checks.proofs.ClaimsInRecord.{claims_room_lem, claims_read}

-- a word on the rack is one of a block on it
pub on_of : {off : Bool} (s : List ℕ) (c b w : ℕ) → off ≡ (off_rack (get s) c b || ltb 7 w) → off ≡ false → off_rack (get s) c b ≡ false
on_of s c b w is on = or_l (off_rack (get s) c b) (ltb 7 w) (sym is ∙ on)

-- ---- after the test for off rack

module _ (s : List ℕ) (c b : ℕ) {off : Bool} (is : off ≡ off_rack (get s) c b) (on : off ≡ false) where
  component_on : c ≤ boards_in s
  component_on = grind (arith, boards_is s)

  pub block_on : b < blocks_in s
  block_on = grind (arith, blocks_is s)

  pub in_cell : InLayout s → CellInRecord s b c
  in_cell whole = record { whole = whole; block = block_on; component = component_on }

  -- what a verdict on a board's claim asks, and where it is read
  module _ (whole : InLayout s) (at : ℕ) (e : at ≡ block_offset b + claims_offset) where
    pub board_claims : (at + claims_size ≤ length s) × (c < 16)
    board_claims = (claims_room_lem s whole b block_on at e, omega (arith, whole.boards, component_on))

    pub verdict_here : {y : Check} → Bytes s → (f : Claims → ℕ → Check) → ((n : ℕ) → c ≤ n → n < 16 → y ≡ f ((claims n).read (slice at claims_size s)) c) → y ≡ f (claims_at (get s) b) c
    verdict_here bytes f h =
        h (boards_in s) component_on (omega (arith, whole.boards))
        ∙ ap (λ (k : Claims). f k c) (claims_read s whole b block_on at e bytes)

-- after the test for the home memory
pub board_one : (c : ℕ) {home : Bool} → home ≡ eqb c 0 → home ≡ false → 1 ≤ c
board_one c is on = grind arith

-- after the test for a word off the rack
pub on_word : (s : List ℕ) → InLayout s → (c b w : ℕ) {off : Bool} → off ≡ (off_rack (get s) c b || ltb 7 w) → off ≡ false → CellInRecord s b c × (w < 8)
on_word s whole c b w is on =
    (in_cell s c b refl (on_of s c b w is on) whole, grind arith)

-- every sound rack has a board
pub some_board : (s : List ℕ) → SoundRecord s → 1 ≤ boards_in s
some_board s ready = omega (arith, boards_is s, leb-true 1 (get s).boards (search (and_l, and_r, (rack_sound s ready.sound).size) depth 7))
