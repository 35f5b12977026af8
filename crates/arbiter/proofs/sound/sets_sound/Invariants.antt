-- `arbiter::sound::sets_sound` meets its contract: at each board the barring sets of the boards below it were sound.
use Rattle.spec_arbiter.specs.Claims.{sound_barring}
use Rattle.spec_rack.specs.RecordLayout.{claims_at_offset}
use mathlib.Core.Path.{◌≡◌}
use mathlib.Core.Bool.{true}
use Prim.Native.Nat.{ℕ, ◌≤◌, ◌<◌}
use Rattle.arbiter.proofs.sound.sets_sound.Given as goal

abbrev pub invariant-loop-board : goal.invariant-loop-board
invariant-loop-board l = (i : ℕ) → i < l.board → 1 ≤ i → sound_barring l.boards (claims_at_offset l.boards l.at l.rec) i ≡ true
