-- A run down the table stops at the first test that passes: `lines` closes each return of such a run. A raise and a lower go on behind two lines that they
-- share.
use Prim.Native.Nat.{ℕ}
use mathlib.Core.Path.{◌≡◌, refl, sym}
use mathlib.Core.Bool.{false}
use lib.Dec.{eqb}
use Rattle.spec_wire.specs.Answers.{Check, no_refusal}
use Rattle.spec_wire.proofs.RefusalTable.{table, past, stops, goes}
use Rattle.spec_wire.specs.declared.Step.TheVariants.{Raise, Lower}
use Rattle.spec_arbiter.specs.Claims.{raise_check, lower_check}
use Rattle.spec_rack.specs.Rack.{Rack, claims_at}
use Rattle.spec_rack.specs.Rules.{check, off_rack}
use Rattle.step_checks.specs.Checked.{board_lines}

pub ruleset lines = (stops, goes)

-- the two lines that a raise and a lower begin with, and the rest of their table

pub raise_lines : (r : Rack) (c b : ℕ) → board_lines r c b (raise_check (claims_at r b) c) ≡ check r (Raise c b)
unfolding check board_lines
raise_lines r c b = refl

pub lower_lines : (r : Rack) (c b : ℕ) → board_lines r c b (lower_check (claims_at r b) c) ≡ check r (Lower c b)
unfolding check board_lines
lower_lines r c b = refl

-- and what they tell where both pass: the rest of the table is the verdict
module _ (r : Rack) (c b : ℕ) (passes : no_refusal ≡ board_lines r c b no_refusal) where
  pub board_on : off_rack r c b ≡ false
  unfolding board_lines
  board_on = (past _ _ _ (sym passes)).0

  pub board_away : eqb c 0 ≡ false
  unfolding board_lines
  board_away = (past _ _ _ (past _ _ _ (sym passes)).1).0

  pub board_rest : {y rest : Check} → y ≡ rest → y ≡ board_lines r c b rest
  unfolding board_lines
  board_rest e = search (table, board_on, board_away, e) depth 10
