-- How code answers to the refusal table: `search table` closes a return where the tests on the way are tests of the code;
-- and that the table's numbers tell the refusals apart.
use mathlib.Core.Path.{◌≡◌, refl, sym, ap, ◌∙◌}
use mathlib.Core.Bool.{Bool, true, false}
use Prim.Native.Nat.{ℕ, ◌≤◌}
use native.Mathlib.Omega.{arith}
use borrow.Author.Tests.{lt-ltb, le-ltb, le-leb, lt-leb, eq-eqb, ne_eqb}
use Rattle.spec_base.proofs.Tests.{differs, and_of, and_left, and_right, or_left, or_right, or_none, not_of_false, not_of_true}
use Rattle.std.specs.Prelude.{Err}
use Rattle.spec_wire.specs.Answers.{Check, no_refusal}
use Rattle.spec_wire.specs.declared.Refusal.{Refusal}
use Rattle.spec_wire.specs.declared.Refusal.TheVariants.{Torn, Unsound, OffRack, Home, NoToken, NoData, Short, SelfSend, Claimed, Empty, NotHeld, BareOwner, MeshFull, NoMessage, Waiting, Barred, NotWaiting, Unclaimed, Size, ShortBuffer}
use Rattle.spec_wire.specs.Refusals.{number, numbered, when◌refuse◌else◌}

-- a line whose test passes ends the run
pub stops : (t : Bool) (n : Refusal) (k : Check) → t ≡ true → Err n ≡ (when t refuse n else k)
unfolding when◌refuse◌else◌
stops true n k e = refl
stops false n k e = differs (sym e)

-- a line whose test fails is passed
pub goes : (x : Check) (t : Bool) (n : Refusal) (k : Check) → t ≡ false → x ≡ k → x ≡ (when t refuse n else k)
unfolding when◌refuse◌else◌
goes x true n k e h = differs e
goes x false n k e h = h

-- a line that was passed: its test has failed, and the lines below it have passed
pub past : (t : Bool) (n : Refusal) (k : Check) → (when t refuse n else k) ≡ no_refusal → (t ≡ false) × (k ≡ no_refusal)
unfolding when◌refuse◌else◌
past true n k e = let z : ◌≡◌ {A = ℕ} 0 1 = cc in absurd (omega arith)
past false n k e = (refl, e)

-- a test's result, as a contract has it on the right
pub is_true : (t : Bool) → t ≡ true → true ≡ t
is_true t e = sym e

pub is_false : (t : Bool) → t ≡ false → false ≡ t
is_false t e = sym e

pub ruleset table = (stops, goes, is_true, is_false, and_of, and_left, and_right, or_left, or_right, or_none, not_of_false, not_of_true, lt-ltb, le-ltb, le-leb, lt-leb, eq-eqb, ne_eqb, arith)

-- every refusal has a number from 1 to 20
pub number_known : (r : Refusal) → (1 ≤ number r) × (number r ≤ 20)
number_known Torn = omega arith
number_known Unsound = omega arith
number_known OffRack = omega arith
number_known Home = omega arith
number_known NoToken = omega arith
number_known NoData = omega arith
number_known Short = omega arith
number_known SelfSend = omega arith
number_known Claimed = omega arith
number_known Empty = omega arith
number_known NotHeld = omega arith
number_known BareOwner = omega arith
number_known MeshFull = omega arith
number_known NoMessage = omega arith
number_known Waiting = omega arith
number_known Barred = omega arith
number_known NotWaiting = omega arith
number_known Unclaimed = omega arith
number_known Size = omega arith
number_known ShortBuffer = omega arith

-- the number of a refusal tells it
pub number_back : (r : Refusal) → numbered (number r) ≡ r
number_back Torn = refl
number_back Unsound = refl
number_back OffRack = refl
number_back Home = refl
number_back NoToken = refl
number_back NoData = refl
number_back Short = refl
number_back SelfSend = refl
number_back Claimed = refl
number_back Empty = refl
number_back NotHeld = refl
number_back BareOwner = refl
number_back MeshFull = refl
number_back NoMessage = refl
number_back Waiting = refl
number_back Barred = refl
number_back NotWaiting = refl
number_back Unclaimed = refl
number_back Size = refl
number_back ShortBuffer = refl

-- two refusals with one number are the same
pub same_number : (a b : Refusal) → number a ≡ number b → a ≡ b
same_number a b e = sym (number_back a) ∙ ap numbered e ∙ number_back b
