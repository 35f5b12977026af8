-- Document 01, "Refusal table": the numbers of the refusals, and how a run down the table goes.
use Rattle.std.specs.Prelude.{ℕ, ◌-◌, List, [], ◌∷◌, get_or, Bool, true, false, Err}
use Rattle.spec_wire.specs.declared.Refusal.{Refusal}
use Rattle.spec_wire.specs.declared.Refusal.TheVariants.{Torn, Unsound, OffRack, Home, NoToken, NoData, Short, SelfSend, Claimed, Empty, NotHeld, BareOwner, MeshFull, NoMessage, Waiting, Barred, NotWaiting, Unclaimed, Size, ShortBuffer}
use Rattle.spec_wire.specs.Answers.{Check}

-- the table's numbers; its word for 8 is "self"
abbrev pub number : Refusal → ℕ
number Torn = 1
number Unsound = 2
number OffRack = 3
number Home = 4
number NoToken = 5
number NoData = 6
number Short = 7
number SelfSend = 8
number Claimed = 9
number Empty = 10
number NotHeld = 11
number BareOwner = 12
number MeshFull = 13
number NoMessage = 14
number Waiting = 15
number Barred = 16
number NotWaiting = 17
number Unclaimed = 18
number Size = 19
number ShortBuffer = 20

-- the table, and the refusal with a number of it
abbrev pub table : List Refusal
table =
    Torn ∷ Unsound ∷ OffRack ∷ Home ∷ NoToken ∷ NoData ∷ Short ∷ SelfSend ∷ Claimed ∷ Empty ∷ NotHeld ∷ BareOwner ∷ MeshFull ∷ NoMessage ∷ Waiting ∷ Barred
    ∷ NotWaiting ∷ Unclaimed ∷ Size ∷ ShortBuffer ∷ []

abbrev pub numbered : ℕ → Refusal
numbered n = get_or table (n - 1) Torn

infixr 5 when◌refuse◌else◌
-- a line of the table: the refusal where the test passes, and the lines below it where the test fails
unfoldable pub when◌refuse◌else◌ : Bool → Refusal → Check → Check
when true refuse n else k = Err n
when false refuse n else k = k
