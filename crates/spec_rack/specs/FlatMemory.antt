-- Document 01, "The flat memory": the memory itself, and the access that a step is. It knows no components, tokens or messages.
use Rattle.std.specs.Prelude.{ℕ, List, [], ◌∷◌, ◌++◌, get_or, set, replicate}
use Rattle.spec_wire.specs.declared.Step.{Step}
use Rattle.spec_wire.specs.declared.Step.TheVariants.{Load, Store, Send, Deliver, Raise, Lower, Forward}
use Rattle.spec_rack.specs.Rack.{zeros}

-- ---- the flat memory: its words, by block; all 0 at the start

abbrev pub Memory : Type 0
Memory = List (List ℕ)

abbrev pub blank : ℕ → Memory
blank b = replicate b zeros

-- what it is handed: block and word, and a store's value
pub data Access : Type 0 where
  load : ℕ → ℕ → Access
  store : ℕ → ℕ → ℕ → Access

-- a store replaces the word at its block and word; a load changes nothing
abbrev pub accessed : Memory → Access → Memory
accessed mem (load b w) = mem
accessed mem (store b w v) = set mem b (set (get_or mem b []) w v)

-- the memory after a list of accesses
abbrev pub memory_after : Memory → List Access → Memory
memory_after mem [] = mem
memory_after mem (a ∷ rest) = memory_after (accessed mem a) rest

-- a load gives the word there
abbrev pub given : Memory → Access → List ℕ
given mem (load b w) = get_or (get_or mem b []) w 0 ∷ []
given mem (store b w v) = []

-- what it gives for a list of accesses
unfoldable pub flat : Memory → List Access → List ℕ
flat mem [] = []
flat mem (a ∷ rest) = given mem a ++ flat (accessed mem a) rest

-- ---- the access of a load or a store; other steps are none

abbrev pub access_of : Step → List Access
access_of (Load c b w) = load b w ∷ []
access_of (Store c b w v) = store b w v ∷ []
access_of (Send c b t p o d) = []
access_of (Deliver i) = []
access_of (Raise c b) = []
access_of (Lower c b) = []
access_of (Forward c b) = []
