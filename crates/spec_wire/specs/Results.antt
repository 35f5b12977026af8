-- Document 01, "Language forms in the code": the number that stands for each answer at an exported entry.
use Rattle.std.specs.Prelude.{ℕ, ◌+◌, ◌*◌}
use Rattle.spec_wire.specs.declared.Refusal.{Refusal}
use Rattle.spec_wire.specs.Refusals.{number}

-- 64 bits: the kind of answer in the highest 8, a component in the next 8, a block in the next 16, a number in the lowest 32
abbrev pub packed : ℕ → ℕ → ℕ → ℕ → ℕ
packed kind component block n = kind * 0x100_0000_0000_0000 + component * 0x1_0000_0000_0000 + block * 0x1_0000_0000 + n

-- The kinds of answer. Component and block are 0 where an answer has none.

-- kind 0: done, with a count where the entry gives one and 0 where it does not
abbrev pub done : ℕ → ℕ
done count = packed 0 0 0 count

-- kind 1: refused, with the refusal's number
abbrev pub refused : Refusal → ℕ
refused r = packed 1 0 0 (number r)
