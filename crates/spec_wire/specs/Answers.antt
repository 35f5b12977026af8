-- Document 01, "Refusal table": what a check, a reading and a writing of a step give, which is a value or the refusal that came in its place.
use Rattle.std.specs.Prelude.{ℕ, Result, Ok}
use Rattle.spec_wire.specs.declared.Refusal.{Refusal}
use Rattle.spec_wire.specs.declared.Step.{Step}

-- the verdict of a run down the table: no line of it matched, or the first that did
abbrev pub Check : Type 0
Check = Result (Unit {0}) Refusal

abbrev pub no_refusal : Check
no_refusal = Ok tt

-- what reading bytes gives: the step that they are the record of
abbrev pub Reading : Type 0
Reading = Result Step Refusal

-- what writing a step gives: the count of bytes placed
abbrev pub Written : Type 0
Written = Result ℕ Refusal
