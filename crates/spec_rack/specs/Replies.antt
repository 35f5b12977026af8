-- Document 01, "Steps" and "State letter": what a step and a question for a letter are replied to with, which is an answer or a refusal.
use Rattle.std.specs.Prelude.{Result}
use Rattle.spec_wire.specs.declared.Refusal.{Refusal}
use Rattle.spec_rack.specs.declared.Answer.{Answer}
use Rattle.spec_rack.specs.declared.Letter.{Letter}

-- the reply to a step or an opening
abbrev pub Reply : Type 0
Reply = Result Answer Refusal

-- the reply to a question for the state letter of a board and a block
abbrev pub Lettered : Type 0
Lettered = Result Letter Refusal
