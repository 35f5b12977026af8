-- `wire_reader::body::value_at` meets its contract: four bytes, or one.
use mathlib.Core.Path.{sym, ◌∙◌}
use Rattle.wire_reader.proofs.FieldParsing.{value_four}
use Rattle.wire_reader.proofs.body.value_at.Goals as goal

pub returns-in-4 : goal.returns-in-4
returns-in-4 c = c.read_at.ensures ∙ sym (value_four c.args.field.width c.args.at c.args.bytes.now c.in-4.is)
