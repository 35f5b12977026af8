-- `wire_reader::body::parse_field` meets its contract: tag, length and value decide.
use borrow.Author.Rules.{rules}
use Rattle.wire_reader.proofs.FieldParsing.{field_room, other_tag, other_length, value_read}
use Rattle.wire_reader.proofs.body.parse_field.Goals as goal
use Rattle.wire_reader.proofs.body.parse_field.Goals.{else-has_tag-via-then-has_tag+else-has_length, else-has_tag-via-else-has_tag}

pub has_length-requires : goal.has_length-requires
has_length-requires c = search (rules, field_room)

pub value_at-value-requires : goal.value_at-value-requires
value_at-value-requires c = search (rules, field_room)

pub returns-then-has_length : goal.returns-then-has_length
returns-then-has_length c = search (rules, field_room, value_read)

pub returns-else-has_tag : goal.returns-else-has_tag
returns-else-has_tag c =
    elim c.else-has_tag.branch [
      | else-has_tag-via-then-has_tag+else-has_length w ↦ search (rules, field_room, other_length)
      | else-has_tag-via-else-has_tag w ↦ search (rules, field_room, other_tag)
    ]
