-- The texts hold by computation on the definitions, and what is used of an input by the laws of lists.
use mathlib.Core.Path.{refl}
use lib.Seq.{take_at, take_all}
use Rattle.spec_wire.specs.Refusals.{when◌refuse◌else◌}
use Rattle.spec_wire.specs.Kinds.{kind_of, field_array}
use Rattle.spec_wire.specs.StepRecord.{field_bytes, record_bytes, step_bytes}
use Rattle.spec_wire.specs.Reader.{has_header, read_body, read_record}
use Rattle.spec_wire.specs.Frames.{frame_size, frames}
use Rattle.spec_arbiter.specs.Boards.{bit, member, insert, remove, first_from, lowest}
use Rattle.spec_arbiter.specs.Claims.{raise_check, raised, lower_check, lowered}
use Rattle.spec_rack.specs.Rack.{mesh_limit}
use Rattle.spec_rack.specs.Rules.{check, after, answer, rules, opening_check, opening, stored, sent, delivered, forwarded}
use Rattle.spec_rack.specs.Letter.{letter_check, letter}
use Rattle.spec_rack.specs.Lists.{run_all, replies_of}
use Rattle.spec_rack.specs.Opening.{open_check, open_reply, open_after}
use Rattle.spec_rackrun.specs.Rackrun.{decimal, digits, reply_text, line, lines, opening_reply, opening_after, text}
use Rattle.spec_rackrun.specs.RuledText.{ruled_text}
use Rattle.spec_rackrun.specs.Printed.{Printed}

pub printed : Printed
unfolding run_all when◌refuse◌else◌ check after answer rules letter_check letter mesh_limit stored sent delivered forwarded raise_check raised lower_check lowered bit member insert remove first_from lowest opening opening_check replies_of ruled_text lines step_bytes field_bytes record_bytes field_array frame_size frames read_record read_body has_header kind_of decimal digits reply_text line text opening_reply open_check open_reply open_after opening_after
printed =
    record {
      characters = refl;
      ok = refl;
      word = refl;
      all_digits = refl;
      refusal = refl;
      longest = refl;
      served = refl;
      served_largest = refl;
      used = λ front rest l. take_at front rest _ l;
      used_all = λ input l. take_all _ input l;
      under_three = refl;
      bad_sizes = refl;
      example = refl;
      whom = refl;
      home_loads = refl;
      bare_home = refl;
      torn_ones = refl;
    }
