-- The readings of document 01's records hold, by computation on the definitions.
use mathlib.Core.Path.{refl}
use Rattle.spec_base.specs.Folds.{all_below}
use Rattle.spec_base.specs.Placing.{place}
use Rattle.spec_wire.specs.Kinds.{field_array, kind_of, in_bounds}
use Rattle.spec_wire.specs.StepRecord.{field_bytes, record_bytes, step_bytes}
use Rattle.spec_wire.specs.Reader.{has_header, read_body, read_record}
use Rattle.spec_wire.specs.Writer.{written, placed, written_of, placed_of}
use Rattle.spec_wire.specs.FieldArray.{same, step_of_twelve, step_of_array, read_result, read_after}
use Rattle.spec_wire.specs.Frames.{frame_size, frames}
use Rattle.spec_wire.specs.Readings.{Numbers, Records, TornBytes, Placed, Cuts}

pub numbers : Numbers
numbers = refl

pub records : Records
unfolding kind_of field_array field_bytes record_bytes step_bytes has_header read_body read_record
records =
    record {
      listing_bytes = refl;
      listing_read = refl;
      load = refl;
      store = refl;
      send = refl;
      deliver = refl;
      raise = refl;
      lower = refl;
      forward = refl;
      load_read = refl;
      store_read = refl;
      send_read = refl;
      deliver_read = refl;
      raise_read = refl;
      lower_read = refl;
      forward_read = refl;
      highest = refl;
      highest_value = refl;
    }

pub torn_bytes : TornBytes
unfolding kind_of has_header read_body read_record
torn_bytes =
    record {
      good = refl;
      few = refl;
      kinds = refl;
      bare_kinds = refl;
      other_kind = refl;
      order = refl;
      twice = refl;
      missing = refl;
      foreign = refl;
      extra = refl;
      cut = refl;
      lengths = refl;
      length_low_first = refl;
      field_lengths = refl;
      marks = refl;
      bad_marks = refl;
    }

pub placing : Placed
unfolding all_below place kind_of field_array in_bounds field_bytes record_bytes step_bytes has_header read_body read_record written placed written_of placed_of same step_of_twelve step_of_array read_result read_after
placing =
    record {
      count = refl;
      placing = refl;
      last = refl;
      past = refl;
      past_leaves = refl;
      numbers = refl;
      write_1 = refl;
      write_20 = refl;
      write_leaves = refl;
      read_1 = refl;
      read_20 = refl;
      read_20_leaves = refl;
      read_done = refl;
      read_numbers = refl;
      refused_number = refl;
      written_number = refl;
    }

pub cutting : Cuts
unfolding frame_size frames
cutting =
    record {
      none = refl;
      several = refl;
      by_length = refl;
      high_byte = refl;
      two_left = refl;
      one_left = refl;
    }
