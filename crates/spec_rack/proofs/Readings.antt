-- The readings hold: those of single racks by computation on the definitions, and the one of all racks line by line of the table.
use mathlib.Core.Path.{◌≡◌, refl}
use mathlib.Core.Bool.{Bool, true, false}
use mathlib.Core.List.{List}
use Prim.Native.Nat.{ℕ}
use lib.ListN.{length}
use borrow.Author.Tests.{lt-leb}
use Rattle.spec_base.specs.Folds.{all_below}
use Rattle.spec_wire.specs.declared.Refusal.{Refusal}
use Rattle.spec_wire.specs.Answers.{Check}
use Rattle.spec_wire.specs.declared.Step.TheVariants.{Load, Store, Send, Deliver, Raise, Lower, Forward}
use Rattle.spec_wire.specs.Refusals.{number, when◌refuse◌else◌}
use Rattle.spec_wire.specs.Kinds.{kind_of, field_array}
use Rattle.spec_wire.specs.StepRecord.{field_bytes, record_bytes, step_bytes}
use Rattle.spec_wire.specs.Reader.{has_header, read_body, read_record}
use Rattle.spec_arbiter.specs.Boards.{bit, member, insert, remove, subset, boards_only, first_from, lowest}
use Rattle.spec_arbiter.specs.Claims.{raise_check, raised, lower_check, lowered, sound_barring, sound_claims}
use Rattle.spec_rack.specs.Rack.{mesh_limit}
use Rattle.spec_rack.specs.RecordLayout.{record_length, blocks_in}
use Rattle.spec_rack.specs.Soundness.{sound, well_formed_record, sound_bytes}
use Rattle.spec_rack.specs.Rules.{check, after, answer, rules, stored, sent, delivered, forwarded}
use Rattle.spec_rack.specs.Letter.{letter_check, letter, letter_reply}
use Rattle.spec_rack.specs.FlatMemory.{flat}
use Rattle.spec_rack.specs.Lists.{run_all, answers_of, accesses_of}
use Rattle.spec_rack.specs.Opening.{open_check, open_reply}
use Rattle.spec_rack.specs.Entries.{step_reply}
use Rattle.spec_rack.specs.Readings.{listed, among, OnlyNaming, ShortRecord, FirstMatch, Edges, Effects, FlatMemory, RaiseAndLower, Soundness}

-- a line of the table with a number of the list, above lines that keep to it
keeps : (ns : List ℕ) (t : Bool) (n : Refusal) (k : Check) → listed (number n) ns ≡ true → among ns k ≡ true → among ns (when t refuse n else k) ≡ true
unfolding when◌refuse◌else◌
keeps ns true n k here rest = here
keeps ns false n k here rest = rest

pub only_naming : OnlyNaming
unfolding check raise_check lower_check
only_naming r (Load c b w) = search keeps depth 12
only_naming r (Store c b w v) = search keeps depth 12
only_naming r (Send c b t p o d) = search keeps depth 12
only_naming r (Deliver i) = search keeps depth 12
only_naming r (Raise c b) = search keeps depth 12
only_naming r (Lower c b) = search keeps depth 12
only_naming r (Forward c b) = search keeps depth 12

pub short_record : ShortRecord
unfolding letter_reply sound_bytes well_formed_record
short_record s c b l = rw (lt-leb (record_length (blocks_in s)) (length s) l) refl

pub first_match : FirstMatch
unfolding run_all when◌refuse◌else◌ check after answer rules letter_check letter mesh_limit stored sent delivered forwarded raise_check raised lower_check lowered bit member insert remove first_from lowest step_reply letter_reply sound_bytes well_formed_record step_bytes field_bytes record_bytes read_record read_body has_header kind_of field_array open_check open_reply
first_match =
    record {
      send_3 = refl;
      send_8 = refl;
      send_9 = refl;
      send_10 = refl;
      send_11 = refl;
      send_12 = refl;
      send_12_bare = refl;
      send_13_bare = refl;
      send_6 = refl;
      send_13 = refl;
      forward_3 = refl;
      forward_3_claimed = refl;
      forward_18 = refl;
      forward_8 = refl;
      forward_5 = refl;
      forward_13 = refl;
      home_3 = refl;
      home_4 = refl;
      home_4_claimed = refl;
      home_4_all = refl;
      home_5 = refl;
      home_6 = refl;
      board_3 = refl;
      load_5 = refl;
      letter_2 = refl;
      letter_3 = refl;
      letter_4 = refl;
      step_1 = refl;
      step_2 = refl;
      opening_19 = refl;
      opening_20 = refl;
    }

pub edges : Edges
unfolding run_all when◌refuse◌else◌ check after answer rules letter_check letter mesh_limit stored sent delivered forwarded raise_check raised lower_check lowered bit member insert remove first_from lowest open_check
edges =
    record {
      component_in = refl;
      component_out = refl;
      block_in = refl;
      block_out = refl;
      word_in = refl;
      word_out = refl;
      target_in = refl;
      target_out = refl;
      letter_in = refl;
      letter_off = refl;
      letter_off_block = refl;
      plain_high = refl;
      position_high = refl;
      boards = refl;
      blocks = refl;
      tokens = refl;
      lengths = refl;
      longest = refl;
      longest_fits = refl;
      buffer = refl;
    }

pub effects : Effects
unfolding run_all when◌refuse◌else◌ check after answer rules letter_check letter mesh_limit stored sent delivered forwarded raise_check raised lower_check lowered bit member insert remove first_from lowest answers_of sound all_below sound_claims boards_only sound_barring subset
effects =
    record {
      fresh_home = refl;
      fresh_boards = refl;
      fresh_sets = refl;
      fresh_mesh = refl;
      store_there = refl;
      store_only = refl;
      store_no_board = refl;
      store_last = refl;
      send_all_lem = refl;
      send_some = refl;
      claims_leave_words = refl;
      send_data = refl;
      send_no_data = refl;
      send_accepted = refl;
      deliver_position = refl;
      deliver_data = refl;
      deliver_no_data = refl;
      deliver_stale = refl;
      forward_bare = refl;
      forward_own_block = refl;
      forward_own_target = refl;
      mesh_63 = refl;
      mesh_63_send = refl;
      letter_one = refl;
      letter_one_stored = refl;
      letter_other_at_home = (refl, refl);
    }

pub flat_memory : FlatMemory
unfolding run_all when◌refuse◌else◌ check after answer rules letter_check letter mesh_limit stored sent delivered forwarded raise_check raised lower_check lowered bit member insert remove first_from lowest flat accesses_of
flat_memory =
    record {
      words = refl;
      handed = refl;
      handed_at_home = refl;
    }

pub raise_and_lower : RaiseAndLower
unfolding run_all when◌refuse◌else◌ check after answer rules letter_check letter mesh_limit stored sent delivered forwarded raise_check raised lower_check lowered bit member insert remove first_from lowest
raise_and_lower =
    record {
      raise = refl;
      active_first = refl;
      active_displaced = refl;
      lower = refl;
      lower_next = refl;
      lower_last = refl;
      later = refl;
      later_beside = refl;
      other_block = refl;
    }

pub soundness : Soundness
unfolding sound mesh_limit all_below sound_claims sound_barring subset boards_only bit member
soundness =
    record {
      opened = refl;
      met_on_the_way = refl;
      no_board = refl;
      many_boards = refl;
      no_block = refl;
      many_blocks = refl;
      few_tokens = refl;
      many_tokens = refl;
      messages_64 = refl;
      messages_65 = refl;
      no_data = refl;
      with_data = refl;
      words_without_data = refl;
      last_word_without_data = refl;
      sender_N = refl;
      sender_unknown = refl;
      target_N = refl;
      target_home = refl;
      target_unknown = refl;
      target_same = refl;
      block_unknown = refl;
      no_token = refl;
      no_token_with_data = refl;
      owner_with_data = refl;
      bare_clean_board = refl;
      bare_clean_home = refl;
      bare_dirty_home = refl;
      dirty_with_data = refl;
      dirty_at_home = refl;
      shared = refl;
      one_more = refl;
      one_less = refl;
      one_more_in_flight = refl;
      one_less_of_another = refl;
      two_owners = refl;
      no_owner = refl;
      two_owners_in_flight = refl;
      valid_without_token = refl;
      home_valid_without_token = refl;
      owner_not_valid = refl;
      dirty_not_valid = refl;
      left_behind = refl;
      waits_N = refl;
      waits_0 = refl;
      waits_above = refl;
      bars_0 = refl;
      bars_above = refl;
      bars_within = refl;
      bars_outside = refl;
      both_wait = refl;
      waiting_is_barred = refl;
      last_is_barred = refl;
      bars_outside_in_another = refl;
    }
