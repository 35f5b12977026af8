-- A record with other bytes at some places is sound or not, by computation on the layout.
use mathlib.Core.Path.{refl}
use Rattle.spec_base.specs.Folds.{all_below}
use Rattle.spec_arbiter.specs.Boards.{bit, member, subset, boards_only}
use Rattle.spec_arbiter.specs.Claims.{sound_barring, sound_claims}
use Rattle.spec_rack.specs.Rack.{mesh_limit}
use Rattle.spec_rack.specs.RecordLayout.{barring_sets, claims, words, message_header, message, byte_lanes, token_lanes, block, header, rack_layout, get}
use Rattle.spec_rack.specs.Soundness.{sound, well_formed_record, sound_bytes}
use Rattle.spec_rack.specs.RecordBytes.{AlteredBytes}

pub altered_bytes : AlteredBytes
unfolding mesh_limit bit member all_below sound sound_claims boards_only sound_barring subset barring_sets claims words message_header message byte_lanes token_lanes block header rack_layout get well_formed_record sound_bytes
altered_bytes =
    record {
      unsound = refl;
      another_format = refl;
      no_format = refl;
      short = refl;
      sound = refl;
    }
