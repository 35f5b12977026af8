-- What an opening and a deliver leave of a whole buffer, by computation on the layout, the rules and the entries.
use mathlib.Core.Path.{refl}
use Rattle.spec_base.specs.Folds.{all_below}
use Rattle.spec_arbiter.specs.Boards.{bit, member, subset, boards_only}
use Rattle.spec_arbiter.specs.Claims.{sound_barring, sound_claims}
use Rattle.spec_rack.specs.Rack.{mesh_limit}
use Rattle.spec_rack.specs.RecordLayout.{barring_sets, claims, words, message_header, message, byte_lanes, token_lanes, block, header, rack_layout, get, put}
use Rattle.spec_rack.specs.Soundness.{sound, well_formed_record, sound_bytes}
use Rattle.spec_rack.specs.RecordBytes.{BytesAfter}
use Rattle.spec_base.specs.Layout.{overwrite}
use Rattle.spec_wire.specs.Refusals.{when◌refuse◌else◌}
use Rattle.spec_wire.specs.Kinds.{kind_of}
use Rattle.spec_wire.specs.Reader.{has_header, read_body, read_record}
use Rattle.spec_rack.specs.Rules.{check, after, answer, rules, delivered}
use Rattle.spec_rack.specs.Opening.{open_check, open_after}
use Rattle.spec_rack.specs.Entries.{step_after}

pub bytes_after : BytesAfter
unfolding mesh_limit bit member all_below sound sound_claims boards_only sound_barring subset barring_sets claims words message_header message byte_lanes token_lanes block header rack_layout get put overwrite well_formed_record sound_bytes when◌refuse◌else◌ kind_of has_header read_body read_record check after answer rules delivered open_check open_after step_after
bytes_after = record { opened = refl; delivered = refl }
