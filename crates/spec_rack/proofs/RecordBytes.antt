-- The two records: written by computation on the layout; read and sound, since a record that is written is read back (RecordTrips).
use Prim.Native.Nat.{ℕ, zero, suc, ◌≤◌}
use native.Mathlib.Omega.{arith}
use mathlib.Core.Path.{◌≡◌, refl, sym, subst, ◌∙◌}
use mathlib.Core.Bool.{true}
use mathlib.Core.List.{List}
use lib.ListN.{length, length-replicate}
use Rattle.spec_base.specs.Number.{Bytes}
use Rattle.spec_base.specs.Folds.{all_below}
use Rattle.spec_base.specs.Layout.{overwrite}
use Rattle.spec_wire.specs.Refusals.{when◌refuse◌else◌}
use Rattle.spec_arbiter.specs.Boards.{bit, member, insert, remove, subset, boards_only}
use Rattle.spec_arbiter.specs.Claims.{raise_check, raised, lower_check, lowered, sound_barring, sound_claims}
use Rattle.spec_rack.specs.Rack.{Rack, mesh_limit}
use Rattle.spec_rack.specs.RecordLayout.{record_length, barring_sets, claims, words, message_header, message, byte_lanes, token_lanes, block, header, rack_layout, get, put}
use Rattle.spec_rack.specs.Soundness.{sound, sound_bytes}
use Rattle.spec_rack.specs.Rules.{check, after, answer, rules, stored, sent, delivered}
use Rattle.spec_rack.specs.Lists.{run_all}
use Rattle.spec_rack.specs.RecordTrips.{words_fit}
use Rattle.spec_rack.specs.RecordBytes.{room, small, small_record, large, large_record, RecordBytes, Offsets}
use Rattle.spec_rack.proofs.RecordTrips.{record_trips}

bytes_room : (n : ℕ) → Bytes (room n)
bytes_room zero i = omega arith
bytes_room (suc n) zero = omega arith
bytes_room (suc n) (suc i) = bytes_room n i

-- s has n bytes and is a sound record, which holds the rack r
record RecordOf (r : Rack) (n : ℕ) (s : List ℕ) : Type 0 where
  long : length s ≡ n
  back : get s ≡ r
  sound : sound_bytes s ≡ true

-- so it is of the bytes that are written over a buffer of AA
record_of : (r : Rack) (n : ℕ) (s : List ℕ) → sound r ≡ true → words_fit r ≡ true → record_length (length r.blocks) ≤ n → put r (room n) ≡ s → RecordOf r n s
record_of r n s ok fit enough written =
    let many : length (room n) ≡ n = length-replicate n 0xAA in
    let w = record_trips.written r (room n) ok fit (bytes_room n) (subst (λ (k : ℕ). record_length (length r.blocks) ≤ k) (sym many) enough) in
    subst (RecordOf r n) written (record { long = w.rest.size ∙ many; back = w.back; sound = w.sound })

small_written : put small (room 3224) ≡ small_record
unfolding run_all when◌refuse◌else◌ check after answer rules mesh_limit stored sent delivered raise_check raised lower_check lowered bit member insert remove overwrite barring_sets claims words message_header message byte_lanes token_lanes block header rack_layout put
small_written = refl

large_written : put large (room 4488) ≡ large_record
unfolding run_all when◌refuse◌else◌ check after answer rules mesh_limit stored sent delivered raise_check raised lower_check lowered bit member insert remove overwrite barring_sets claims words message_header message byte_lanes token_lanes block header rack_layout put
large_written = refl

small_record_lem : RecordOf small 3224 small_record
unfolding run_all when◌refuse◌else◌ check after answer rules mesh_limit stored sent delivered raise_check raised lower_check lowered bit member insert remove all_below sound sound_claims boards_only sound_barring subset
small_record_lem = record_of small 3224 small_record refl refl (omega arith) small_written

large_record_lem : RecordOf large 4488 large_record
unfolding run_all when◌refuse◌else◌ check after answer rules mesh_limit stored sent delivered raise_check raised lower_check lowered bit member insert remove all_below sound sound_claims boards_only sound_barring subset
large_record_lem = record_of large 4488 large_record refl refl (omega arith) large_written

pub record_bytes_lem : RecordBytes
record_bytes_lem =
    record {
      small_length = small_record_lem.long;
      large_length = large_record_lem.long;
      small_put = small_written;
      small_get = small_record_lem.back;
      small_sound = small_record_lem.sound;
      large_put = large_written;
      large_get = large_record_lem.back;
      large_sound = large_record_lem.sound;
    }

pub offsets : Offsets
unfolding overwrite barring_sets claims words message_header message byte_lanes token_lanes block header rack_layout
offsets =
    record {
      counts = refl;
      format_bytes_lem = refl;
      format_number_lem = refl;
      message = λ c k b p o d. refl;
      messages = refl;
      message_words = refl;
      blocks = refl;
      words = refl;
      large_lanes = refl;
      small_lanes_lem = refl;
      lanes_size_lem = refl;
      claims = refl;
      sets = refl;
      claims_size_lem = refl;
      sizes = refl;
      record_sizes = refl;
    }
