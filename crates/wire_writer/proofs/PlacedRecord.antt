-- Laws of writing: where there is room and where not, and into the rest of a buffer.
use mathlib.Core.Path.{◌≡◌, sym, ap, ◌∙◌}
use mathlib.Core.Bool.{Bool, true, false, cond}
use Prim.Native.Nat.{ℕ, ◌+◌, ◌-◌, ◌≤◌, ◌<◌}
use native.Mathlib.Omega.{arith}
use native.Mathlib.Decide.{dec_le}
use mathlib.Core.List.{List}
use lib.ListN.{length, take, drop, length-drop}
use borrow.Rule.Slice.PartMut.{put_mid, put_same}
use borrow.Author.Tests.{le-leb, lt-leb}
use Rattle.spec_base.specs.Placing.{place, room_for}
use Rattle.spec_base.proofs.Lists.{rest_all}
use Rattle.spec_base.proofs.Placing.{place_rest}
use Rattle.spec_wire.specs.declared.Refusal.{Refusal}
use Rattle.spec_wire.specs.declared.Refusal.TheVariants.{ShortBuffer}
use Rattle.std.specs.Prelude.{Ok, Err}
use Rattle.spec_wire.specs.Writer.{written, placed}
pub use Rattle.spec_wire.proofs.KindTable.{sizes_bound, places_length}
pub use Rattle.spec_wire.proofs.RecordSizes.{length_body, length_record}

-- writing, where there is room and where not
module _ (bs : List ℕ) (at : ℕ) (out : List ℕ) where
  pub written_room : at + length bs ≤ length out → Ok (length bs) ≡ written bs at out
  unfolding written
  written_room h = rw (le-leb (at + length bs) (length out) h)

  pub written_short : length out < at + length bs → Err ShortBuffer ≡ written bs at out
  unfolding written
  written_short h = rw (lt-leb (at + length bs) (length out) h)

  pub placed_room : at + length bs ≤ length out → place at bs out ≡ placed bs at out
  unfolding placed
  placed_room h = rw (le-leb (at + length bs) (length out) h)

  pub placed_short : length out < at + length bs → out ≡ placed bs at out
  unfolding placed
  placed_short h = rw (lt-leb (at + length bs) (length out) h)

-- writing into the rest of the buffer, lent from an offset on
module _ (bs : List ℕ) (at : ℕ) (out : List ℕ) (within : at ≤ length out) where
  abbrev part : List ℕ
  part = take (length out - at) (drop at out)

  long : length part ≡ length out - at
  long = rw (rest_all out at) (length-drop at out)

  pub written_part : written bs 0 part ≡ written bs at out
  written_part = by_room (dec_le (at + length bs) (length out))
    where
      by_room : Dec (at + length bs ≤ length out) → written bs 0 part ≡ written bs at out
      by_room (yes h) = sym (written_room bs 0 part (omega (arith, long))) ∙ written_room bs at out h
      by_room (no h) = sym (written_short bs 0 part (omega (arith, long, h))) ∙ written_short bs at out (omega (arith, h))

  pub placed_part : put_mid at (length out - at) out (placed bs 0 part) ≡ placed bs at out
  placed_part = by_room (dec_le (at + length bs) (length out))
    where
      back : List ℕ → List ℕ
      back l = put_mid at (length out - at) out l

      by_room : Dec (at + length bs ≤ length out) → put_mid at (length out - at) out (placed bs 0 part) ≡ placed bs at out
      by_room (yes h) = ap back (sym (placed_room bs 0 part (omega (arith, long)))) ∙ place_rest at bs out h ∙ placed_room bs at out h
      by_room (no h) = ap back (sym (placed_short bs 0 part (omega (arith, long, h)))) ∙ put_same at (length out - at) out ∙ placed_short bs at out (omega (arith, h))

-- what is written, and how long it is
pub ruleset laws = (written_room, written_short, placed_room, placed_short, written_part, placed_part, sizes_bound, places_length, length_body, length_record)

pub refused_count : {r : Refusal} {n : ℕ} → Err r ≡ Ok n → ⊥
refused_count e = let z : ◌≡◌ {A = ℕ} 0 1 = cc in omega arith

-- The count that writing gives is the record's length.
pub written_count : (bs : List ℕ) (at : ℕ) (out : List ℕ) (n : ℕ) → Ok n ≡ written bs at out → n ≡ length bs
unfolding written
written_count bs at out n e = by_room (room_for bs at out) e
  where
    by_room : (t : Bool) → Ok n ≡ cond t (Ok (length bs)) (Err ShortBuffer) → n ≡ length bs
    by_room true r = cc
    by_room false r = absurd (refused_count (sym r))
