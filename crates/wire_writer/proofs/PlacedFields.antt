-- Laws of writing fields: a turn of the loop places one, and those left follow it.
use mathlib.Core.Path.{◌≡◌, ap, ◌∙◌}
use Prim.Native.Nat.{ℕ, ◌+◌, ◌-◌, ◌≤◌, ◌<◌}
use native.Mathlib.Omega.{arith}
use mathlib.Core.List.{List, ◌++◌, map}
use lib.ListN.{length, get_or, take, drop}
use borrow.Rule.Slice.PartMut.{put_mid}
use Rattle.spec_wire.specs.declared.Field.{Field}
use Rattle.spec_wire.specs.Kinds.{field_of, value_of}
use Rattle.spec_wire.specs.StepRecord.{field_size, field_sizes, field_bytes, body_bytes}
use Rattle.spec_base.specs.Placing.{place}
use Rattle.spec_base.proofs.Lists.{map_next}
use Rattle.spec_wire.proofs.RecordSizes.{length_field}
use Rattle.spec_base.proofs.Placing.{length_place, place_more, place_rest}

-- the fields before i are placed: those from i on, placed from `at` on, make the whole
pub record Placed (tags p out₀ out : List ℕ) (at i : ℕ) : Type 0 where
  pub within : i ≤ length tags
  pub long : length out ≡ length out₀
  pub room : at + field_sizes (map field_of (drop i tags)) ≤ length out
  pub whole : place at (body_bytes (map field_of (drop i tags)) p) out ≡ place 0 (body_bytes (map field_of tags) p) out₀

-- a turn of the loop
module _ (tags p out₀ out : List ℕ) (at i : ℕ) (h : Placed tags p out₀ out at i) (more : i < length tags) where
  space : (f : Field) → f ≡ field_of (get_or tags i 0) → at + field_size f + field_sizes (map field_of (drop (i + 1) tags)) ≤ length out
  space f is = rw is (omega (arith, h.room, ap field_sizes (map_next field_of tags i more)))

  pub turn : (f : Field) (n v : ℕ) (part : List ℕ) → f ≡ field_of (get_or tags i 0) → v ≡ value_of f p → n ≡ field_size f
      → part ≡ place 0 (field_bytes f v) (take (length out - at) (drop at out))
      → Placed tags p out₀ (put_mid at (length out - at) out part) (at + n) (i + 1)
  turn f n v part is read sized said =
      let bytes : List ℕ = field_bytes f (value_of f p) in
      let rest : List ℕ = body_bytes (map field_of (drop (i + 1) tags)) p in
      let count : length bytes ≡ field_size f = length_field f (value_of f p) in
      let fits : at + field_size f + field_sizes (map field_of (drop (i + 1) tags)) ≤ length out = space f is in
      let now-out : put_mid at (length out - at) out part ≡ place at bytes out = rw (said, read) (place_rest at bytes out (omega arith)) in
      let now-long : length (place at bytes out) ≡ length out = length_place at bytes out (omega arith) in
      let parts : bytes ++ rest ≡ body_bytes (map field_of (drop i tags)) p = rw (map_next field_of tags i more, is) in
      rw (now-out, sized)
      record {
        within = omega arith;
        long = now-long ∙ h.long;
        room = omega arith;
        whole = rw (← count) (place_more at bytes rest out (omega (arith, h.room)) ∙ rw parts h.whole);
      }
