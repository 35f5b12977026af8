-- The claims on a block have a place of their own in the record: what is read and written there.
use mathlib.Core.Path.{◌≡◌, sym, ap, ◌∙◌}
use mathlib.Core.Bool.{true}
use mathlib.Core.List.{List}
use Prim.Native.Nat.{ℕ, ◌+◌, ◌≤◌, ◌<◌}
use native.Mathlib.Omega.{arith}
use lib.ListN.{length}
use Rattle.spec_base.specs.Number.{Bytes}
use Rattle.spec_base.specs.Layout.{slice, modify_at}
use Rattle.spec_arbiter.specs.Claims.{Claims}
use Rattle.spec_rack.specs.RecordLayout.{claims, put_claims, block_offset, claims_offset, get, put, blocks_in, boards_in, claims_size}
use Rattle.spec_rack.specs.RecordLayout as bytes_of
use Rattle.spec_rack.specs.Rack.{claims_at}
use Rattle.spec_rack.specs.Rules.{with_claims}
use Rattle.record.specs.Needs.{InLayout}
use Rattle.record.proofs.FieldOffsets.{claims_at_lem, claims_stand, claims_put}
use Rattle.record.proofs.FieldAccess.{well_formed}

module _ (s : List ℕ) (whole : InLayout s) (b : ℕ) (in_b : b < blocks_in s) (at : ℕ) (e : at ≡ block_offset b + claims_offset) where
  pub claims_room_lem : at + claims_size ≤ length s
  claims_room_lem = omega (arith, whole.room)

  module _ (bytes : Bytes s) where
    same_place : block_offset b + claims_offset ≡ at
    same_place = sym e

    pub claims_read : bytes_of.claims_at_offset (boards_in s) at s ≡ claims_at (get s) b
    claims_read =
        ap (λ (k : ℕ). (claims (boards_in s)).read (slice k claims_size s)) (sym same_place)
        ∙ sym (claims_at_lem s (well_formed s bytes whole) b in_b)

    -- and they are of their form
    pub claims_form : (claims (boards_in s)).well_formed (slice at claims_size s) ≡ true
    claims_form = ap (λ (k : ℕ). (claims (boards_in s)).well_formed (slice k claims_size s)) (sym same_place) ∙ (claims_stand s (well_formed s bytes whole) b in_b).well_formed

    pub claims_written : (f : Claims → Claims) (s₁ : List ℕ) → s₁ ≡ put_claims (boards_in s) at (f (bytes_of.claims_at_offset (boards_in s) at s)) s
        → s₁ ≡ put (with_claims (get s) b (f (claims_at (get s) b))) s
    claims_written f s₁ is =
        is ∙ ap (λ (k : Claims). put_claims (boards_in s) at (f k) s) claims_read
        ∙ ap (λ (k : ℕ). modify_at k claims_size ((claims (boards_in s)).write (f (claims_at (get s) b))) s) (sym same_place)
        ∙ sym (claims_put s (well_formed s bytes whole) b in_b (f (claims_at (get s) b)))
