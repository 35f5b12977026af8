-- The tags of each kind's fields, by computation; of what is no kind byte, by the law of the table.
use mathlib.Core.Path.{◌≡◌, refl}
use Prim.Native.Nat.{ℕ, ◌≤◌, ◌<◌}
use native.Mathlib.Omega.{arith}
use mathlib.Core.List.{[], ◌∷◌}
use Rattle.spec_base.proofs.Lists.{each_at}
use Rattle.spec_wire.specs.Kinds.{field_of, kind_of}
use Rattle.spec_wire.proofs.KindTable.{kind_none}
use Rattle.wire_writer.specs.KindTags.{TagsOf}

pub load_tags : (k : ℕ) → k ≡ 16 → TagsOf k (1 ∷ 2 ∷ 3 ∷ [])
unfolding field_of kind_of
load_tags k e = rw e record { few = omega arith; fields = refl }

pub store_tags : (k : ℕ) → k ≡ 17 → TagsOf k (1 ∷ 2 ∷ 3 ∷ 4 ∷ [])
unfolding field_of kind_of
store_tags k e = rw e record { few = omega arith; fields = refl }

pub send_tags : (k : ℕ) → k ≡ 18 → TagsOf k (1 ∷ 2 ∷ 5 ∷ 6 ∷ 7 ∷ 8 ∷ [])
unfolding field_of kind_of
send_tags k e = rw e record { few = omega arith; fields = refl }

pub deliver_tags : (k : ℕ) → k ≡ 19 → TagsOf k (9 ∷ [])
unfolding field_of kind_of
deliver_tags k e = rw e record { few = omega arith; fields = refl }

-- raise, lower and forward have the same fields
pub claim_tags : (k : ℕ) → 20 ≤ k → k < 23 → TagsOf k (1 ∷ 2 ∷ [])
unfolding field_of kind_of
claim_tags = each_at (λ k. TagsOf k (1 ∷ 2 ∷ [])) 20 3 (((tt, record { few = omega arith; fields = refl }), record { few = omega arith; fields = refl }), record { few = omega arith; fields = refl })

-- what is no kind byte
pub no_tags : (k : ℕ) → (16 ≤ k → 23 ≤ k) → TagsOf k (0 ∷ [])
unfolding field_of
no_tags k h =
    let none = kind_none k ((λ e. omega arith), ((λ e. omega arith), ((λ e. omega arith), ((λ e. omega arith), ((λ e. omega arith), ((λ e. omega arith), ((λ e. omega arith), tt))))))) in
    record { few = omega arith; fields = rw none }

pub ruleset tag_table = (load_tags, store_tags, send_tags, deliver_tags, claim_tags, no_tags)
