-- Laws of the tables: what holds of each line holds of the field with a tag, and of the kind with a kind byte.
use mathlib.Core.Path.{◌≡◌, refl}
use mathlib.Core.Logic.{◌⊎◌, inl, inr}
use Prim.Native.Nat.{ℕ, ◌*◌, ◌^◌, ◌≤◌, ◌<◌}
use native.Mathlib.Omega.{arith}
use mathlib.Core.Bool.{Bool, true, false, cond}
use mathlib.Core.List.{List, [], ◌∷◌, map}
use lib.ListN.{length, take}
use lib.Seq.{get_or-take}
use lib.Dec.{eqb}
use borrow.Author.Tests.{eqb-true, ne_eqb, ltb-true, lt-ltb}
use Rattle.spec_base.specs.Folds.{All}
use Rattle.spec_base.proofs.Folds.{all_every, every_all}
use Rattle.spec_wire.specs.declared.Field.{Field}
use Rattle.spec_wire.specs.declared.Step.{Step}
use Rattle.spec_wire.specs.declared.Step.TheVariants.{Load, Store, Send, Deliver, Raise, Lower, Forward}
use Rattle.spec_wire.specs.Kinds.{load_kind, forward_kind, all_fields, no_field, field_tagged, field_of, Kind, kinds, no_kind, kind_coded, kind_of, field_array, kind_in, value_of, in_bounds}
use Rattle.spec_wire.specs.StepRecord.{field_sizes}

-- ---- fields

module _ (P : Field → Type 0) (none : P no_field) where
  tagged_elim : (fs : List Field) → All P fs → (t : ℕ) → P (field_tagged t fs)
  tagged_elim [] a t = none
  tagged_elim (f ∷ fs) a t = pick (eqb t f.tag) (tagged_elim fs a.1 t)
    where
      pick : (b : Bool) → P (field_tagged t fs) → P (cond b f (field_tagged t fs))
      pick true r = a.0
      pick false r = r

-- a tag that is no field's
module _ (t : ℕ) where
  tagged_none : (fs : List Field) → All (λ f. t ≡ f.tag → ⊥) fs → field_tagged t fs ≡ no_field
  tagged_none [] a = refl
  tagged_none (f ∷ fs) a = rw (ne_eqb t f.tag a.0) (tagged_none fs a.1)

  pub field_none : All (λ f. t ≡ f.tag → ⊥) all_fields → field_of t ≡ no_field
  unfolding field_of
  field_none = tagged_none all_fields

-- no field has a tag out of 1 to 9
pub tag_unknown : (t : ℕ) → ((k : ℕ) → 1 ≤ k → k ≤ 9 → t ≡ k → ⊥) → field_of t ≡ no_field
tag_unknown t h =
    field_none t (h 1 (omega arith) (omega arith), (h 2 (omega arith) (omega arith), (h 3 (omega arith) (omega arith), (h 4 (omega arith) (omega arith), (h 5 (omega arith) (omega arith), (h 6 (omega arith) (omega arith), (h 7 (omega arith) (omega arith), (h 8 (omega arith) (omega arith), (h 9 (omega arith) (omega arith), tt)))))))))

pub width_fits : (t : ℕ) → (field_of t).width ≤ 4
unfolding field_of
width_fits = tagged_elim (λ f. f.width ≤ 4) (omega arith) all_fields (omega arith)

pub one_or_four : (t : ℕ) → ((field_of t).width ≡ 1) ⊎ ((field_of t).width ≡ 4)
unfolding field_of
one_or_four = tagged_elim (λ f. (f.width ≡ 1) ⊎ (f.width ≡ 4)) (inl refl) all_fields
    (inl refl, (inl refl, (inl refl, (inr refl, (inl refl, (inl refl, (inl refl, (inl refl, (inl refl, tt)))))))))

pub tag_small : (t : ℕ) → (field_of t).tag < 12
unfolding field_of
tag_small = tagged_elim (λ f. f.tag < 12) (omega arith) all_fields (omega arith)

pub sizes_bound : (ts : List ℕ) → field_sizes (map field_of ts) ≤ 7 * length ts
sizes_bound [] = omega arith
sizes_bound (t ∷ ts) = omega (arith, width_fits t, sizes_bound ts)

-- values in bounds
pub fit_of : (fs : List Field) (p : List ℕ) → All (λ f. value_of f p < f.limit) fs → in_bounds fs p ≡ true
unfolding in_bounds
fit_of fs p = every_all (λ f. value_of f p < f.limit) _ fs (λ f l. lt-ltb (value_of f p) f.limit l)

pub of_fit : (fs : List Field) (p : List ℕ) → in_bounds fs p ≡ true → All (λ f. value_of f p < f.limit) fs
unfolding in_bounds
of_fit fs p = all_every (λ f. value_of f p < f.limit) _ fs (λ f e. ltb-true (value_of f p) f.limit e)

-- ---- kinds

module _ (P : ℕ → Kind → Type 0) (none : (k : ℕ) → P k no_kind) where
  coded_elim : (ks : List Kind) → All (λ x. P x.code x) ks → (k : ℕ) → P k (kind_coded k ks)
  coded_elim [] a k = none k
  coded_elim (x ∷ xs) a k = pick (eqb k x.code) refl (coded_elim xs a.1 k)
    where
      pick : (b : Bool) → eqb k x.code ≡ b → P k (kind_coded k xs) → P k (cond b x (kind_coded k xs))
      pick true e r = rw (eqb-true k x.code e) a.0
      pick false e r = r

  pub kind_elim : All (λ x. P x.code x) kinds → (k : ℕ) → P k (kind_of k)
  unfolding kind_of
  kind_elim = coded_elim kinds

-- a kind byte that is no kind's
module _ (k : ℕ) where
  coded_none : (ks : List Kind) → All (λ x. k ≡ x.code → ⊥) ks → kind_coded k ks ≡ no_kind
  coded_none [] a = refl
  coded_none (x ∷ xs) a = rw (ne_eqb k x.code a.0) (coded_none xs a.1)

  pub kind_none : All (λ x. k ≡ x.code → ⊥) kinds → kind_of k ≡ no_kind
  unfolding kind_of
  kind_none = coded_none kinds

-- a value of each field fits its width, and each width fits a length of two bytes
abbrev pub Sound : Field → Type 0
Sound f = (f.limit ≤ 256 ^ f.width) × (f.width < 65536)

pub fields_sound : (k : ℕ) → All Sound (kind_of k).fields
fields_sound = kind_elim (λ k x. All Sound x.fields) (λ k. omega arith)
    (omega arith, (omega arith, (omega arith, (omega arith, (omega arith, (omega arith, (omega arith, tt)))))))

-- fields stand at the places below 12
pub tags_small : (k : ℕ) → All (λ f. f.tag < 12) (kind_of k).fields
tags_small = kind_elim (λ k x. All (λ f. f.tag < 12) x.fields) (λ k. omega arith)
    (omega arith, (omega arith, (omega arith, (omega arith, (omega arith, (omega arith, (omega arith, tt)))))))

pub get_first : (ns : List ℕ) (f : Field) → f.tag < 12 → value_of f (take 12 ns) ≡ value_of f ns
get_first ns f h = get_or-take 12 ns f.tag 0 h

pub fields_size : (k : ℕ) → field_sizes (kind_of k).fields ≤ 24
fields_size = kind_elim (λ k x. field_sizes x.fields ≤ 24) (λ k. omega arith) (omega arith)

pub kind_known : (s : Step) → (load_kind ≤ kind_in (field_array s)) × (kind_in (field_array s) ≤ forward_kind)
unfolding field_array
kind_known (Load c b w) = omega arith
kind_known (Store c b w v) = omega arith
kind_known (Send c b t p o d) = omega arith
kind_known (Deliver i) = omega arith
kind_known (Raise c b) = omega arith
kind_known (Lower c b) = omega arith
kind_known (Forward c b) = omega arith

pub kind_small : (s : Step) → kind_in (field_array s) < 256
kind_small s = omega (arith, (kind_known s).1)

pub places_length : (s : Step) → length (field_array s) ≡ 12
unfolding field_array
places_length (Load c b w) = refl
places_length (Store c b w v) = refl
places_length (Send c b t p o d) = refl
places_length (Deliver i) = refl
places_length (Raise c b) = refl
places_length (Lower c b) = refl
places_length (Forward c b) = refl
