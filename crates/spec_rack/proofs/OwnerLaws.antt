-- Laws of the owner token, each by its three cases: what a send splits and what a delivery joins.
use mathlib.Core.Path.{◌≡◌, refl, sym, subst}
use mathlib.Core.Bool.{Bool, true, false, not, cond, ◌&&◌, ◌||◌}
use Prim.Native.Nat.{ℕ, ◌+◌, ◌≤◌}
use native.Mathlib.Omega.{arith}
use borrow.Author.Tests.{eqb-true}
use Rattle.spec_base.specs.Folds.{toℕ}
use Rattle.spec_base.proofs.Tests.{differs, and_l, and_r}
use Rattle.spec_rack.specs.declared.Owner.{Owner}
use Rattle.spec_rack.specs.declared.Owner.TheVariants.{Away, Dirty, Clean}
use Rattle.spec_rack.specs.Rack.{is_home, present, clean, owners, may_go_bare}
use Rattle.spec_rack.specs.Rules.{kept_owner, taken_owner, joined_owner}
use Rattle.spec_rack.proofs.OwnerMarks.{joined_home}

pub clean_present : (w : Owner) → clean w ≡ true → present w ≡ true
clean_present Away h = h
clean_present Dirty h = refl
clean_present Clean h = refl

pub present_of : (w : Owner) → 1 ≤ owners w → present w ≡ true
present_of Away h = absurd (omega arith)
present_of Dirty h = refl
present_of Clean h = refl

pub is_away : (w : Owner) → owners w ≤ 0 → w ≡ Away
is_away Away h = refl
is_away Dirty h = absurd (omega arith)
is_away Clean h = absurd (omega arith)

pub is_clean : (w : Owner) → clean w ≡ true → w ≡ Clean
is_clean Away h = cc
is_clean Clean h = refl
is_clean Dirty h = cc

pub is_dirty : (w : Owner) → present w ≡ true → clean w ≡ false → w ≡ Dirty
is_dirty Away h u = cc
is_dirty Clean h u = cc
is_dirty Dirty h u = refl

-- an owner that is not dirty, as home's own always is
abbrev pub NotDirty : Owner → Type 0
NotDirty Away = Unit {0}
NotDirty Dirty = ⊥
NotDirty Clean = Unit {0}

-- an owner that may go bare is clean, and its target is home
pub bare_is : (w : Owner) (c : ℕ) → may_go_bare w c ≡ true → (clean w ≡ true) × (c ≡ 0)
bare_is w c h = (search and_l, eqb-true c 0 (search and_r))

-- ---- a send: what the sender keeps of its owner w, and what the message takes

pub owners_split : (o : Bool) (w : Owner) → owners (kept_owner o w) + owners (taken_owner o w) ≡ owners w
owners_split true Away = omega arith
owners_split true Dirty = omega arith
owners_split true Clean = omega arith
owners_split false Away = omega arith
owners_split false Dirty = omega arith
owners_split false Clean = omega arith

pub owners_taken : (o : Bool) (w : Owner) → (o ≡ true → present w ≡ true) → owners (taken_owner o w) ≡ toℕ o
owners_taken true Away h = differs (sym (h refl))
owners_taken true Dirty h = refl
owners_taken true Clean h = refl
owners_taken false Away h = refl
owners_taken false Dirty h = refl
owners_taken false Clean h = refl

pub present_kept : (o : Bool) (w : Owner) → present (kept_owner o w) ≡ true → present w ≡ true
present_kept o Dirty h = refl
present_kept o Clean h = refl
present_kept true Away h = h
present_kept false Away h = h

-- none becomes clean by a send
pub clean_kept : (o : Bool) (w : Owner) → clean (kept_owner o w) ≡ true → clean w ≡ true
clean_kept o Clean h = refl
clean_kept true Away h = h
clean_kept true Dirty h = h
clean_kept false Away h = h
clean_kept false Dirty h = h

pub clean_taken : (o : Bool) (w : Owner) → clean (taken_owner o w) ≡ true → clean w ≡ true
clean_taken o Clean h = refl
clean_taken true Away h = h
clean_taken true Dirty h = h
clean_taken false Away h = h
clean_taken false Dirty h = h

-- past line 12: data, or what its last test asks for
pub not_bare : (o d u w : Bool) → (o && not d && not u) ≡ false → (u ≡ true → w ≡ true) → o ≡ true → (d || w) ≡ true
not_bare true true u w h f e = refl
not_bare true false true w h f e = f refl
not_bare true false false w h f e = differs h
not_bare false d u w h f e = differs (sym e)

pub supplied_taken : (o d : Bool) (w : Owner) (c : ℕ) → (o ≡ true → (d || may_go_bare w c) ≡ true)
    → present (taken_owner o w) ≡ true → (d || may_go_bare (taken_owner o w) c) ≡ true
supplied_taken true d w c f h = f refl
supplied_taken false d w c f h = differs (sym h)

-- ---- a delivery to component c: the owner n of the message, or else the target's w

pub not_dirty_joined : (w n : Owner) (c : ℕ) → is_home c ≡ true → NotDirty w → NotDirty (joined_owner w n c)
not_dirty_joined w Away c z h = h
not_dirty_joined w Dirty c z h = subst NotDirty (sym (joined_home w Dirty c z refl)) tt
not_dirty_joined w Clean c z h = subst NotDirty (sym (joined_home w Clean c z refl)) tt

-- clean or dirty, it is one owner
one_owner : (t : Bool) → owners (cond t Clean Dirty) ≡ 1
one_owner true = refl
one_owner false = refl

pub owners_joined : (w n : Owner) (c : ℕ) → owners w + owners n ≤ 1 → owners (joined_owner w n c) ≡ owners w + owners n
owners_joined w Away c h = omega arith
owners_joined w Dirty c h = omega (arith, one_owner (is_home c))
owners_joined w Clean c h = omega arith

pub present_joined : (w n : Owner) (c : ℕ) → present (joined_owner w n c) ≡ true → (present w || present n) ≡ true
present_joined Dirty n c h = refl
present_joined Clean n c h = refl
present_joined Away Away c h = h
present_joined Away Dirty c h = refl
present_joined Away Clean c h = refl

clean_if_home : (t : Bool) → clean (cond t Clean Dirty) ≡ true → t ≡ true
clean_if_home true h = refl
clean_if_home false h = h

-- a clean owner after it was clean before, in the target or the message, or came home
pub clean_joined : {H : Type 0} (w n : Owner) (c : ℕ) → (clean w ≡ true → H) → (clean n ≡ true → H) → (is_home c ≡ true → present n ≡ true → H)
    → clean (joined_owner w n c) ≡ true → H
clean_joined w Away c f g k h = f h
clean_joined w Dirty c f g k h = k (search clean_if_home) refl
clean_joined w Clean c f g k h = g refl
