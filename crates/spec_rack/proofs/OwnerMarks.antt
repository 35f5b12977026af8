-- The owner's mark, rule by rule: by computation in each of the owner's three cases.
use mathlib.Core.Path.{◌≡◌, refl, sym, ap}
use mathlib.Core.Bool.{Bool, true, false, cond}
use Rattle.spec_base.proofs.Tests.{differs}
use Rattle.spec_rack.specs.declared.Owner.{Owner}
use Rattle.spec_rack.specs.declared.Owner.TheVariants.{Away, Dirty, Clean}
use Prim.Native.Nat.{ℕ}
use Rattle.spec_rack.specs.Rack.{is_home, present}
use Rattle.spec_rack.specs.Rules.{dirtied, joined_owner}
use Rattle.spec_rack.specs.OwnerMarks.{Marks}

is_dirtied : (w : Owner) → present w ≡ true → dirtied w ≡ Dirty
is_dirtied Away h = differs (sym h)
is_dirtied Dirty h = refl
is_dirtied Clean h = refl

-- a delivery, by the message's owner n and the target c

dirty_board : (t : Bool) → t ≡ false → cond t Clean Dirty ≡ Dirty
dirty_board t e = ap (λ (u : Bool). cond u Clean Dirty) e

dirty_home : (t : Bool) → t ≡ true → cond t Clean Dirty ≡ Clean
dirty_home t e = ap (λ (u : Bool). cond u Clean Dirty) e

joined_board : (w n : Owner) (c : ℕ) → is_home c ≡ false → present n ≡ true → joined_owner w n c ≡ n
joined_board w Away c z h = differs (sym h)
joined_board w Dirty c z h = search dirty_board
joined_board w Clean c z h = refl

pub joined_home : (w n : Owner) (c : ℕ) → is_home c ≡ true → present n ≡ true → joined_owner w n c ≡ Clean
joined_home w Away c z h = differs (sym h)
joined_home w Dirty c z h = search dirty_home
joined_home w Clean c z h = refl

pub marks : Marks
marks =
    record {
      fresh_clean = λ t. refl;
      stored_dirty = λ x w v h. is_dirtied x.owner h;
      sent = λ x c b t p d. refl;
      sent_away = λ x p. refl;
      plain_sent = λ x c b t p d. refl;
      plain_kept = λ x p. refl;
      home = λ x m z h. joined_home x.owner m.header.owner _ z h;
      board = λ x m z h. joined_board x.owner m.header.owner _ z h;
      plain_delivered = λ x m e. rw e refl;
    }
