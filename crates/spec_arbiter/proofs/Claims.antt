-- Raise and lower by the cases of the refusal table, and that both keep a block's sets sound.
-- The reason: a raise adds a board whose barring set is empty; a lower takes the board out of every set, and its own barring set becomes the waiting set.
use mathlib.Core.Path.{◌≡◌, refl, sym, ap, ◌∙◌}
use mathlib.Core.Logic.{⊎_elim}
use mathlib.Core.Bool.{Bool, true, false}
use mathlib.Core.List.{List, map}
use Prim.Native.Nat.{ℕ, zero, suc, ◌≤◌, ◌<◌}
use native.Mathlib.Omega.{arith}
use borrow.Author.Tests.{eq-eqb, ne_eqb, eqb-true, eqb-false}
use lib.Dec.{eqb}
use lib.ListN.{length, get_or, length-set, length-map, length-replicate, get_or-map}
use lib.Seq.{get_or-set_same, get_or-set_other}
use Rattle.spec_base.proofs.Tests.{either, differs, same_or_not, and_l, and_r, and_of, implied, implies_of}
use Rattle.spec_base.proofs.Folds.{below_at, below_of, all_at, all_replicate}
use Rattle.spec_wire.specs.declared.Refusal.{Refusal}
use Rattle.spec_wire.specs.declared.Refusal.TheVariants.{Waiting, Barred, NotWaiting}
use Rattle.std.specs.Prelude.{Err}
use Rattle.spec_wire.specs.Answers.{Check, no_refusal}
use Rattle.spec_wire.specs.Refusals.{when◌refuse◌else◌}
use Rattle.spec_arbiter.specs.Boards.{board_room, member, empty, insert, remove, subset, boards_only}
use Rattle.spec_arbiter.specs.Claims.{Claims, waiting, barring, no_claims, unclaimed, active, raise_check, raised, lower_check, lowered, sound_barring, sound_claims}
use Rattle.spec_arbiter.proofs.Boards.{member_empty, insert_other, remove_same, remove_other, remove_out, subset_refl, subset_empty, subset_insert, subset_remove, boards_lt, boards_at, boards_empty, boards_insert, boards_remove, lowest_lt, lowest_member}

-- ---- the checks by cases

module _ (c : Claims) (i : ℕ) where
  pub raise_waiting : member (waiting c) i ≡ true → raise_check c i ≡ Err Waiting
  unfolding raise_check when◌refuse◌else◌
  raise_waiting w = simp w

  pub raise_barred : member (waiting c) i ≡ false → (barring c i ≡ empty → ⊥) → raise_check c i ≡ Err Barred
  unfolding raise_check when◌refuse◌else◌
  raise_barred w b = simp (w, ne_eqb _ _ b)

  pub raise_pass : member (waiting c) i ≡ false → barring c i ≡ empty → raise_check c i ≡ no_refusal
  unfolding raise_check when◌refuse◌else◌
  raise_pass w b = simp (w, eq-eqb _ _ b)

  pub lower_refused : member (waiting c) i ≡ false → lower_check c i ≡ Err NotWaiting
  unfolding lower_check when◌refuse◌else◌
  lower_refused w = simp w

  pub lower_pass : member (waiting c) i ≡ true → lower_check c i ≡ no_refusal
  unfolding lower_check when◌refuse◌else◌
  lower_pass w = simp w

  -- what holds of every refusal, and of a pass where there is one, holds of the check
  pub raise_elim : (P : Check → Type 0) → ((r : Refusal) → P (Err r)) → (member (waiting c) i ≡ false → barring c i ≡ empty → P no_refusal)
      → P (raise_check c i)
  raise_elim P no_change change =
      ⊎_elim (λ w. rw (raise_waiting w) (no_change Waiting))
      (λ w. ⊎_elim (λ b. rw (raise_pass w b) (change w b)) (λ b. rw (raise_barred w b) (no_change Barred)) (same_or_not (barring c i) empty))
      (either (member (waiting c) i))

  pub lower_elim : (P : Check → Type 0) → ((r : Refusal) → P (Err r)) → (member (waiting c) i ≡ true → P no_refusal) → P (lower_check c i)
  lower_elim P no_change change =
      ⊎_elim (λ w. rw (lower_pass w) (change w)) (λ w. rw (lower_refused w) (no_change NotWaiting)) (either (member (waiting c) i))

  -- what a pass says
  pub raise_free : raise_check c i ≡ no_refusal → (member (waiting c) i ≡ false) × (barring c i ≡ empty)
  raise_free =
      raise_elim (λ k. k ≡ no_refusal → (member (waiting c) i ≡ false) × (barring c i ≡ empty))
      (λ r e. let z : ◌≡◌ {A = ℕ} 0 1 = cc in absurd (omega arith)) (λ w b e. (w, b))

  pub lower_waits : lower_check c i ≡ no_refusal → member (waiting c) i ≡ true
  lower_waits =
      lower_elim (λ k. k ≡ no_refusal → member (waiting c) i ≡ true)
      (λ r e. let z : ◌≡◌ {A = ℕ} 0 1 = cc in absurd (omega arith)) (λ w e. w)

-- ---- the sets after a change

module _ (c : Claims) (i : ℕ) where
  pub length_raised : length (raised c i) ≡ length c
  unfolding raised
  length_raised = simp length-set

  pub raised_waiting : 0 < length c → waiting (raised c i) ≡ insert (waiting c) i
  unfolding raised
  raised_waiting l = get_or-set_same c 0 (insert (waiting c) i) empty l

  pub raised_barring : (j : ℕ) → (j ≡ 0 → ⊥) → barring (raised c i) j ≡ barring c j
  unfolding raised
  raised_barring j ne = get_or-set_other c 0 j (insert (waiting c) i) empty ne

  without : List ℕ
  without = map (λ (s : ℕ). remove s i) c

  pub remove_empty : remove empty i ≡ empty
  remove_empty = remove_out empty i (member_empty i)

  pub length_lowered : length (lowered c i) ≡ length c
  unfolding lowered
  length_lowered = simp (length-set, length-map)

  -- a set other than the board's own, the waiting set too
  pub lowered_other : (j : ℕ) → (j ≡ i → ⊥) → barring (lowered c i) j ≡ remove (barring c j) i
  unfolding lowered without
  lowered_other j ne =
      get_or-set_other without i j _ empty ne
      ∙ ap (get_or without j) (sym remove_empty) ∙ get_or-map (λ (s : ℕ). remove s i) c j empty

  pub lowered_waiting : 1 ≤ i → waiting (lowered c i) ≡ remove (waiting c) i
  lowered_waiting low = lowered_other 0 (λ e. omega arith)

  pub lowered_own : i < length c → barring (lowered c i) i ≡ remove (waiting c) i
  unfolding lowered without
  lowered_own l = get_or-set_same without i (remove (waiting c) i) empty (simp length-map l)

-- ---- soundness as facts

pub record SoundBarring (n : ℕ) (c : Claims) (i : ℕ) : Type 0 where
  pub boards : boards_only n (barring c i) ≡ true
  pub inside : subset (barring c i) (waiting c) ≡ true
  pub none : member (waiting c) i ≡ true → barring c i ≡ empty

pub barring_facts : (n : ℕ) (c : Claims) (i : ℕ) → sound_barring n c i ≡ true → SoundBarring n c i
unfolding sound_barring
barring_facts n c i h =
    record {
      boards = search (and_l, and_r);
      inside = search (and_l, and_r);
      none = λ m. eqb-true _ _ (implied (member (waiting c) i) (eqb (barring c i) empty) (search (and_l, and_r)) m);
    }

pub barring_test : (n : ℕ) (c : Claims) (i : ℕ) → SoundBarring n c i → sound_barring n c i ≡ true
unfolding sound_barring
barring_test n c i s = and_of _ _ (and_of _ _ s.boards s.inside) (implies_of _ _ (λ m. eq-eqb _ _ (s.none m)))

pub record SoundClaims (n : ℕ) (c : Claims) : Type 0 where
  pub width : length c ≡ suc n
  pub waiting : boards_only n (waiting c) ≡ true
  pub barring : (i : ℕ) → 1 ≤ i → i ≤ n → SoundBarring n c i

at_board : ℕ → Claims → ℕ → Bool
at_board n c i = sound_barring n c (suc i)

pub claims_facts : (n : ℕ) (c : Claims) → sound_claims n c ≡ true → SoundClaims n c
unfolding sound_claims at_board
claims_facts n c h =
    record {
      width = eqb-true _ _ (search (and_l, and_r));
      waiting = search (and_l, and_r);
      barring = λ i low high. each i low high;
    }
  where
    each : (i : ℕ) → 1 ≤ i → i ≤ n → SoundBarring n c i
    each zero low high = absurd (omega arith)
    each (suc i) low high = barring_facts n c (suc i) (below_at (at_board n c) n (search (and_l, and_r)) i (omega arith))

pub claims_test : (n : ℕ) (c : Claims) → SoundClaims n c → sound_claims n c ≡ true
unfolding sound_claims at_board
claims_test n c s =
    and_of _ _ (and_of _ _ (eq-eqb _ _ s.width) s.waiting)
    (below_of (at_board n c) n (λ i l. barring_test n c (suc i) (s.barring (suc i) (omega arith) (omega arith))))

-- ---- soundness is kept

pub none_sound : {n : ℕ} → SoundClaims n (no_claims n)
none_sound {n} =
    record {
      width = length-replicate (suc n) empty;
      waiting = boards_empty n;
      barring = λ i low high. let none : get_or (no_claims n) i empty ≡ empty =
          all_at (λ s. s ≡ empty) (no_claims n) (all_replicate (λ s. s ≡ empty) (suc n) empty refl) i empty (omega (arith, length-replicate (suc n) empty)) in
          record {
            boards = rw none (boards_empty n);
            inside = rw none (subset_empty empty);
            none = λ m. none;
          };
    }

pub raised_sound : {n : ℕ} {c : Claims} {i : ℕ} → SoundClaims n c → 1 ≤ i → i ≤ n → n < board_room → raise_check c i ≡ no_refusal → SoundClaims n (raised c i)
raised_sound {n} {c} {i} s low high fits pass =
    record {
      width = length_raised c i ∙ s.width;
      waiting = rw now (boards_insert n (get_or c 0 empty) i (omega arith) low high s.waiting);
      barring = λ j l h. let old = s.barring j l h in
          let same : get_or (raised c i) j empty ≡ get_or c j empty = raised_barring c i j (λ e. omega arith) in
          record {
            boards = rw same old.boards;
            inside = rw (same, now) (subset_insert (get_or c j empty) (get_or c 0 empty) i old.inside);
            none = λ m. same ∙ ⊎_elim (λ (e : j ≡ i). ap (λ (x : ℕ). get_or c x empty) e ∙ (raise_free c i pass).1)
                (λ ne. old.none (sym (insert_other (get_or c 0 empty) i j ne) ∙ (rw now at m))) (same_or_not j i);
          };
    }
  where
    now : get_or (raised c i) 0 empty ≡ insert (get_or c 0 empty) i
    now = raised_waiting c i (omega (arith, s.width))

pub lowered_sound : {n : ℕ} {c : Claims} {i : ℕ} → SoundClaims n c → 1 ≤ i → i ≤ n → SoundClaims n (lowered c i)
lowered_sound {n} {c} {i} s low high =
    record {
      width = length_lowered c i ∙ s.width;
      waiting = rw now (boards_remove n w i s.waiting);
      barring = λ j l h. ⊎_elim (λ (e : j ≡ i). own j e) (λ ne. other j ne (s.barring j l h)) (same_or_not j i);
    }
  where
    w : ℕ
    w = get_or c 0 empty

    now : get_or (lowered c i) 0 empty ≡ remove w i
    now = lowered_waiting c i low

    own : (j : ℕ) → j ≡ i → SoundBarring n (lowered c i) j
    own j e =
        let same : get_or (lowered c i) j empty ≡ remove w i =
        ap (λ (x : ℕ). get_or (lowered c i) x empty) e ∙ lowered_own c i (omega (arith, s.width)) in
        record {
          boards = rw same (boards_remove n w i s.waiting);
          inside = rw (same, now) (subset_refl (remove w i));
          none = λ m. differs (sym (rw (now, e) at m) ∙ remove_same w i);
        }

    other : (j : ℕ) → (j ≡ i → ⊥) → SoundBarring n c j → SoundBarring n (lowered c i) j
    other j ne old =
        let same : get_or (lowered c i) j empty ≡ remove (get_or c j empty) i = lowered_other c i j ne in
        record {
          boards = rw same (boards_remove n (get_or c j empty) i old.boards);
          inside = rw (same, now) (subset_remove (get_or c j empty) w i old.inside);
          none = λ m. same ∙ ap (λ (x : ℕ). remove x i) (old.none (sym (remove_other w i j ne) ∙ (rw now at m))) ∙ remove_empty c i;
        }

-- the active board of a claimed block is a board of the rack
pub active_known : {n : ℕ} {c : Claims} → SoundClaims n c → unclaimed c ≡ false → (1 ≤ active c) × (active c ≤ n)
active_known {n} {c} s claimed =
    boards_at n (get_or c 0 empty) s.waiting (active c)
    (lowest_member (get_or c 0 empty) (lowest_lt (get_or c 0 empty) (boards_lt n (get_or c 0 empty) s.waiting) (eqb-false _ _ claimed)))
