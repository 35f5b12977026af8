-- A message by its bytes: the conjuncts of the definition in the order of the code, with marks of 0 or 1 taken as numbers.
use Prim.Native.Nat.{ℕ, ◌+◌, ◌≤◌, ◌<◌, zero, suc, ◌*◌}
use native.Mathlib.Nat.{add-zero, zero-add}
use native.Mathlib.Omega.{arith}
use mathlib.Core.Path.{◌≡◌, sym, ap, ◌∙◌, refl}
use mathlib.Core.Bool.{Bool, true, false, not, ◌&&◌, ◌||◌}
use mathlib.Core.List.{List}
use lib.ListN.{length, get_or}
use lib.Dec.{eqb, leb, ltb}
use borrow.Author.Tests.{eq-eqb, ne_eqb, ltb-true, lt-ltb, le-ltb, leb-true, le-leb, eqb-true}
use Rattle.spec_base.specs.Folds.{toℕ, implies, all_below, all}
use Rattle.spec_base.proofs.Tests.{either, and_l, and_r, and_of, and_left, and_under, and_true, or_none, same_test, eqb_one}
use Rattle.spec_base.specs.Layout.{slice}
use Rattle.spec_rack.specs.Rack.{present, may_go_bare}
use Rattle.spec_rack.specs.Soundness.{sound_message}
use Rattle.spec_rack.specs.RecordLayout.{owner_of, words, target_offset, message_block_offset, message_plain_offset, message_owner_offset, data_offset, message_dirty_offset, message_zero_offset, message_words_offset, words_size}
use Rattle.record.proofs.FieldBytes.{words_eight, words_zero, message_read, message_formed, present_is, dirty_most, dirty_only}
use Rattle.record_message.specs.Messages.{endpoints_known, sound_bare_owner, sound_flags, words_sound, sound_message_at}
use mathlib.Core.Logic.{⊎_elim}

-- ---- the owner, data and dirty bytes: as the layout has them, and as the code asks for them

-- 0 or 1, and no mark without the owner
flags_form : (o v d : ℕ) → (ltb o 2 && (ltb v 2 && ltb d 2) && implies (eqb d 1) (eqb o 1)) ≡ (ltb o 2 && ltb v 2 && leb d o)
flags_form o v d =
    same_test (ltb o 2 && (ltb v 2 && ltb d 2) && implies (eqb d 1) (eqb o 1)) (ltb o 2 && ltb v 2 && leb d o)
    (λ q.
    and_of (ltb o 2 && ltb v 2) (leb d o) (and_of (ltb o 2) (ltb v 2) (search (and_l, and_r)) (search (and_l, and_r)))
    (le-leb d o (dirty_most o d (ltb-true d 2 (search (and_l, and_r))) (search (and_l, and_r)))))
    (λ q.
    let a : o < 2 = ltb-true o 2 (search (and_l, and_r)) in
    let c : d ≤ o = leb-true d o (search (and_l, and_r)) in
    and_of (ltb o 2 && (ltb v 2 && ltb d 2)) (implies (eqb d 1) (eqb o 1))
    (and_of (ltb o 2) (ltb v 2 && ltb d 2) (search (and_l, and_r)) (and_of (ltb v 2) (ltb d 2) (search (and_l, and_r)) (lt-ltb d 2 (omega arith))))
    (dirty_only o d a c))

-- a message with the owner has data, or the owner is clean and bound for home: neither its mark nor its target is above 0
supplied_is : (o v d y : ℕ) → o < 2 → v < 2 → d ≤ o
    → implies (present (owner_of (eqb o 1) (eqb d 1))) (eqb v 1 || may_go_bare (owner_of (eqb o 1) (eqb d 1)) y) ≡ (leb o v || sound_bare_owner o d y)
supplied_is zero zero d y a b c = refl
supplied_is zero (suc zero) d y a b c = refl
supplied_is zero (suc (suc v)) d y a b c = absurd (omega arith)
supplied_is (suc zero) zero zero y a b c = ap (λ (n : ℕ). eqb n 0) (sym (zero-add y))
supplied_is (suc zero) zero (suc zero) y a b c = sym (ne_eqb (suc zero + y) 0 (λ e. omega arith))
supplied_is (suc zero) zero (suc (suc d)) y a b c = absurd (omega arith)
supplied_is (suc zero) (suc zero) zero y a b c = refl
supplied_is (suc zero) (suc zero) (suc zero) y a b c = refl
supplied_is (suc zero) (suc zero) (suc (suc d)) y a b c = absurd (omega arith)
supplied_is (suc zero) (suc (suc v)) d y a b c = absurd (omega arith)
supplied_is (suc (suc o)) v d y a b c = absurd (omega arith)

-- an owner that has data, or may go bare, is one at most
owner_low : (o v d y : ℕ) → (leb o v || sound_bare_owner o d y) ≡ true → v < 2 → o < 2
owner_low o v d y q l =
    ⊎_elim (λ (h : leb o v ≡ true). omega (arith, leb-true o v h))
    (λ (h : leb o v ≡ false). omega (arith, eqb-true o 1 (and_l (eqb o 1) (eqb (d + y) 0) (rw h at q)))) (either (leb o v))

-- two bytes as one number
behind_data : (o d z : ℕ) → o < 256 → leb (d + z * 256) o ≡ (leb d o && eqb z 0)
behind_data o d z l =
    same_test (leb (d + z * 256) o) (leb d o && eqb z 0)
    (λ q. let h : d + z * 256 ≤ o = leb-true (d + z * 256) o q in and_of (leb d o) (eqb z 0) (le-leb d o (omega arith)) (eq-eqb z 0 (omega arith)))
    (λ q. le-leb (d + z * 256) o (omega (arith, leb-true d o (and_l (leb d o) (eqb z 0) q), eqb-true z 0 (and_r (leb d o) (eqb z 0) q))))

-- data of 0 or 1, and its words
words_test : (v : ℕ) (z : Bool) → (ltb v 2 && implies (not (eqb v 1)) z) ≡ (eqb v 1 || (eqb v 0 && z))
words_test zero z = refl
words_test (suc zero) z = refl
words_test (suc (suc v)) z =
    and_left (ltb (suc (suc v)) 2) (implies (not (eqb (suc (suc v)) 1)) z) (le-ltb (suc (suc v)) 2 (omega arith))
    ∙ sym (or_none (eqb (suc (suc v)) 1) (eqb (suc (suc v)) 0 && z) (ne_eqb (suc (suc v)) 1 (λ e. omega arith)) (and_left (eqb (suc (suc v)) 0) z (ne_eqb (suc (suc v)) 0 (λ e. omega arith))))

-- ---- the whole message

one_byte : (s : List ℕ) (i : ℕ) → all_below 1 (λ j. eqb (get_or s (i + j) 0) 0) ≡ eqb (get_or s i 0) 0
unfolding all_below
one_byte s i = and_true (eqb (get_or s (i + 0) 0) 0) ∙ ap (λ (m : ℕ). eqb (get_or s m 0) 0) (add-zero i)

module _ (s : List ℕ) (at : ℕ) (n b : ℕ) where
  -- the tests in the order of the code: the ends, the flags, and data with the words
  pub message_tests : sound_message_at n b s at ≡ (endpoints_known n b s at && (sound_flags s at && words_sound s at))
  unfolding sound_message_at
  message_tests =
      let x : ℕ = get_or s at 0 in
      let y : ℕ = get_or s (at + target_offset) 0 in
      let k : ℕ = get_or s (at + message_block_offset) 0 in
      let p : ℕ = get_or s (at + message_plain_offset) 0 in
      let o : ℕ = get_or s (at + message_owner_offset) 0 in
      let v : ℕ = get_or s (at + data_offset) 0 in
      let d : ℕ = get_or s (at + message_dirty_offset) 0 in
      let ws : List ℕ = words.read (slice (at + message_words_offset) words_size s) in
      let z : Bool = eqb (get_or s (at + message_zero_offset) 0) 0 in
      let e : Bool = eqb (length ws) 8 in
      let w : Bool = implies (not (eqb v 1)) (all (eqb 0) ws) in
      let c : Bool = implies (present (owner_of (eqb o 1) (eqb d 1))) (eqb v 1 || may_go_bare (owner_of (eqb o 1) (eqb d 1)) y) in
      let u : Bool = leb o v || sound_bare_owner o d y in
      (λ i. message_formed s at i && sound_message n b (message_read s at i))
      ∙ (λ i.
      flags_form o v d i && (one_byte s (at + message_zero_offset) i)
      && (e && w && leb x n && leb y n && not (eqb x y) && ltb k b && ltb 0 (p + toℕ (present_is (eqb o 1) (eqb d 1) i)) && c))
      ∙ and_under (ltb o 2 && ltb v 2 && leb d o && z)
      (e && w && leb x n && leb y n && not (eqb x y) && ltb k b && ltb 0 (p + toℕ (eqb o 1)) && c)
      (e && w && leb x n && leb y n && not (eqb x y) && ltb k b && ltb 0 (p + o) && u)
      (λ q.
      let a : o < 2 = ltb-true o 2 (search (and_l, and_r)) in
      let h : v < 2 = ltb-true v 2 (search (and_l, and_r)) in
      let l : d ≤ o = leb-true d o (search (and_l, and_r)) in
      λ i. e && w && leb x n && leb y n && not (eqb x y) && ltb k b && ltb 0 (p + eqb_one o a i) && supplied_is o v d y a h l i)
      ∙ message_order (ltb o 2) (ltb v 2) (leb d o) z e w (leb x n) (leb y n) (not (eqb x y)) (ltb k b) (ltb 0 (p + o)) u
      (eq-eqb (length ws) 8 (words_eight (slice (at + message_words_offset) words_size s)))
      (λ t q. lt-ltb o 2 (owner_low o v d y t (ltb-true v 2 q)))
      ∙ ap (λ (r : Bool). endpoints_known n b s at && ((u && ltb 0 (p + o) && (leb d o && z)) && r))
      (ap (λ (r : Bool). ltb v 2 && implies (not (eqb v 1)) r) (words_zero s (at + message_words_offset)) ∙ words_test v (all_below words_size (λ i. eqb (get_or s (at + message_words_offset + i) 0) 0)))
    where
      -- the conjuncts of a message in the order of the code; that the owner is 0 or 1 follows from the others
      message_order : (o v d z e w x y a k t u : Bool) → e ≡ true → (u ≡ true → v ≡ true → o ≡ true)
          → (o && v && d && z && (e && w && x && y && a && k && t && u)) ≡ (((x && y) && (a && k)) && ((u && t && (d && z)) && (v && w)))
      message_order o v d z e w x y a k t u h f =
          same_test (o && v && d && z && (e && w && x && y && a && k && t && u)) (((x && y) && (a && k)) && ((u && t && (d && z)) && (v && w)))
          (λ q. and_of _ _
          (and_of (x && y) (a && k) (and_of x y (search (and_l, and_r) depth 13) (search (and_l, and_r) depth 13)) (and_of a k (search (and_l, and_r) depth 13) (search (and_l, and_r) depth 13)))
          (and_of (u && t && (d && z)) (v && w)
          (and_of (u && t) (d && z) (and_of u t (search (and_l, and_r) depth 13) (search (and_l, and_r) depth 13)) (and_of d z (search (and_l, and_r) depth 13) (search (and_l, and_r) depth 13)))
          (and_of v w (search (and_l, and_r) depth 13) (search (and_l, and_r) depth 13))))
          (λ q.
          let su : u ≡ true = search (and_l, and_r) depth 13 in
          let sv : v ≡ true = search (and_l, and_r) depth 13 in
          and_of (o && v && d && z) (e && w && x && y && a && k && t && u)
          (and_of (o && v && d) z (and_of (o && v) d (and_of o v (f su sv) sv) (search (and_l, and_r) depth 13)) (search (and_l, and_r) depth 13))
          (and_of _ _ (and_of _ _ (and_of _ _ (and_of _ _ (and_of _ _ (and_of _ _ (and_of e w h (search (and_l, and_r) depth 13)) (search (and_l, and_r) depth 13))
          (search (and_l, and_r) depth 13)) (search (and_l, and_r) depth 13)) (search (and_l, and_r) depth 13)) (search (and_l, and_r) depth 13)) su))

  pub message_block : sound_message_at n b s at ≡ true → get_or s (at + message_block_offset) 0 < b
  message_block h =
      let q : (endpoints_known n b s at && (sound_flags s at && words_sound s at)) ≡ true = sym message_tests ∙ h in
      ltb-true (get_or s (at + message_block_offset) 0) b (search (and_l, and_r) depth 8)
