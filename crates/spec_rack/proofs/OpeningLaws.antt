-- An opening: its check, and that an accepted one leaves a sound record of the fresh rack, the buffer's length and all behind the record unchanged.
use Prim.Native.Nat.{ℕ, ◌≤◌, ◌<◌}
use native.Mathlib.Omega.{arith}
use mathlib.Core.Path.{◌≡◌, refl, ap, ◌∙◌, subst}
use mathlib.Core.Logic.{⊎_elim}
use mathlib.Core.Bool.{true, false}
use mathlib.Core.List.{List}
use borrow.Author.Tests.{leb-true, lt-ltb, le-ltb}
use lib.ListN.{length, drop, length-replicate}
use Rattle.spec_base.proofs.Tests.{either, lt_or_le, and_l, and_r, and_of, not_of_false, not_of_true}
use Rattle.spec_wire.specs.declared.Refusal.{Refusal}
use Rattle.spec_wire.specs.declared.Refusal.TheVariants.{Size, ShortBuffer}
use Rattle.std.specs.Prelude.{Ok, Err}
use Rattle.spec_wire.specs.Answers.{Check, no_refusal}
use Rattle.spec_wire.proofs.RefusalTable.{stops, goes}
use Rattle.spec_base.specs.Number.{Bytes}
use Rattle.spec_rack.specs.declared.Answer.TheVariants.{Done}
use Rattle.spec_rack.specs.Rack.{fresh_block, fresh}
use Rattle.spec_rack.specs.Soundness.{sizes, sound_bytes, well_formed_record}
use Rattle.spec_rack.proofs.FreshRack.{fresh_sound, opened_sound, fresh_fits as words_fit_lem}
use Rattle.spec_rack.proofs.Representable.{holdable}
use Rattle.spec_rack.specs.RecordLayout.{record_length, get, put}
use Rattle.spec_rack.proofs.GetPut.{Fits, get_put, put_keeps, put_formed, put_behind, well_formed_lem}
use Rattle.spec_rack.specs.Opening.{open_check, open_reply, open_after, buffer_opened}
use Rattle.spec_rack.specs.Rules.{reply_of}

-- ---- the check

-- N 1 to 15, B 1 to 32, T from N to 64
abbrev pub InRange : ℕ → ℕ → ℕ → Type 0
InRange n b t = (1 ≤ n) × (n ≤ 15) × (1 ≤ b) × (b ≤ 32) × (n ≤ t) × (t ≤ 64)

-- what an accepted opening says of N, B, T and the length of the buffer
pub record Sized (n b t l : ℕ) : Type 0 where
  pub range : sizes n b t ≡ true
  pub boards : n < 16
  pub blocks : b ≤ 32
  pub tokens : t ≤ 64
  pub some : 1 ≤ t
  pub room : record_length b ≤ l

pub in_range_lem : (n b t : ℕ) → sizes n b t ≡ true → InRange n b t
in_range_lem n b t h = (
  leb-true 1 n (search (and_l, and_r)),
  leb-true n 15 (search (and_l, and_r)),
  leb-true 1 b (search (and_l, and_r)),
  leb-true b 32 (search (and_l, and_r)),
  leb-true n t (search (and_l, and_r)),
  leb-true t 64 (search (and_l, and_r)),
)

module _ (n b t l : ℕ) where
  pub open_size : sizes n b t ≡ false → Err Size ≡ open_check n b t l
  unfolding open_check
  open_size h = stops _ _ _ (not_of_false (sizes n b t) h)

  module _ (h : sizes n b t ≡ true) where
    pub open_short : l < record_length b → Err ShortBuffer ≡ open_check n b t l
    unfolding open_check
    open_short k = goes _ _ _ _ (not_of_true (sizes n b t) h) (stops _ _ _ (lt-ltb l (record_length b) k))

    pub open_pass : record_length b ≤ l → no_refusal ≡ open_check n b t l
    unfolding open_check
    open_pass k = goes _ _ _ _ (not_of_true (sizes n b t) h) (goes _ _ _ _ (le-ltb l (record_length b) k) refl)

  pub sized : open_check n b t l ≡ no_refusal → Sized n b t l
  sized e =
      let h : sizes n b t ≡ true = ⊎_elim (λ k. k) (λ k. let z : Err Size ≡ no_refusal = open_size k ∙ e in cc) (either (sizes n b t)) in
      let r = in_range_lem n b t h in
      record {
        range = h;
        boards = omega arith;
        blocks = r.3;
        tokens = r.5;
        some = omega arith;
        room = ⊎_elim (λ k. let z : Err ShortBuffer ≡ no_refusal = open_short h k ∙ e in let q : ◌≡◌ {A = ℕ} 0 1 = cc in absurd (omega arith)) (λ k. k) (lt_or_le l (record_length b));
      }

-- an accepted opening has passed its check
pub passes : (k : Check) → reply_of k ≡ Ok Done → k ≡ no_refusal
passes (Ok _) e = refl
passes (Err n) e = cc

-- ---- the record

pub fresh_fits : (n b t l : ℕ) → Sized n b t l → Fits (fresh n b t)
fresh_fits n b t l z = holdable (fresh n b t) (fresh_sound n b t z.range) (words_fit_lem n b t)

module _ (n b t : ℕ) (s : List ℕ) where
  -- a refused opening leaves the buffer
  pub open_refused : (r : Refusal) → open_check n b t (length s) ≡ Err r → (open_reply n b t s ≡ Err r) × (open_after n b t s ≡ s)
  unfolding open_reply open_after
  open_refused r e = (ap reply_of e, ap (λ (k : Check). buffer_opened k n b t s) e)

  pub open_accepted : open_check n b t (length s) ≡ no_refusal → (open_reply n b t s ≡ Ok Done) × (open_after n b t s ≡ put (fresh n b t) s)
  unfolding open_reply open_after
  open_accepted e = (ap reply_of e, ap (λ (k : Check). buffer_opened k n b t s) e)

  module _ (pass : open_check n b t (length s) ≡ no_refusal) where
    fits : Fits (fresh n b t)
    fits = fresh_fits n b t (length s) (sized n b t (length s) pass)

    count : length (fresh n b t).blocks ≡ b
    count = length-replicate b (fresh_block n t)

    room : record_length (length (fresh n b t).blocks) ≤ length s
    room = rw length-replicate (sized n b t (length s) pass).room

    is : open_after n b t s ≡ put (fresh n b t) s
    is = (open_accepted pass).1

    pub open_get : get (open_after n b t s) ≡ fresh n b t
    open_get = ap get is ∙ get_put (fresh n b t) fits s room

    pub open_length : length (open_after n b t s) ≡ length s
    open_length = ap length is ∙ put_keeps (fresh n b t) fits s room

    pub open_behind : drop (record_length b) (open_after n b t s) ≡ drop (record_length b) s
    open_behind =
        ap (drop (record_length b)) is
        ∙ subst (λ (k : ℕ). drop (record_length k) (put (fresh n b t) s) ≡ drop (record_length k) s) count (put_behind (fresh n b t) fits s room)

    pub open_sound : Bytes s → sound_bytes (open_after n b t s) ≡ true
    unfolding sound_bytes
    open_sound h =
        and_of (well_formed_record (open_after n b t s)) _ (ap well_formed_record is ∙ well_formed_lem (put (fresh n b t) s) (put_formed (fresh n b t) fits s room h))
        (rw open_get (opened_sound n b t (sized n b t (length s) pass).range))

    pub open_bytes : Bytes s → Bytes (open_after n b t s)
    open_bytes h = rw is (put_formed (fresh n b t) fits s room h).bytes
