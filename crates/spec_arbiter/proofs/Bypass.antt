-- Nobody is passed twice: while a board waits, every other board's lower is accepted at most once.
-- The reason: a lower leaves the boards that wait in the barring set of the board that lowered, and a waiting board leaves a barring set only by
-- its own lower. So that board's raise is refused until then, and without a raise so is its next lower.
use mathlib.Core.Path.{◌≡◌, refl, sym, ap, ap₂, ◌∙◌}
use mathlib.Core.Logic.{⊎_elim}
use mathlib.Core.Bool.{Bool, true, false, not, ◌&&◌}
use mathlib.Core.List.{List, [], ◌∷◌}
use Prim.Native.Nat.{ℕ, zero, suc, ◌+◌, ◌-◌, ◌<◌, ◌≤◌}
use native.Mathlib.Omega.{arith}
use borrow.Author.Tests.{eq-eqb, ne_eqb, leb-true}
use lib.Dec.{leb}
use Rattle.spec_base.specs.Folds.{toℕ, all, count_below}
use Rattle.spec_base.proofs.Tests.{either, same_or_not, lt_or_le, and_l, and_r, and_left, and_right}
use Rattle.spec_base.proofs.Folds.{count_none, count_all, count_same, count_mono, count_more}
use Rattle.spec_wire.specs.Answers.{Check}
use Rattle.spec_arbiter.specs.Boards.{board_room, member}
use Rattle.spec_arbiter.specs.Claims.{Claims, waiting, barring, raised, lowered}
use Rattle.spec_arbiter.specs.Bypass.{Move, mover, moved, settled, claims_after_move, claims_after, lowers_counted, lowers, board_moves, only, others, Bypass}
use Rattle.spec_arbiter.specs.Bypass.Move.{raise, lower}
use Rattle.spec_arbiter.proofs.Boards.{member_empty, insert_keeps, insert_same, remove_other}
use Rattle.spec_arbiter.proofs.Claims.{SoundClaims, claims_facts, raised_sound, lowered_sound, raise_elim, lower_elim, raise_pass, raised_waiting, raised_barring, lowered_other, lowered_waiting, lowered_own}

-- ---- moves of boards, from sound claims

abbrev board_move : ℕ → Move → Bool
board_move n m = leb 1 (mover m) && leb (mover m) n

-- the first move of a list is a board's, and so are the rest
record First (n : ℕ) (m : Move) (ms : List Move) : Type 0 where
  low : 1 ≤ mover m
  high : mover m ≤ n
  rest : board_moves n ms ≡ true

first_move : (n : ℕ) (m : Move) (ms : List Move) → board_moves n (m ∷ ms) ≡ true → First n m ms
unfolding board_moves
first_move n m ms h =
    let b : board_move n m ≡ true = and_l (board_move n m) (all (board_move n) ms) h in
    record {
      low = leb-true 1 (mover m) (and_l (leb 1 (mover m)) (leb (mover m) n) b);
      high = leb-true (mover m) n (and_r (leb 1 (mover m)) (leb (mover m) n) b);
      rest = and_r (board_move n m) (all (board_move n) ms) h;
    }

abbrev Kept : ℕ → Claims → Claims → Check → Type 0
Kept n c d k = SoundClaims n (settled k c d)

made_sound : (n : ℕ) (c : Claims) (m : Move) → n < board_room → 1 ≤ mover m → mover m ≤ n → SoundClaims n c → SoundClaims n (claims_after_move c m)
made_sound n c (raise i) fits low high s =
    raise_elim c i (Kept n c (raised c i)) (λ r. s) (λ w b. raised_sound s low high fits (raise_pass c i w b))
made_sound n c (lower i) fits low high s = lower_elim c i (Kept n c (lowered c i)) (λ r. s) (λ w. lowered_sound s low high)

after_sound : (n : ℕ) (ms : List Move) (c : Claims) → n < board_room → board_moves n ms ≡ true → SoundClaims n c → SoundClaims n (claims_after c ms)
unfolding claims_after
after_sound n [] c fits b s = s
after_sound n (m ∷ ms) c fits b s =
    let f = first_move n m ms b in
    after_sound n ms (claims_after_move c m) fits f.rest (made_sound n c m fits f.low f.high s)

-- ---- the boards that may still lower before p

module _ (n p : ℕ) (fits : n < board_room) (t : ℕ → Bool) where
  -- board k + 1 passes the test and p does not bar it
  abbrev rival : Claims → ℕ → Bool
  rival c k = t (suc k) && not (member (barring c (suc k)) p)

  rivals : Claims → ℕ
  rivals c = count_below n (rival c)

  rivals_raised : (c : Claims) (i : ℕ) → rivals (raised c i) ≡ rivals c
  unfolding rivals
  rivals_raised c i =
      count_same (rival (raised c i)) (rival c) n
      (λ k l. ap (λ (s : ℕ). t (suc k) && not (member s p)) (raised_barring c i (suc k) (λ e. omega arith)))

  -- an accepted lower by another board that passes the test leaves a rival fewer
  rivals_lowered : (c : Claims) (i : ℕ) → SoundClaims n c → 1 ≤ i → i ≤ n → (p ≡ i → ⊥) → member (waiting c) p ≡ true
      → member (waiting c) i ≡ true → rivals c ≡ toℕ (t i) + rivals (lowered c i)
  unfolding rivals
  rivals_lowered c zero s low high ne h w = absurd (omega arith)
  rivals_lowered c (suc k) s low high ne h w =
      ⊎_elim
      (λ (e : t (suc k) ≡ true). omega (
        arith,
        ap toℕ e,
        count_more (rival (lowered c (suc k))) (rival c) k (gone (t (suc k))) (ap₂ ◌&&◌ e (ap not free)) same n (omega arith),
      ))
      (λ (e : t (suc k) ≡ false). omega (
        arith,
        ap toℕ e,
        count_same (rival c) (rival (lowered c (suc k))) n
            (λ j l. ⊎_elim (λ (q : j ≡ k). let no : t (suc j) ≡ false = ap (λ (x : ℕ). t (suc x)) q ∙ e in
            and_left (t (suc j)) (not (member (barring c (suc j)) p)) no
            ∙ sym (and_left (t (suc j)) (not (member (barring (lowered c (suc k)) (suc j)) p)) no))
            (same j) (same_or_not j k)),
      ))
      (either (t (suc k)))
    where
      free : member (barring c (suc k)) p ≡ false
      free = ap (λ (x : ℕ). member x p) ((s.barring (suc k) low high).none w) ∙ member_empty p

      barred : member (barring (lowered c (suc k)) (suc k)) p ≡ true
      barred =
          ap (λ (x : ℕ). member x p) (lowered_own c (suc k) (omega (arith, s.width)))
          ∙ remove_other (waiting c) (suc k) p ne ∙ h

      gone : (x : Bool) → (x && not (member (barring (lowered c (suc k)) (suc k)) p)) ≡ false
      gone x = and_right x _ (ap not barred)

      same : (j : ℕ) → (j ≡ k → ⊥) → rival c j ≡ rival (lowered c (suc k)) j
      same j nj =
          ap (λ (x : Bool). t (suc j) && not x)
          (sym (ap (λ (x : ℕ). member x p) (lowered_other c (suc k) (suc j) (λ e. nj (omega arith)))
          ∙ remove_other (barring c (suc j)) (suc k) p ne))

  -- the accepted lowers from a check on: by p none, then by boards that pass the test at most r
  abbrev Bounded : Claims → List Move → Move → ℕ → Check → Type 0
  Bounded c ms m r k =
      lowers_counted (only p) m k + lowers (only p) (settled k c (moved c m)) ms ≡ 0
      → lowers_counted t m k + lowers t (settled k c (moved c m)) ms ≤ r

  -- while p waits, they are at most the rivals
  at_most_rivals : (ms : List Move) (c : Claims) → board_moves n ms ≡ true → SoundClaims n c → member (waiting c) p ≡ true
      → lowers (only p) c ms ≡ 0 → lowers t c ms ≤ rivals c
  unfolding lowers
  at_most_rivals [] c b s h z = omega arith
  at_most_rivals (raise i ∷ ms) c b s h z =
      let f = first_move n (raise i) ms b in
      raise_elim c i (Bounded c ms (raise i) (rivals c))
      (λ r y. omega (arith, at_most_rivals ms c f.rest s h (omega arith)))
      (λ w e y. omega (
        arith,
        rivals_raised c i,
        at_most_rivals ms (raised c i) f.rest (raised_sound s f.low f.high fits (raise_pass c i w e))
            (ap (λ (x : ℕ). member x p) (raised_waiting c i (omega (arith, s.width))) ∙ insert_keeps (waiting c) i p h) (omega arith),
      ))
      z
  at_most_rivals (lower i ∷ ms) c b s h z =
      let f = first_move n (lower i) ms b in
      lower_elim c i (Bounded c ms (lower i) (rivals c))
      (λ r y. omega (arith, at_most_rivals ms c f.rest s h (omega arith)))
      (λ w y. ⊎_elim (λ (e : i ≡ p). absurd (omega (arith, ap toℕ (eq-eqb i p e))))
      (λ (ne : i ≡ p → ⊥).
      let far : p ≡ i → ⊥ = λ e. ne (sym e) in
      omega (
        arith,
        rivals_lowered c i s f.low f.high far h w,
        at_most_rivals ms (lowered c i) f.rest (lowered_sound s f.low f.high)
            (ap (λ (x : ℕ). member x p) (lowered_waiting c i f.low) ∙ remove_other (waiting c) i p far ∙ h) (omega arith),
      ))
      (same_or_not i p))
      z

  -- so they are at most the boards that pass the test
  at_most_boards : (ms : List Move) (c : Claims) → board_moves n ms ≡ true → SoundClaims n c → member (waiting c) p ≡ true
      → lowers (only p) c ms ≡ 0 → lowers t c ms ≤ count_below n (λ k. t (suc k))
  unfolding rivals
  at_most_boards ms c b s h z =
      omega (arith, at_most_rivals ms c b s h z, count_mono (rival c) (λ k. t (suc k)) n (λ k l e. and_l (t (suc k)) _ e))

-- ---- how many boards pass the tests

only_one : (n q : ℕ) → count_below n (λ k. only q (suc k)) ≤ 1
only_one n zero = omega (arith, count_none (λ k. only 0 (suc k)) n (λ k l. ne_eqb (suc k) 0 (λ e. omega arith)))
only_one n (suc q) =
    ⊎_elim
    (λ (l : q < n). omega (
      arith,
      count_more (λ k. false) (λ k. only (suc q) (suc k)) q refl (eq-eqb (suc q) (suc q) refl)
          (λ j ne. ne_eqb (suc j) (suc q) (λ e. ne (omega arith))) n l,
      count_none (λ k. false) n (λ k h. refl),
    ))
    (λ (l : n ≤ q). omega (arith, count_none (λ k. only (suc q) (suc k)) n (λ k h. ne_eqb (suc k) (suc q) (λ e. omega arith))))
    (lt_or_le q n)

all_others : (n p : ℕ) → 1 ≤ p → p ≤ n → count_below n (λ k. others p (suc k)) ≤ n - 1
all_others n zero low high = absurd (omega arith)
all_others n (suc p) low high =
    omega (
      arith,
      count_more (λ k. others (suc p) (suc k)) (λ k. true) p (ap not (eq-eqb (suc p) (suc p) refl)) refl
          (λ j ne. sym (ap not (ne_eqb (suc j) (suc p) (λ e. ne (omega arith))))) n (omega arith),
      count_all (λ k. true) n (λ k l. refl),
    )

pub bypass : Bypass
bypass n p start before between c h =
    (λ q. omega (arith, bound (only q), only_one n q), omega (arith, bound (others p), all_others n p h.low h.high))
  where
    sound_here : SoundClaims n c
    sound_here = rw h.reached (after_sound n before start h.fits h.moves_before (claims_facts n start h.sound))

    bound : (t : ℕ → Bool) → lowers t (raised c p) between ≤ count_below n (λ k. t (suc k))
    bound t =
        at_most_boards n p h.fits t between (raised c p) h.moves_between
        (raised_sound sound_here h.low h.high h.fits h.accepted)
        (ap (λ (x : ℕ). member x p) (raised_waiting c p (omega (arith, sound_here.width))) ∙ insert_same (waiting c) p) h.waits
