-- A board that shows E holds every token, so it is alone, and its owner is clean, so home has the memory's words. What stays is seen by the cases of the four
-- tests that the letter is made of.
use Prim.Native.Nat.{ℕ, zero, suc, ◌+◌, ◌≤◌, ◌<◌, suc-le-suc}
use native.Mathlib.Omega.{arith}
use mathlib.Core.Path.{◌≡◌, refl, sym, ap, ◌∙◌, subst}
use mathlib.Core.Bool.{Bool, true, false, cond, ◌||◌}
use mathlib.Core.List.{List, [], ◌∷◌}
use mathlib.Core.Logic.{⊎_elim}
use lib.ListN.{length, get_or, length-set}
use lib.Dec.{eqb, ltb}
use borrow.Author.Tests.{eqb-true, eq-eqb, ne_eqb, ltb-false, le-ltb}
use Rattle.spec_base.specs.Folds.{toℕ}
use Rattle.spec_base.proofs.Tests.{either, differs, or_l}
use Rattle.spec_base.proofs.Folds.{sum_at}
use Rattle.spec_wire.specs.declared.Refusal.{Refusal}
use Rattle.spec_wire.specs.declared.Refusal.TheVariants.{OffRack, Home, Unsound, Short, NoData, SelfSend, Claimed, Empty, NotHeld, BareOwner, MeshFull}
use Rattle.std.specs.Prelude.{Ok, Err}
use Rattle.spec_rack.specs.Replies.{Lettered}
use Rattle.spec_wire.specs.Answers.{Check, no_refusal}
use Rattle.spec_wire.specs.declared.Step.{Step}
use Rattle.spec_wire.specs.declared.Step.TheVariants.{Store, Send}
use Rattle.spec_wire.specs.Refusals.{when◌refuse◌else◌}
use Rattle.spec_rack.specs.declared.Owner.{Owner}
use Rattle.spec_rack.specs.declared.Owner.TheVariants.{Dirty}
use Rattle.spec_rack.specs.declared.Answer.{Answer}
use Rattle.spec_rack.specs.declared.Answer.TheVariants.{Done}
use Rattle.spec_rack.specs.declared.Letter.{Letter}
use Rattle.spec_rack.specs.declared.Letter.TheVariants.{M, O, E, S, I}
use Rattle.spec_rack.specs.Rack.{Cell, Rack, no_cell, is_home, present, clean, owners, may_go_bare, fresh, block_at, cell_at, held}
use Rattle.spec_rack.specs.Rules.{settled, check, after, answer, rules, stored, with_word, off_rack, past_words, reply, rack_after}
use Rattle.spec_rack.specs.FlatMemory.{Memory, blank, memory_after}
use Rattle.spec_rack.specs.Soundness.{sizes, sound_bytes}
use Rattle.spec_rack.specs.RecordLayout.{get}
use Rattle.spec_rack.specs.Opening.{open_after}
use Rattle.spec_rack.specs.Lists.{ruled_reply, ruled_after, run, rack_accesses, steps_of, after as buffer_after}
use Rattle.spec_rack.specs.Letter.{letter_check, letter_of, lettered, letter, letter_reply}
use Rattle.spec_requests.specs.Exclusive.{Shows, letter_of_before, letter_before, letter_reply_before, without_e, reply_without_e, may_store, WhereShown, CanStore, Stores, Exclusive, OnlyCopy, HasOnlyCopy, MeansExclusive, MeansExclusiveBytes, GoesHomeBare, AsBefore}
use Rattle.spec_rack.proofs.SoundnessFacts.{Sound, sound_facts}
use Rattle.spec_rack.proofs.BlockInvariant.{CleanCell, CleanMessage, HomeHas, Coherent, cell_in, cell_sound, cell_is, cell_has, cell_changed}
use Rattle.spec_rack.proofs.OwnerMarks.{marks}
use Rattle.spec_rack.proofs.OwnerLaws.{is_clean, is_dirty}
use Rattle.spec_rack.proofs.ExclusiveStore.{alone, quiet, owner_here}
use Rattle.spec_rack.proofs.StepPreservation.{in_n, in_b}
use Rattle.spec_rack.proofs.FreshRack.{opened}
use Rattle.spec_rack.proofs.ListCoherence.{run_fresh}
use Rattle.spec_rack.proofs.SoundRecord.{sound_of}
use Rattle.spec_rack.proofs.Coherence.{from_opening}

-- ---- what stays

letter_before_lem : (t : ℕ) (x : Cell) → without_e (letter_of t x) ≡ letter_of_before t x
letter_before_lem t x = go (eqb (held x) t) (clean x.owner) (present x.owner) x.valid
  where
    go : (all unwritten here valid : Bool)
        → without_e (cond all (cond unwritten E M) (cond here O (cond valid S I))) ≡ cond all M (cond here O (cond valid S I))
    go true true h v = refl
    go true false h v = refl
    go false u true v = refl
    go false u false true = refl
    go false u false false = refl

lettered_before : (k : Check) (l : Letter) → reply_without_e (lettered k l) ≡ lettered k (without_e l)
lettered_before (Ok _) l = refl
lettered_before (Err n) l = refl

rack_before : (r : Rack) (c b : ℕ) → reply_without_e (letter r c b) ≡ letter_before r c b
unfolding letter
rack_before r c b =
    lettered_before (letter_check r c b) (letter_of r.tokens (cell_at r b c))
    ∙ ap (lettered (letter_check r c b)) (letter_before_lem r.tokens (cell_at r b c))

bytes_before : (s : List ℕ) (c b : ℕ) → reply_without_e (letter_reply s c b) ≡ letter_reply_before s c b
unfolding letter_reply
bytes_before s c b = go (sound_bytes s)
  where
    go : (t : Bool) → reply_without_e (cond t (letter (get s) c b) (Err Unsound)) ≡ cond t (letter_before (get s) c b) (Err Unsound)
    go true = rack_before (get s) c b
    go false = refl

-- what such a reader sees, and what it was
same_letter : (x : Lettered) (l : Letter) → (l ≡ M → ⊥) → reply_without_e x ≡ Ok l → x ≡ Ok l
same_letter (Ok M) l ne e = let was : l ≡ M = cc in absurd (ne was)
same_letter (Ok O) l ne e = e
same_letter (Ok E) l ne e = let was : l ≡ M = cc in absurd (ne was)
same_letter (Ok S) l ne e = e
same_letter (Ok I) l ne e = e
same_letter (Err n) l ne e = cc

same_refusal : (x : Lettered) (n : Refusal) → reply_without_e x ≡ Err n → x ≡ Err n
same_refusal (Ok l) n e = cc
same_refusal (Err m) n e = e

unmoved : (l : Letter) → (l ≡ M → ⊥) → (l ≡ E → ⊥) → without_e l ≡ l
unmoved M m e = absurd (m refl)
unmoved O m e = refl
unmoved E m e = absurd (e refl)
unmoved S m e = refl
unmoved I m e = refl

pub as_before : AsBefore
as_before =
    record {
      cell = letter_before_lem;
      rack = rack_before;
      bytes = bytes_before;
      still = λ s c b l ne e. same_letter (letter_reply s c b) l ne (bytes_before s c b ∙ e);
      only = λ s c b l m e x. sym (bytes_before s c b) ∙ ap reply_without_e x ∙ ap Ok (unmoved l m e);
      M-was-M = λ s c b x. sym (bytes_before s c b) ∙ ap reply_without_e x;
      E-was-M = λ s c b x. sym (bytes_before s c b) ∙ ap reply_without_e x;
      refused = λ s c b n x. sym (bytes_before s c b) ∙ ap reply_without_e x;
      still_refused = λ s c b n e. same_refusal (letter_reply s c b) n (bytes_before s c b ∙ e);
    }

-- ---- where E and M are shown

-- a letter that is given is that of the cell, and no check refused
given : (k : Check) (l x : Letter) → lettered k l ≡ Ok x → (k ≡ no_refusal) × (l ≡ x)
given (Ok _) l x e = (refl, cc)
given (Err n) l x e = (cc, cc)

-- past the two lines of the letter's table
past : (off home : Bool) → (when off refuse OffRack else when home refuse Home else no_refusal) ≡ no_refusal → (off ≡ false) × (home ≡ false)
unfolding when◌refuse◌else◌
past true home e = (cc, cc)
past false true e = (cc, cc)
past false false e = (refl, refl)

module _ (r : Rack) (c b : ℕ) where
  abbrev cell : Cell
  cell = cell_at r b c

  -- a board and a block of the rack, and the cell's letter
  letter_of_lem : (x : Letter) → Shows r c b x → (letter_check r c b ≡ no_refusal) × (letter_of r.tokens (cell_at r b c) ≡ x)
  unfolding letter
  letter_of_lem x e = given (letter_check r c b) (letter_of r.tokens cell) x e

  on_rack : letter_check r c b ≡ no_refusal → (off_rack r c b ≡ false) × (is_home c ≡ false)
  unfolding letter_check
  on_rack e = past (off_rack r c b) (is_home c) e

  shows : (x : Letter) → letter_check r c b ≡ no_refusal → letter_of r.tokens (cell_at r b c) ≡ x → Shows r c b x
  unfolding letter
  shows x k e = rw (k, e) refl

-- E and M, by the owner, with T held
with_all : (t : ℕ) (x : Cell) → held x ≡ t → letter_of t x ≡ cond (clean x.owner) E M
with_all t x e = rw (eq-eqb (held x) t e) refl

-- which of the four tests show them
shown_E : (all unwritten here valid : Bool) → cond all (cond unwritten E M) (cond here O (cond valid S I)) ≡ E → (all ≡ true) × (unwritten ≡ true)
shown_E true true h v e = (refl, refl)
shown_E true false h v e = (refl, cc)
shown_E false u true v e = (cc, cc)
shown_E false u false true e = (cc, cc)
shown_E false u false false e = (cc, cc)

shown_M : (all unwritten here valid : Bool) → cond all (cond unwritten E M) (cond here O (cond valid S I)) ≡ M → (all ≡ true) × (unwritten ≡ false)
shown_M true true h v e = (refl, cc)
shown_M true false h v e = (refl, refl)
shown_M false u true v e = (cc, cc)
shown_M false u false true e = (cc, cc)
shown_M false u false false e = (cc, cc)

E-all : (t : ℕ) (x : Cell) → letter_of t x ≡ E → (held x ≡ t) × (clean x.owner ≡ true)
E-all t x e =
    let w = shown_E (eqb (held x) t) (clean x.owner) (present x.owner) x.valid e in
    (eqb-true (held x) t w.0, w.1)

M-all : (t : ℕ) (x : Cell) → letter_of t x ≡ M → (held x ≡ t) × (clean x.owner ≡ false)
M-all t x e =
    let w = shown_M (eqb (held x) t) (clean x.owner) (present x.owner) x.valid e in
    (eqb-true (held x) t w.0, w.1)

-- who holds T on a sound rack has the owner
owner_of_all : (r : Rack) (c b : ℕ) → Sound r → letter_check r c b ≡ no_refusal → held (cell_at r b c) ≡ r.tokens → present (cell_at r b c).owner ≡ true
owner_of_all r c b s k e =
    let on = (on_rack r c b k).0 in
    owner_here r s c b (in_n r s c b on) (in_b r s c b on) (omega arith)

pub where_shown : WhereShown
where_shown =
    record {
      clean = λ r c b k all o. shows r c b E k (with_all r.tokens (cell_at r b c) all ∙ ap (λ (w : Owner). cond (clean w) E M) o);
      dirty = λ r c b k all o. shows r c b M k (with_all r.tokens (cell_at r b c) all ∙ ap (λ (w : Owner). cond (clean w) E M) o);
      only_clean = λ r c b e.
          let w = E-all r.tokens (cell_at r b c) (letter_of_lem r c b E e).1 in
          (w.0, is_clean (cell_at r b c).owner w.1);
      only_dirty = λ r c b ok e.
          let l = letter_of_lem r c b M e in
          let w = M-all r.tokens (cell_at r b c) l.1 in
          (w.0, is_dirty (cell_at r b c).owner (owner_of_all r c b (sound_facts r ok) l.0 w.0) w.1);
    }

-- ---- stores

-- past the lines of a store
store_past : (r : Rack) (off home short : Bool) (a : Answer)
    → reply (settled (when off refuse OffRack else when home refuse Home else when short refuse Short else no_refusal) Done r) ≡ Ok a
    → (off ≡ false) × ((home ≡ false) × (short ≡ false))
unfolding when◌refuse◌else◌
store_past r true home short a e = (cc, (cc, cc))
store_past r false true short a e = (cc, (cc, cc))
store_past r false false true a e = (cc, (cc, cc))
store_past r false false false a e = (refl, (refl, refl))

-- an accepted step leaves the rack that it settles on
settled_after : (r q : Rack) (k : Check) (x a : Answer) → reply (settled k x q) ≡ Ok a → rack_after r (settled k x q) ≡ q
settled_after r q (Ok _) x a e = refl
settled_after r q (Err n) x a e = cc

-- E and M are T held
store_all : (t : ℕ) (x : Cell) (l : Letter) → letter_of t x ≡ l → may_store l ≡ true → held x ≡ t
store_all t x M e u = (M-all t x e).0
store_all t x O e u = cc
store_all t x E e u = (E-all t x e).0
store_all t x S e u = cc
store_all t x I e u = cc

either_stores : (u : Bool) → may_store (cond u E M) ≡ true
either_stores true = refl
either_stores false = refl

module _ (r : Rack) (c b w v : ℕ) where
  accepts : w < 8 → CanStore r c b → ruled_reply r (Store c b w v) ≡ Ok Done
  unfolding rules check answer when◌refuse◌else◌
  accepts few can =
      let l = letter_of_lem r c b can.shown can.shows in
      let on = on_rack r c b l.0 in
      let all = store_all r.tokens (cell_at r b c) can.shown l.1 can.may in
      rw (on.0, le-ltb 7 w (omega arith), on.1, le-ltb (held (cell_at r b c)) r.tokens (omega arith)) refl

  module _ (s : Sound r) (a : Answer) (e : ruled_reply r (Store c b w v) ≡ Ok a) where
    -- what its table tells
    lines_past : (off_rack r c b ≡ false) × ((is_home c ≡ false) × (ltb (held (cell_at r b c)) r.tokens ≡ false))
    unfolding rules check answer
    lines_past =
        let p = store_past (after r (Store c b w v)) (off_rack r c b || past_words w) (is_home c) (ltb (held (cell_at r b c)) r.tokens) a e in
        (or_l (off_rack r c b) (past_words w) p.0, p.1)

    on_letter : letter_check r c b ≡ no_refusal
    unfolding letter_check when◌refuse◌else◌
    on_letter = rw (lines_past.0, lines_past.1.0) refl

    -- no cell holds more than T
    all_held : held (cell_at r b c) ≡ r.tokens
    all_held =
        let in_b = in_b r s c b lines_past.0 in
        omega (
          arith,
          (s.blocks b in_b).tokens,
          sum_at held (block_at r b).cells c no_cell (cell_in r s b c in_b (in_n r s c b lines_past.0)),
          ltb-false (held (cell_at r b c)) r.tokens lines_past.1.1,
        )

    only : CanStore r c b
    only =
        record {
          shown = cond (clean (cell_at r b c).owner) E M;
          shows = shows r c b _ on_letter (with_all r.tokens (cell_at r b c) all_held);
          may = either_stores (clean (cell_at r b c).owner);
        }

    here : present (cell_at r b c).owner ≡ true
    here = owner_of_all r c b s on_letter all_held

    new_dirty : (with_word (cell_at r b c) w v).owner ≡ Dirty
    new_dirty = marks.stored_dirty (cell_at r b c) w v here

    stored_cell : cell_at (stored r c b w v) b c ≡ with_word (cell_at r b c) w v
    unfolding stored
    stored_cell = let on = lines_past.0 in cell_changed r s b c (in_b r s c b on) (in_n r s c b on) (with_word (cell_at r b c) w v) r.mesh

    stored_letter : letter_of r.tokens (cell_at (stored r c b w v) b c) ≡ M
    stored_letter =
        let same : held (with_word (cell_at r b c) w v) ≡ r.tokens = omega (arith, all_held, ap toℕ here, ap owners new_dirty) in
        ap (letter_of r.tokens) stored_cell
        ∙ with_all r.tokens (with_word (cell_at r b c) w v) same ∙ ap (λ (o : Owner). cond (clean o) E M) new_dirty

    stored_on : letter_check (stored r c b w v) c b ≡ no_refusal
    unfolding letter_check stored
    stored_on = rw length-set on_letter

    then_M : Shows (ruled_after r (Store c b w v)) c b M
    unfolding rules after stored
    then_M =
        subst (λ (q : Rack). Shows q c b M) (sym (settled_after r (stored r c b w v) (check r (Store c b w v)) (answer r (Store c b w v)) a e))
        (shows (stored r c b w v) c b M stored_on stored_letter)

pub stores : Stores
stores =
    record {
      accepts = accepts;
      only = λ r c b w v a ok. only r c b w v (sound_facts r ok) a;
      then_M = λ r c b w v a ok. then_M r c b w v (sound_facts r ok) a;
    }

-- ---- what E says

-- what is valid is a component of the rack
within : (l : List Cell) (j : ℕ) → (get_or l j no_cell).valid ≡ true → j < length l
within [] j v = differs (sym v)
within (x ∷ l) zero v = omega arith
within (x ∷ l) (suc j) v = suc-le-suc (within l j v)

only_copy : (r : Rack) (c b : ℕ) → Sound r → CanStore r c b → OnlyCopy r c b
only_copy r c b s can =
    let l = letter_of_lem r c b can.shown can.shows in
    let on = (on_rack r c b l.0).0 in
    let n = in_n r s c b on in
    let k = in_b r s c b on in
    let all = store_all r.tokens (cell_at r b c) can.shown l.1 can.may in
    let full : r.tokens ≤ held (cell_at r b c) = omega (arith, all) in
    record {
      valid = (cell_sound r s b c k n).current (owner_here r s c b n k full);
      alone = λ j ne. ⊎_elim (λ v. absurd (alone r s c b n k full j (within (block_at r b).cells j v) ne v)) (λ v. v) (either (cell_at r b j).valid);
      none_in_flight = quiet r s c b n k full;
    }

pub has_only_copy : HasOnlyCopy
has_only_copy r c b ok = only_copy r c b (sound_facts r ok)

exclusive : (r : Rack) (mem : Memory) → Sound r → Coherent r mem → (c b : ℕ) → Shows r c b E → Exclusive r mem c b
exclusive r mem s coh c b e =
    let l = letter_of_lem r c b E e in
    let on = (on_rack r c b l.0).0 in
    let n = in_n r s c b on in
    let k = in_b r s c b on in
    let copy = only_copy r c b s (record { shown = E; shows = e; may = refl }) in
    record {
      only = copy;
      words = cell_has r s b c k n mem coh copy.valid;
      home = cell_is r s b c k n (CleanCell (HomeHas mem r)) (CleanMessage (HomeHas mem r)) coh.home (E-all r.tokens (cell_at r b c) l.1).1;
    }

after_list : (n b t : ℕ) (ss : List Step) → sizes n b t ≡ true → (c k : ℕ) → Shows (run (fresh n b t) ss) c k E
    → Exclusive (run (fresh n b t) ss) (memory_after (blank b) (rack_accesses (fresh n b t) ss)) c k
after_list n b t ss fits = let v = run_fresh n b t ss fits in exclusive (run (fresh n b t) ss) _ v.sound v.coherent

pub means_exclusive : MeansExclusive
means_exclusive n b t r ss c k e =
    let o = opened n b t r e in
    subst (λ (q : Rack). Shows (run q ss) c k E → Exclusive (run q ss) (memory_after (blank b) (rack_accesses q ss)) c k) o.1 (after_list n b t ss o.0 c k)

pub means_exclusive_bytes : MeansExclusiveBytes
unfolding letter_reply
means_exclusive_bytes n b t s steps c k bytes e u =
    let ran = from_opening n b t s steps bytes e in
    let last = buffer_after (open_after n b t s) steps in
    rw (ran.rack, ran.accesses)
    (after_list n b t (steps_of steps) ran.fits c k
    (ap (λ (r : Rack). letter r c k) (sym ran.rack)
    ∙ ap (λ (z : Bool). cond z (letter (get last) c k) (Err Unsound)) (sym (sound_of last ran.live)) ∙ u))

-- a send that passes every line
send_past : (r : Rack) (off self claimed none short bare stale full : Bool) → off ≡ false → self ≡ false → claimed ≡ false → none ≡ false → short ≡ false
    → bare ≡ false → stale ≡ false → full ≡ false
    → reply (settled
    (when off refuse OffRack else
    when self refuse SelfSend else
    when claimed refuse Claimed else
    when none refuse Empty else
    when short refuse NotHeld else
    when bare refuse BareOwner else
    when stale refuse NoData else
    when full refuse MeshFull else
    no_refusal) Done r) ≡ Ok Done
unfolding when◌refuse◌else◌
send_past r off self claimed none short bare stale full a b c d e f g h = rw (a, b, c, d, e, f, g, h) refl

pub goes_home_bare : GoesHomeBare
unfolding rules check answer
goes_home_bare r c b p ok e few free room =
    let on = on_rack r c b (letter_of_lem r c b E e).0 in
    let mark = (where_shown.only_clean r c b e).1 in
    send_past (after r (Send c b 0 p true false)) _ _ _ _ _ _ _ _
    (rw (on.0, le-ltb r.boards 0 (omega arith)) refl)
    on.1
    (rw free refl)
    (ne_eqb (p + 1) 0 (λ z. omega arith))
    (rw (le-ltb (cell_at r b c).plain p few, ap present mark) refl)
    (rw (ap (λ (w : Owner). may_go_bare w 0) mark) refl)
    refl
    room
