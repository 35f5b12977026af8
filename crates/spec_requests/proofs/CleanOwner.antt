-- Line 12 of a send and the valid mark of a delivery are document 01's unless the owner may go bare; the rest is part of what every list of steps keeps.
use Prim.Native.Nat.{ℕ, ◌<◌}
use mathlib.Core.Path.{◌≡◌, refl, sym, ap, ap₂, ◌∙◌, subst}
use mathlib.Core.Bool.{Bool, true, false, not, ◌&&◌, ◌||◌}
use mathlib.Core.List.{List, [], ◌∷◌}
use borrow.Author.Tests.{eq-eqb, lt-leb, not-true}
use lib.ListN.{length, length-replicate}
use Rattle.spec_base.specs.Folds.{implies, remove_at}
use Rattle.spec_base.proofs.Tests.{differs, and_l, and_r, and_left, and_right, or_l, or_right, not_of_true}
use Rattle.spec_wire.specs.declared.Refusal.{Refusal}
use Rattle.spec_wire.specs.declared.Refusal.TheVariants.{OffRack, NoData, SelfSend, Claimed, Empty, NotHeld, BareOwner, MeshFull}
use Rattle.std.specs.Prelude.{Err}
use Rattle.spec_wire.specs.Answers.{Check, no_refusal}
use Rattle.spec_wire.specs.Refusals.{when◌refuse◌else◌}
use Rattle.spec_wire.specs.declared.Step.{Step}
use Rattle.spec_wire.specs.declared.Step.TheVariants.{Load, Store, Send, Deliver, Raise, Lower, Forward}
use Rattle.spec_rack.specs.declared.Owner.{Owner}
use Rattle.spec_rack.specs.declared.Owner.TheVariants.{Clean, Dirty}
use Rattle.spec_rack.specs.declared.Answer.{Answer}
use Rattle.spec_rack.specs.Rack.{Cell, Rack, no_cell, no_message, fresh, block_at, cell_at, message_at, present, may_go_bare}
use Rattle.spec_rack.specs.Soundness.{sound_contents, sound, sizes}
use Rattle.spec_rack.specs.Rules.{Outcome, accepted, settled, check, after, answer, rules, sent, with_tokens, delivered, off_rack, reply, rack_after}
use Rattle.spec_rack.specs.FlatMemory.{Memory, blank, memory_after}
use Rattle.spec_rack.specs.Lists.{ruled_reply, ruled_after, run, rack_replies, rack_accesses, run_all, replies_of, steps_of}
use Rattle.spec_requests.specs.CleanOwner.{reply_before_bare, after_before_bare, rules_before_bare, BareSends, HomeReceives, CleanIn, in_component, in_flight_lem, CleanHome, CleanHomeBytes, NeverDirtyAtHome, is_bare, none_bare, AsBefore}
use Rattle.spec_rack.proofs.SoundnessFacts.{Sound, sound_facts}
use Rattle.spec_rack.proofs.OwnerMarks.{joined_home}
use Rattle.spec_rack.proofs.OwnerLaws.{NotDirty}
use Rattle.spec_rack.proofs.BlockInvariant.{all_anywhere, HomeHas, CleanCell, CleanMessage, Coherent, message_sound, cell_sound, home_after}
use Rattle.spec_rack.proofs.StepPreservation.{in_n, in_b}
use Rattle.spec_rack.proofs.FreshRack.{opened}
use Rattle.spec_rack.proofs.ListCoherence.{run_fresh}
use Rattle.spec_rack.proofs.Coherence.{from_opening}
use Rattle.spec_requests.proofs.HomeLoads.{any_rack}

-- a send's lines by their tests, where `bare` is that of 12 and `refusal` what it gives
abbrev lines : Refusal → Bool → Bool → Bool → Bool → Bool → Bool → Bool → Bool → Check
lines refusal off self claimed none short bare stale full =
    when off refuse OffRack else
    when self refuse SelfSend else
    when claimed refuse Claimed else
    when none refuse Empty else
    when short refuse NotHeld else
    when bare refuse refusal else
    when stale refuse NoData else
    when full refuse MeshFull else
    no_refusal

-- ---- a send of a clean owner to home

-- with a test of 12 that fails, and of 6 that fails on the rack
same_reply : (refusal : Refusal) (answered : Answer) (r r' : Rack) (off self claimed none short bare stale full : Bool) → bare ≡ false → (off ≡ false → stale ≡ false)
    → reply (settled (lines refusal off self claimed none short bare false full) answered r)
    ≡ reply (settled (lines refusal off self claimed none short false stale full) answered r')
unfolding when◌refuse◌else◌
same_reply refusal answered r r' true self claimed none short bare stale full e f = refl
same_reply refusal answered r r' false self claimed none short bare stale full e f = rw (e, f refl) (any_rack (lines refusal false self claimed none short false false full) answered r r')

clean_bare : (w : Owner) → w ≡ Clean → not (may_go_bare w 0) ≡ false
clean_bare w e = ap (λ (y : Owner). not (may_go_bare y 0)) e

home_send : (r : Rack) (c b p : ℕ) → sound r ≡ true → (cell_at r b c).owner ≡ Clean → ruled_reply r (Send c b 0 p true false) ≡ ruled_reply r (Send c b 0 p true true)
unfolding rules check after answer
home_send r c b p ok e =
    let s = sound_facts r ok in
    same_reply _ _ _ _ _ _ _ _ _ _ _ _ (search clean_bare)
    (λ known.
    let on = or_l (off_rack r c b) _ known in
    not_of_true (cell_at r b c).valid ((cell_sound r s b c (in_b r s c b on) (in_n r s c b on)).current (ap present e)))

-- ---- what stays: the test of line 12, and the valid mark, are document 01's where the owner may not go bare

bare_before : (o d u : Bool) → (o && not d && u) ≡ false → (o && not d && not u) ≡ (o && not d)
bare_before true true u e = refl
bare_before true false true e = sym e
bare_before true false false e = refl
bare_before false d u e = refl

valid_before : (d u : Bool) → (not d && u) ≡ false → (d || u) ≡ d
valid_before true u e = refl
valid_before false u e = e

step_same : (r : Rack) (s : Step) → is_bare r s ≡ false → rules r s ≡ rules_before_bare r s
unfolding rules check after answer delivered
step_same r (Load c b w) e = refl
step_same r (Store c b w v) e = refl
step_same r (Send c b t p o d) e = rw (bare_before o d (may_go_bare (cell_at r b c).owner t) e)
step_same r (Deliver i) e = rw (valid_before (message_at r i).header.«data» (may_go_bare (message_at r i).header.owner (message_at r i).header.target) e)
step_same r (Raise c b) e = refl
step_same r (Lower c b) e = refl
step_same r (Forward c b) e = refl

module _ (answered : Answer) (r : Rack) where
  -- only its line refuses with 12
  by_12 : (off self claimed none short bare stale full : Bool)
      → reply (settled (lines BareOwner off self claimed none short bare stale full) answered r) ≡ Err BareOwner → bare ≡ true
  unfolding when◌refuse◌else◌
  by_12 true self claimed none short bare stale full e = cc
  by_12 false true claimed none short bare stale full e = cc
  by_12 false false true none short bare stale full e = cc
  by_12 false false false true short bare stale full e = cc
  by_12 false false false false true bare stale full e = cc
  by_12 false false false false false true stale full e = refl
  by_12 false false false false false false true full e = cc
  by_12 false false false false false false false true e = cc
  by_12 false false false false false false false false e = cc

  -- a send that is accepted is past it
  past_12 : (a : Answer) (r' : Rack) (off self claimed none short bare stale full : Bool)
      → settled (lines BareOwner off self claimed none short bare stale full) answered r ≡ accepted a r' → bare ≡ false
  unfolding when◌refuse◌else◌
  past_12 a r' true self claimed none short bare stale full e = cc
  past_12 a r' false true claimed none short bare stale full e = cc
  past_12 a r' false false true none short bare stale full e = cc
  past_12 a r' false false false true short bare stale full e = cc
  past_12 a r' false false false false true bare stale full e = cc
  past_12 a r' false false false false false true stale full e = cc
  past_12 a r' false false false false false false stale full e = refl

same_list : (ss : List Step) (r : Rack) → none_bare r ss ≡ true
    → (rack_replies r ss ≡ replies_of after_before_bare reply_before_bare r ss) × (run r ss ≡ run_all after_before_bare r ss)
unfolding run_all replies_of
same_list [] r h = (refl, refl)
same_list (s ∷ ss) r h =
    let same = step_same r s (not-true _ (and_l (not (is_bare r s)) _ h)) in
    let rest = same_list ss (ruled_after r s) (and_r (not (is_bare r s)) _ h) in (
      ap₂ ◌∷◌ (ap reply same) (rest.0 ∙ ap (λ (o : Outcome). replies_of after_before_bare reply_before_bare (rack_after r o) ss) same),
      rest.1 ∙ ap (λ (o : Outcome). run_all after_before_bare (rack_after r o) ss) same,
    )

pub as_before : AsBefore
as_before =
    record {
      message = λ n b m h. ap (λ (z : Bool). sound_contents n b m && implies (present m.header.owner) z) (valid_before m.header.«data» _ h);
      step = step_same;
      accepted_send = λ r c b t p o d a r' e.
          step_same r (Send c b t p o d) (and_left (o && not d) _ (past_12 _ (sent r c b t p o d) a r' _ _ _ _ _ (o && not d) _ _ e)) ∙ e;
      list = λ r ss. same_list ss r;
    }

-- ---- all that is said of such sends

pub bare_sends : BareSends
unfolding rules check after answer
bare_sends =
    record {
      home = home_send;
      given = λ r c b t p o d e u. ap reply (step_same r (Send c b t p o d) (and_right (o && not d) _ u)) ∙ e;
      only = λ r c b t p o d e.
          let u = not-true _ (and_r (o && not d) _ (by_12 _ (sent r c b t p o d) _ _ _ _ _ _ _ _ e)) in
          (sym (ap reply (step_same r (Send c b t p o d) (and_right (o && not d) _ u))) ∙ e, u);
    }

-- ---- home, receiving it

-- home's cell after it
received : (r : Rack) (i : ℕ) → Sound r → i < length r.mesh → (message_at r i).header.target ≡ 0
    → cell_at (ruled_after r (Deliver i)) (message_at r i).header.block 0 ≡ with_tokens (cell_at r (message_at r i).header.block 0) (message_at r i)
unfolding rules check after delivered when◌refuse◌else◌
received r i s l z =
    let m = message_at r i in
    let b = m.header.block in
    let c = m.header.target in
    let sm = message_sound r s i l in
    rw (lt-leb (length r.mesh) i l)
    (home_after r s b c sm.block sm.target (with_tokens (cell_at r b c) m) (remove_at r.mesh i) b (λ y. y ≡ with_tokens (cell_at r b 0) m)
    (λ _ _. ap (λ (k : ℕ). with_tokens (cell_at r b k) m) z) (λ elsewhere. absurd (elsewhere refl (sym z))))

pub home_receives : HomeReceives
home_receives r i ok l z o =
    let s = sound_facts r ok in
    let m = message_at r i in
    let x = cell_at r m.header.block 0 in
    let is = received r i s l z in
    record {
      owner = ap (λ (y : Cell). y.owner) is ∙ joined_home x.owner m.header.owner m.header.target (eq-eqb _ 0 z) o;
      valid = ap (λ (y : Cell). y.valid) is ∙ or_right x.valid _ ((message_sound r s i l).current o);
      words = ap (λ (y : Cell). y.words) is;
    }

-- ---- what a clean mark says

home_words : (r : Rack) (mem : Memory) → Coherent r mem → (k : ℕ) → k < length r.blocks → CleanIn r k → HomeHas mem r k
home_words r mem coh k l (in_component c u) =
    all_anywhere (CleanCell (HomeHas mem r) k) (block_at r k).cells (coh.home.cells k l) no_cell (λ none. differs (sym none)) c u
home_words r mem coh k l (in_flight_lem i e u) =
    subst (HomeHas mem r) e (all_anywhere (CleanMessage (HomeHas mem r)) r.mesh coh.home.mesh no_message (λ none. differs (sym none)) i u)

-- after a list from a fresh rack
clean_after : (n b t : ℕ) (ss : List Step) → sizes n b t ≡ true → (k : ℕ) → k < b → CleanIn (run (fresh n b t) ss) k
    → HomeHas (memory_after (blank b) (rack_accesses (fresh n b t) ss)) (run (fresh n b t) ss) k
clean_after n b t ss fits k l =
    let v = run_fresh n b t ss fits in
    home_words (run (fresh n b t) ss) _ v.coherent k (rw (v.count, length-replicate) l)

pub clean_home : CleanHome
clean_home n b t r ss e k l =
    let o = opened n b t r e in
    subst (λ (q : Rack). CleanIn (run q ss) k → HomeHas (memory_after (blank b) (rack_accesses q ss)) (run q ss) k) o.1 (clean_after n b t ss o.0 k l)

pub clean_home_bytes : CleanHomeBytes
clean_home_bytes n b t s steps bytes e k l u =
    let ran = from_opening n b t s steps bytes e in
    rw (ran.rack, ran.accesses) (clean_after n b t (steps_of steps) ran.fits k l (rw ran.rack at u))

pub never_dirty_at_home : NeverDirtyAtHome
never_dirty_at_home n b t r ss e k =
    let o = opened n b t r e in
    subst (λ (q : Rack). (cell_at (run q ss) k 0).owner ≡ Dirty → ⊥) o.1 (λ dirty. subst NotDirty dirty ((run_fresh n b t ss o.0).coherent.not_dirty k))
