-- A send and a delivery move tokens between a cell and the mesh, and none is made or lost; a claim moves none.
use mathlib.Core.Path.{◌≡◌, refl, sym, ap, ◌∙◌, subst}
use mathlib.Core.Bool.{Bool, true, false, cond, ◌||◌}
use mathlib.Core.List.{List, [], ◌∷◌, ◌++◌}
use Prim.Native.Nat.{ℕ, ◌+◌, ◌^◌, ◌≤◌, ◌<◌}
use native.Mathlib.Omega.{arith}
use borrow.Author.Tests.{ltb-true, lt-ltb, eq-eqb, eqb-true}
use lib.ListN.{length, get_or, length-set}
use lib.Dec.{eqb, ltb}
use Rattle.spec_base.specs.Folds.{toℕ, remove_at}
use Rattle.spec_base.proofs.Tests.{differs, and_l, and_r, and_of, or_left, cond_of, or_keeps}
use Rattle.spec_base.proofs.Folds.{at_set, all_at, all_snoc, all_removed, all_replicate, sum_snoc, sum_removed, sum_at, length_snoc, length_removed}
use Rattle.spec_arbiter.specs.Claims.{Claims, active}
use Rattle.spec_arbiter.proofs.Claims.{SoundClaims}
use Rattle.spec_rack.specs.declared.Owner.TheVariants.{Away}
use Rattle.spec_rack.specs.declared.Message.{Message}
use Rattle.spec_rack.specs.Rack.{Cell, Block, Rack, mesh_limit, zeros, is_home, present, may_go_bare, no_cell, no_block, no_message, block_at, claims_at, cell_at, message_at, held, carried}
use Rattle.spec_rack.specs.Rules.{with_cell, with_claims, without_tokens, with_tokens, message, sent, delivered, forwarded}
use Rattle.spec_rack.specs.FlatMemory.{Memory}
use Rattle.spec_rack.proofs.SoundnessFacts.{SoundCell, SoundMessage, SoundShape, Sound}
use Rattle.spec_rack.proofs.OwnerLaws.{NotDirty, bare_is, present_kept, clean_kept, clean_taken, owners_split, owners_taken, supplied_taken, owners_joined, present_joined, clean_joined, not_dirty_joined}
use Rattle.spec_rack.proofs.BlockInvariant.{cell_owners, message_owners, counted, not_counted, in_flight_at, Everywhere, CellHas, MessageHas, HomeHas, CleanCell, CleanMessage, WhereClean, where_clean_map, Coherent, Fit, CellFits, MessageFits, Fits, message_sound, cell_in, cell_sound, cell_is, CellBalanced, changed_sound, changed_everywhere, with_cell_sound, with_cell_everywhere, home_after, home_kept}

-- a rack that is sound, and coherent and of words that fit where the rack before it was
pub record Moved (r r' : Rack) : Type 0 where
  pub sound : Sound r'
  pub coherent : (mem : Memory) → Coherent r mem → Coherent r' mem
  pub fits : Fits r → Fits r'

-- ---- what a send takes from a cell

held_less : (x : Cell) (c b t p : ℕ) (o d : Bool) → p ≤ x.plain → held (without_tokens x p o) + carried (message x c b t p o d) ≡ held x
held_less x c b t p o d enough = omega (arith, owners_split o x.owner)

less_sound : (x : Cell) (p : ℕ) (o : Bool) → SoundCell x → SoundCell (without_tokens x p o)
less_sound x p o s =
    record {
      eight = s.eight;
      token = λ v. ltb-true _ _ (and_r x.valid (ltb 0 (held (without_tokens x p o))) v);
      current = λ w. and_of _ _ (s.current (present_kept o x.owner w)) (lt-ltb 0 (held (without_tokens x p o)) (omega (arith, ap toℕ w)));
    }

-- ---- what a delivery gives to a cell

module _ (x : Cell) (m : Message) where
  -- the words after it: the message's where it has data, else the cell's
  more_words : (ws : List ℕ) → (m.header.«data» ≡ true → m.words ≡ ws) → (m.header.«data» ≡ false → x.words ≡ ws) → (with_tokens x m).words ≡ ws
  more_words ws hm hx = go m.header.«data» hm hx
    where
      go : (d : Bool) → (d ≡ true → m.words ≡ ws) → (d ≡ false → x.words ≡ ws) → cond d m.words x.words ≡ ws
      go true f g = f refl
      go false f g = g refl

  -- at most one of the two has the owner
  module _ (once : cell_owners x + message_owners m ≤ 1) where
    owners_more : cell_owners (with_tokens x m) ≡ cell_owners x + message_owners m
    owners_more = owners_joined x.owner m.header.owner m.header.target once

    held_more : held (with_tokens x m) ≡ held x + carried m
    held_more = omega (arith, owners_more)

    more_sound : (n b : ℕ) → SoundCell x → SoundMessage n b m → SoundCell (with_tokens x m)
    more_sound n b sx sm =
        record {
          eight = cond_of (λ (ws : List ℕ). length ws ≡ 8) m.header.«data» m.words x.words sm.eight sx.eight;
          token = λ v. omega (arith, held_more, sm.token);
          current = λ w.
              or_keeps (present x.owner) (present m.header.owner) x.valid _ sx.current (search sm.current)
              (present_joined x.owner m.header.owner m.header.target w);
        }

  -- a valid cell still has the memory's words
  more_has : (mem : Memory) (b : ℕ) → CellHas mem b x → (m.header.«data» ≡ true → m.words ≡ get_or mem b [])
      → (may_go_bare m.header.owner m.header.target ≡ true → x.words ≡ get_or mem b []) → CellHas mem b (with_tokens x m)
  more_has mem b hx hm hb v = more_words (get_or mem b []) hm (λ e. go x.valid m.header.«data» _ v hx e (search hb))
    where
      -- without data the target was valid, or the owner came bare
      go : (u d w : Bool) → (u || (d || w)) ≡ true → (u ≡ true → x.words ≡ get_or mem b []) → d ≡ false → (w ≡ true → x.words ≡ get_or mem b [])
          → x.words ≡ get_or mem b []
      go true d w h f e g = f refl
      go false true w h f e g = differs e
      go false false w h f e g = g h

-- ---- a figure f of a cell and g of a message that stays as it was in all

module _ (r : Rack) (f : Cell → ℕ) (g : Message → ℕ) where
  -- what block j has in a message y
  at : ℕ → Message → ℕ
  at j y = cond (eqb y.header.block j) (g y) 0

  sent_balanced : (b c : ℕ) (x : Cell) (m : Message) → m.header.block ≡ b → f x + g m ≡ f (cell_at r b c)
      → CellBalanced r b c x (r.mesh ++ m ∷ []) f g
  unfolding at
  sent_balanced b c x m e same =
      record {
        here = omega (arith, sum_snoc (at b) r.mesh m, counted g b m e);
        there = λ j ne. omega (arith, sum_snoc (at j) r.mesh m, not_counted g j m (λ q. ne (sym q ∙ e)));
      }

  delivered_balanced : (i c : ℕ) (x : Cell) → i < length r.mesh → f x ≡ f (cell_at r (message_at r i).header.block c) + g (message_at r i)
      → CellBalanced r (message_at r i).header.block c x (remove_at r.mesh i) f g
  unfolding at
  delivered_balanced i c x h same =
      let m = message_at r i in
      record {
        here = omega (arith, sum_removed (at m.header.block) r.mesh i no_message h, counted g m.header.block m refl);
        there = λ j ne. omega (arith, sum_removed (at j) r.mesh i no_message h, not_counted g j m (λ q. ne (sym q)));
      }

-- ---- a rack after a send, after a delivery, and with other claims on a block

module _ (r : Rack) (s : Sound r) where
  pub sent_keeps : (c b t p : ℕ) (o d : Bool) → c ≤ r.boards → b < length r.blocks → t ≤ r.boards → (c ≡ t → ⊥)
      → 0 < p + toℕ o → p ≤ (cell_at r b c).plain → (o ≡ true → present (cell_at r b c).owner ≡ true)
      → (o ≡ true → (d || may_go_bare (cell_at r b c).owner t) ≡ true) → (d ≡ true → (cell_at r b c).valid ≡ true) → length r.mesh < mesh_limit
      → Moved r (sent r c b t p o d)
  unfolding sent
  sent_keeps c b t p o d in_n in_b inT apart some enough owned current valid room =
      record {
        sound =
            with_cell_sound r s b c in_b in_n (without_tokens x p o) (r.mesh ++ m ∷ []) (less_sound x p o sx) (omega (arith, length_snoc r.mesh m))
            (all_snoc (SoundMessage r.boards (length r.blocks)) r.mesh m s.messages sm)
            (sent_balanced r held carried b c (without_tokens x p o) m refl (held_less x c b t p o d enough))
            (sent_balanced r cell_owners message_owners b c (without_tokens x p o) m refl (owners_split o x.owner));
        coherent = λ mem coh.
            record {
              rows = simp length-set coh.rows;
              has = moved (CellHas mem) (MessageHas mem) (λ has v. has (and_l x.valid _ v)) (λ has v. rw v (has (valid v))) coh.has;
              home = home mem coh;
              not_dirty = λ j. at_home (λ _ y. NotDirty y.owner) (λ _. cond_of NotDirty o Away x.owner tt) j (coh.not_dirty j);
            };
        fits =
            moved CellFits MessageFits (λ fit. fit)
            (λ fit. cond_of Fit d x.words zeros fit (all_replicate (λ (w : ℕ). w < 2 ^ 32) 8 0 (omega arith)));
      }
    where
      x : Cell
      x = cell_at r b c

      m : Message
      m = message x c b t p o d

      r' : Rack
      r' = with_cell r b c (without_tokens x p o) (r.mesh ++ m ∷ [])

      sx : SoundCell x
      sx = cell_sound r s b c in_b in_n

      sm : SoundMessage r.boards (length r.blocks) m
      sm =
          record {
            eight = cond_of (λ (ws : List ℕ). length ws ≡ 8) d x.words zeros sx.eight refl;
            blank = λ e. rw e refl;
            sender = in_n;
            target = inT;
            apart = apart;
            block = in_b;
            token = omega (arith, owners_taken o x.owner owned);
            current = supplied_taken o d x.owner t current;
          }

      moved : (P : ℕ → Cell → Type 0) (Q : Message → Type 0) → (P b x → P b (without_tokens x p o)) → (P b x → Q m)
          → Everywhere P Q r → Everywhere P Q (with_cell r b c (without_tokens x p o) (r.mesh ++ m ∷ []))
      moved P Q f g h =
          let px = cell_is r s b c in_b in_n P Q h in
          with_cell_everywhere r s b c in_b in_n (without_tokens x p o) (r.mesh ++ m ∷ []) P Q h (f px) (all_snoc Q r.mesh m h.mesh (g px))

      at_home : (G : ℕ → Cell → Type 0) → (0 ≡ c → G b x → G b (without_tokens x p o)) → (j : ℕ) → G j (cell_at r j 0) → G j (cell_at r' j 0)
      at_home = home_kept r s b c in_b in_n (without_tokens x p o) (r.mesh ++ m ∷ [])

      -- home's words stay, and each clean owner after was one before
      home : (mem : Memory) → Coherent r mem → WhereClean (HomeHas mem r') r'
      home mem coh =
          moved (CleanCell (HomeHas mem r')) (CleanMessage (HomeHas mem r'))
          (λ h u. h (clean_kept o x.owner u)) (λ h u. h (clean_taken o x.owner u))
          (where_clean_map (HomeHas mem r) (HomeHas mem r') r (at_home (λ j y. y.words ≡ get_or mem j []) (λ _ h. h)) coh.home)

  pub forwarded_keeps : (c b : ℕ) → c ≤ r.boards → b < length r.blocks → active (claims_at r b) ≤ r.boards → (c ≡ active (claims_at r b) → ⊥)
      → 0 < held (cell_at r b c) → length r.mesh < mesh_limit → Moved r (forwarded r c b)
  unfolding forwarded
  forwarded_keeps c b in_n in_b inT apart some room =
      let current = (cell_sound r s b c in_b in_n).current in
      sent_keeps c b _ _ _ _ in_n in_b inT apart some (omega arith) (search or_left) (search or_left) (search or_left) room

  -- a message and its target do not both have the owner
  owner_once : (i : ℕ) → i < length r.mesh
      → cell_owners (cell_at r (message_at r i).header.block (message_at r i).header.target) + message_owners (message_at r i) ≤ 1
  owner_once i h =
      let m = message_at r i in
      let sm = message_sound r s i h in
      omega (
        arith,
        (s.blocks m.header.block sm.block).owners,
        in_flight_at r message_owners i h,
        sum_at cell_owners (block_at r m.header.block).cells m.header.target no_cell (cell_in r s m.header.block m.header.target sm.block sm.target),
      )

  -- the target gets the tokens that the message carried
  pub delivered_held : (i : ℕ) → i < length r.mesh
      → held (with_tokens (cell_at r (message_at r i).header.block (message_at r i).header.target) (message_at r i))
      ≡ held (cell_at r (message_at r i).header.block (message_at r i).header.target) + carried (message_at r i)
  delivered_held i h = held_more (cell_at r (message_at r i).header.block (message_at r i).header.target) (message_at r i) (owner_once i h)

  pub delivered_keeps : (i : ℕ) → i < length r.mesh → Moved r (delivered r i)
  unfolding delivered
  delivered_keeps i h =
      record {
        sound =
            with_cell_sound r s b c sm.block sm.target (with_tokens x m) (remove_at r.mesh i) (more_sound x m once _ _ sx sm)
            (omega (arith, length_removed r.mesh i, s.few))
            (all_removed (SoundMessage r.boards (length r.blocks)) r.mesh i s.messages)
            (delivered_balanced r held carried i c (with_tokens x m) h (delivered_held i h))
            (delivered_balanced r cell_owners message_owners i c (with_tokens x m) h (owners_more x m once));
        coherent = λ mem coh.
            record {
              rows = simp length-set coh.rows;
              has = moved (CellHas mem) (MessageHas mem) (λ hx hm. more_has x m mem b hx hm (bare mem coh)) coh.has;
              home = home mem coh;
              not_dirty = λ j. at_home (λ _ y. NotDirty y.owner) (λ z. not_dirty_joined x.owner m.header.owner c (eq-eqb c 0 (sym z))) j (coh.not_dirty j);
            };
        fits = moved CellFits MessageFits (λ fx fm. cond_of Fit m.header.«data» m.words x.words fm fx);
      }
    where
      m : Message
      m = message_at r i

      b : ℕ
      b = m.header.block

      c : ℕ
      c = m.header.target

      x : Cell
      x = cell_at r b c

      sm : SoundMessage r.boards (length r.blocks) m
      sm = message_sound r s i h

      sx : SoundCell x
      sx = cell_sound r s b c sm.block sm.target

      once : cell_owners x + message_owners m ≤ 1
      once = owner_once i h

      moved : (P : ℕ → Cell → Type 0) (Q : Message → Type 0) → (P b x → Q m → P b (with_tokens x m))
          → Everywhere P Q r → Everywhere P Q (with_cell r b c (with_tokens x m) (remove_at r.mesh i))
      moved P Q f e =
          with_cell_everywhere r s b c sm.block sm.target (with_tokens x m) (remove_at r.mesh i) P Q e
          (f (cell_is r s b c sm.block sm.target P Q e) (all_at Q r.mesh e.mesh i no_message h)) (all_removed Q r.mesh i e.mesh)

      r' : Rack
      r' = with_cell r b c (with_tokens x m) (remove_at r.mesh i)

      at_home : (G : ℕ → Cell → Type 0) → (0 ≡ c → G b x → G b (with_tokens x m)) → (j : ℕ) → G j (cell_at r j 0) → G j (cell_at r' j 0)
      at_home = home_kept r s b c sm.block sm.target (with_tokens x m) (remove_at r.mesh i)

      message_has : (mem : Memory) → Coherent r mem → MessageHas mem m
      message_has mem coh = all_at (MessageHas mem) r.mesh coh.has.mesh i no_message h

      -- the target of an owner that may go bare is home, which has the memory's words
      bare : (mem : Memory) → Coherent r mem → may_go_bare m.header.owner c ≡ true → x.words ≡ get_or mem b []
      bare mem coh e =
          subst (λ (k : ℕ). (cell_at r b k).words ≡ get_or mem b []) (sym (bare_is m.header.owner c e).1)
          (all_at (CleanMessage (HomeHas mem r)) r.mesh coh.home.mesh i no_message h (bare_is m.header.owner c e).0)

      -- an owner that comes home has data, or it may go bare: home has the memory's words after it
      came : (mem : Memory) → Coherent r mem → is_home c ≡ true → present m.header.owner ≡ true → HomeHas mem r' b
      came mem coh z o =
          home_after r s b c sm.block sm.target (with_tokens x m) (remove_at r.mesh i) b (λ y. y.words ≡ get_or mem b [])
          (λ e q. more_words x m (get_or mem b []) (message_has mem coh) (λ d. bare mem coh (rw d at (sm.current o))))
          (λ ne. absurd (ne refl (sym (eqb-true c 0 z))))

      home : (mem : Memory) → Coherent r mem → WhereClean (HomeHas mem r') r'
      home mem coh =
          moved (CleanCell (HomeHas mem r')) (CleanMessage (HomeHas mem r'))
          (λ hx hm. clean_joined x.owner m.header.owner c hx hm (came mem coh))
          (where_clean_map (HomeHas mem r) (HomeHas mem r') r
          (at_home (λ j y. y.words ≡ get_or mem j []) (λ _ had. more_words x m (get_or mem b []) (message_has mem coh) (λ d. had))) coh.home)

  pub claims_keep : (b : ℕ) (k : Claims) → b < length r.blocks → SoundClaims r.boards k → Moved r (with_claims r b k)
  claims_keep b k in_b sk =
      record {
        sound =
            changed_sound r b block r.mesh in_b s (record { width = old.width; cells = old.cells; claims = sk }) s.few s.messages
            (record { here = refl; there = λ j ne. refl }) (record { here = refl; there = λ j ne. refl });
        coherent = λ mem coh.
            record {
              rows = simp length-set coh.rows;
              has = kept (CellHas mem) (MessageHas mem) coh.has;
              home = home mem coh;
              not_dirty = λ j. at_home j (λ y. NotDirty y.owner) (coh.not_dirty j);
            };
        fits = kept CellFits MessageFits;
      }
    where
      block : Block
      block = record { cells = (block_at r b).cells; claims = k }

      old : SoundShape r.boards (block_at r b)
      old = (s.blocks b in_b).shape

      kept : (P : ℕ → Cell → Type 0) (Q : Message → Type 0) → Everywhere P Q r → Everywhere P Q (with_claims r b k)
      kept P Q h = changed_everywhere r b block r.mesh in_b P Q (h.cells b in_b) (λ j l ne. h.cells j l) h.mesh

      at_home : (j : ℕ) (G : Cell → Type 0) → G (cell_at r j 0) → G (cell_at (with_claims r b k) j 0)
      at_home j G had =
          at_set (λ y. G (get_or y.cells 0 no_cell)) r.blocks b j block no_block in_b (λ e. subst (λ (q : ℕ). G (cell_at r q 0)) e had) (λ ne. had)

      home : (mem : Memory) → Coherent r mem → WhereClean (HomeHas mem (with_claims r b k)) (with_claims r b k)
      home mem coh =
          let H' = HomeHas mem (with_claims r b k) in
          kept (CleanCell H') (CleanMessage H') (where_clean_map (HomeHas mem r) H' r (λ j. at_home j (λ y. y.words ≡ get_or mem j [])) coh.home)
