-- Soundness as facts: what the test `sound` says, part by part, and back.
use mathlib.Core.Path.{◌≡◌, ap}
use mathlib.Core.Bool.{true, false, not}
use Prim.Native.Nat.{ℕ, suc, ◌≤◌, ◌<◌}
use borrow.Author.Tests.{eq-eqb, ne_eqb, eqb-true, eqb-false, leb-true, le-leb, ltb-true, lt-ltb, not-true}
use lib.ListN.{length}
use lib.Dec.{eqb, ltb}
use Rattle.spec_base.specs.Folds.{all, All}
use Rattle.spec_base.proofs.Tests.{and_l, and_r, and_of, not_of_false, implied, implies_of}
use Rattle.spec_base.proofs.Folds.{below_at, below_of, all_every, every_all}
use Rattle.spec_arbiter.proofs.Claims.{SoundClaims, claims_facts, claims_test}
use Rattle.spec_rack.specs.declared.Message.{Message}
use Rattle.spec_rack.specs.Rack.{Cell, Block, Rack, mesh_limit, present, supplied, block_at, claims_at, held, carried, tokens_of, owners_of}
use Rattle.spec_rack.specs.Soundness.{sizes, sound_cell, sound_message, sound_block, sound}

pub record SoundMessage (n b : ℕ) (m : Message) : Type 0 where
  pub eight : length m.words ≡ 8
  pub blank : m.header.«data» ≡ false → all (eqb 0) m.words ≡ true
  pub sender : m.header.sender ≤ n
  pub target : m.header.target ≤ n
  pub apart : m.header.sender ≡ m.header.target → ⊥
  pub block : m.header.block < b
  pub token : 0 < carried m
  pub current : present m.header.owner ≡ true → supplied m.header ≡ true

pub record SoundCell (x : Cell) : Type 0 where
  pub eight : length x.words ≡ 8
  pub token : x.valid ≡ true → 0 < held x
  pub current : present x.owner ≡ true → x.valid ≡ true

-- a block of a rack of n boards by itself
pub record SoundShape (n : ℕ) (k : Block) : Type 0 where
  pub width : length k.cells ≡ suc n
  pub cells : All SoundCell k.cells
  pub claims : SoundClaims n k.claims

pub record SoundBlock (r : Rack) (b : ℕ) : Type 0 where
  pub shape : SoundShape r.boards (block_at r b)
  pub tokens : tokens_of r b ≡ r.tokens
  pub owners : owners_of r b ≡ 1

pub record Sound (r : Rack) : Type 0 where
  pub size : sizes r.boards (length r.blocks) r.tokens ≡ true
  pub few : length r.mesh ≤ mesh_limit
  pub messages : All (SoundMessage r.boards (length r.blocks)) r.mesh
  pub blocks : (b : ℕ) → b < length r.blocks → SoundBlock r b

message_facts : (n b : ℕ) (m : Message) → sound_message n b m ≡ true → SoundMessage n b m
message_facts n b m h =
    record {
      eight = eqb-true _ _ (search (and_l, and_r) depth 9);
      blank = λ e. implied (not m.header.«data») (all (eqb 0) m.words) (search (and_l, and_r) depth 9) (not_of_false _ e);
      sender = leb-true _ _ (search (and_l, and_r) depth 9);
      target = leb-true _ _ (search (and_l, and_r) depth 9);
      apart = eqb-false _ _ (not-true _ (search (and_l, and_r) depth 9));
      block = ltb-true _ _ (search (and_l, and_r) depth 9);
      token = ltb-true _ _ (search (and_l, and_r) depth 9);
      current =
          implied (present m.header.owner) (supplied m.header) (search (and_l, and_r) depth 9);
    }

message_test : (n b : ℕ) (m : Message) → SoundMessage n b m → sound_message n b m ≡ true
message_test n b m s =
    and_of _ _ (and_of _ _ (and_of _ _ (and_of _ _ (and_of _ _ (and_of _ _ (and_of _ _
    (eq-eqb _ _ s.eight) (implies_of _ _ (λ e. s.blank (not-true _ e)))) (le-leb _ _ s.sender)) (le-leb _ _ s.target))
    (ap not (ne_eqb _ _ s.apart))) (lt-ltb _ _ s.block)) (lt-ltb _ _ s.token)) (implies_of _ _ s.current)

cell_facts : (x : Cell) → sound_cell x ≡ true → SoundCell x
cell_facts x h =
    record {
      eight = eqb-true _ _ (search (and_l, and_r));
      token = λ v. ltb-true _ _ (implied x.valid (ltb 0 (held x)) (search (and_l, and_r)) v);
      current = implied (present x.owner) x.valid (search (and_l, and_r));
    }

cell_test : (x : Cell) → SoundCell x → sound_cell x ≡ true
cell_test x s =
    and_of _ _ (and_of _ _ (eq-eqb _ _ s.eight) (implies_of _ _ (λ v. lt-ltb _ _ (s.token v)))) (implies_of _ _ s.current)

block_facts : (r : Rack) (b : ℕ) → sound_block r b ≡ true → SoundBlock r b
block_facts r b h =
    record {
      shape =
          record {
            width = eqb-true _ _ (search (and_l, and_r));
            cells = all_every SoundCell sound_cell (block_at r b).cells cell_facts (search (and_l, and_r));
            claims = claims_facts r.boards (claims_at r b) (search (and_l, and_r));
          };
      tokens = eqb-true _ _ (search (and_l, and_r));
      owners = eqb-true _ _ (search (and_l, and_r));
    }

block_test : (r : Rack) (b : ℕ) → SoundBlock r b → sound_block r b ≡ true
block_test r b s =
    and_of _ _ (and_of _ _ (and_of _ _ (and_of _ _ (eq-eqb _ _ s.shape.width) (eq-eqb _ _ s.tokens)) (eq-eqb _ _ s.owners))
    (every_all SoundCell sound_cell (block_at r b).cells cell_test s.shape.cells))
    (claims_test r.boards (claims_at r b) s.shape.claims)

pub sound_facts : (r : Rack) → sound r ≡ true → Sound r
unfolding sound
sound_facts r h =
    record {
      size = search (and_l, and_r);
      few = leb-true _ _ (search (and_l, and_r));
      messages =
          all_every (SoundMessage r.boards (length r.blocks)) (sound_message r.boards (length r.blocks)) r.mesh
          (message_facts r.boards (length r.blocks)) (search (and_l, and_r));
      blocks = λ b l. block_facts r b (below_at (sound_block r) (length r.blocks) (search (and_l, and_r)) b l);
    }

pub sound_test : (r : Rack) → Sound r → sound r ≡ true
unfolding sound
sound_test r s =
    and_of _ _ (and_of _ _ (and_of _ _ s.size (le-leb _ _ s.few))
    (every_all (SoundMessage r.boards (length r.blocks)) (sound_message r.boards (length r.blocks)) r.mesh
    (message_test r.boards (length r.blocks)) s.messages))
    (below_of (sound_block r) (length r.blocks) (λ b l. block_test r b (s.blocks b l)))
