-- The fresh rack is sound, coherent with the blank memory, and of words that fit.
use mathlib.Core.Path.{◌≡◌, refl, sym, ap, ◌∙◌, subst}
use mathlib.Core.Bool.{Bool, true, false, not}
use mathlib.Core.List.{[]}
use Prim.Native.Nat.{ℕ, suc, ◌+◌, ◌^◌, ◌≤◌, ◌<◌}
use native.Mathlib.Omega.{arith}
use borrow.Author.Tests.{leb-true}
use lib.ListN.{length, get_or, replicate, length-replicate, get_or-replicate}
use Rattle.spec_base.specs.Folds.{sum, All}
use Rattle.spec_base.proofs.Tests.{differs, and_l, and_r}
use Rattle.spec_base.proofs.Folds.{all_replicate, sum_replicate}
use Rattle.spec_wire.specs.declared.Refusal.TheVariants.{Size}
use Rattle.spec_wire.specs.Answers.{no_refusal}
use Rattle.spec_wire.specs.Refusals.{when◌refuse◌else◌}
use Rattle.spec_arbiter.proofs.Claims.{none_sound}
use Rattle.spec_rack.specs.declared.Message.{Message}
use Rattle.spec_rack.specs.declared.Answer.TheVariants.{Done}
use Rattle.spec_rack.specs.Rack.{Cell, Block, Rack, zeros, no_cell, no_block, full_cell, fresh_block, fresh, block_at, held, carried, total}
use Rattle.spec_rack.specs.Soundness.{sizes, sound}
use Rattle.spec_rack.specs.Rules.{accepted, settled, opening_check, opening}
use Rattle.spec_rack.specs.FlatMemory.{blank}
use Rattle.spec_rack.proofs.SoundnessFacts.{SoundCell, SoundShape, Sound, sound_test}
use Rattle.spec_rack.proofs.OwnerLaws.{NotDirty}
use Rattle.spec_rack.proofs.BlockInvariant.{cell_owners, message_owners, all_anywhere, Everywhere, CellHas, MessageHas, HomeHas, CleanCell, CleanMessage, Coherent, Fit, CellFits, MessageFits, Fits}

-- an accepted opening has sizes in range and gives the fresh rack
pub opened : (n b t : ℕ) (r : Rack) → opening n b t ≡ accepted Done r → (sizes n b t ≡ true) × (fresh n b t ≡ r)
unfolding opening opening_check when◌refuse◌else◌
opened n b t r = go (sizes n b t)
  where
    go : (u : Bool) → settled (when not u refuse Size else no_refusal) Done (fresh n b t) ≡ accepted Done r → (u ≡ true) × (fresh n b t ≡ r)
    go true e = (refl, cc)
    go false e = (cc, cc)

module _ (n b t : ℕ) where
  fresh_block_lem : (k : ℕ) → k < length (fresh n b t).blocks → block_at (fresh n b t) k ≡ fresh_block n t
  fresh_block_lem k l = get_or-replicate b k (fresh_block n t) no_block (rw length-replicate at l)

  -- what holds of a cell that holds all and of one that holds nothing
  everywhere : (P : ℕ → Cell → Type 0) (Q : Message → Type 0) → ((k : ℕ) → k < b → P k (full_cell t) × P k no_cell) → Everywhere P Q (fresh n b t)
  everywhere P Q f =
      record {
        cells = λ k l. let p = f k (rw length-replicate at l) in
            subst (λ (y : Block). All (P k) y.cells) (sym (fresh_block_lem k l)) (p.0, all_replicate (P k) n no_cell p.1);
        mesh = tt;
      }

  -- the home's figure is the whole
  whole : (f : Cell → ℕ) (g : Message → ℕ) → f no_cell ≡ 0 → (k : ℕ) → k < length (fresh n b t).blocks → total f g (fresh n b t) k ≡ f (full_cell t)
  whole f g e k l =
      ap (λ (y : Block). sum f y.cells + 0) (fresh_block_lem k l) ∙ omega (arith, sum_replicate f n no_cell e)

  pub fresh_coherent : Coherent (fresh n b t) (blank b)
  fresh_coherent =
      record {
        rows = length-replicate b zeros ∙ sym (length-replicate b (fresh_block n t));
        has = everywhere (CellHas (blank b)) (MessageHas (blank b)) (λ k l. let e = get_or-replicate b k zeros [] l in ((λ v. sym e), (λ v. sym e)));
        home = everywhere (CleanCell Home) (CleanMessage Home) (λ k l. ((λ v. home k l), (λ v. home k l)));
        not_dirty =
            all_anywhere (λ y. NotDirty (get_or y.cells 0 no_cell).owner) (replicate b (fresh_block n t)) (all_replicate _ b (fresh_block n t) tt) no_block tt;
      }
    where
      Home : ℕ → Type 0
      Home = HomeHas (blank b) (fresh n b t)

      home : (k : ℕ) → k < b → Home k
      home k l = ap (λ (y : Block). (get_or y.cells 0 no_cell).words) (fresh_block_lem k (rw length-replicate l)) ∙ sym (get_or-replicate b k zeros [] l)

  pub fresh_fits : Fits (fresh n b t)
  fresh_fits = everywhere CellFits MessageFits (λ k l. (small, small))
    where
      small : Fit zeros
      small = all_replicate (λ (w : ℕ). w < 2 ^ 32) 8 0 (omega arith)

  module _ (fits : sizes n b t ≡ true) where
    -- a rack has a board, and so a token
    some_tokens : 1 ≤ t
    some_tokens = omega (arith, leb-true 1 n (search (and_l, and_r)), leb-true n t (search (and_l, and_r)))

    fresh_shape : SoundShape n (fresh_block n t)
    fresh_shape =
        record {
          width = ap suc (length-replicate n no_cell);
          cells = (
            record { eight = refl; token = λ v. omega arith; current = λ o. refl },
            all_replicate SoundCell n no_cell (record { eight = refl; token = λ v. differs (sym v); current = λ o. o }),
          );
          claims = none_sound;
        }

    pub fresh_sound : Sound (fresh n b t)
    fresh_sound =
        record {
          size = rw length-replicate fits;
          few = omega arith;
          messages = tt;
          blocks = λ k l.
              record {
                shape = subst (SoundShape n) (sym (fresh_block_lem k l)) fresh_shape;
                tokens = whole held carried refl k l ∙ omega (arith, some_tokens);
                owners = whole cell_owners message_owners refl k l;
              };
        }

    pub opened_sound : sound (fresh n b t) ≡ true
    opened_sound = sound_test (fresh n b t) fresh_sound
