-- A store: its component holds every token, so no other cell of the block is valid and no message of it is in flight.
use mathlib.Core.Path.{◌≡◌, refl, sym, ap, ◌∙◌}
use mathlib.Core.Bool.{Bool, true, false, cond}
use mathlib.Core.List.{List, []}
use Prim.Native.Nat.{ℕ, ◌^◌, ◌≤◌, ◌<◌}
use native.Mathlib.Omega.{arith}
use lib.Dec.{eqb}
use lib.ListN.{length, get_or, set, length-set}
use lib.Seq.{get_or-set_same, get_or-set_other}
use Rattle.spec_base.specs.Folds.{toℕ, All}
use Rattle.spec_base.proofs.Tests.{differs}
use Rattle.spec_base.proofs.Folds.{all_at, all_of, all_map, all_set, sum_at, sum_two, sum_plus, sum_mono, at_set}
use Rattle.spec_rack.specs.declared.Owner.TheVariants.{Dirty}
use Rattle.spec_rack.specs.declared.Message.{Message}
use Rattle.spec_rack.specs.Rack.{Cell, Rack, present, clean, owners, no_cell, no_message, block_at, claims_at, cell_at, message_at, held, carried}
use Rattle.spec_rack.specs.Rules.{with_word, stored}
use Rattle.spec_rack.specs.FlatMemory.{Memory, store, accessed}
use Rattle.spec_rack.proofs.SoundnessFacts.{SoundCell, Sound}
use Rattle.spec_rack.proofs.OwnerMarks.{marks}
use Rattle.spec_rack.proofs.OwnerLaws.{NotDirty, clean_present, present_of}
use Rattle.spec_rack.proofs.BlockInvariant.{cell_owners, message_owners, in_flight_at, CellHas, MessageHas, HomeHas, CleanCell, CleanMessage, Coherent, CellFits, MessageFits, Fits, message_sound, cell_in, cell_sound, cell_is, cell_has, with_cell_sound, with_cell_everywhere, changed_everywhere, home_after}

module _ (r : Rack) (s : Sound r) (c b : ℕ) (in_n : c ≤ r.boards) (in_b : b < length r.blocks) (all : r.tokens ≤ held (cell_at r b c)) where
  -- no other cell of the block is valid
  pub alone : (j : ℕ) → j < length (block_at r b).cells → (j ≡ c → ⊥) → (cell_at r b j).valid ≡ true → ⊥
  alone j l ne v =
      omega (
        arith,
        (s.blocks b in_b).tokens,
        sum_two held (block_at r b).cells j c no_cell l (cell_in r s b c in_b in_n) ne,
        (all_at SoundCell (block_at r b).cells (s.blocks b in_b).shape.cells j no_cell l).token v,
      )

  -- no message of the block is in flight
  pub quiet : (i : ℕ) → i < length r.mesh → (message_at r i).header.block ≡ b → ⊥
  quiet i l e =
      omega (
        arith,
        (s.blocks b in_b).tokens,
        sum_at held (block_at r b).cells c no_cell (cell_in r s b c in_b in_n),
        rw e at (in_flight_at r carried i l),
        (message_sound r s i l).token,
      )

  -- who holds every token has the owner
  pub owner_here : present (cell_at r b c).owner ≡ true
  owner_here =
      present_of (cell_at r b c).owner
      (omega (
        arith,
        (s.blocks b in_b).tokens,
        (s.blocks b in_b).owners,
        sum_at (λ (x : Cell). x.plain) (block_at r b).cells c no_cell (cell_in r s b c in_b in_n),
        sum_plus (λ (x : Cell). x.plain) cell_owners (block_at r b).cells,
        sum_mono (λ m. cond (eqb m.header.block b) (message_owners m) 0) (λ m. cond (eqb m.header.block b) (carried m) 0)
            (λ m. fewer m (eqb m.header.block b)) r.mesh,
      ))
    where
      fewer : (m : Message) (t : Bool) → cond t (message_owners m) 0 ≤ cond t (carried m) 0
      fewer m true = omega arith
      fewer m false = omega arith

  module _ (w v : ℕ) where
    new : Cell
    new = with_word (cell_at r b c) w v

    new_dirty : new.owner ≡ Dirty
    unfolding new
    new_dirty = marks.stored_dirty (cell_at r b c) w v owner_here

    pub stored_sound : Sound (stored r c b w v)
    unfolding stored new
    stored_sound =
        let old = cell_sound r s b c in_b in_n in
        let before = ap toℕ owner_here in
        let after = ap owners new_dirty in
        with_cell_sound r s b c in_b in_n new r.mesh
        (record { eight = rw length-set old.eight; token = λ u. omega (arith, old.token u); current = λ u. old.current owner_here }) s.few s.messages
        (record { here = omega arith; there = λ j ne. refl }) (record { here = omega arith; there = λ j ne. refl })

    pub stored_fits : v < 2 ^ 32 → Fits r → Fits (stored r c b w v)
    unfolding stored new
    stored_fits small h =
        with_cell_everywhere r s b c in_b in_n new r.mesh CellFits MessageFits h
        (all_set (λ (q : ℕ). q < 2 ^ 32) (cell_at r b c).words w v (cell_is r s b c in_b in_n CellFits MessageFits h) small) h.mesh

    pub stored_coherent : (c ≡ 0 → ⊥) → (mem : Memory) → Coherent r mem → Coherent (stored r c b w v) (accessed mem (store b w v))
    unfolding stored new
    stored_coherent board mem coh =
        record {
          rows = simp length-set coh.rows;
          has =
              changed_everywhere r b (record { cells = set (block_at r b).cells c new; claims = claims_at r b }) r.mesh in_b
              (CellHas mem') (MessageHas mem') here
              (λ j l ne. all_map (CellHas mem j) (CellHas mem' j) (block_at r j).cells (coh.has.cells j l) (λ y f u. f u ∙ sym (other j ne)))
              (all_of (MessageHas mem') no_message r.mesh
              (λ i l d. all_at (MessageHas mem) r.mesh coh.has.mesh i no_message l d ∙ sym (other (message_at r i).header.block (quiet i l))));
          home =
              changed_everywhere r b (record { cells = set (block_at r b).cells c new; claims = claims_at r b }) r.mesh in_b
              (CleanCell H') (CleanMessage H') none_clean
              (λ j l ne. all_map (CleanCell (HomeHas mem r) j) (CleanCell H' j) (block_at r j).cells (coh.home.cells j l) (λ y f u. home_other j ne (f u)))
              (all_of (CleanMessage H') no_message r.mesh
              (λ i l u.
              home_other (message_at r i).header.block (quiet i l) (all_at (CleanMessage (HomeHas mem r)) r.mesh coh.home.mesh i no_message l u)));
          not_dirty = λ j. home_after r s b c in_b in_n new r.mesh j (λ y. NotDirty y.owner) (λ _ z. absurd (board (sym z))) (λ _. coh.not_dirty j);
        }
      where
        row : List ℕ
        row = set (get_or mem b []) w v

        mem' : Memory
        mem' = set mem b row

        other : (j : ℕ) → (j ≡ b → ⊥) → get_or mem' j [] ≡ get_or mem j []
        other j ne = get_or-set_other mem b j row [] ne

        here : All (CellHas mem' b) (set (block_at r b).cells c new)
        here =
            all_of (CellHas mem' b) no_cell (set (block_at r b).cells c new)
            (λ j l. at_set (CellHas mem' b) (block_at r b).cells c j new no_cell (cell_in r s b c in_b in_n)
            (λ e u. ap (λ (ws : List ℕ). set ws w v) (cell_has r s b c in_b in_n mem coh u)
            ∙ sym (get_or-set_same mem b row [] (omega (arith, coh.rows))))
            (λ ne u. absurd (alone j (rw length-set at l) ne u)))

        H' : ℕ → Type 0
        H' = HomeHas mem' (stored r c b w v)

        -- no cell of the block has a clean owner: this one's is dirty, and no other has an owner
        none_clean : All (CleanCell H' b) (set (block_at r b).cells c new)
        none_clean =
            all_of (CleanCell H' b) no_cell (set (block_at r b).cells c new)
            (λ j l. at_set (CleanCell H' b) (block_at r b).cells c j new no_cell (cell_in r s b c in_b in_n)
            (λ e u. differs (sym u ∙ ap clean new_dirty))
            (λ ne u. let k = rw length-set at l in
            absurd (alone j k ne
            ((all_at SoundCell (block_at r b).cells (s.blocks b in_b).shape.cells j no_cell k).current (clean_present (cell_at r b j).owner u)))))

        -- home's words of another block, and the memory's, stay
        home_other : (j : ℕ) → (j ≡ b → ⊥) → HomeHas mem r j → H' j
        home_other j ne had =
            home_after r s b c in_b in_n new r.mesh j (λ y. y.words ≡ get_or mem' j []) (λ e z. absurd (ne e)) (λ k. had ∙ sym (other j ne))
