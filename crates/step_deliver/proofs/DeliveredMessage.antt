-- What the calls of a deliver leave together: the target's words with data, then its tokens, then the mesh without the message.
use mathlib.Core.Path.{◌≡◌, sym, ap, ◌∙◌, subst}
use mir.Val.{Fits}
use mir.Syntax.{w8}
use mathlib.Core.Bool.{Bool, true, false, cond}
use mathlib.Core.List.{List}
use Prim.Native.Nat.{ℕ, ◌+◌, ◌≤◌, ◌<◌}
use native.Mathlib.Omega.{arith}
use lib.ListN.{length, get_or}
use Rattle.spec_base.specs.Folds.{remove_at}
use Rattle.spec_base.proofs.Folds.{all_removed, length_removed}
use Rattle.spec_base.proofs.Tests.{cond_of}
use Rattle.spec_base.specs.Number.{Bytes}
use Rattle.std.specs.Prelude.{Ok}
use Rattle.spec_wire.specs.Answers.{no_refusal}
use Rattle.spec_wire.specs.declared.Step.TheVariants.{Deliver}
use Rattle.spec_rack.specs.declared.Owner.TheVariants.{Away}
use Rattle.spec_rack.specs.declared.MessageHeader.{MessageHeader}
use Rattle.spec_rack.specs.declared.Message.{Message}
use Rattle.spec_rack.specs.declared.Answer.TheVariants.{Served}
use Rattle.spec_rack.specs.Rack.{Cell, Rack, present, supplied, cell_at, message_at}
use Rattle.spec_rack.specs.Rules.{with_cell, with_tokens, delivered, check, answer, after}
use Rattle.spec_rack.specs.RecordLayout.{get, put, messages_in}
use Rattle.spec_rack.specs.Entries.{reply_to_step, buffer_after}
use Rattle.spec_rack.proofs.SoundnessFacts.{Sound}
use Rattle.spec_rack.proofs.BlockInvariant.{message_sound, cell_few, message_few, owner_in_flight}
use Rattle.spec_rack.proofs.LayoutParts.{WordsFit, CellFits, MessageFits}
use Rattle.spec_rack.proofs.GetPut.{boards_is, blocks_is, mesh_is}
use Rattle.spec_rack.proofs.SoundRecord.{rack_sound}
use Rattle.record.specs.declared.TokenState.{TokenState}
use Rattle.record.specs.Needs.{InLayout, CellInRecord, SoundRecord}
use Rattle.record.specs.Changes.{TokenStateOf, with_token_state, with_words, replace_cell, with_mesh}
use Rattle.record.proofs.Sequencing.{message_fits, cell_fits}
use Rattle.record.proofs.MeshBytes.{cell_of_state, fits, cell_read, cell_in_cell, cell_there, cell_cell, cell_mesh}
use Rattle.step_checks.proofs.CheckFacts.{deliver_passed}
use Rattle.step_checks.proofs.StepOutcome.{accepted_is, written_is}
use Rattle.step_deliver.specs.Filling.{CanFill}

-- ---- before anything is changed

pub in_mesh_lem : (s : List ℕ) (i : ℕ) → SoundRecord s × (check (get s) (Deliver i) ≡ no_refusal) → i < messages_in s
in_mesh_lem s i pre = deliver_passed s pre.0 i pre.1

pub can_fill : (s : List ℕ) (i : ℕ) (h : MessageHeader) → SoundRecord s × (check (get s) (Deliver i) ≡ no_refusal) → h ≡ (message_at (get s) i).header → CanFill s i h
can_fill s i h pre e =
    let known = message_sound (get s) (rack_sound s pre.0.sound) i (omega (arith, mesh_is s, in_mesh_lem s i pre)) in
    record {
      sound = pre.0;
      position = in_mesh_lem s i pre;
      header = e;
      target =
          record {
            whole = pre.0.whole;
            block = omega (arith, blocks_is s, known.block, ap (λ (k : MessageHeader). k.block) e);
            component = omega (arith, boards_is s, known.target, ap (λ (k : MessageHeader). k.target) e);
          };
      sender = omega (arith, boards_is s, known.sender, ap (λ (k : MessageHeader). k.sender) e);
    }

-- the reply is what the header says
pub served_is : (s : List ℕ) (i : ℕ) (h : MessageHeader) → SoundRecord s × (check (get s) (Deliver i) ≡ no_refusal) → h ≡ (message_at (get s) i).header
    → Ok (Served h.target h.block) ≡ reply_to_step s (Deliver i)
unfolding answer
served_is s i h pre e = accepted_is s (Deliver i) (sym pre.1) (ap (λ (k : MessageHeader). Served k.target k.block) e)

-- ---- the target

-- after the words: the target can be written, its words are those that the message leaves there, and a cell written there covers the copy
pub record AfterWords (s : List ℕ) (i : ℕ) (h : MessageHeader) (s₁ : List ℕ) : Type 0 where
  pub in_cell : CellInRecord s₁ h.block h.target
  pub cell : cell_at (get s₁) h.block h.target
      ≡ with_words (cell_at (get s) h.block h.target) (cond h.«data» (message_at (get s) i).words (cell_at (get s) h.block h.target).words)
  pub covered : (y : Cell) → CellFits y → (s₂ : List ℕ) → s₂ ≡ put (replace_cell (get s₁) h.block h.target y) s₁ → s₂ ≡ put (replace_cell (get s) h.block h.target y) s

module _ {s : List ℕ} {i : ℕ} {h : MessageHeader} (can : CanFill s i h) where
  abbrev m : Message
  m = message_at (get s) i

  abbrev x : Cell
  x = cell_at (get s) h.block h.target

  sound : Sound (get s)
  sound = rack_sound s can.sound.sound

  in_mesh : i < length (get s).mesh
  in_mesh = omega (arith, mesh_is s, can.position)

  in_b : h.block < length (get s).blocks
  in_b = omega (arith, blocks_is s, can.target.block)

  on_c : h.target ≤ (get s).boards
  on_c = omega (arith, boards_is s, can.target.component)

  -- two counts of a sound rack fit a byte together
  sum_fits : x.plain + m.header.plain < 256
  sum_fits = omega (arith, cell_few (get s) sound h.block h.target in_b on_c, message_few (get s) sound i in_mesh)

  module _ {s₁ : List ℕ} (after : AfterWords s i h s₁) {state : TokenState} (told : TokenStateOf (cell_at (get s₁) h.block h.target) state) where
    -- the tokens are still those of before
    told_before : TokenStateOf x state
    told_before =
        let same = subst (λ (y : Cell). TokenStateOf y state) after.cell told in
        record { plain = same.plain; owner = same.owner; valid = same.valid }

    pub few : state.plain + h.plain < 256
    few = omega (arith, sum_fits, told_before.plain, ap (λ (k : MessageHeader). k.plain) can.header)

    -- and the message is sound: its owner has data or may go bare
    pub current : present h.owner ≡ true → supplied h ≡ true
    current o =
        ap supplied can.header ∙ (message_sound (get s) sound i in_mesh).current (sym (ap (λ (k : MessageHeader). present k.owner) can.header) ∙ o)

    -- and the target has no owner where the message has it
    pub lone : present h.owner ≡ true → state.owner ≡ Away
    lone o =
        let at_block = ap (λ (k : MessageHeader). (cell_at (get s) k.block h.target).owner) can.header in
        told_before.owner ∙ at_block
        ∙ owner_in_flight (get s) sound i in_mesh (sym (ap (λ (k : MessageHeader). present k.owner) can.header) ∙ o) h.target on_c

  pub without_copy : h.«data» ≡ false → (s₁ : List ℕ) → s₁ ≡ s → AfterWords s i h s₁
  without_copy d s₁ is =
      subst (AfterWords s i h) (sym is)
      (record { in_cell = can.target; cell = ap (λ (t : Bool). with_words x (cond t m.words x.words)) (sym d); covered = λ y fy s₂ is'. is' })

  -- ---- of bytes

  module _ (known : (k : ℕ) → Fits w8 (get_or s k 0)) where
    bytes : Bytes s
    bytes = λ k. (known k).fits

    x_fits : CellFits x
    x_fits = cell_fits (get s) (fits s bytes can.sound) h.block in_b h.target on_c

    m_fits : MessageFits m
    m_fits = message_fits (get s) (fits s bytes can.sound) i in_mesh

    filled_fits : CellFits (with_tokens x m)
    filled_fits = ((sum_fits, (tt, tt)), cond_of WordsFit m.header.«data» m.words x.words m_fits.1 x_fits.1)

    pub after_copy : h.«data» ≡ true → (copied s₁ : List ℕ) → copied ≡ put (replace_cell (get s) h.block h.target (with_words x m.words)) s → s₁ ≡ copied → AfterWords s i h s₁
    after_copy d copied s₁ copies same =
        let is = same ∙ copies in
        let y : Cell = with_words x m.words in
        record {
          in_cell = cell_in_cell s bytes can.sound h.block h.target can.target y (x_fits.0, m_fits.1) s₁ is h.block h.target can.target;
          cell =
              cell_there s bytes can.sound h.block h.target can.target y (x_fits.0, m_fits.1) s₁ is
              ∙ ap (λ (t : Bool). with_words x (cond t m.words x.words)) (sym d);
          covered = cell_cell s bytes can.sound h.block h.target can.target y (x_fits.0, m_fits.1) s₁ is;
        }

    pub tokens_filled : {s₁ : List ℕ} → AfterWords s i h s₁ → {state sum : TokenState} → TokenStateOf (cell_at (get s₁) h.block h.target) state
        → ((y : Cell) (n : Message) → TokenStateOf y state → h ≡ n.header → TokenStateOf (with_tokens y n) sum)
        → (s₂ : List ℕ) → s₂ ≡ put (replace_cell (get s₁) h.block h.target (with_token_state (cell_at (get s₁) h.block h.target) sum)) s₁ → s₂ ≡ put (replace_cell (get s) h.block h.target (with_tokens x m)) s
    tokens_filled {s₁ = s₁} after {sum = sum} told adds s₂ is =
        after.covered (with_tokens x m) filled_fits s₂
        (is ∙ ap (λ (y : Cell). put (replace_cell (get s₁) h.block h.target y) s₁)
        (cell_of_state (with_tokens x m) (cell_at (get s₁) h.block h.target) sum (adds x m (told_before after told) can.header)
        (ap (λ (y : Cell). y.words) after.cell ∙ ap (λ (k : MessageHeader). cond k.«data» m.words x.words) can.header)))

    -- ---- the mesh

    module _ (s₁ : List ℕ) (is : s₁ ≡ put (replace_cell (get s) h.block h.target (with_tokens x m)) s) where
      -- it is as it was
      read₁ : get s₁ ≡ replace_cell (get s) h.block h.target (with_tokens x m)
      read₁ = cell_read s bytes can.sound h.block h.target can.target (with_tokens x m) filled_fits s₁ is

      pub can_remove : InLayout s₁ × (i < messages_in s₁)
      can_remove = (
        (cell_in_cell s bytes can.sound h.block h.target can.target (with_tokens x m) filled_fits s₁ is h.block h.target can.target).whole,
        omega (arith, in_mesh, mesh_is s₁, ap (λ (r : Rack). length r.mesh) read₁),
      )

      pub delivered_is : (s₂ : List ℕ) → s₂ ≡ put (with_mesh (get s₁) (remove_at (get s₁).mesh i)) s₁ → s₂ ≡ put (delivered (get s) i) s
      unfolding delivered
      delivered_is s₂ is' =
          cell_mesh s bytes can.sound h.block h.target can.target (with_tokens x m) filled_fits s₁ is (remove_at (get s).mesh i)
          (omega (arith, length_removed (get s).mesh i, mesh_is s, can.sound.whole.messages))
          (all_removed MessageFits (get s).mesh i (fits s bytes can.sound).mesh_fits_lem) s₂
          (is' ∙ ap (λ (k : Rack). put (with_mesh (get s₁) (remove_at k.mesh i)) s₁) read₁)
          ∙ ap (λ (k : MessageHeader). put (with_cell (get s) k.block k.target (with_tokens (cell_at (get s) k.block k.target) m) (remove_at (get s).mesh i)) s) can.header

-- ---- from the bytes at the start, by what each call left

module _ (s : List ℕ) (known : (k : ℕ) → Fits w8 (get_or s k 0)) (i : ℕ) (h : MessageHeader) (pre : SoundRecord s × (check (get s) (Deliver i) ≡ no_refusal)) (e : h ≡ (message_at (get s) i).header)
    (s₁ : List ℕ) (is : s₁ ≡ put (replace_cell (get s) h.block h.target (with_tokens (cell_at (get s) h.block h.target) (message_at (get s) i))) s) where
  -- the target is filled, and the message still in the mesh
  pub still_laid_out : InLayout s₁
  still_laid_out = (can_remove (can_fill s i h pre e) known s₁ is).0

  pub still_there : i < messages_in s₁
  still_there = (can_remove (can_fill s i h pre e) known s₁ is).1

  -- and once it is removed, the bytes are what the table's change leaves
  pub message_goes : (s₂ : List ℕ) → s₂ ≡ put (with_mesh (get s₁) (remove_at (get s₁).mesh i)) s₁ → s₂ ≡ buffer_after s (Deliver i)
  unfolding after
  message_goes s₂ is' = written_is s (Deliver i) s₂ pre.1 (delivered_is (can_fill s i h pre e) known s₁ is s₂ is')
