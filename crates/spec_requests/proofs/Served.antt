-- Of the rack after a deliver only the target's cell of the message's block differs, and it has the tokens that the message carried; every other answer
-- is the one that document 01 gives, case by case.
use mathlib.Core.Path.{◌≡◌, refl, sym, ap, ◌∙◌, subst}
use mathlib.Core.Bool.{Bool, true, false}
use mathlib.Core.List.{List, [], ◌∷◌, map}
use Prim.Native.Nat.{ℕ, ◌≤◌, ◌<◌}
use borrow.Author.Tests.{leb-false}
use lib.ListN.{length}
use Rattle.spec_base.proofs.Tests.{differs}
use Rattle.spec_wire.specs.declared.Refusal.TheVariants.{NoMessage}
use Rattle.std.specs.Prelude.{Ok, Err}
use Rattle.spec_wire.specs.Answers.{Check, no_refusal}
use Rattle.spec_wire.specs.declared.Step.{Step}
use Rattle.spec_wire.specs.declared.Step.TheVariants.{Load, Store, Send, Deliver, Raise, Lower, Forward}
use Rattle.spec_wire.specs.Refusals.{when◌refuse◌else◌}
use Rattle.spec_wire.specs.Reader.{read_record}
use Rattle.spec_base.specs.Folds.{remove_at}
use Rattle.spec_rack.specs.declared.Answer.{Answer}
use Rattle.spec_rack.specs.declared.Answer.TheVariants.{Done, Word, Served}
use Rattle.spec_rack.specs.declared.Message.{Message}
use Rattle.spec_rack.specs.Rack.{Cell, Rack, cell_at, message_at, held}
use Rattle.spec_rack.specs.Rules.{with_tokens, delivered, past_mesh, accepted, settled, check, answer, after, rules, reply, reply_of}
use Rattle.spec_rack.specs.RecordLayout.{get}
use Rattle.spec_rack.specs.Soundness.{sound_bytes}
use Rattle.spec_rack.specs.Entries.{step_after}
use Rattle.spec_rack.specs.Opening.{open_check, open_reply}
use Rattle.spec_rack.specs.Effects.{AcceptedAs}
use Rattle.spec_rack.specs.Lists.{replies_of, ruled_after, rack_replies}
use Rattle.spec_requests.specs.Served.{Serves, Names, SaysWhom, ServedBy, EveryServed, answer_before, reply_before, without_served, AsBefore}
use Rattle.spec_rack.proofs.SoundnessFacts.{Sound, sound_facts}
use Rattle.spec_rack.proofs.BlockInvariant.{message_sound, cell_after, cell_changed}
use Rattle.spec_rack.proofs.TokenConservation.{delivered_held}
use Rattle.spec_rack.proofs.SoundRecord.{rack_sound}
use Rattle.spec_rack.proofs.Effects.{every_step}

-- ---- whom it served

module _ (r : Rack) (s : Sound r) (i : ℕ) (h : i < length r.mesh) where
  abbrev m : Message
  m = message_at r i

  abbrev at : ℕ
  at = (message_at r i).header.block

  abbrev to : ℕ
  to = (message_at r i).header.target

  abbrev x : Cell
  x = with_tokens (cell_at r at to) m

  in_b : (message_at r i).header.block < length r.blocks
  in_b = (message_sound r s i h).block

  in_n : (message_at r i).header.target ≤ r.boards
  in_n = (message_sound r s i h).target

  target_cell : cell_at (delivered r i) at to ≡ with_tokens (cell_at r at to) m
  unfolding delivered
  target_cell = cell_changed r s at to in_b in_n x (remove_at r.mesh i)

  other_cells : (j k : ℕ) → ((j ≡ at) × (k ≡ to) → ⊥) → cell_at (delivered r i) j k ≡ cell_at r j k
  unfolding delivered
  other_cells j k ne = cell_after r s at to in_b in_n x (remove_at r.mesh i) j k (λ y. y ≡ cell_at r j k) (λ e f. absurd (ne (e, f))) (λ _. refl)

  serves : Serves r i (message_at r i).header.target (message_at r i).header.block (delivered r i)
  serves = record { gains = ap held target_cell ∙ delivered_held r s i h; some = (message_sound r s i h).token; others = other_cells }

whom : (r : Rack) → Sound r → (i : ℕ) (a : Answer) (r' : Rack) → rules r (Deliver i) ≡ accepted a r' → Names r i a r'
unfolding rules check answer after when◌refuse◌else◌
whom r s i a r' = go (past_mesh r i) refl
  where
    go : (t : Bool) → past_mesh r i ≡ t
        → settled (when t refuse NoMessage else no_refusal) (Served (message_at r i).header.target (message_at r i).header.block) (delivered r i) ≡ accepted a r'
        → Names r i a r'
    go true e q = let none : true ≡ false = cc in differs none
    go false e q =
        let left : delivered r i ≡ r' = cc in
        record {
          component = (message_at r i).header.target;
          block = (message_at r i).header.block;
          named = cc;
          serves =
              subst (Serves r i (message_at r i).header.target (message_at r i).header.block) left
              (serves r s i (leb-false (length r.mesh) i e));
        }

pub says_whom : SaysWhom
says_whom r i a r' h = whom r (sound_facts r h) i a r'

-- an answer names one component and one block
named_one : (r : Rack) (i c b : ℕ) (r' : Rack) → Names r i (Served c b) r' → Serves r i c b r'
named_one r i c b r' names =
    let same : Served c b ≡ Served names.component names.block = names.named in
    let component : names.component ≡ c = cc in
    let block : names.block ≡ b = cc in
    subst (λ (v : ℕ × ℕ). Serves r i v.0 v.1 r') (λ j. (component j, block j)) names.serves

-- ---- of the bytes of a step

abbrev is_served : Answer → Bool
is_served Done = false
is_served (Word w) = false
is_served (Served c b) = true

module _ (s bytes : List ℕ) (c b : ℕ) where
  the_answer : {a : Answer} (k : Check) (r : Rack) {r' : Rack} → settled k a r ≡ accepted (Served c b) r' → a ≡ Served c b
  the_answer (Ok _) r q = cc
  the_answer (Err n) r q = cc

  not_served : {X : Type 0} {a : Answer} → a ≡ Served c b → is_served a ≡ false → X
  not_served said other = differs (sym (ap is_served said) ∙ other)

  -- only a deliver says whom it served
  by_step : (t : Step) → read_record bytes ≡ Ok t → sound_bytes s ≡ true → rules (get s) t ≡ accepted (Served c b) (get (step_after s bytes))
      → answer (get s) t ≡ Served c b → ServedBy s bytes c b
  unfolding answer
  by_step (Deliver i) e h q said = record { position = i; read = e; serves = named_one (get s) i c b _ (whom (get s) (rack_sound s h) i (Served c b) (get (step_after s bytes)) q) }
  by_step (Load f g w) e h q said = not_served said refl
  by_step (Store f g w v) e h q said = not_served said refl
  by_step (Send f g t p o d) e h q said = not_served said refl
  by_step (Raise f g) e h q said = not_served said refl
  by_step (Lower f g) e h q said = not_served said refl
  by_step (Forward f g) e h q said = not_served said refl

  by_rules : AcceptedAs s bytes (Served c b) → ServedBy s bytes c b
  unfolding rules
  by_rules made = by_step made.step made.read made.sound made.ruled (the_answer (check (get s) made.step) (after (get s) made.step) made.ruled)

pub every_served : EveryServed
every_served s bytes c b h told = by_rules s bytes c b ((every_step s bytes h).if_accepted (Served c b) told)

-- ---- all else is as it was

without_served_lem : (k : Check) (a a' : Answer) (r : Rack) → without_served (Ok a) ≡ Ok a' → without_served (reply (settled k a r)) ≡ reply (settled k a' r)
without_served_lem (Ok _) a a' r e = e
without_served_lem (Err n) a a' r e = refl

answer_before_lem : (r : Rack) (s : Step) → without_served (Ok (answer r s)) ≡ Ok (answer_before r s)
unfolding answer
answer_before_lem r (Load c b w) = refl
answer_before_lem r (Store c b w v) = refl
answer_before_lem r (Send c b t p o d) = refl
answer_before_lem r (Deliver i) = refl
answer_before_lem r (Raise c b) = refl
answer_before_lem r (Lower c b) = refl
answer_before_lem r (Forward c b) = refl

same_answer : (r : Rack) (s : Step) → ((i : ℕ) → s ≡ Deliver i → ⊥) → answer r s ≡ answer_before r s
unfolding answer
same_answer r (Load c b w) other = refl
same_answer r (Store c b w v) other = refl
same_answer r (Send c b t p o d) other = refl
same_answer r (Deliver i) other = absurd (other i refl)
same_answer r (Raise c b) other = refl
same_answer r (Lower c b) other = refl
same_answer r (Forward c b) other = refl

step_before : (r : Rack) (s : Step) → without_served (reply (rules r s)) ≡ reply_before r s
unfolding rules
step_before r s = without_served_lem (check r s) (answer r s) (answer_before r s) (after r s) (answer_before_lem r s)

other_before : (r : Rack) (s : Step) → ((i : ℕ) → s ≡ Deliver i → ⊥) → reply (rules r s) ≡ reply_before r s
unfolding rules
other_before r s other = ap (λ (a : Answer). reply (settled (check r s) a (after r s))) (same_answer r s other)

list_before : (r : Rack) (ss : List Step) → map without_served (rack_replies r ss) ≡ replies_of ruled_after reply_before r ss
unfolding replies_of
list_before r [] = refl
list_before r (s ∷ ss) = λ j. step_before r s j ∷ list_before (ruled_after r s) ss j

opening_before : (n b t : ℕ) (s : List ℕ) (a : Answer) → open_reply n b t s ≡ Ok a → a ≡ Done
unfolding open_reply
opening_before n b t s a = by (open_check n b t (length s))
  where
    by : (k : Check) → reply_of k ≡ Ok a → a ≡ Done
    by (Ok _) e = cc
    by (Err m) e = cc

pub as_before : AsBefore
as_before = record { step = step_before; other_step = other_before; list = list_before; opening = opening_before }
