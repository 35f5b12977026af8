-- Document 02, No. 2: what becomes of the owner's mark. Fresh owners are clean, a store makes the owner dirty, it becomes clean on delivery to home, and
-- otherwise it travels as it is.
use Rattle.std.specs.Prelude.{ℕ, ◌≡◌, Bool, true, false}
use Rattle.spec_rack.specs.declared.Owner.TheVariants.{Away, Dirty, Clean}
use Rattle.spec_rack.specs.declared.Message.{Message}
use Rattle.spec_rack.specs.Rack.{Cell, is_home, present, full_cell}
use Rattle.spec_rack.specs.Rules.{with_word, without_tokens, message, with_tokens}

pub record Marks : Type 0 where
  pub fresh_clean : (t : ℕ) → (full_cell t).owner ≡ Clean
  -- whatever the word and the value, also where the value is there already
  pub stored_dirty : (x : Cell) (w v : ℕ) → present x.owner ≡ true → (with_word x w v).owner ≡ Dirty
  -- a message has the sender's owner, with data or without, to home or to a board; then the sender has none
  pub sent : (x : Cell) (c b t p : ℕ) (d : Bool) → (message x c b t p true d).header.owner ≡ x.owner
  pub sent_away : (x : Cell) (p : ℕ) → (without_tokens x p true).owner ≡ Away
  -- a message of plain tokens has none, and the sender's stays as it is
  pub plain_sent : (x : Cell) (c b t p : ℕ) (d : Bool) → (message x c b t p false d).header.owner ≡ Away
  pub plain_kept : (x : Cell) (p : ℕ) → (without_tokens x p false).owner ≡ x.owner
  -- delivered to home it is clean, to a board it is as it was; plain tokens leave the target's
  pub home : (x : Cell) (m : Message) → is_home m.header.target ≡ true → present m.header.owner ≡ true → (with_tokens x m).owner ≡ Clean
  pub board : (x : Cell) (m : Message) → is_home m.header.target ≡ false → present m.header.owner ≡ true → (with_tokens x m).owner ≡ m.header.owner
  pub plain_delivered : (x : Cell) (m : Message) → m.header.owner ≡ Away → (with_tokens x m).owner ≡ x.owner
