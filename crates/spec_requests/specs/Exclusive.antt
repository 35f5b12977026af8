-- Document 02, No. 4: the letter E. The definition is `letter_of` in Letter.antt; here is where E and M are shown, what a board has that shows E, and that O,
-- S, I and the refusals are given where they were before.
use Rattle.std.specs.Prelude.{ℕ, ◌≤◌, ◌<◌, ◌≡◌, Bool, true, false, cond, List, [], length, get_or, eqb, Ok, Err}
use Rattle.spec_base.specs.Number.{Bytes}
use Rattle.spec_wire.specs.declared.Refusal.{Refusal}
use Rattle.spec_wire.specs.declared.Refusal.TheVariants.{Unsound}
use Rattle.spec_rack.specs.Replies.{Lettered}
use Rattle.spec_wire.specs.Answers.{no_refusal}
use Rattle.spec_wire.specs.declared.Step.{Step}
use Rattle.spec_wire.specs.declared.Step.TheVariants.{Store, Send}
use Rattle.spec_arbiter.specs.Claims.{unclaimed}
use Rattle.spec_rack.specs.declared.Owner.TheVariants.{Clean, Dirty}
use Rattle.spec_rack.specs.declared.Answer.{Answer}
use Rattle.spec_rack.specs.declared.Answer.TheVariants.{Done}
use Rattle.spec_rack.specs.declared.Letter.{Letter}
use Rattle.spec_rack.specs.declared.Letter.TheVariants.{M, O, E, S, I}
use Rattle.spec_rack.specs.Rack.{Cell, Rack, present, claims_at, cell_at, message_at, held}
use Rattle.spec_rack.specs.Soundness.{sound, sound_bytes}
use Rattle.spec_rack.specs.Rules.{accepted, opening, mesh_full}
use Rattle.spec_rack.specs.FlatMemory.{Memory, blank, memory_after}
use Rattle.spec_rack.specs.RecordLayout.{get}
use Rattle.spec_rack.specs.Letter.{letter_check, letter_of, lettered, letter, letter_reply}
use Rattle.spec_rack.specs.Opening.{open_reply, open_after}
use Rattle.spec_rack.specs.Lists.{ruled_reply, ruled_after, run, rack_accesses, after, accesses}

-- board c shows letter l for block b
abbrev pub Shows : Rack → ℕ → ℕ → Letter → Type 0
Shows r c b l = letter r c b ≡ Ok l

-- ---- where E and M are shown

pub record WhereShown : Type 0 where
  -- of a board and a block of the rack that no check refuses, where the board has all tokens: by the owner's mark
  pub clean : (r : Rack) (c b : ℕ) → letter_check r c b ≡ no_refusal → held (cell_at r b c) ≡ r.tokens → (cell_at r b c).owner ≡ Clean → Shows r c b E
  pub dirty : (r : Rack) (c b : ℕ) → letter_check r c b ≡ no_refusal → held (cell_at r b c) ≡ r.tokens → (cell_at r b c).owner ≡ Dirty → Shows r c b M
  -- and nowhere else. On a sound rack a board with all tokens has the owner, so there is no third case.
  pub only_clean : (r : Rack) (c b : ℕ) → Shows r c b E → (held (cell_at r b c) ≡ r.tokens) × ((cell_at r b c).owner ≡ Clean)
  pub only_dirty : (r : Rack) (c b : ℕ) → sound r ≡ true → Shows r c b M → (held (cell_at r b c) ≡ r.tokens) × ((cell_at r b c).owner ≡ Dirty)

-- ---- stores

-- the letters with which a board may store
abbrev pub may_store : Letter → Bool
may_store M = true
may_store O = false
may_store E = true
may_store S = false
may_store I = false

-- board c shows one of them for block b
pub record CanStore (r : Rack) (c b : ℕ) : Type 0 where
  pub shown : Letter
  pub shows : Shows r c b shown
  pub may : may_store shown ≡ true

pub record Stores : Type 0 where
  -- a store by such a board is accepted; on a sound rack no other is; and then the board shows M
  pub accepts : (r : Rack) (c b w v : ℕ) → w < 8 → CanStore r c b → ruled_reply r (Store c b w v) ≡ Ok Done
  pub only : (r : Rack) (c b w v : ℕ) (a : Answer) → sound r ≡ true → ruled_reply r (Store c b w v) ≡ Ok a → CanStore r c b
  pub then_M : (r : Rack) (c b w v : ℕ) (a : Answer) → sound r ≡ true → ruled_reply r (Store c b w v) ≡ Ok a
      → Shows (ruled_after r (Store c b w v)) c b M

-- ---- what E says: the board has the only copy, and home has the same words

-- board c is the only one with valid data of block b
pub record OnlyCopy (r : Rack) (c b : ℕ) : Type 0 where
  pub valid : (cell_at r b c).valid ≡ true
  pub alone : (j : ℕ) → (j ≡ c → ⊥) → (cell_at r b j).valid ≡ false
  pub none_in_flight : (i : ℕ) → i < length r.mesh → (message_at r i).header.block ≡ b → ⊥

-- on every sound rack, of E and of M
abbrev pub HasOnlyCopy : Type 0
HasOnlyCopy = (r : Rack) (c b : ℕ) → sound r ≡ true → CanStore r c b → OnlyCopy r c b

-- its words are those of the flat memory mem, and so are home's
pub record Exclusive (r : Rack) (mem : Memory) (c b : ℕ) : Type 0 where
  pub only : OnlyCopy r c b
  pub words : (cell_at r b c).words ≡ get_or mem b []
  pub home : (cell_at r b 0).words ≡ get_or mem b []

-- So it is wherever E is shown after a list of steps from an opening, the flat memory handed the accepted loads and stores of the list. A sound record that
-- no opening led to may show E and have other words at home.
abbrev pub MeansExclusive : Type 0
MeansExclusive =
    (n b t : ℕ) (r : Rack) (steps : List Step) (c k : ℕ) → opening n b t ≡ accepted Done r → Shows (run r steps) c k E
    → Exclusive (run r steps) (memory_after (blank b) (rack_accesses r steps)) c k

-- The same of every list of byte strings, of the record that it leaves.
abbrev pub MeansExclusiveBytes : Type 0
MeansExclusiveBytes =
    (n b t : ℕ) (s : List ℕ) (steps : List (List ℕ)) (c k : ℕ) → Bytes s → open_reply n b t s ≡ Ok Done
    → letter_reply (after (open_after n b t s) steps) c k ≡ Ok E
    → Exclusive (get (after (open_after n b t s) steps)) (memory_after (blank b) (accesses (open_after n b t s) steps)) c k

-- A board that shows E may send the owner home without data, with any of its plain tokens (No. 2): accepted, unless the block is claimed or the mesh full.
abbrev pub GoesHomeBare : Type 0
GoesHomeBare =
    (r : Rack) (c b p : ℕ) → sound r ≡ true → Shows r c b E → p ≤ (cell_at r b c).plain → unclaimed (claims_at r b) ≡ true → mesh_full r ≡ false
    → ruled_reply r (Send c b 0 p true false) ≡ Ok Done

-- ---- what stays. "Before" is document 01's letter; No. 4 moves no check and nothing of soundness, so these are today's.

abbrev pub letter_of_before : ℕ → Cell → Letter
letter_of_before t x = cond (eqb (held x) t) M (cond (present x.owner) O (cond x.valid S I))

abbrev pub letter_before : Rack → ℕ → ℕ → Lettered
letter_before r c b = lettered (letter_check r c b) (letter_of_before r.tokens (cell_at r b c))

abbrev pub letter_reply_before : List ℕ → ℕ → ℕ → Lettered
letter_reply_before s c b = cond (sound_bytes s) (letter_before (get s) c b) (Err Unsound)

-- what a reader sees who takes E for the M that it was
abbrev pub without_e : Letter → Letter
without_e M = M
without_e O = O
without_e E = M
without_e S = S
without_e I = I

abbrev pub reply_without_e : Lettered → Lettered
reply_without_e (Ok l) = Ok (without_e l)
reply_without_e (Err n) = Err n

pub record AsBefore : Type 0 where
  -- for that reader nothing has changed: of every cell, on every rack, and in every buffer
  pub cell : (t : ℕ) (x : Cell) → without_e (letter_of t x) ≡ letter_of_before t x
  pub rack : (r : Rack) (c b : ℕ) → reply_without_e (letter r c b) ≡ letter_before r c b
  pub bytes : (s : List ℕ) (c b : ℕ) → reply_without_e (letter_reply s c b) ≡ letter_reply_before s c b
  -- O, S and I are shown where they were, and nowhere else
  pub still : (s : List ℕ) (c b : ℕ) (l : Letter) → (l ≡ M → ⊥) → letter_reply_before s c b ≡ Ok l → letter_reply s c b ≡ Ok l
  pub only : (s : List ℕ) (c b : ℕ) (l : Letter) → (l ≡ M → ⊥) → (l ≡ E → ⊥) → letter_reply s c b ≡ Ok l → letter_reply_before s c b ≡ Ok l
  -- M and E only where M was
  pub M-was-M : (s : List ℕ) (c b : ℕ) → letter_reply s c b ≡ Ok M → letter_reply_before s c b ≡ Ok M
  pub E-was-M : (s : List ℕ) (c b : ℕ) → letter_reply s c b ≡ Ok E → letter_reply_before s c b ≡ Ok M
  -- and a letter is refused where it was, with the same number
  pub refused : (s : List ℕ) (c b : ℕ) (n : Refusal) → letter_reply s c b ≡ Err n → letter_reply_before s c b ≡ Err n
  pub still_refused : (s : List ℕ) (c b : ℕ) (n : Refusal) → letter_reply_before s c b ≡ Err n → letter_reply s c b ≡ Err n
