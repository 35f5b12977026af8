-- Document 01, "The rack": that the record is read and written by one layout (RecordLayout.antt). This is what "the rack that a record holds" means; proved, so
-- it adds nothing to believe.
use Rattle.std.specs.Prelude.{ℕ, ◌^◌, ◌≤◌, ◌≡◌, Bool, true, ◌&&◌, List, length, ltb}
use Rattle.spec_base.specs.Folds.{all}
use Rattle.spec_base.specs.Number.{Bytes}
use Rattle.spec_rack.specs.Rack.{Rack}
use Rattle.spec_rack.specs.Soundness.{sound, sound_bytes}
use Rattle.spec_rack.specs.RecordLayout.{record_length, get, put}
use Rattle.spec_rack.specs.Effects.{Behind}

-- every word, in components and messages, is below 2 ^ 32
abbrev pub fitting : List ℕ → Bool
fitting ws = all (λ w. ltb w (2 ^ 32)) ws

abbrev pub words_fit : Rack → Bool
words_fit r = all (λ k. all (λ x. fitting x.words) k.cells) r.blocks && all (λ m. fitting m.words) r.mesh

-- a rack written over the front of a buffer is read back, the record is sound, and nothing behind it changes
pub record Written (r : Rack) (s : List ℕ) : Type 0 where
  pub back : get (put r s) ≡ r
  pub sound : sound_bytes (put r s) ≡ true
  pub rest : Behind (length r.blocks) s (put r s)

pub record RecordTrips : Type 0 where
  -- so it is of every sound rack whose words fit, in every buffer that is long enough
  pub written : (r : Rack) (s : List ℕ) → sound r ≡ true → words_fit r ≡ true → Bytes s → record_length (length r.blocks) ≤ length s → Written r s
  -- A buffer holds a sound record exactly where it is long enough for some sound rack whose words fit, and that rack, written over it, changes no byte. The
  -- rack that is read is such a rack:
  pub read : (s : List ℕ) → Bytes s → sound_bytes s ≡ true → (sound (get s) ≡ true) × (words_fit (get s) ≡ true)
  pub unchanged : (s : List ℕ) → Bytes s → sound_bytes s ≡ true → put (get s) s ≡ s
  -- and where there is one, the record is sound and is read as that rack
  pub only : (r : Rack) (s : List ℕ) → sound r ≡ true → words_fit r ≡ true → Bytes s → record_length (length r.blocks) ≤ length s → put r s ≡ s
      → (sound_bytes s ≡ true) × (get s ≡ r)
