-- What bytes read as, by the first test of their frame that fails, or by their body.
use mathlib.Core.Path.{◌≡◌}
use mathlib.Core.List.{List}
use Prim.Native.Nat.{ℕ, ◌≤◌, ◌<◌, ◌-◌}
use lib.ListN.{length, get_or, take, drop}
use borrow.Author.Tests.{le-leb, lt-leb, eq-eqb, ne_eqb}
use Rattle.spec_base.specs.Layout.{slice, big}
use Rattle.spec_base.proofs.Lists.{rest_all}
use Rattle.spec_base.proofs.WordBytes.{big_read}
use Rattle.spec_wire.specs.declared.Refusal.TheVariants.{Torn}
use Rattle.std.specs.Prelude.{Err}
use Rattle.spec_wire.specs.Reader.{read_body, read_record}

module _ (bs : List ℕ) where
  pub short_record : length bs < 3 → Err Torn ≡ read_record bs
  unfolding read_record
  short_record h = simp (lt-leb 3 (length bs) h)

  module _ (h : 3 ≤ length bs) where
    pub unframed_record : ((big 2).read (slice 1 2 bs) ≡ length bs - 3 → ⊥) → Err Torn ≡ read_record bs
    unfolding read_record
    unframed_record k = simp (le-leb 3 (length bs) h, ← big_read 2 1 bs, ne_eqb _ (length bs - 3) k)

    pub framed_record : (big 2).read (slice 1 2 bs) ≡ length bs - 3 → read_record bs ≡ read_body (get_or bs 0 0) (take (length bs - 3) (drop 3 bs))
    unfolding read_record
    framed_record k = simp (le-leb 3 (length bs) h, ← big_read 2 1 bs, eq-eqb _ (length bs - 3) k, rest_all bs 3)

pub ruleset frames = (short_record, unframed_record, framed_record)
