-- Laws of fields: when one stands at the front of bytes, when several fill them.
use mathlib.Core.Path.{◌≡◌}
use Prim.Native.Nat.{ℕ, ◌≤◌, ◌<◌}
use mathlib.Core.Bool.{true}
use mathlib.Core.List.{List, ◌∷◌}
use lib.ListN.{length, get_or, take, drop}
use borrow.Author.Tests.{ltb-true, leb-true, eqb-true, le-leb, eq-eqb}
use Rattle.spec_base.proofs.Tests.{and_l, and_r}
use Rattle.spec_base.specs.Number.{number}
use Rattle.spec_wire.specs.declared.Field.{Field}
use Rattle.spec_wire.specs.StepRecord.{field_size}
use Rattle.spec_wire.specs.Reader.{has_header, value_at, field_parses, body_parses}

-- what `headed` tests
pub record Headed (f : Field) (bs : List ℕ) : Type 0 where
  pub long : field_size f ≤ length bs
  pub tag : get_or bs 0 0 ≡ f.tag
  pub width : number (take 2 (drop 1 bs)) ≡ f.width

pub headed_true : (f : Field) (bs : List ℕ) → Headed f bs → has_header f bs ≡ true
unfolding has_header
headed_true f bs h = simp (le-leb (field_size f) (length bs) h.long, eq-eqb (get_or bs 0 0) f.tag h.tag, eq-eqb _ _ h.width)

pub true_headed : (f : Field) (bs : List ℕ) → has_header f bs ≡ true → Headed f bs
unfolding has_header
true_headed f bs e =
    search (leb-true, eqb-true, and_l, and_r) depth 8

-- fields that fill bytes: the first stands, and the others fill the rest
pub record Filled (f : Field) (fs : List Field) (bs : List ℕ) : Type 0 where
  pub head : Headed f bs
  pub value : value_at f bs < f.limit
  pub rest : body_parses fs (drop (field_size f) bs) ≡ true

pub filled : (f : Field) (fs : List Field) (bs : List ℕ) → body_parses (f ∷ fs) bs ≡ true → Filled f fs bs
filled f fs bs e =
    let stood : field_parses f bs ≡ true = and_l _ _ e in
    record {
      head = true_headed f bs (and_l (has_header f bs) _ stood);
      value = ltb-true _ _ (and_r (has_header f bs) _ stood);
      rest = and_r (field_parses f bs) _ e;
    }
