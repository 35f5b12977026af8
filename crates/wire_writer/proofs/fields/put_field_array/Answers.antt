-- `wire_writer::fields::put_field_array` meets its contract: the numbers passed stand at the front.
use mathlib.Core.Path.{◌≡◌, sym, ap, ◌∙◌}
use Prim.Native.Nat.{ℕ, suc, ◌+◌, ◌<◌}
use native.Mathlib.Omega.{arith}
use native.Mathlib.Numerals.{add-one}
use mathlib.Core.List.{List, ◌++◌}
use lib.ListN.{length, get_or, take, drop, set}
use lib.Seq.{drop-cons, take-suc, set_at, append_snoc, length-take-le, take_all}
use Rattle.spec_base.specs.Placing.{place}
use Rattle.spec_wire.specs.declared.Step.{Step}
use Rattle.spec_wire.specs.Kinds.{field_array}
use Rattle.spec_wire.proofs.KindTable.{places_length}
use Rattle.wire_writer.proofs.fields.put_field_array.Goals as goal

-- a turn of the loop
turn : (from out₀ : List ℕ) (i : ℕ) → i < length from → i < length out₀ → set (take i from ++ drop i out₀) i (get_or from i 0) ≡ take (i + 1) from ++ drop (i + 1) out₀
turn from out₀ i h k =
    rw (add-one, drop-cons out₀ i 0 k, take-suc from i 0 h)
    (set_at (take i from) (get_or out₀ i 0) (drop (suc i) out₀) (get_or from i 0) i (length-take-le i from (omega arith))
    ∙ sym (append_snoc (take i from) (get_or from i 0) (drop (suc i) out₀)))

passed : (s : Step) (out₀ : List ℕ) (i : ℕ) → i ≡ 12 → take i (field_array s) ++ drop i out₀ ≡ place 0 (field_array s) out₀
unfolding place
passed s out₀ i e = rw (e, take_all 12 (field_array s) (omega (arith, places_length s)), places_length s)

pub loop-place-preserved : goal.loop-place-preserved
loop-place-preserved c =
    let i = c.loop-place.place in
    let long : length c.field_array.result ≡ 12 = ap length c.field_array.ensures ∙ places_length c.args.step in
    rw c.loop-place.invariant (turn c.field_array.result c.args.out.now i (omega (arith, long)) (omega arith))

pub returns : goal.returns
returns c = rw (c.loop-place.invariant, c.field_array.ensures) (passed c.args.step c.args.out.now _ (omega arith))
