-- `record_mesh::copy_words` meets its contract: the bytes that are copied are the words that the rack then has.
use native.Mathlib.Omega.{arith}
use Prim.Native.Nat.{ℕ, ◌+◌, ◌-◌, ◌≤◌}
use mathlib.Core.Path.{◌≡◌, sym, ap, ◌∙◌, subst}
use mathlib.Core.List.{◌++◌}
use lib.ListN.{length, take, drop}
use lib.Seq.{length-take-le}
use borrow.Author.Rules.{rules}
use Rattle.spec_base.specs.Number.{Bytes}
use Rattle.spec_base.proofs.Parts.{length_part}
use Rattle.spec_rack.specs.RecordLayout.{message_words_offset, words_size}
use Rattle.spec_rack.specs.WordCopy.{WordsCopied}
use Rattle.record_mesh.proofs.ByteCopies.{copied, copied_behind}
use Rattle.record_mesh.proofs.WordCopies.{room_to, room_from, copied_rack, copied_words}
use Rattle.record_mesh.proofs.copy_words.Goals as goal

pub returns : goal.returns
returns c =
    let bytes : Bytes c.args.rec.now = λ k. search rules in
    let from : ℕ = c.message_offset-from.result + message_words_offset in
    let to : ℕ = c.words_offset-to.result in
    let size : from + words_size - from ≡ words_size = omega arith in
    let apart : from + words_size ≤ to = omega (arith, room_from _ _ _ _ c.requires) in
    let is =
    (λ i. c.split_at_mut-mesh.ensures.front i ++ (
    (c.copy_from_slice.ensures.after ∙ (λ j. take (size j) (drop from (c.split_at_mut-mesh.ensures.front j)))) i
    ++ drop words_size (c.split_at_mut-mesh.ensures.back i)
    ))
    ∙ copied_behind c.args.rec.now from to words_size apart
    ∙ (λ j. copied c.args.rec.now (c.message_offset-from.ensures j + message_words_offset) (c.words_offset-to.ensures j) words_size) in
    record {
      bytes = is;
      words = subst (WordsCopied c.args.rec.now c.args.position c.args.block c.args.component) (sym is) (copied_words c.args.rec.now bytes c.args.position c.args.block c.args.component c.requires);
      rack = is ∙ copied_rack c.args.rec.now bytes c.args.position c.args.block c.args.component c.requires;
    }

pub split_at_mut-mesh-requires : goal.split_at_mut-mesh-requires
split_at_mut-mesh-requires c = omega (arith, room_to _ _ _ _ c.requires)

pub slice_bounds-copy_from_slice-end-2 : goal.slice_bounds-copy_from_slice-end-2
slice_bounds-copy_from_slice-end-2 c = sym
    (length-take-le words_size c.split_at_mut-mesh.result.1.now
    (omega (arith, c.split_at_mut-mesh.ensures.back_len, room_to _ _ _ _ c.requires)))

pub copy_from_slice-requires : goal.copy_from_slice-requires
copy_from_slice-requires c =
    let from : ℕ = c.message_offset-from.result + message_words_offset in
    let size : from + words_size - from ≡ words_size = omega arith in
    length-take-le words_size c.split_at_mut-mesh.result.1.now
    (omega (arith, c.split_at_mut-mesh.ensures.back_len, room_to _ _ _ _ c.requires))
    ∙ sym
    (ap (λ (n : ℕ). length (take n (drop from c.split_at_mut-mesh.result.0.now))) size
    ∙ length_part from words_size c.split_at_mut-mesh.result.0.now
    (omega (arith, c.split_at_mut-mesh.ensures.front_len, room_from _ _ _ _ c.requires)))
