-- `record_open::open_block` meets its contract: all figures and words become 0, then home gets its tokens.
use Prim.Native.Nat.{ℕ, ◌+◌, ◌*◌, ◌-◌, ◌≤◌}
use native.Mathlib.Omega.{arith}
use mathlib.Core.Path.{◌≡◌, refl, sym, ap, ◌∙◌}
use mathlib.Core.List.{List, ◌++◌}
use lib.ListN.{length, set, take, drop}
use lib.Seq.{length-take-le}
use borrow.Author.Rules.{rules}
use Rattle.spec_rack.specs.RecordLayout.{claims_offset, claims_size, lanes_size, owner_offset, valid_offset, words_offset, words_size}
use Rattle.spec_rack.proofs.OpeningLaws.{in_range_lem}
use Rattle.record_open.proofs.FreshBytes.{clear, clear_keeps, part_filled, empty_is, fresh_is}
use Rattle.record_open.proofs.open_block.Goals as goal

-- The bytes stand first, so that a part cleared too far is refused there.
pub returns : goal.returns
returns c =
    let n : ℕ = c.args.sizes.boards in
    let s : List ℕ = c.args.bytes.now in
    let few : n ≤ 15 = (in_range_lem _ _ _ c.args.sizes.in_range).1 in
    let t₁ : List ℕ = c.fill.new.self ++ drop lanes_size s in
    let e₁ : t₁ ≡ clear 0 lanes_size s = part_filled 0 lanes_size _ s c.fill.new.self refl (omega arith) (c.fill.ensures.after (λ y e. e)) in
    let l₁ : length t₁ ≡ length s = ap length e₁ ∙ clear_keeps 0 lanes_size s (omega arith) in
    let t₂ : List ℕ = take claims_offset t₁ ++ (c.fill-2.new.self ++ drop claims_size (drop claims_offset t₁)) in
    let e₂ : t₂ ≡ clear claims_offset claims_size t₁ = part_filled claims_offset claims_size _ t₁ c.fill-2.new.self refl (omega arith) (c.fill-2.ensures.after (λ y e. e)) in
    let l₂ : length t₂ ≡ length s = ap length e₂ ∙ clear_keeps claims_offset claims_size t₁ (omega arith) ∙ l₁ in
    let e₃ = part_filled words_offset (words_size * (n + 1)) (words_offset + words_size * (c.from.result + 1) - words_offset) t₂ c.fill-3.new.self (omega (arith, c.from.ensures)) (omega arith) (c.fill-3.ensures.after (λ y e. e)) in
    ap (λ (r : List ℕ). set (set (set r 0 (c.args.sizes.tokens - 1)) owner_offset 1) valid_offset 1)
    (e₃ ∙ ap (clear words_offset (words_size * (n + 1))) (e₂ ∙ ap (clear claims_offset claims_size) e₁) ∙ sym (empty_is n few s c.requires))
    ∙ sym (fresh_is n few s c.requires (λ k. search rules) c.args.sizes.tokens (omega arith))

pub slice_bounds-fill-end-2 : goal.slice_bounds-fill-end-2
slice_bounds-fill-end-2 c = sym (length-take-le lanes_size c.args.bytes.now (omega arith))
