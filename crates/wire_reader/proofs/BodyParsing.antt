-- What a body reads as where several kinds have the same fields, and where its kind byte is no kind's: kind by kind.
use Prim.Native.Nat.{ℕ, ◌≤◌, ◌<◌}
use native.Mathlib.Omega.{arith}
use mathlib.Core.Path.{◌≡◌, refl, sym, ◌∙◌}
use mathlib.Core.Logic.{⊎_elim}
use mathlib.Core.List.{List, [], ◌∷◌}
use lib.ListN.{length, drop}
use Rattle.spec_base.proofs.Tests.{either}
use Rattle.spec_wire.specs.declared.Refusal.TheVariants.{Torn}
use Rattle.spec_wire.specs.Kinds.{component, block, no_field, no_kind, kind_of}
use Rattle.spec_wire.specs.StepRecord.{field_sizes}
use Rattle.spec_base.proofs.Lists.{each_at}
use Rattle.spec_wire.proofs.KindTable.{kind_none}
use Rattle.std.specs.Prelude.{Err}
use Rattle.spec_wire.specs.Reader.{body_parses, read_body}
use Rattle.spec_wire.proofs.BodyTrips.{no_field_lem, torn_body}
use Rattle.std.specs.Prelude.{Some}
use Rattle.std.specs.Option.{option_and_then}
use Rattle.wire_reader.specs.Parsing.{field_read, reading_of}
use Rattle.wire_reader.proofs.FieldParsing.{fields_read, kind_reads, not_filled}

-- the kinds 14 to 16 have a component and a block, which fill eight bytes and make the step
module _ (k : ℕ) (s : List ℕ) (l : 0x14 ≤ k) (h : k ≤ 0x16) where
  claim_size : field_sizes (kind_of k).fields ≡ 8
  unfolding kind_of
  claim_size = each_at (λ j. field_sizes (kind_of j).fields ≡ 8) 0x14 3 (((tt, refl), refl), refl) k l (omega arith)

  pub claim_length : (length s ≡ 8 → ⊥) → Err Torn ≡ read_body k s
  claim_length n = not_filled k s (λ e. n (e ∙ claim_size))

  pub claim_reads : length s ≡ 8
      → read_body k s ≡ reading_of (option_and_then (λ x. option_and_then (λ y. Some ((kind_of k).step (k ∷ x ∷ y ∷ []))) (field_read block (drop 4 s))) (field_read component (drop 0 s)))
  unfolding kind_of
  claim_reads n =
      kind_reads k s (n ∙ sym claim_size)
      ∙ each_at (λ j. reading_of (fields_read (kind_of j).step (kind_of j).fields 0 s (j ∷ 0 ∷ 0 ∷ 0 ∷ 0 ∷ 0 ∷ 0 ∷ 0 ∷ 0 ∷ 0 ∷ 0 ∷ 0 ∷ []))
      ≡ reading_of (option_and_then (λ x. option_and_then (λ y. Some ((kind_of j).step (j ∷ x ∷ y ∷ []))) (field_read block (drop 4 s))) (field_read component (drop 0 s))))
      0x14 3 (((tt, refl), refl), refl) k l (omega arith)

-- any other kind byte is no kind, and no bytes have its field
module _ (k : ℕ) (s : List ℕ) where
  no_kind_read : (0x10 ≤ k → k ≤ 0x16 → ⊥) → Err Torn ≡ read_body k s
  no_kind_read h = torn_body k s (rw none (⊎_elim (λ e. absurd (no_field_lem s e)) (λ e. e) (either (body_parses (no_field ∷ []) s))))
    where
      off : (n : ℕ) → 0x10 ≤ n → n ≤ 0x16 → k ≡ n → ⊥
      off n l m e = h (omega (arith, e)) (omega (arith, e))

      none : kind_of k ≡ no_kind
      none =
          kind_none k (
            off 0x10 (omega arith) (omega arith),
            (
              off 0x11 (omega arith) (omega arith),
              (
                off 0x12 (omega arith) (omega arith),
                (
                  off 0x13 (omega arith) (omega arith),
                  (off 0x14 (omega arith) (omega arith), (off 0x15 (omega arith) (omega arith), (off 0x16 (omega arith) (omega arith), tt))),
                ),
              ),
            ),
          )

  pub below_kinds : k < 0x10 → Err Torn ≡ read_body k s
  below_kinds h = no_kind_read (λ a b. omega arith)

  pub above_kinds : 0x16 < k → Err Torn ≡ read_body k s
  above_kinds h = no_kind_read (λ a b. omega arith)

pub ruleset claims = (claim_length, claim_reads)

pub ruleset no_kinds = (below_kinds, above_kinds)
