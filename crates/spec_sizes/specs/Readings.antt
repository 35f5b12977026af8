-- Sentences of the papers about sizes, held to by computation.
use Rattle.std.specs.Prelude.{◌≡◌, true, not, [], ◌∷◌, ℕ}
use Rattle.spec_base.specs.Folds.{all}
use Rattle.spec_sizes.specs.Sizes.{mesh_sizes, base_sizes, in_range}

-- document 02, No. 5: "16 or 64", and no other
pub record Limits : Type 0 where
  pub taken : all (λ l. in_range (mesh_sizes 2 1 3 l)) (16 ∷ 64 ∷ []) ≡ true
  pub refused : all (λ l. not (in_range (mesh_sizes 2 1 3 l))) (0 ∷ 1 ∷ 15 ∷ 17 ∷ 32 ∷ 63 ∷ 65 ∷ 128 ∷ 272 ∷ 4294967295 ∷ []) ≡ true
  pub smallest : all (λ l. in_range (mesh_sizes 1 1 1 l)) (16 ∷ 64 ∷ []) ≡ true
  pub largest : all (λ l. in_range (mesh_sizes 15 32 64 l)) (16 ∷ 64 ∷ []) ≡ true

-- "The old form means 64"
abbrev pub OldForm : Type 0
OldForm = (n b t : ℕ) → base_sizes n b t ≡ mesh_sizes n b t 64

-- N, B and T are asked for under either limit: T below N, and each one past its ends
abbrev pub OtherSizes : Type 0
OtherSizes =
    all (λ l.
    all not
    (in_range (mesh_sizes 0 1 3 l) ∷ in_range (mesh_sizes 16 1 64 l) ∷ in_range (mesh_sizes 2 0 3 l) ∷ in_range (mesh_sizes 2 33 3 l)
    ∷ in_range (mesh_sizes 2 1 1 l) ∷ in_range (mesh_sizes 2 1 65 l) ∷ [])) (16 ∷ 64 ∷ []) ≡ true
