-- Document 01, "The rack", and document 02, No. 5: the sizes that an opening names, and which are in range.
use Rattle.std.specs.Prelude.{ℕ, Bool, ◌&&◌, ◌||◌, eqb, leb}
use Rattle.spec_sizes.specs.declared.Sizes.{Sizes}

-- No. 5: an opening names N, B, T and the mesh limit
abbrev pub mesh_sizes : ℕ → ℕ → ℕ → ℕ → Sizes
mesh_sizes n b t l = record { boards = n; blocks = b; tokens = t; limit = l }

-- "The old form means 64"
abbrev pub base_sizes : ℕ → ℕ → ℕ → Sizes
base_sizes n b t = mesh_sizes n b t 64

-- No. 5: the mesh limit, 16 or 64
abbrev pub limits : ℕ → Bool
limits l = eqb l 16 || eqb l 64

-- N 1 to 15, B 1 to 32, T from N to 64, then the mesh limit
unfoldable pub in_range : Sizes → Bool
in_range z =
    leb 1 z.boards && leb z.boards 15
    && leb 1 z.blocks && leb z.blocks 32
    && leb z.boards z.tokens && leb z.tokens 64
    && limits z.limit
