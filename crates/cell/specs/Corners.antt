-- What is said of four heights, said of the heights at a face's corners.
use Rattle.std.specs.Prelude.{List, [], ◌∷◌, ℤ}
use Rattle.cell.specs.declared.crossing.Edge.{Edge}
use Rattle.cell.specs.declared.face.Face.{Face}
use Rattle.cell.specs.declared.level.Height.{Height}

abbrev pub at_corners {ℓ} : {X : Type ℓ} → (ℤ → ℤ → ℤ → ℤ → X) → Face → X
at_corners says face = says face.g00.value face.g10.value face.g01.value face.g11.value

-- the edges that P0, P1, P2 and P3 are on: along the second axis where the first coordinate is 0 and 1, along the first where the second is
abbrev pub edge : Height → Height → Edge
edge l h = record { low = l; high = h }

abbrev pub edges_of : Face → List Edge
edges_of f = edge f.g00 f.g01 ∷ edge f.g10 f.g11 ∷ edge f.g00 f.g10 ∷ edge f.g01 f.g11 ∷ []
