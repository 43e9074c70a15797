-- A pixel's vertices and the numbers in its pieces, by how its face is cut.
use Rattle.std.specs.Prelude.{ℕ, List, [], ◌∷◌}
use Rattle.cell.specs.declared.face.Cut.{Cut}
use Rattle.cell.specs.declared.face.Cut.TheVariants.{Uncut, Single, Rising, Falling, Star}
use Rattle.cell.specs.declared.face.FacePoint.{FacePoint}
use Rattle.cell.specs.declared.face.FacePoint.TheVariants.{P0, P1, P2, P3, C}

-- the points that are vertices, in order
abbrev pub points_in : Cut → List FacePoint
points_in Uncut = []
points_in (Single a b) = a ∷ b ∷ []
points_in Rising = P0 ∷ P1 ∷ P2 ∷ P3 ∷ []
points_in Falling = P0 ∷ P1 ∷ P2 ∷ P3 ∷ []
points_in Star = P0 ∷ P1 ∷ P2 ∷ P3 ∷ C ∷ []

-- the numbers of the ends of each segment among them
abbrev pub numbers_in : Cut → List (List ℕ)
numbers_in Uncut = []
numbers_in (Single a b) = (1 ∷ 2 ∷ []) ∷ []
numbers_in Rising = (1 ∷ 4 ∷ []) ∷ (2 ∷ 3 ∷ []) ∷ []
numbers_in Falling = (1 ∷ 3 ∷ []) ∷ (2 ∷ 4 ∷ []) ∷ []
numbers_in Star = (1 ∷ 5 ∷ []) ∷ (2 ∷ 5 ∷ []) ∷ (3 ∷ 5 ∷ []) ∷ (4 ∷ 5 ∷ []) ∷ []
