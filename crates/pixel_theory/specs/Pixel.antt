-- What a pixel means: which positions are pixels, and how the level cuts them.
use Rattle.std.specs.Prelude.{◌+◌, Bool, ◌&&◌, List, [], ◌∷◌, ℤ, nat_lt}
use Rattle.block.specs.Block.{Block}
use Rattle.block.specs.declared.lattice.Point.{Point}
use Rattle.block.specs.declared.lattice.Sizes.{Sizes}
use Rattle.cell.specs.Corner.{corner_height}
use Rattle.cell.specs.Crossing.{along_edge}
use Rattle.cell.specs.Face.{centre_offsets}
use Rattle.cell.specs.Vertex.{on_edge, in_face}
use Rattle.cell.specs.declared.face.FacePoint.{FacePoint}
use Rattle.cell.specs.declared.face.FacePoint.TheVariants.{P0, P1, P2, P3, C}
use Rattle.cell.specs.declared.level.Level.{Level}
use Rattle.cell.specs.declared.vertex.Axis.TheVariants.{X, Y, Z}
use Rattle.cell.specs.declared.vertex.Vertex.{Vertex}

-- A pixel (x, y, z) lies in the plane z.
abbrev pub is_pixel : Sizes → Point → Bool
is_pixel n at = nat_lt (at.x + 1) n.x && nat_lt (at.y + 1) n.y && nat_lt at.z n.z

-- the next point along x, and along y
abbrev pub next_x : Point → Point
next_x p = record { x = p.x + 1; y = p.y; z = p.z }

abbrev pub next_y : Point → Point
next_y p = record { x = p.x; y = p.y + 1; z = p.z }

-- a pixel's corners in order: dx + 2 dy
abbrev pub pixel_corners : Point → List Point
pixel_corners at = at ∷ next_x at ∷ next_y at ∷ next_x (next_y at) ∷ []

-- a pixel is a face: what a rule over the heights at 00, 10, 01, 11 says of it
abbrev pub at_pixel : {A : Type 0} → (ℤ → ℤ → ℤ → ℤ → A) → Block → Level → Point → A
at_pixel rule b l at =
    rule (corner_height b l at) (corner_height b l (next_x at)) (corner_height b l (next_y at)) (corner_height b l (next_x (next_y at)))

-- the vertex that a point of the pixel's face is, from the heights
abbrev pub vertex_of : Point → ℤ → ℤ → ℤ → ℤ → FacePoint → Vertex
vertex_of at g00 g10 g01 g11 P0 = on_edge Y at (along_edge g00 g01)
vertex_of at g00 g10 g01 g11 P1 = on_edge Y (next_x at) (along_edge g10 g11)
vertex_of at g00 g10 g01 g11 P2 = on_edge X at (along_edge g00 g10)
vertex_of at g00 g10 g01 g11 P3 = on_edge X (next_y at) (along_edge g01 g11)
vertex_of at g00 g10 g01 g11 C = in_face Z at (centre_offsets g00 g10 g01 g11).first (centre_offsets g00 g10 g01 g11).second
