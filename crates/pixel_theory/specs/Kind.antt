-- What the kind of pixels means.
use Rattle.std.specs.Prelude.{◌+◌, Bool, if◌then◌else◌, List, [], ◌∷◌, map, ℤ, Some, filter}
use Rattle.block.specs.Block.{Block}
use Rattle.block.specs.declared.lattice.Point.{Point}
use Rattle.cell.specs.Corner.{corner_height}
use Rattle.cell.specs.Crossing.{opposite}
use Rattle.cell.specs.Face.{FaceSegment, face_segments, has_centre}
use Rattle.cell.specs.Level.{sign}
use Rattle.cell.specs.declared.face.FacePoint.{FacePoint}
use Rattle.cell.specs.declared.face.FacePoint.TheVariants.{P0, P1, P2, P3, C}
use Rattle.cell.specs.declared.level.Level.{Level}
use Rattle.cell.specs.declared.vertex.Axis.TheVariants.{X, Y, Z}
use Rattle.cell.specs.declared.vertex.Form.TheVariants.{Edge, Face}
use Rattle.cell.specs.declared.vertex.Place.{Place}
use Rattle.cell.specs.declared.vertex.Side.{Side}
use Rattle.kind.specs.Meaning.{Meaning, Piece, Joint}
use Rattle.pixel_theory.specs.Pixel.{is_pixel, pixel_corners, next_x, next_y, at_pixel, vertex_of}

-- the points of a face
abbrev pub face_points : List FacePoint
face_points = P0 ∷ P1 ∷ P2 ∷ P3 ∷ C ∷ []

-- whether a point of a face is a vertex: a crossing, or the centre where the face has it
abbrev pub present : ℤ → ℤ → ℤ → ℤ → FacePoint → Bool
present g00 g10 g01 g11 P0 = opposite (sign g00) (sign g01)
present g00 g10 g01 g11 P1 = opposite (sign g10) (sign g11)
present g00 g10 g01 g11 P2 = opposite (sign g00) (sign g10)
present g00 g10 g01 g11 P3 = opposite (sign g01) (sign g11)
present g00 g10 g01 g11 C = has_centre g00 g10 g01 g11

-- the four lattice edges of a pixel, in the order P0 to P3
abbrev pub pixel_sides : Point → List Side
pixel_sides c = record { axis = Y; point = c } ∷ record { axis = Y; point = next_x c } ∷ record { axis = X; point = c } ∷ record { axis = X; point = next_y c } ∷ []

-- the upper end of an edge
abbrev pub upper : Side → Point
upper s = elim s.axis [
  | X ↦ next_x s.point
  | Y ↦ next_y s.point
  | Z ↦ record { x = s.point.x; y = s.point.y; z = s.point.z + 1 }
]

-- the place of a crossing of an edge
abbrev pub edge_place : Side → Place
edge_place s = record { form = Some Edge; axis = Some s.axis; point = s.point }

-- an edge's cut is its crossing, if any
abbrev pub edge_cuts : Block → Level → Side → List Joint
edge_cuts b l s = if opposite (sign (corner_height b l s.point)) (sign (corner_height b l (upper s))) then (edge_place s ∷ []) ∷ [] else []

-- a segment names its two ends
abbrev pub segment_places : (FacePoint → Place) → FaceSegment → Piece
segment_places place s = place s.0 ∷ place s.1 ∷ []

abbrev pub place_of : Point → FacePoint → Place
place_of c P0 = record { form = Some Edge; axis = Some Y; point = c }
place_of c P1 = record { form = Some Edge; axis = Some Y; point = next_x c }
place_of c P2 = record { form = Some Edge; axis = Some X; point = c }
place_of c P3 = record { form = Some Edge; axis = Some X; point = next_y c }
place_of c C = record { form = Some Face; axis = Some Z; point = c }

abbrev pub pixel : Meaning
pixel = record {
  arity = 2;
  cell = is_pixel;
  corners = pixel_corners;
  vertices = λ b l c. map (at_pixel (vertex_of c) b l c) (filter (at_pixel present b l c) face_points);
  pieces = λ b l c. map (segment_places (place_of c)) (at_pixel face_segments b l c);
  sides = pixel_sides;
  cuts = edge_cuts;
}
