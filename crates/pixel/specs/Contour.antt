-- What is held of a pixel that was read.
use Rattle.std.specs.Prelude.{◌≡◌, ℕ, ℤ, false, if◌then◌else◌, List, [], ◌∷◌, map, length, take}
use Rattle.std.specs.List.{zip}
use Rattle.block.specs.Block.{Block}
use Rattle.block.specs.declared.lattice.Point.{Point}
use Rattle.cell.specs.Corner.{corner_height}
use Rattle.cell.specs.Corners.{at_corners, edges_of}
use Rattle.cell.specs.Crossing.{opposite}
use Rattle.cell.specs.Cuts.{segments_in}
use Rattle.cell.specs.Face.{face_segments, meets_level}
use Rattle.cell.specs.Level.{sign}
use Rattle.cell.specs.declared.crossing.Edge.{Edge}
use Rattle.cell.specs.declared.face.Cut.{Cut}
use Rattle.cell.specs.declared.face.Cut.TheVariants.{Uncut, Single, Rising, Falling, Star}
use Rattle.cell.specs.declared.face.Face.{Face}
use Rattle.cell.specs.declared.level.Level.{Level}
use Rattle.cell.specs.declared.vertex.Side.{Side}
use Rattle.cell.specs.declared.vertex.Vertex.{Vertex}
use Rattle.kind.specs.Meaning.{Joint}
use Rattle.kind.specs.declared.segment.Segment.{Segment}
use Rattle.pixel_theory.specs.Kind.{edge_place, pixel_sides}
use Rattle.pixel_theory.specs.Numbers.{points_in}
use Rattle.pixel_theory.specs.Pixel.{next_x, next_y, at_pixel}
use Rattle.pixel.specs.declared.contour.Contour.{Contour}
use Rattle.pixel.specs.declared.contour.PixelShape.{PixelShape}

-- the face that holds the heights at a pixel's corners, none of them on the level
pub record HeightsOf (b : Block) (l : Level) (at : Point) (f : Face) : Type 0 where
  pub g00 : f.g00.value ≡ corner_height b l at
  pub g10 : f.g10.value ≡ corner_height b l (next_x at)
  pub g01 : f.g01.value ≡ corner_height b l (next_y at)
  pub g11 : f.g11.value ≡ corner_height b l (next_x (next_y at))
  pub off : at_corners meets_level f ≡ false

-- the pixel of a block that a contour holds
pub record Holds (b : Block) (l : Level) (at : Point) (c : Contour) : Type 0 where
  pub at_is : c.square.at ≡ at
  pub heights : HeightsOf b l at c.face
  pub cut_is : segments_in c.cut ≡ at_pixel face_segments b l at

-- the vertices and segments that a shape hands out
abbrev pub shape_points : PixelShape → List Vertex
shape_points s = take (length (points_in s.contour.cut)) s.vertices

-- the segments of each case, by the numbers of their ends
abbrev pub segment : ℕ → ℕ → Segment
segment from to = record { from = from; to = to }

abbrev pub parts_in : Cut → List Segment
parts_in Uncut = []
parts_in (Single p q) = segment 1 2 ∷ []
parts_in Rising = segment 1 4 ∷ segment 2 3 ∷ []
parts_in Falling = segment 1 3 ∷ segment 2 4 ∷ []
parts_in Star = segment 1 5 ∷ segment 2 5 ∷ segment 3 5 ∷ segment 4 5 ∷ []

abbrev pub shape_parts : PixelShape → List Segment
shape_parts s = parts_in s.contour.cut

-- a side with its crossing, if the heights at its ends have opposite signs
abbrev pub bordering : Side → ℤ → ℤ → Side × List Joint
bordering s low high = (s, if opposite (sign low) (sign high) then (edge_place s ∷ []) ∷ [] else [])

-- the sides of a pixel that was read, with their cuts
abbrev pub border : Side × Edge → Side × List Joint
border p = bordering p.0 p.1.low.value p.1.high.value

abbrev pub contour_borders : Contour → List (Side × List Joint)
contour_borders c = map border (zip (pixel_sides c.square.at) (edges_of c.face))
