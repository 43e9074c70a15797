-- What a voxel means: its corners, sides and vertices, how its faces are cut, and its triangles.
use Rattle.std.specs.Prelude.{ℕ, ◌+◌, ◌≤◌, Bool, if◌then◌else◌, ◌&&◌, List, [], ◌∷◌, map, length, ℤ, Some, None, Option, nat_lt, slice_index_or}
use Rattle.block.specs.Block.{Block}
use Rattle.block.specs.declared.lattice.Point.{Point}
use Rattle.block.specs.declared.lattice.Sizes.{Sizes}
use Rattle.cell.specs.Corner.{corner_height}
use Rattle.cell.specs.Crossing.{along_edge}
use Rattle.cell.specs.Face.{FaceSegment, face_segments, centre_offsets}
use Rattle.kind.specs.Meaning.{Meaning, Readable, Joint, Piece, same_axis}
use Rattle.cell.specs.Vertex.{no_offset}
use Rattle.cell.specs.declared.crossing.Offset.{Offset}
use Rattle.cell.specs.declared.face.FacePoint.{FacePoint}
use Rattle.cell.specs.declared.face.FacePoint.TheVariants.{P0, P1, P2, P3, C}
use Rattle.cell.specs.declared.level.Level.{Level}
use Rattle.cell.specs.declared.vertex.Axis.{Axis}
use Rattle.cell.specs.declared.vertex.Axis.TheVariants.{X, Y, Z}
use Rattle.cell.specs.declared.vertex.Form.{Form}
use Rattle.cell.specs.declared.vertex.Form.TheVariants.{Edge, Face}
use Rattle.cell.specs.declared.vertex.Place.{Place}
use Rattle.cell.specs.declared.vertex.Side.{Side}
use Rattle.cell.specs.declared.vertex.Vertex.{Vertex}
use Rattle.clipping.specs.Faces.{Segment, local_vertices, voxel_segments}
use Rattle.clipping.specs.Clip.{Triangle, vertices_on, triangles}
use Rattle.clipping.specs.Laws.{most_triangles}

-- ---- the lattice
-- the next point along an axis
abbrev pub next : Axis → Point → Point
next X p = record { x = p.x + 1; y = p.y; z = p.z }
next Y p = record { x = p.x; y = p.y + 1; z = p.z }
next Z p = record { x = p.x; y = p.y; z = p.z + 1 }

-- the two axes of a face, by its normal axis
abbrev pub first_axis : Axis → Axis
first_axis X = Y
first_axis Y = X
first_axis Z = X

abbrev pub second_axis : Axis → Axis
second_axis X = Z
second_axis Y = Z
second_axis Z = Y

-- ---- a voxel, at its lowest corner c
abbrev pub is_voxel : Sizes → Point → Bool
is_voxel n c = nat_lt (c.x + 1) n.x && nat_lt (c.y + 1) n.y && nat_lt (c.z + 1) n.z

-- its corners: number dx + 2 dy + 4 dz
abbrev pub corners : Point → List Point
corners c =
    c ∷ next X c ∷ next Y c ∷ next X (next Y c) ∷
    next Z c ∷ next X (next Z c) ∷ next Y (next Z c) ∷ next X (next Y (next Z c)) ∷ []

-- its sides: the faces x low, x high, y low, y high, z low, z high
abbrev pub side : Axis → Point → Side
side a p = record { axis = a; point = p }

abbrev pub sides : Point → List Side
sides c = side X c ∷ side X (next X c) ∷ side Y c ∷ side Y (next Y c) ∷ side Z c ∷ side Z (next Z c) ∷ []

-- the places of its local vertices
abbrev pub edge : Axis → Point → Place
edge a p = record { form = Some Edge; axis = Some a; point = p }

abbrev pub centre : Axis → Point → Place
centre a p = record { form = Some Face; axis = Some a; point = p }

abbrev pub local_places : Point → List Place
local_places c =
    -- number dy + 2 dz, 4 + dx + 2 dz, 8 + dx + 2 dy
    edge X c ∷ edge X (next Y c) ∷ edge X (next Z c) ∷ edge X (next Y (next Z c)) ∷
    edge Y c ∷ edge Y (next X c) ∷ edge Y (next Z c) ∷ edge Y (next X (next Z c)) ∷
    edge Z c ∷ edge Z (next X c) ∷ edge Z (next Y c) ∷ edge Z (next X (next Y c)) ∷
    -- from 12 on, the centres of the sides
    centre X c ∷ centre X (next X c) ∷ centre Y c ∷ centre Y (next Y c) ∷ centre Z c ∷ centre Z (next Z c) ∷ []

abbrev pub place_of : Point → ℕ → Place
place_of c v = slice_index_or (local_places c) v (edge X c)

-- ---- a face, by its side alone
-- what is said of the heights at the corners 00, 10, 01, 11
abbrev pub at_heights : {T : Type 0} → (ℤ → ℤ → ℤ → ℤ → T) → Block → Level → Side → T
at_heights says b l s =
    let u : Axis = first_axis s.axis in
    let v : Axis = second_axis s.axis in
    let p : Point = s.point in
    says (corner_height b l p) (corner_height b l (next u p)) (corner_height b l (next v p)) (corner_height b l (next u (next v p)))

-- where its points are
abbrev pub face_place : Side → FacePoint → Place
face_place s P0 = edge (second_axis s.axis) s.point
face_place s P1 = edge (second_axis s.axis) (next (first_axis s.axis) s.point)
face_place s P2 = edge (first_axis s.axis) s.point
face_place s P3 = edge (first_axis s.axis) (next (second_axis s.axis) s.point)
face_place s C = centre s.axis s.point

-- its cuts are its segments
abbrev pub joint_of : Side → FaceSegment → Joint
joint_of s t = face_place s t.0 ∷ face_place s t.1 ∷ []

abbrev pub cuts : Block → Level → Side → List Joint
cuts b l s = map (joint_of s) (at_heights face_segments b l s)

-- ---- a vertex, by its place alone
abbrev pub is_axis : Axis → Axis → Bool
is_axis a along = same_axis (Some a) (Some along)

-- a crossing has an offset along its edge
abbrev pub edge_offset : Block → Level → Axis → Point → Axis → Offset
edge_offset b l a p along = if is_axis a along then along_edge (corner_height b l p) (corner_height b l (next a p)) else no_offset

-- a centre has one along each axis of its face
abbrev pub centre_offset : Block → Level → Axis → Point → Axis → Offset
centre_offset b l a p along =
    if is_axis (first_axis a) along then (at_heights centre_offsets b l (side a p)).first
    else if is_axis (second_axis a) along then (at_heights centre_offsets b l (side a p)).second else no_offset

abbrev pub offset_along : Block → Level → Option Form → Option Axis → Point → Axis → Offset
offset_along b l (Some Edge) (Some a) p along = edge_offset b l a p along
offset_along b l (Some Face) (Some a) p along = centre_offset b l a p along
offset_along b l (Some f) None p along = no_offset
offset_along b l None a p along = no_offset

abbrev pub vertex_at : Block → Level → Place → Vertex
vertex_at b l p = record {
  place = p;
  x = offset_along b l p.form p.axis p.point X;
  y = offset_along b l p.form p.axis p.point Y;
  z = offset_along b l p.form p.axis p.point Z;
}

-- ---- a voxel's segments, vertices and triangles
abbrev pub heights : Block → Level → Point → ℕ → ℤ
heights b l c k = corner_height b l (slice_index_or (corners c) k c)

abbrev pub segments : Block → Level → Point → List Segment
segments b l c = voxel_segments (heights b l c)

-- its vertices are those on its segments, in local order
abbrev pub vertices : Block → Level → Point → List Vertex
vertices b l c = map (λ v. vertex_at b l (place_of c v)) (vertices_on (segments b l c))

abbrev pub piece_of : Point → Triangle → Piece
piece_of c t = place_of c t.0 ∷ place_of c t.1 ∷ place_of c t.2 ∷ []

abbrev pub pieces : Block → Level → Point → List Piece
pieces b l c = map (piece_of c) (triangles (segments b l c))

-- ---- the meaning
abbrev pub voxel : Meaning
voxel = record { arity = 3; cell = is_voxel; corners = corners; vertices = vertices; pieces = pieces; sides = sides; cuts = cuts }

-- a voxel has at most eighteen vertices and twenty-two triangles
pub record Small : Type 0 where
  pub vertices : (b : Block) (l : Level) (c : Point) → length (voxel.vertices b l c) ≤ local_vertices
  pub pieces : (b : Block) (l : Level) (c : Point) → Readable voxel b l c → length (voxel.pieces b l c) ≤ most_triangles
