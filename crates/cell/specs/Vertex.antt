-- Vertices on edges and in faces, and the text of a vertex.
use Rattle.std.specs.Prelude.{ℕ, if◌then◌else◌, List, ◌++◌, Some, None, codes, decimal, ◌==◌}
use Rattle.block.specs.declared.lattice.Point.{Point}
use Rattle.cell.specs.Crossing.{offset}
use Rattle.cell.specs.declared.crossing.Offset.{Offset}
use Rattle.cell.specs.declared.vertex.Axis.{Axis}
use Rattle.cell.specs.declared.vertex.Axis.TheVariants.{X, Y, Z}
use Rattle.cell.specs.declared.vertex.Form.TheVariants.{Edge, Face}
use Rattle.cell.specs.declared.vertex.Place.{Place}
use Rattle.cell.specs.declared.vertex.Vertex.{Vertex}

-- an axis without an offset has 0/0
abbrev pub no_offset : Offset
no_offset = offset 0 0

-- the place of the crossing of an edge, by its axis and its lower end
abbrev pub edge_place : Axis → Point → Place
edge_place a p = record { form = Some Edge; axis = Some a; point = p }

-- the place of the centre of a face, by its normal axis and its lowest corner
abbrev pub face_place : Axis → Point → Place
face_place a p = record { form = Some Face; axis = Some a; point = p }

-- the crossing of the edge along an axis from a point, at an offset from there
abbrev pub on_edge : Axis → Point → Offset → Vertex
on_edge X p o = record { place = record { form = Some Edge; axis = Some X; point = p }; x = o; y = no_offset; z = no_offset }
on_edge Y p o = record { place = record { form = Some Edge; axis = Some Y; point = p }; x = no_offset; y = o; z = no_offset }
on_edge Z p o = record { place = record { form = Some Edge; axis = Some Z; point = p }; x = no_offset; y = no_offset; z = o }

-- the centre of the face with a normal axis at a point, at offsets along the face's first and second axis
abbrev pub in_face : Axis → Point → Offset → Offset → Vertex
in_face X p first second = record { place = record { form = Some Face; axis = Some X; point = p }; x = no_offset; y = first; z = second }
in_face Y p first second = record { place = record { form = Some Face; axis = Some Y; point = p }; x = first; y = no_offset; z = second }
in_face Z p first second = record { place = record { form = Some Face; axis = Some Z; point = p }; x = first; y = second; z = no_offset }

-- a blank slot: form and axis none, numbers zero
abbrev pub no_vertex : Vertex
no_vertex = record { place = record { form = None; axis = None; point = record { x = 0; y = 0; z = 0 } }; x = no_offset; y = no_offset; z = no_offset }

-- 2, or 2+1/3
abbrev pub coordinate : ℕ → Offset → List ℕ
coordinate whole o =
    if o.denominator == 0 then decimal whole
    else decimal whole ++ (codes "+" ++ (decimal o.numerator ++ (codes "/" ++ decimal o.denominator)))

abbrev pub coordinates : Vertex → List ℕ
coordinates v =
    let p = v.place.point in
    coordinate p.x v.x ++ (codes " " ++ (coordinate p.y v.y ++ (codes " " ++ coordinate p.z v.z)))
