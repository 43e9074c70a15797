-- A kind that strings the cells of each row on a thread, whatever their samples: it shows that the interface of kinds can be met from outside.
use Rattle.std.specs.Prelude.{◌+◌, Bool, ◌&&◌, [], ◌∷◌, Some, nat_lt}
use Rattle.block.specs.declared.lattice.Point.{Point}
use Rattle.block.specs.declared.lattice.Sizes.{Sizes}
use Rattle.cell.specs.Vertex.{in_face, no_offset}
use Rattle.cell.specs.declared.vertex.Axis.TheVariants.{X}
use Rattle.cell.specs.declared.vertex.Form.TheVariants.{Face}
use Rattle.cell.specs.declared.vertex.Place.{Place}
use Rattle.cell.specs.declared.vertex.Side.{Side}
use Rattle.cell.specs.declared.vertex.Vertex.{Vertex}
use Rattle.kind.specs.Meaning.{Meaning}

abbrev pub after : Point → Point
after p = record { x = p.x + 1; y = p.y; z = p.z }

-- a cell lies between a point and the next along x
abbrev pub is_bead : Sizes → Point → Bool
is_bead n p = nat_lt (p.x + 1) n.x && nat_lt p.y n.y && nat_lt p.z n.z

-- where the thread passes the side at a point
abbrev pub knot : Point → Vertex
knot p = in_face X p no_offset no_offset

abbrev pub knot_place : Point → Place
knot_place p = record { form = Some Face; axis = Some X; point = p }

abbrev pub end : Point → Side
end p = record { axis = X; point = p }

-- each cell has a side at either end, which the thread always passes, and one segment between the two
abbrev pub thread : Meaning
thread = record {
  arity = 2;
  cell = is_bead;
  corners = λ c. c ∷ after c ∷ [];
  vertices = λ b l c. knot c ∷ knot (after c) ∷ [];
  pieces = λ b l c. (knot_place c ∷ knot_place (after c) ∷ []) ∷ [];
  sides = λ c. end c ∷ end (after c) ∷ [];
  cuts = λ b l s. (knot_place s.point ∷ []) ∷ [];
}
