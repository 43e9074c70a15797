-- What a cell that was read holds, compared with what its kind means.
use Rattle.std.specs.Prelude.{ℕ, suc, if◌then◌else◌, List, [], ◌∷◌, map, Some, None, Option}
use Rattle.std.specs.List.{slice_get}
use Rattle.block.specs.Block.{Block}
use Rattle.block.specs.declared.lattice.Point.{Point}
use Rattle.block.specs.declared.lattice.Sizes.{Sizes}
use Rattle.cell.specs.declared.level.Level.{Level}
use Rattle.cell.specs.declared.vertex.Place.{Place}
use Rattle.cell.specs.declared.vertex.Side.{Side}
use Rattle.cell.specs.declared.vertex.Vertex.{Vertex}
use Rattle.kind.specs.Meaning.{Meaning, Joint, same_place}
use Rattle.kind.specs.declared.joint.Joint.{Joint as JointOfTwo}

-- the number of a place among vertices, counted from 1; one more than there are where it is not among them
abbrev pub number : List Vertex → Place → ℕ
number [] p = 1
number (v ∷ vs) p = if same_place v.place p then 1 else suc (number vs p)

-- a cell's pieces by the numbers of its own vertices
abbrev pub local_pieces : Meaning → Block → Level → Point → List (List ℕ)
local_pieces m b l c = map (map (number (m.vertices b l c))) (m.pieces b l c)

-- the places of a joint
abbrev pub second : Option Place → List Place
second None = []
second (Some q) = q ∷ []

abbrev pub places_in : JointOfTwo → Joint
places_in j = j.first ∷ second j.second

-- each side of a cell with its cuts
abbrev pub bordered : Meaning → Block → Level → Point → List (Side × List Joint)
bordered m b l c = map (λ s. (s, m.cuts b l s)) (m.sides c)

-- the cut at a place of the side at a place
abbrev pub cut_at : List (Side × List Joint) → ℕ → ℕ → Option Joint
cut_at borders side n = elim (slice_get borders side) [ Some s ↦ slice_get s.1 n | None ↦ None ]

-- the corner with a number of a cell
abbrev pub corner_at : Meaning → Sizes → Point → ℕ → Option Point
corner_at m sizes at n = if m.cell sizes at then slice_get (m.corners at) n else None
