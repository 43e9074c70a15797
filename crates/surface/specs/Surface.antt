-- What is true of the lists where every accepted take read one block: they are closed and complete.
use Rattle.std.specs.Prelude.{◌≡◌, ◌↔◌, List, count_by}
use Rattle.std.specs.List.{Contains}
use Rattle.block.specs.Block.{Block}
use Rattle.cell.specs.declared.vertex.Side.{Side}
use Rattle.cell.specs.declared.vertex.Vertex.{Vertex}
use Rattle.kind.specs.Meaning.{Meaning, Laws, Joint, IsJoint, Odd, CutOf, Distinct, on, places_of}
use Rattle.surface.specs.Ledger.{Opening, Call, Held, State, positions, pieces_of, vertices_at, after, AllRead}

-- a border side belongs to exactly one held cell
pub record Border (m : Meaning) (hs : List Held) (t : Side) : Type 0 where
  pub cell : Held
  pub is_held : Contains hs cell
  pub is_side : Contains (m.sides cell.position) t
  pub alone : (h : Held) → Contains hs h → Contains (m.sides h.position) t → h.position ≡ cell.position

-- a joint is a cut of a border side
abbrev pub OnBorder : Opening → Block → State → Joint → Type 0
OnBorder o b s j = (t : Side) × Border o.meaning s.held t × CutOf o.meaning b o.level t j

-- a joint lies on an odd number of listed pieces exactly when it is a cut of a border side
abbrev pub Closed : Opening → Block → State → Type 0
Closed o b s = (j : Joint) → IsJoint o.meaning j → Odd (count_by (on j) (pieces_of s.held)) ↔ OnBorder o b s j

-- a vertex of a held cell, with its place and offsets on a block
abbrev pub Owned : Opening → Block → State → Vertex → Type 0
Owned o b s v = (h : Held) × Contains s.held h × Contains (vertices_at o b h.position) v

-- every vertex of a held cell stands in the vertex list exactly once, and no other stands there
pub record Complete (o : Opening) (b : Block) (s : State) : Type 0 where
  pub once : Distinct (places_of s.vertices)
  pub exactly : (v : Vertex) → Contains s.vertices v ↔ Owned o b s v

-- where every accepted take read one block, the lists are closed and complete
abbrev pub Theorem : Type 0
Theorem = (o : Opening) → Laws o.meaning → (b : Block) (cs : List Call) → AllRead o b cs → Closed o b (after o cs) × Complete o b (after o cs)

-- two lists have the same elements
abbrev pub SameHas : {X : Type 0} → List X → List X → Type 0
SameHas {X} xs ys = (x : X) → Contains xs x ↔ Contains ys x

-- the same cells have the same vertices and pieces listed, in whatever order they came and whatever was withdrawn between
abbrev pub OrderFree : Type 0
OrderFree = (o : Opening) → Laws o.meaning → (b : Block) (cs ds : List Call) → AllRead o b cs → AllRead o b ds →
    SameHas (positions (after o cs).held) (positions (after o ds).held) →
    SameHas (after o cs).vertices (after o ds).vertices × SameHas (pieces_of (after o cs).held) (pieces_of (after o ds).held)
