-- What a kind of cell means, and the laws that every kind shows.
use Rattle.std.specs.Prelude.{◌≡◌, ℕ, suc, ◌%◌, Bool, true, false, if◌then◌else◌, ◌&&◌, ◌||◌, ◌⊎◌, ◌↔◌, List, [], ◌∷◌, map, length, Some, None, count_by, Option, ◌==◌}
use Rattle.std.specs.List.{Contains}
use Rattle.block.specs.Block.{Block}
use Rattle.block.specs.Refusals.{Told, told}
use Rattle.block.specs.declared.lattice.Point.{Point}
use Rattle.block.specs.declared.lattice.Sizes.{Sizes}
use Rattle.block.specs.declared.refusal.Refusal.TheVariants.{NoCell}
use Rattle.cell.specs.Corner.{corners_declined}
use Rattle.cell.specs.declared.level.Level.{Level}
use Rattle.cell.specs.declared.vertex.Axis.{Axis}
use Rattle.cell.specs.declared.vertex.Axis.TheVariants.{X, Y, Z}
use Rattle.cell.specs.declared.vertex.Form.{Form}
use Rattle.cell.specs.declared.vertex.Form.TheVariants.{Edge, Face}
use Rattle.cell.specs.declared.vertex.Place.{Place}
use Rattle.cell.specs.declared.vertex.Side.{Side}
use Rattle.cell.specs.declared.vertex.Vertex.{Vertex}

-- A piece names its vertices in order: two for a segment, three for a triangle.
abbrev pub Piece : Type 0
Piece = List Place

-- A joint is all vertices of a piece but one: one vertex for segments, two different ones in any order for triangles.
abbrev pub Joint : Type 0
Joint = List Place

pub record Meaning : Type 0 where
  -- how many vertices each piece has
  pub arity : ℕ
  -- which positions are cells, by the sizes alone, and a cell's corners in order
  pub cell : Sizes → Point → Bool
  pub corners : Point → List Point
  -- of a cell whose corners have samples off the level: its vertices in order, its pieces, its sides
  pub vertices : Block → Level → Point → List Vertex
  pub pieces : Block → Level → Point → List Piece
  pub sides : Point → List Side
  -- the cuts of a side depend on the block, the level and the side alone
  pub cuts : Block → Level → Side → List Joint

-- a cell all of whose corners have samples off the level
pub record Readable (m : Meaning) (b : Block) (l : Level) (c : Point) : Type 0 where
  pub is_cell : m.cell b.sizes c ≡ true
  pub reads : corners_declined b l (m.corners c) ≡ None

abbrev pub places_of : List Vertex → List Place
places_of vs = map (λ v. v.place) vs

abbrev pub Odd : ℕ → Type 0
Odd n = n % 2 ≡ 1

abbrev pub Distinct : {X : Type 0} → List X → Type 0
Distinct [] = Unit {0}
Distinct (x ∷ xs) = (Contains xs x → ⊥) × Distinct xs

-- two vertices are the same when form, axis and point are
abbrev pub same_axis : Option Axis → Option Axis → Bool
same_axis None None = true
same_axis None (Some b) = false
same_axis (Some a) None = false
same_axis (Some X) (Some X) = true
same_axis (Some X) (Some Y) = false
same_axis (Some X) (Some Z) = false
same_axis (Some Y) (Some X) = false
same_axis (Some Y) (Some Y) = true
same_axis (Some Y) (Some Z) = false
same_axis (Some Z) (Some X) = false
same_axis (Some Z) (Some Y) = false
same_axis (Some Z) (Some Z) = true

abbrev pub same_form : Option Form → Option Form → Bool
same_form None None = true
same_form None (Some b) = false
same_form (Some a) None = false
same_form (Some Edge) (Some Edge) = true
same_form (Some Edge) (Some Face) = false
same_form (Some Face) (Some Edge) = false
same_form (Some Face) (Some Face) = true

abbrev pub same_point : Point → Point → Bool
same_point p q = p.x == q.x && p.y == q.y && p.z == q.z

abbrev pub same_place : Place → Place → Bool
same_place p q = same_form p.form q.form && same_axis p.axis q.axis && same_point p.point q.point

-- whether a list of places has a place
abbrev pub names : List Place → Place → Bool
names [] p = false
names (q ∷ qs) p = same_place q p || names qs p

-- a joint lies on a piece that names all of it
abbrev pub on : Joint → Piece → Bool
on [] piece = true
on (v ∷ j) piece = names piece v && on j piece

-- the same vertices, in any order
abbrev pub SameJoint : Joint → Joint → Type 0
SameJoint i j = (p : Place) → Contains i p ↔ Contains j p

abbrev pub IsJoint : Meaning → Joint → Type 0
IsJoint m j = (suc (length j) ≡ m.arity) × Distinct j

module _ (m : Meaning) (b : Block) (l : Level) where
  -- a joint is a cut of a side
  abbrev pub CutOf : Side → Joint → Type 0
  CutOf s j = (i : Joint) × Contains (m.cuts b l s) i × SameJoint i j

  -- a joint is a cut of one of a cell's sides
  abbrev pub CutOfCell : Point → Joint → Type 0
  CutOfCell c j = (s : Side) × Contains (m.sides c) s × CutOf s j

-- why a position is not read, if it is not
abbrev pub cell_declined : Meaning → Block → Level → Point → Option Told
cell_declined m b l c = if m.cell b.sizes c then corners_declined b l (m.corners c) else Some (told NoCell)

-- The laws speak of cells that can be read. That a side's cuts depend on nothing but block, level and side stands in the type of `cuts`.
pub record Laws (m : Meaning) : Type 0 where
  -- a joint lies on an odd number of the cell's pieces exactly when it is a cut of one of its sides
  pub parity : (b : Block) (l : Level) (c : Point) (j : Joint) → Readable m b l c → IsJoint m j → Odd (count_by (on j) (m.pieces b l c)) ↔ CutOfCell m b l c j
  -- no joint is a cut of two sides
  pub one_side : (b : Block) (l : Level) (c d : Point) (s t : Side) (j : Joint) → Readable m b l c → Readable m b l d → Contains (m.sides c) s → Contains (m.sides d) t → CutOf m b l s j → CutOf m b l t j → s ≡ t
  -- a side belongs to at most two cells
  pub two_cells : (n : Sizes) (c d e : Point) (s : Side) → m.cell n c ≡ true → m.cell n d ≡ true → m.cell n e ≡ true → Contains (m.sides c) s → Contains (m.sides d) s → Contains (m.sides e) s → (c ≡ d) ⊎ (d ≡ e) ⊎ (c ≡ e)
  -- no two vertices of a cell are the same, and its pieces name all of them and no others
  pub apart : (b : Block) (l : Level) (c : Point) → Readable m b l c → Distinct (places_of (m.vertices b l c))
  pub named : (b : Block) (l : Level) (c : Point) (p : Place) → Readable m b l c → Contains (places_of (m.vertices b l c)) p ↔ ((q : Piece) × Contains (m.pieces b l c) q × Contains q p)
  -- a vertex's offsets depend on the block, the level and its place alone
  pub offsets : (b : Block) (l : Level) (c d : Point) (v w : Vertex) → Readable m b l c → Readable m b l d → Contains (m.vertices b l c) v → Contains (m.vertices b l d) w → v.place ≡ w.place → v ≡ w
  -- each side of a cell is listed once
  pub sides_once : (c : Point) → Distinct (m.sides c)
