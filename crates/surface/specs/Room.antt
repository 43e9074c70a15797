-- How many slots suffice.
use Rattle.std.specs.Prelude.{◌≡◌, ℕ, ◌*◌, ◌<◌, ◌≤◌, true, List, length, Some}
use Rattle.std.specs.List.{Contains}
use Rattle.block.specs.Block.{Block}
use Rattle.block.specs.Lattice.{inside, count}
use Rattle.block.specs.Refusals.{Told}
use Rattle.block.specs.declared.lattice.Point.{Point}
use Rattle.block.specs.declared.lattice.Sizes.{Sizes}
use Rattle.cell.specs.declared.level.Level.{Level}
use Rattle.kind.specs.Meaning.{Meaning, Laws, Readable, Distinct}
use Rattle.surface.specs.Ledger.{Rooms, Opening, Call, take_declined, after}

-- no more than so many different positions are cells
abbrev pub CellsAtMost : Meaning → Sizes → ℕ → Type 0
CellsAtMost m n most = (ps : List Point) → Distinct ps → ((p : Point) → Contains ps p → m.cell n p ≡ true) → length ps ≤ most

-- no cell has more than so many vertices and so many pieces
pub record EachAtMost (m : Meaning) (vertices pieces : ℕ) : Type 0 where
  pub its_vertices : (b : Block) (l : Level) (c : Point) → Readable m b l c → length (m.vertices b l c) ≤ vertices
  pub its_pieces : (b : Block) (l : Level) (c : Point) → Readable m b l c → length (m.pieces b l c) ≤ pieces

-- there are slots for so many cells, and for so many vertices and pieces of each
pub record RoomFor (r : Rooms) (cells vertices pieces : ℕ) : Type 0 where
  pub for_cells : cells ≤ r.cells
  pub for_vertices : cells * vertices ≤ r.vertices
  pub for_pieces : cells * pieces ≤ r.pieces

-- with slots for every cell of the block no take is declined for want of slots, by 12, 13 or 14
abbrev pub EnoughRoom : Type 0
EnoughRoom = (o : Opening) → Laws o.meaning → (cells vertices pieces : ℕ) →
    CellsAtMost o.meaning o.sizes cells → EachAtMost o.meaning vertices pieces → RoomFor o.rooms cells vertices pieces →
    (cs : List Call) (b : Block) (c : Point) (t : Told) → take_declined o (after o cs) b c ≡ Some t → t.number < 12

-- cells that lie in a box are at most as many as the box has points
abbrev pub BoxBounds : Type 0
BoxBounds = (m : Meaning) (n box : Sizes) → ((p : Point) → m.cell n p ≡ true → inside box p ≡ true) → CellsAtMost m n (count box)
