-- A ledger: what it is opened on, the state of its lists, and what each call does to them and answers.
use Rattle.std.specs.Prelude.{◌≡◌, ℕ, ◌+◌, ◌-◌, Bool, false, if◌then◌else◌, not, ◌&&◌, ◌||◌, List, [], ◌∷◌, ◌++◌, map, length, Some, None, Ok, Err, filter, Option, Result, ◌==◌, nat_le, nat_lt}
use Rattle.std.specs.List.{flat_map}
use Rattle.block.specs.Block.{Block}
use Rattle.block.specs.Refusals.{Told, plain, or_else}
use Rattle.block.specs.declared.lattice.Point.{Point}
use Rattle.block.specs.declared.lattice.Sizes.{Sizes}
use Rattle.cell.specs.Corner.{corners_declined}
use Rattle.cell.specs.declared.level.Level.{Level}
use Rattle.cell.specs.declared.vertex.Place.{Place}
use Rattle.cell.specs.declared.vertex.Vertex.{Vertex}
use Rattle.kind.specs.Meaning.{Meaning, Piece, same_point, names, places_of}
use Rattle.kind.specs.Shapes.{number}
use Rattle.surface.specs.declared.lists.Cell.{Cell}
use Rattle.surface.specs.declared.lists.Counts.{Counts}

-- how many slots each row has
pub record Rooms : Type 0 where
  pub cells : ℕ
  pub vertices : ℕ
  pub pieces : ℕ

-- what a ledger is opened on: a kind, a level, the sizes of a source, and three rows of slots
pub record Opening : Type 0 where
  pub meaning : Meaning
  pub level : Level
  pub sizes : Sizes
  pub rooms : Rooms

-- a take of a block's cell at a position, a withdrawal of the cell at a position, or a question
pub data Call : Type 0 where
  take_cell : Block → Point → Call
  withdraw_cell : Point → Call
  question : Call

-- a held cell, with its pieces by the places of their vertices
pub record Held : Type 0 where
  pub position : Point
  pub pieces : List Piece

-- the held cells in the order in which they were taken, and the vertex list
pub record State : Type 0 where
  pub held : List Held
  pub vertices : List Vertex

-- the state at the opening
abbrev pub blank : State
blank = record { held = []; vertices = [] }

-- the positions of held cells
abbrev pub positions : List Held → List Point
positions hs = map (λ h. h.position) hs

-- the pieces of held cells, those of an earlier cell first
abbrev pub pieces_of : List Held → List Piece
pieces_of hs = flat_map (λ h. h.pieces) hs

-- the cell list: each held cell's position and its number of pieces
abbrev pub cell_list : State → List Cell
cell_list s = map (λ h. record { position = h.position; pieces = length h.pieces }) s.held

-- the piece list: each piece by the numbers of its vertices in the vertex list
abbrev pub piece_list : State → List (List ℕ)
piece_list s = map (map (number s.vertices)) (pieces_of s.held)

-- whether a position is among positions
abbrev pub has_position : List Point → Point → Bool
has_position [] c = false
has_position (p ∷ ps) c = same_point p c || has_position ps c

-- whether some piece names a place
abbrev pub named_by : List Piece → Place → Bool
named_by [] p = false
named_by (q ∷ qs) p = names q p || named_by qs p

-- whether two sizes are the same
abbrev pub same_sizes : Sizes → Sizes → Bool
same_sizes m n = m.x == n.x && m.y == n.y && m.z == n.z

-- a cell's own vertices whose place is not listed yet
abbrev pub fresh : List Vertex → List Vertex → List Vertex
fresh listed own = filter (λ v. not (names (places_of listed) v.place)) own

-- the held cells but the one at a position
abbrev pub without : List Held → Point → List Held
without hs c = filter (λ h. not (same_point h.position c)) hs

-- the vertices whose place some piece of the held cells names
abbrev pub still_named : List Held → List Vertex → List Vertex
still_named hs vs = filter (λ v. named_by (pieces_of hs) v.place) vs

-- the lists without the cell at a position, its pieces, and the vertices that no remaining piece names
abbrev pub struck : State → Point → State
struck s c = record { held = without s.held c; vertices = still_named (without s.held c) s.vertices }

-- the refusal with a number, where a test holds
abbrev pub refused_if : Bool → ℕ → Option Told
refused_if test n = if test then Some (plain n) else None

-- the first refusal of a row of checks, if any
abbrev pub first_refusal : List (Option Told) → Option Told
first_refusal [] = None
first_refusal (check ∷ checks) = or_else check (first_refusal checks)

module _ (o : Opening) where
  -- the vertices and the pieces of a block's cell
  abbrev pub vertices_at : Block → Point → List Vertex
  vertices_at b c = o.meaning.vertices b o.level c

  abbrev pub pieces_at : Block → Point → List Piece
  pieces_at b c = o.meaning.pieces b o.level c

  -- the lists with a block's cell appended
  abbrev pub entered : State → Block → Point → State
  entered s b c = record {
    held = s.held ++ record { position = c; pieces = pieces_at b c } ∷ [];
    vertices = s.vertices ++ fresh s.vertices (vertices_at b c);
  }

  -- the checks of a take's cell: 6 other sizes, 7 no cell, 8 held already, 10 or 11 the first corner with a fault or on the level
  abbrev pub cell_checks : State → Block → Point → List (Option Told)
  cell_checks s b c =
      refused_if (not (same_sizes b.sizes o.sizes)) 6
      ∷ refused_if (not (o.meaning.cell o.sizes c)) 7
      ∷ refused_if (has_position (positions s.held) c) 8
      ∷ corners_declined b o.level (o.meaning.corners c)
      ∷ []

  -- the checks of the slots: 12 no cell slot is free, 13 too few vertex slots, 14 too few piece slots
  abbrev pub slot_checks : State → Block → Point → List (Option Told)
  slot_checks s b c =
      refused_if (nat_le o.rooms.cells (length s.held)) 12
      ∷ refused_if (nat_lt o.rooms.vertices (length s.vertices + length (fresh s.vertices (vertices_at b c)))) 13
      ∷ refused_if (nat_lt o.rooms.pieces (length (pieces_of s.held) + length (pieces_at b c))) 14
      ∷ []

  -- why a take is declined, if it is
  abbrev pub take_declined : State → Block → Point → Option Told
  take_declined s b c = first_refusal (cell_checks s b c ++ slot_checks s b c)

  -- why a call is declined, if it is
  abbrev pub declined : State → Call → Option Told
  declined s (take_cell b c) = take_declined s b c
  declined s (withdraw_cell c) = refused_if (not (has_position (positions s.held) c)) 9
  declined s question = None

  -- the lists once a call is accepted
  abbrev pub accepted : State → Call → State
  accepted s (take_cell b c) = entered s b c
  accepted s (withdraw_cell c) = struck s c
  accepted s question = s

  -- how many vertices and pieces an accepted call adds or strikes
  abbrev pub counts : State → Call → Counts
  counts s (take_cell b c) = record { vertices = length (fresh s.vertices (vertices_at b c)); pieces = length (pieces_at b c) }
  counts s (withdraw_cell c) = record {
    vertices = length s.vertices - length (struck s c).vertices;
    pieces = length (pieces_of s.held) - length (pieces_of (struck s c).held);
  }
  counts s question = record { vertices = 0; pieces = 0 }

  -- what a take or a withdrawal answers: why it is declined, or the counts; a question has an answer of its own
  abbrev pub answer : State → Call → Result Counts Told
  answer s c = elim (declined s c) [ Some t ↦ Err t | None ↦ Ok (counts s c) ]

  -- the state after a call: a declined call alters nothing
  abbrev pub step : State → Call → State
  step s c = elim (declined s c) [ Some t ↦ s | None ↦ accepted s c ]

  -- the state after calls from a state on, the oldest first
  abbrev pub after_from : State → List Call → State
  after_from s [] = s
  after_from s (c ∷ cs) = after_from (step s c) cs

  -- the state after calls from the opening on
  abbrev pub after : List Call → State
  after cs = after_from blank cs

  -- an accepted take reads a block of which R holds
  abbrev pub Reads : (Block → Type 0) → State → Call → Type 0
  Reads R s (take_cell b c) = take_declined s b c ≡ None → R b
  Reads R s (withdraw_cell c) = Unit {0}
  Reads R s question = Unit {0}

  -- every accepted take among calls from a state on does
  abbrev pub EachReads : (Block → Type 0) → State → List Call → Type 0
  EachReads R s [] = Unit {0}
  EachReads R s (c ∷ cs) = Reads R s c × EachReads R (step s c) cs

  -- every accepted take among calls from the opening on reads the block
  abbrev pub AllRead : Block → List Call → Type 0
  AllRead b cs = EachReads (λ a. a ≡ b) blank cs
