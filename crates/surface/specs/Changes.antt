-- What takes and withdrawals do to the lists, and that they answer it.
use Rattle.std.specs.Prelude.{◌≡◌, ℕ, suc, ◌+◌, ◌-◌, Bool, List, [], ◌∷◌, ◌++◌, map, length, take, None, Ok, Err, filter}
use Rattle.std.specs.List.{Contains}
use Rattle.block.specs.Block.{Block}
use Rattle.block.specs.Refusals.{plain}
use Rattle.block.specs.declared.lattice.Point.{Point}
use Rattle.cell.specs.declared.vertex.Vertex.{Vertex}
use Rattle.kind.specs.Meaning.{Laws, Piece}
use Rattle.kind.specs.Shapes.{number}
use Rattle.surface.specs.Ledger.{Opening, Call, take_cell, withdraw_cell, Held, State, positions, pieces_of, piece_list, named_by, without, struck, pieces_at, entered, take_declined, answer, step, after}
use Rattle.surface.specs.declared.lists.Counts.{Counts}

-- a held cell that is sent again, from a source of the same sizes and whatever its samples are by now, is declined by 8 and alters nothing
abbrev pub Resent : Type 0
Resent = (o : Opening) → Laws o.meaning → (cs : List Call) (b : Block) (c : Point) → b.sizes ≡ o.sizes → Contains (positions (after o cs).held) c →
    (answer o (after o cs) (take_cell b c) ≡ Err (plain 8)) × (step o (after o cs) (take_cell b c) ≡ after o cs)

-- a cell that is taken and at once withdrawn leaves the lists as they were
abbrev pub Undone : Type 0
Undone = (o : Opening) → Laws o.meaning → (cs : List Call) (b : Block) (c : Point) → take_declined o (after o cs) b c ≡ None →
    after o (cs ++ take_cell b c ∷ withdraw_cell c ∷ []) ≡ after o cs

-- from a state to another there is one cell more, and so many vertices and pieces more
pub record More (s t : State) (n : Counts) : Type 0 where
  pub cells : length t.held ≡ length s.held + 1
  pub vertices : length t.vertices ≡ length s.vertices + n.vertices
  pub pieces : length (pieces_of t.held) ≡ length (pieces_of s.held) + n.pieces

-- an accepted take adds what it answers, and an accepted withdrawal strikes what it answers
abbrev pub Counted : Type 0
Counted = (o : Opening) → Laws o.meaning → (cs : List Call) (n : Counts) →
    ((b : Block) (c : Point) → answer o (after o cs) (take_cell b c) ≡ Ok n → More (after o cs) (step o (after o cs) (take_cell b c)) n)
    × ((c : Point) → answer o (after o cs) (withdraw_cell c) ≡ Ok n → More (step o (after o cs) (withdraw_cell c)) (after o cs) n)

-- a take appends the cell's pieces to the piece list, and those before keep their numbers
abbrev pub Appended : Opening → State → Block → Point → Type 0
Appended o s b c = piece_list (entered o s b c) ≡ piece_list s ++ map (map (number (entered o s b c).vertices)) (pieces_at o b c)

-- a withdrawal takes one cell out, and those before and behind it stay in order
pub record Split (hs : List Held) (c : Point) : Type 0 where
  pub before : List Held
  pub cell : Held
  pub behind : List Held
  pub is_at : cell.position ≡ c
  pub whole : hs ≡ before ++ cell ∷ behind
  pub rest : without hs c ≡ before ++ behind

-- the number of a vertex that is kept, once others are struck: one more than how many are kept of those before it
abbrev pub renumbered : (Vertex → Bool) → List Vertex → ℕ → ℕ
renumbered kept vs n = suc (length (filter kept (take (n - 1) vs)))

-- the numbers of the pieces that stay follow
abbrev pub Followed : State → Point → Type 0
Followed s c =
    let stay : List Piece = pieces_of (without s.held c) in
    piece_list (struck s c) ≡ map (map (renumbered (λ v. named_by stay v.place) s.vertices)) (map (map (number s.vertices)) stay)

-- so it is after every list of calls
abbrev pub Changes : Type 0
Changes = (o : Opening) → Laws o.meaning → (cs : List Call) →
    ((b : Block) (c : Point) → Appended o (after o cs) b c)
    × ((c : Point) → Contains (positions (after o cs).held) c → Split (after o cs).held c × Followed (after o cs) c)
