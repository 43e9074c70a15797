-- What is true of the lists after every list of calls, whichever blocks were read.
use Rattle.std.specs.Prelude.{◌≡◌, ℕ, suc, ◌≤◌, Bool, true, false, ◌&&◌, ◌||◌, ◌↔◌, List, [], ◌∷◌, map, length, Some, count_by, ◌==◌}
use Rattle.std.specs.List.{Contains, slice_get}
use Rattle.block.specs.declared.lattice.Point.{Point}
use Rattle.cell.specs.declared.vertex.Place.{Place}
use Rattle.cell.specs.declared.vertex.Vertex.{Vertex}
use Rattle.kind.specs.Meaning.{Laws, Piece, Joint, Distinct, on, places_of}
use Rattle.kind.specs.Shapes.{number}
use Rattle.surface.specs.Ledger.{Opening, Call, State, positions, pieces_of, piece_list, after}

-- some piece names a place
abbrev pub Named : List Piece → Place → Type 0
Named qs p = (q : Piece) × Contains qs q × Contains q p

-- what holds whichever blocks were read
pub record Kept (o : Opening) (s : State) : Type 0 where
  -- the held positions are cells, and no two are the same
  pub cells : (c : Point) → Contains (positions s.held) c → o.meaning.cell o.sizes c ≡ true
  pub apart : Distinct (positions s.held)
  -- no two vertices have the same place, and the listed pieces name the places of these and no others
  pub once : Distinct (places_of s.vertices)
  pub named : (p : Place) → Contains (places_of s.vertices) p ↔ Named (pieces_of s.held) p
  -- the lists have slots
  pub cells_fit : length s.held ≤ o.rooms.cells
  pub vertices_fit : length s.vertices ≤ o.rooms.vertices
  pub pieces_fit : length (pieces_of s.held) ≤ o.rooms.pieces

-- whether a piece by numbers has a vertex number
abbrev pub has_number : List ℕ → ℕ → Bool
has_number [] n = false
has_number (k ∷ ks) n = k == n || has_number ks n

-- a joint by numbers lies on a piece that has all of them
abbrev pub on_numbers : List ℕ → List ℕ → Bool
on_numbers [] piece = true
on_numbers (n ∷ ns) piece = has_number piece n && on_numbers ns piece

-- the numbers in the piece list tell what the places tell
pub record Numbered (s : State) : Type 0 where
  -- a vertex's number says where it stands, counted from 1
  pub counted : (k : ℕ) (v : Vertex) → slice_get s.vertices k ≡ Some v → number s.vertices v.place ≡ suc k
  -- a piece has numbers of listed vertices alone
  pub listed : (q : List ℕ) (n : ℕ) → Contains (piece_list s) q → Contains q n → (1 ≤ n) × (n ≤ length s.vertices)
  -- a joint lies on as many pieces by number as by place
  pub same_count : (j : Joint) → count_by (on_numbers (map (number s.vertices) j)) (piece_list s) ≡ count_by (on j) (pieces_of s.held)

-- so it is after every list of calls
abbrev pub AlwaysKept : Type 0
AlwaysKept = (o : Opening) → Laws o.meaning → (cs : List Call) → Kept o (after o cs) × Numbered (after o cs)
