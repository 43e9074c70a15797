-- A withdrawal by numbers: which vertices the struck pieces leave unnamed, and how the other numbers follow.
use Rattle.std.specs.Prelude.{◌≡◌, ℕ, suc, ◌-◌, Bool, false, if◌then◌else◌, ◌&&◌, ◌||◌, List, [], ◌∷◌, ◌++◌, map, take, drop, sum_by, count_by, nat_lt}
use Rattle.block.specs.declared.lattice.Point.{Point}
use Rattle.cell.specs.declared.vertex.Vertex.{Vertex}
use Rattle.kind.specs.Meaning.{Piece}
use Rattle.kind.specs.Shapes.{number}
use Rattle.surface.specs.Changes.{Split}
use Rattle.surface.specs.Kept.{has_number}
use Rattle.surface.specs.Ledger.{State, pieces_of, piece_list, struck}

-- whether some piece has a number
abbrev pub any_names : List (List ℕ) → ℕ → Bool
any_names [] n = false
any_names (q ∷ qs) n = has_number q n || any_names qs n

-- 0 in place of a number that other pieces have
abbrev pub spare : List (List ℕ) → ℕ → ℕ
spare others k = if any_names others k then 0 else k

-- each element changed by those before it
abbrev pub by_before : {X : Type 0} → (List X → X → X) → List X → List X → List X
by_before f seen [] = []
by_before f seen (x ∷ xs) = f seen x ∷ by_before f (seen ++ x ∷ []) xs

-- a piece's numbers, each at its first place alone
abbrev pub once : List ℕ → List ℕ
once q = by_before (λ seen k. if has_number seen k then 0 else k) [] q

-- the numbers of pieces, each in its first piece alone, and there once
abbrev pub singled : List (List ℕ) → List (List ℕ)
singled qs = by_before (λ seen q. once (map (spare seen) q)) [] qs

-- what is left of the numbers of pieces that go: each that no piece has that stays, once
abbrev pub unnamed : List (List ℕ) → List (List ℕ) → List (List ℕ)
unnamed gone stay = map (map (spare stay)) (singled gone)

-- how many numbers in pieces are below one
abbrev pub below : List (List ℕ) → ℕ → ℕ
below qs n = sum_by (λ q. count_by (λ k. nat_lt 0 k && nat_lt k n) q) qs

-- a number once the vertices are struck whose numbers stand in pieces
abbrev pub lowered : List (List ℕ) → ℕ → ℕ
lowered lost k = k - below lost k

-- the vertices from the number n on whose numbers stand in no piece
abbrev pub unstruck : List (List ℕ) → ℕ → List Vertex → List Vertex
unstruck lost n [] = []
unstruck lost n (v ∷ vs) = if any_names lost n then unstruck lost (suc n) vs else v ∷ unstruck lost (suc n) vs

-- the pieces of which n go, from a place on: what is left of these, and the others with the numbers that follow
abbrev pub struck_out : ℕ → ℕ → List (List ℕ) → List (List ℕ)
struck_out start n qs =
    let before : List (List ℕ) = take start qs in
    let gone : List (List ℕ) = take n (drop start qs) in
    let behind : List (List ℕ) = drop n (drop start qs) in
    let lost : List (List ℕ) = unnamed gone (before ++ behind) in
    map (map (lowered lost)) before ++ (lost ++ map (map (lowered lost)) behind)

-- by numbers a withdrawal leaves the lists that it leaves by places
module _ (s : State) (c : Point) (t : Split s.held c) where
  abbrev pub by_number : List Piece → List (List ℕ)
  by_number qs = map (map (number s.vertices)) qs

  abbrev pub lost_of : List (List ℕ)
  lost_of = unnamed (by_number t.cell.pieces) (by_number (pieces_of t.before) ++ by_number (pieces_of t.behind))

  pub record Strikes : Type 0 where
    pub vertices : unstruck lost_of 1 s.vertices ≡ (struck s c).vertices
    pub pieces : map (map (lowered lost_of)) (by_number (pieces_of t.before)) ++ map (map (lowered lost_of)) (by_number (pieces_of t.behind)) ≡ piece_list (struck s c)
