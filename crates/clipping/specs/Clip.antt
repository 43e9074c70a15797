-- The clipping of a set of segments into triangles: the last definition says which, and those above it how.
use Rattle.std.specs.Prelude.{ℕ, zero, suc, Bool, false, if◌then◌else◌, ◌&&◌, ◌||◌, List, [], ◌∷◌, length, count_by, filter, ◌==◌, nat_eq, nat_lt}
use Rattle.clipping.specs.Faces.{Segment, local_vertices, local_order}

-- the apex v of a turn and its two lowest neighbours a < b
abbrev pub Triangle : Type 0
Triangle = ℕ × ℕ × ℕ

-- whether a segment has a vertex for an end
unfoldable pub ends_at : ℕ → Segment → Bool
ends_at v s = s.0 == v || s.1 == v

-- whether a segment has these two ends, in either order
unfoldable pub joins : ℕ → ℕ → Segment → Bool
joins u v s = (s.0 == u && s.1 == v) || (s.0 == v && s.1 == u)

-- on how many segments a vertex lies
unfoldable pub degree : List Segment → ℕ → ℕ
degree ss v = count_by (ends_at v) ss

-- the vertices on segments, in local order
abbrev pub is_on : List Segment → ℕ → Bool
is_on ss v = nat_lt 0 (degree ss v)

abbrev pub vertices_on : List Segment → List ℕ
vertices_on ss = filter (is_on ss) local_order

-- whether the segment between two vertices is in the set: the vertices are neighbours then
unfoldable pub linked : List Segment → ℕ → ℕ → Bool
linked [] u v = false
linked (s ∷ ss) u v = joins u v s || linked ss u v

-- the set without the segment between two vertices
unfoldable pub strike : List Segment → ℕ → ℕ → List Segment
strike [] u v = []
strike (s ∷ ss) u v = if joins u v s then ss else s ∷ strike ss u v

-- the segment is struck if it was in the set, and entered if not
unfoldable pub toggle : List Segment → ℕ → ℕ → List Segment
toggle ss u v = if linked ss u v then strike ss u v else (u, v) ∷ ss

-- the lowest number below n that passes, or n if none does
unfoldable pub lowest : (ℕ → Bool) → ℕ → ℕ
lowest p zero = zero
lowest p (suc n) =
    let k : ℕ = lowest p n in
    let here : ℕ = if p n then n else suc n in
    if nat_lt k n then k else here

-- the lowest vertex on exactly two segments, or, if there is none, the lowest on four
unfoldable pub apex : List Segment → ℕ
apex ss =
    let two : ℕ = lowest (λ v. nat_eq (degree ss v) 2) local_vertices in
    let four : ℕ = lowest (λ v. nat_eq (degree ss v) 4) local_vertices in
    if nat_lt two local_vertices then two else four

-- the lowest neighbour of a vertex
unfoldable pub neighbour : List Segment → ℕ → ℕ
neighbour ss v = lowest (linked ss v) local_vertices

-- One turn: the apex v with its two lowest neighbours a and b. The second is the lowest once va is struck.
pub record Turn : Type 0 where
  pub triangle : Triangle
  pub after : List Segment

unfoldable pub turn : List Segment → Turn
turn ss =
    let v : ℕ = apex ss in
    let a : ℕ = neighbour ss v in
    let without_a : List Segment = strike ss v a in
    let b : ℕ = neighbour without_a v in
    record { triangle = (v, a, b); after = toggle (strike without_a v b) a b }

-- the triangles that are written in at most n turns, while the set is not empty
unfoldable pub clip : ℕ → List Segment → List Triangle
clip zero ss = []
clip (suc n) [] = []
clip (suc n) (s ∷ ss) = let t : Turn = turn (s ∷ ss) in t.triangle ∷ clip n t.after

-- what is left of the set after at most n turns
unfoldable pub left : ℕ → List Segment → List Segment
left zero ss = ss
left (suc n) [] = []
left (suc n) (s ∷ ss) = left n (turn (s ∷ ss)).after

-- one turn after another until nothing is left: every turn takes at least one segment away, so there are no more turns than segments
unfoldable pub triangles : List Segment → List Triangle
triangles ss = clip (length ss) ss
