-- A set of segments as a mask for each local vertex: bit u of mask v is set where the segment between u and v is in the set.
use Rattle.std.specs.Prelude.{◌≡◌, ℕ, ◌/◌, ◌%◌, ◌^◌, ◌<◌, ◌≤◌, if◌then◌else◌, ltb, List, [], ◌∷◌, length, replicate, filter, bit_xor, count_ones, nat_eq, nat_lt, slice_index, slice_set}
use Rattle.clipping.specs.Faces.{Segment, local_vertices, local_order}
use Rattle.clipping.specs.Clip.{Triangle, degree, lowest, triangles}
use Rattle.clipping.specs.Laws.{times, Tame, most_segments}

-- the bit at a place, 0 or 1
abbrev pub digit : ℕ → ℕ → ℕ
digit n k = n / 2 ^ k % 2

-- what the masks mean
pub record Means (xs : List ℕ) (ss : List Segment) : Type 0 where
  pub long : length xs ≡ local_vertices
  pub digits : (u v : ℕ) → u < local_vertices → v < local_vertices → digit (slice_index xs u) v ≡ times ss u v
  pub counts : (u : ℕ) → u < local_vertices → count_ones (slice_index xs u) ≡ degree ss u
  pub small : (u : ℕ) → u < local_vertices → slice_index xs u < 2 ^ local_vertices

-- the masks of the empty set
abbrev pub blank : List ℕ
blank = replicate local_vertices 0

-- the masks with one segment struck or entered
abbrev pub flip : ℕ → ℕ → ℕ
flip n k = bit_xor n (2 ^ k)

unfoldable pub flipped : List ℕ → ℕ → ℕ → List ℕ
flipped xs u v = slice_set xs u (flip (slice_index xs u) v)

unfoldable pub toggled : List ℕ → ℕ → ℕ → List ℕ
toggled xs u v = flipped (flipped xs u v) v u

-- the masks with each segment of a list struck or entered in turn
abbrev pub entered : List ℕ → List Segment → List ℕ
entered xs [] = xs
entered xs (s ∷ ss) = entered (toggled xs s.0 s.1) ss

-- the lowest vertex with two bits set, or else with four
abbrev pub apex_of : List ℕ → ℕ
apex_of xs =
    let two : ℕ = lowest (λ v. nat_eq (count_ones (slice_index xs v)) 2) local_vertices in
    let four : ℕ = lowest (λ v. nat_eq (count_ones (slice_index xs v)) 4) local_vertices in
    if nat_lt two local_vertices then two else four

-- the vertices whose mask is not empty, in local order
abbrev pub used_in : List ℕ → List ℕ
used_in xs = filter (λ v. ltb 0 (count_ones (slice_index xs v))) local_order

-- the masks mean a tame set that is no larger than a voxel's
pub record Clippable (xs : List ℕ) : Type 0 where
  pub segments : List Segment
  pub means : Means xs segments
  pub tame : Tame segments
  pub few : length segments ≤ most_segments

-- after a turn on a set the masks mean a smaller tame one, whose triangles follow the one written
pub record Stepped (ss : List Segment) (xs : List ℕ) (t : Triangle) : Type 0 where
  pub rest : List Segment
  pub means : Means xs rest
  pub tame : Tame rest
  pub first : triangles ss ≡ t ∷ triangles rest
  pub fewer : length rest < length ss
