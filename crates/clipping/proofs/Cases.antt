-- A test of every way in which the signs of a voxel's corners and the Δ of its faces can fall, by computation.
use Rattle.std.proofs.Common.{◌≡◌, ℕ, suc, Bool, true, false, cond, not, ◌&&◌, eqb, ltb, leb, List, [], ◌∷◌, ◌++◌, length, refl}
use Rattle.std.proofs.lemmas.Bool.{and_parts, true≢false}
use Rattle.cell.specs.Level.{Sign, minus, none, plus, sign_is_none}
use Rattle.cell.specs.Crossing.{opposite}
use Rattle.cell.specs.Face.{FaceSegment, crossed_edges, crossings, join, joined_by_Δ, centred}
use Rattle.clipping.specs.Faces.{Segment, placed, across_x, across_y, across_z, local_vertices}
use Rattle.clipping.specs.Clip.{degree, linked, ends_at, joins}

-- both sides of the level
pub every_side : (Sign → Bool) → Bool
every_side p = p minus && p plus

every_side_at : (p : Sign → Bool) → every_side p ≡ true → (s : Sign) → sign_is_none s ≡ false → p s ≡ true
unfolding every_side
every_side_at p h minus off = (and_parts (p minus) (p plus) h).0
every_side_at p h none off = absurd (true≢false off)
every_side_at p h plus off = (and_parts (p minus) (p plus) h).1

-- every way in which a face can be joined, from which of its edges have a crossing; the test takes the segments and whether there is a centre
pub every_cut : Bool → Bool → Bool → Bool → (List FaceSegment → Bool → Bool) → Bool
every_cut p0 p1 p2 p3 test =
    cond (p0 && (p1 && (p2 && p3)))
    (test (joined_by_Δ minus) false && (test (joined_by_Δ none) true && test (joined_by_Δ plus) false))
    (test (join (crossed_edges p0 p1 p2 p3) none) false)

every_cut_at : (p0 p1 p2 p3 : Bool) (test : List FaceSegment → Bool → Bool) → every_cut p0 p1 p2 p3 test ≡ true
    → (d : Sign) → test (join (crossed_edges p0 p1 p2 p3) d) ((p0 && (p1 && (p2 && p3))) && sign_is_none d) ≡ true
unfolding every_cut
every_cut_at true true true true test h minus = (and_parts _ _ h).0
every_cut_at true true true true test h none = (and_parts _ _ (and_parts (test (joined_by_Δ minus) false) _ h).1).0
every_cut_at true true true true test h plus = (and_parts (test (joined_by_Δ none) true) _ (and_parts (test (joined_by_Δ minus) false) _ h).1).1
every_cut_at true true true false test h d = h
every_cut_at true true false true test h d = h
every_cut_at true true false false test h d = h
every_cut_at true false true true test h d = h
every_cut_at true false true false test h d = h
every_cut_at true false false true test h d = h
every_cut_at true false false false test h d = h
every_cut_at false true true true test h d = h
every_cut_at false true true false test h d = h
every_cut_at false true false true test h d = h
every_cut_at false true false false test h d = h
every_cut_at false false true true test h d = h
every_cut_at false false true false test h d = h
every_cut_at false false false true test h d = h
every_cut_at false false false false test h d = h

-- the same, from the signs at its corners
abbrev pub every_join : Sign → Sign → Sign → Sign → (List FaceSegment → Bool → Bool) → Bool
every_join s00 s10 s01 s11 test = every_cut (opposite s00 s01) (opposite s10 s11) (opposite s00 s10) (opposite s01 s11) test

every_join_at : (s00 s10 s01 s11 : Sign) (test : List FaceSegment → Bool → Bool) → every_join s00 s10 s01 s11 test ≡ true
    → (d : Sign) → test (join (crossings s00 s10 s01 s11) d) (centred s00 s10 s01 s11 d) ≡ true
every_join_at s00 s10 s01 s11 test h d = every_cut_at (opposite s00 s01) (opposite s10 s11) (opposite s00 s10) (opposite s01 s11) test h d

-- no segment twice; none with equal ends, each end a local vertex
unfoldable pub distinct : List Segment → Bool
distinct [] = true
distinct (s ∷ ss) = not (linked ss s.0 s.1) && distinct ss

unfoldable pub sound : List Segment → Bool
sound [] = true
sound (s ∷ ss) = not (eqb s.0 s.1) && (ltb s.0 local_vertices && (ltb s.1 local_vertices && sound ss))

-- the degrees from vertex k on are these
unfoldable pub degrees_are : List Segment → ℕ → List ℕ → Bool
degrees_are ss k [] = true
degrees_are ss k (d ∷ ds) = eqb (degree ss k) d && degrees_are ss (suc k) ds

-- the segments of the six faces
abbrev pub six : List FaceSegment → List FaceSegment → List FaceSegment → List FaceSegment → List FaceSegment → List FaceSegment → List Segment
six f0 f1 f2 f3 f4 f5 =
    placed (across_x 0) f0 ++ (placed (across_x 1) f1 ++ (placed (across_y 0) f2 ++ (placed (across_y 1) f3 ++ (placed (across_z 0) f4 ++ (placed (across_z 1) f5 ++ [])))))

abbrev pub two : Sign → Sign → ℕ
two s t = cond (opposite s t) 2 0

abbrev pub four : Bool → ℕ
four b = cond b 4 0

-- all of it, and at most 24 segments
unfoldable pub good : List Segment → List ℕ → Bool
good ss ds = degrees_are ss 0 ds && (distinct ss && (sound ss && leb (length ss) 24))

-- the degrees by the signs at the corners and the centres
abbrev pub expected : Sign → Sign → Sign → Sign → Sign → Sign → Sign → Sign → Bool → Bool → Bool → Bool → Bool → Bool → List ℕ
expected s0 s1 s2 s3 s4 s5 s6 s7 c0 c1 c2 c3 c4 c5 =
    two s0 s1 ∷ two s2 s3 ∷ two s4 s5 ∷ two s6 s7 ∷
    two s0 s2 ∷ two s1 s3 ∷ two s4 s6 ∷ two s5 s7 ∷
    two s0 s4 ∷ two s1 s5 ∷ two s2 s6 ∷ two s3 s7 ∷
    four c0 ∷ four c1 ∷ four c2 ∷ four c3 ∷ four c4 ∷ four c5 ∷ []

pub all_cuts : Sign → Sign → Sign → Sign → Sign → Sign → Sign → Sign → Bool
all_cuts s0 s1 s2 s3 s4 s5 s6 s7 =
    every_join s0 s2 s4 s6 λ f0 c0.
    every_join s1 s3 s5 s7 λ f1 c1.
    every_join s0 s1 s4 s5 λ f2 c2.
    every_join s2 s3 s6 s7 λ f3 c3.
    every_join s0 s1 s2 s3 λ f4 c4.
    every_join s4 s5 s6 s7 λ f5 c5.
    good (six f0 f1 f2 f3 f4 f5) (expected s0 s1 s2 s3 s4 s5 s6 s7 c0 c1 c2 c3 c4 c5)

pub all_signs : Bool
all_signs =
    every_side λ s0. every_side λ s1. every_side λ s2. every_side λ s3.
    every_side λ s4. every_side λ s5. every_side λ s6. every_side λ s7.
    all_cuts s0 s1 s2 s3 s4 s5 s6 s7

-- every voxel passes: 256 ways for the signs, 2,512 with the Δ of the faces
pub all_good : all_signs ≡ true
unfolding all_signs every_side all_cuts every_cut good degrees_are distinct sound degree linked ends_at joins
all_good = refl

-- one way of the signs and of the Δ
pub good_at : (s0 s1 s2 s3 s4 s5 s6 s7 d0 d1 d2 d3 d4 d5 : Sign)
    → sign_is_none s0 ≡ false → sign_is_none s1 ≡ false → sign_is_none s2 ≡ false → sign_is_none s3 ≡ false → sign_is_none s4 ≡ false → sign_is_none s5 ≡ false → sign_is_none s6 ≡ false → sign_is_none s7 ≡ false
    → good
    (six (join (crossings s0 s2 s4 s6) d0) (join (crossings s1 s3 s5 s7) d1) (join (crossings s0 s1 s4 s5) d2)
    (join (crossings s2 s3 s6 s7) d3) (join (crossings s0 s1 s2 s3) d4) (join (crossings s4 s5 s6 s7) d5))
    (expected s0 s1 s2 s3 s4 s5 s6 s7
    (centred s0 s2 s4 s6 d0) (centred s1 s3 s5 s7 d1) (centred s0 s1 s4 s5 d2)
    (centred s2 s3 s6 s7 d3) (centred s0 s1 s2 s3 d4) (centred s4 s5 s6 s7 d5)) ≡ true
unfolding all_signs all_cuts
good_at s0 s1 s2 s3 s4 s5 s6 s7 d0 d1 d2 d3 d4 d5 n0 n1 n2 n3 n4 n5 n6 n7 =
    let h0 = every_side_at _ all_good s0 n0 in
    let h1 = every_side_at _ h0 s1 n1 in
    let h2 = every_side_at _ h1 s2 n2 in
    let h3 = every_side_at _ h2 s3 n3 in
    let h4 = every_side_at _ h3 s4 n4 in
    let h5 = every_side_at _ h4 s5 n5 in
    let h6 = every_side_at _ h5 s6 n6 in
    let h7 = every_side_at _ h6 s7 n7 in
    let k0 = every_join_at s0 s2 s4 s6 _ h7 d0 in
    let k1 = every_join_at s1 s3 s5 s7 _ k0 d1 in
    let k2 = every_join_at s0 s1 s4 s5 _ k1 d2 in
    let k3 = every_join_at s2 s3 s6 s7 _ k2 d3 in
    let k4 = every_join_at s0 s1 s2 s3 _ k3 d4 in
    every_join_at s4 s5 s6 s7 _ k4 d5
