-- How a face is cut tells a pixel's vertices and the numbers in its pieces.
use Rattle.std.proofs.Common.{◌≡◌, ℕ, suc, Bool, true, false, cond, ◌&&◌, List, [], ◌∷◌, map, ℤ, filter, sym, refl, ap, ◌∙◌, subst, ap₂}
use Rattle.std.proofs.lemmas.Bool.{and_parts, false≢true}
use Rattle.block.specs.Block.{Block}
use Rattle.block.specs.declared.lattice.Point.{Point}
use Rattle.cell.specs.Corner.{corner_height}
use Rattle.cell.specs.Crossing.{opposite}
use Rattle.cell.specs.Cuts.{segments_in}
use Rattle.cell.specs.Face.{FaceSegment, join, crossings, centred, face_segments, meets_level, Δ}
use Rattle.cell.specs.Interpolant.{same}
use Rattle.cell.specs.Level.{Sign, sign}
use Rattle.cell.specs.declared.face.Cut.{Cut}
use Rattle.cell.specs.declared.face.Cut.TheVariants.{Uncut, Single, Rising, Falling, Star}
use Rattle.cell.specs.declared.face.FacePoint.{FacePoint}
use Rattle.cell.specs.declared.face.FacePoint.TheVariants.{P0, P1, P2, P3, C}
use Rattle.cell.specs.declared.level.Level.{Level}
use Rattle.kind.specs.Meaning.{Readable, same_place}
use Rattle.kind.specs.Shapes.{local_pieces, number as number_among}
use Rattle.pixel_theory.specs.Kind.{pixel, face_points, present, segment_places, place_of}
use Rattle.pixel_theory.specs.Numbers.{points_in, numbers_in}
use Rattle.pixel_theory.specs.Pixel.{at_pixel, vertex_of, next_x, next_y}
use Rattle.pixel_theory.proofs.Faces.{computed, for_all}
use Rattle.pixel_theory.proofs.Laws.{same_is, same_self, place_is}
use Rattle.pixel_theory.proofs.Points.{same_points, reads_off}

-- the points that segments of a face have for vertices, in order, and the numbers of the segments' ends
abbrev points_of : List FaceSegment → List FacePoint
points_of [] = []
points_of (s ∷ []) = s.0 ∷ s.1 ∷ []
points_of (s ∷ t ∷ []) = P0 ∷ P1 ∷ P2 ∷ P3 ∷ []
points_of (s ∷ t ∷ u ∷ ss) = P0 ∷ P1 ∷ P2 ∷ P3 ∷ C ∷ []

-- the number of a point among points, counted from 1
abbrev rank : List FacePoint → FacePoint → ℕ
rank [] x = 1
rank (y ∷ ys) x = cond (same y x) 1 (suc (rank ys x))

abbrev ranks : List FaceSegment → List (List ℕ)
ranks ss = map (λ s. rank (points_of ss) s.0 ∷ rank (points_of ss) s.1 ∷ []) ss

-- ---- finite facts, computed over the signs
abbrev same_list : List FacePoint → List FacePoint → Bool
same_list [] [] = true
same_list [] (y ∷ ys) = false
same_list (x ∷ xs) [] = false
same_list (x ∷ xs) (y ∷ ys) = same x y && same_list xs ys

same_list_is : (xs ys : List FacePoint) → same_list xs ys ≡ true → xs ≡ ys
same_list_is [] [] h = refl
same_list_is [] (y ∷ ys) h = absurd (false≢true h)
same_list_is (x ∷ xs) [] h = absurd (false≢true h)
same_list_is (x ∷ xs) (y ∷ ys) h =
    let p = and_parts (same x y) (same_list xs ys) h in ap₂ (λ z zs. z ∷ zs) (same_is x y p.0) (same_list_is xs ys p.1)

-- whether a point is a vertex, by the signs
abbrev here : Sign → Sign → Sign → Sign → Sign → FacePoint → Bool
here s00 s10 s01 s11 d P0 = opposite s00 s01
here s00 s10 s01 s11 d P1 = opposite s10 s11
here s00 s10 s01 s11 d P2 = opposite s00 s10
here s00 s10 s01 s11 d P3 = opposite s01 s11
here s00 s10 s01 s11 d C = centred s00 s10 s01 s11 d

abbrev listed : Sign → Sign → Sign → Sign → Sign → FacePoint → Bool
listed s00 s10 s01 s11 d x = same_list (filter (here s00 s10 s01 s11 d) face_points) (points_of (join (crossings s00 s10 s01 s11) d))

all_listed : computed listed ≡ true
all_listed = refl

-- the ends of a segment differ
abbrev proper : List FaceSegment → Bool
proper [] = true
proper (s ∷ ss) = cond (same s.0 s.1) false (proper ss)

abbrev all_proper : Sign → Sign → Sign → Sign → Sign → FacePoint → Bool
all_proper s00 s10 s01 s11 d x = proper (join (crossings s00 s10 s01 s11) d)

every_proper : computed all_proper ≡ true
every_proper = refl

module _ (g00 g10 g01 g11 : ℤ) (off : meets_level g00 g10 g01 g11 ≡ false) where
  present_here : (x : FacePoint) → present g00 g10 g01 g11 x ≡ here (sign g00) (sign g10) (sign g01) (sign g11) (sign (Δ g00 g10 g01 g11)) x
  present_here P0 = refl
  present_here P1 = refl
  present_here P2 = refl
  present_here P3 = refl
  present_here C = refl

  kept_are : filter (present g00 g10 g01 g11) face_points ≡ points_of (face_segments g00 g10 g01 g11)
  kept_are =
      (λ i. filter (λ x. present_here x i) face_points)
      ∙ same_list_is _ _ (for_all listed all_listed (sign g00) (sign g10) (sign g01) (sign g11) (sign (Δ g00 g10 g01 g11)) off P0)

  segments_proper : proper (face_segments g00 g10 g01 g11) ≡ true
  segments_proper = for_all all_proper every_proper (sign g00) (sign g10) (sign g01) (sign g11) (sign (Δ g00 g10 g01 g11)) off P0

-- ---- what the case of a cut tells
cut_points : (k : Cut) → points_of (segments_in k) ≡ points_in k
cut_points Uncut = refl
cut_points (Single a b) = refl
cut_points Rising = refl
cut_points Falling = refl
cut_points Star = refl

differ : (t : Bool) → cond t false true ≡ true → t ≡ false
differ true h = absurd (false≢true h)
differ false h = refl

cut_ranks : (k : Cut) → proper (segments_in k) ≡ true → ranks (segments_in k) ≡ numbers_in k
cut_ranks Uncut h = refl
cut_ranks (Single a b) h =
    λ i. ((cond (same_self a i) 1 (suc (cond (same b a) 1 2))) ∷ (cond (differ (same a b) h i) 1 (suc (cond (same_self b i) 1 2))) ∷ []) ∷ []
cut_ranks Rising h = refl
cut_ranks Falling h = refl
cut_ranks Star h = refl

-- ---- numbers of places are ranks of points
module _ (b : Block) (l : Level) (c : Point) where
  number_rank : (ys : List FacePoint) (x : FacePoint) → number_among (map (at_pixel (vertex_of c) b l c) ys) (place_of c x) ≡ rank ys x
  number_rank [] x = refl
  number_rank (y ∷ ys) x =
      λ i. cond ((ap (λ p. same_place p (place_of c x)) (place_is b l c y) ∙ same_points c y x) i) 1 (suc (number_rank ys x i))

  pieces_rank : (ys : List FacePoint) (ss : List FaceSegment)
      → map (map (number_among (map (at_pixel (vertex_of c) b l c) ys))) (map (segment_places (place_of c)) ss) ≡ map (λ s. rank ys s.0 ∷ rank ys s.1 ∷ []) ss
  pieces_rank ys [] = refl
  pieces_rank ys (s ∷ ss) = λ i. (number_rank ys s.0 i ∷ number_rank ys s.1 i ∷ []) ∷ pieces_rank ys ss i

  -- the cut of a pixel that can be read gives its vertices and its pieces
  module _ (r : Readable pixel b l c) (k : Cut) (e : segments_in k ≡ at_pixel face_segments b l c) where
    abbrev g : Point → ℤ
    g p = corner_height b l p

    points_are : filter (at_pixel present b l c) face_points ≡ points_of (segments_in k)
    points_are = kept_are (g c) (g (next_x c)) (g (next_y c)) (g (next_x (next_y c))) (reads_off b l c r) ∙ ap points_of (sym e)

    pub vertices_by_cut : pixel.vertices b l c ≡ map (at_pixel (vertex_of c) b l c) (points_in k)
    vertices_by_cut = ap (map (at_pixel (vertex_of c) b l c)) (points_are ∙ cut_points k)

    pub pieces_by_cut : local_pieces pixel b l c ≡ numbers_in k
    pieces_by_cut =
        ap₂ (λ ys ss. map (map (number_among (map (at_pixel (vertex_of c) b l c) ys))) (map (segment_places (place_of c)) ss)) points_are (sym e)
        ∙ pieces_rank (points_of (segments_in k)) (segments_in k)
        ∙ cut_ranks k (subst (λ ss. proper ss ≡ true) (sym e) (segments_proper (g c) (g (next_x c)) (g (next_y c)) (g (next_x (next_y c))) (reads_off b l c r)))
