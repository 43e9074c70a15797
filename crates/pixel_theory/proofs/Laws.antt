-- Pixels keep every law of kinds.
use Rattle.std.proofs.Common.{◌≡◌, ℕ, ◌+◌, ◌<◌, Bool, true, false, cond, ◌&&◌, ◌||◌, ◌⊎◌, ◌↔◌, List, [], ◌∷◌, map, ℤ, Some, None, Decides, count_by, filter, get_or, unwrap_or, sym, refl, ap, ◌∙◌, subst, ap₂, inl, inr, ⊎_elim, arith}
use Rattle.std.specs.List.{Contains}
use Rattle.std.proofs.lemmas.Bool.{false≢true, and_parts, and_from, eq-eqb, eqb-true}
use Rattle.std.proofs.lemmas.Bool.Decides.{Decides-by_or}
use Rattle.std.proofs.Math.Bool.{and-true}
use Rattle.std.proofs.lemmas.List.Elements.{Decides-contains}
use Rattle.block.specs.Block.{Block}
use Rattle.block.specs.declared.lattice.Point.{Point}
use Rattle.cell.specs.Corner.{corner_height}
use Rattle.cell.specs.Crossing.{opposite, along_edge}
use Rattle.cell.specs.Face.{FaceSegment, face_segments, centre_offsets, Δ}
use Rattle.cell.specs.Interpolant.{same, number, one_if, degree}
use Rattle.cell.specs.Level.{Sign, sign}
use Rattle.cell.specs.Vertex.{no_offset, on_edge, in_face}
use Rattle.cell.specs.declared.face.FacePoint.{FacePoint}
use Rattle.cell.specs.declared.face.FacePoint.TheVariants.{P0, P1, P2, P3, C}
use Rattle.cell.specs.declared.level.Level.{Level}
use Rattle.cell.specs.declared.vertex.Axis.{Axis}
use Rattle.cell.specs.declared.vertex.Axis.TheVariants.{X, Y, Z}
use Rattle.cell.specs.declared.vertex.Form.TheVariants.{Edge, Face}
use Rattle.cell.specs.declared.vertex.Place.{Place}
use Rattle.cell.specs.declared.vertex.Side.{Side}
use Rattle.cell.specs.declared.vertex.Vertex.{Vertex}
use Rattle.kind.specs.Meaning.{Laws, Piece, Joint, Readable, Odd, Distinct, names, on, SameJoint, IsJoint, CutOf, CutOfCell, places_of}
use Rattle.kind.proofs.Counts.{counted, has_counted, count_same, count_map}
use Rattle.kind.proofs.Members.{has_none, has_here, has_there, has_cases, has_map, map_has, has_kept, kept_has, distinct_map, distinct_from_map, distinct_kept, numbered_distinct}
use Rattle.kind.proofs.Places.{names_decides}
use Rattle.pixel_theory.specs.Kind.{pixel, face_points, present, pixel_sides, upper, edge_place, segment_places, place_of}
use Rattle.pixel_theory.specs.Pixel.{at_pixel, vertex_of, next_x, next_y}
use Rattle.pixel_theory.proofs.Faces.{touches, count_touches}
use Rattle.pixel_theory.proofs.Points.{same_points, apart, reads_off}

-- ---- points of a face
numbered : (x : FacePoint) → get_or face_points (number x) C ≡ x
numbered P0 = refl
numbered P1 = refl
numbered P2 = refl
numbered P3 = refl
numbered C = refl

pub same_is : (x y : FacePoint) → same x y ≡ true → x ≡ y
same_is x y h = sym (numbered x) ∙ ap (λ n. get_or face_points n C) (eqb-true _ _ h) ∙ numbered y

pub same_self : (x : FacePoint) → same x x ≡ true
same_self x = eq-eqb (number x) (number x) refl

place_inj : (c : Point) (x y : FacePoint) → place_of c x ≡ place_of c y → x ≡ y
place_inj c x y e = same_is x y (apart c x y e)

-- whether a list of points has one
abbrev among : List FacePoint → FacePoint → Bool
among [] x = false
among (y ∷ ys) x = same y x || among ys x

among_decides : (ys : List FacePoint) (x : FacePoint) → Decides (among ys x) (Contains ys x)
among_decides ys x =
    Decides-contains ys x (among ys x) (Decides-by_or (λ y. same y x) (λ y. y ≡ x) (λ zs. among zs x)
    (λ y. (same_is y x, λ e. subst (λ w. same y w ≡ true) e (same_self y))) refl (λ _ _. refl) ys)

every_point : (x : FacePoint) → Contains face_points x
every_point P0 = (among_decides face_points P0).0 refl
every_point P1 = (among_decides face_points P1).0 refl
every_point P2 = (among_decides face_points P2).0 refl
every_point P3 = (among_decides face_points P3).0 refl
every_point C = (among_decides face_points C).0 refl

points_distinct : Distinct face_points
points_distinct = numbered_distinct number 0 face_points (refl, (refl, (refl, (refl, (refl, tt)))))

-- ---- a point is a vertex exactly where it lies on a segment
positive : (t : Bool) → t ≡ true → 0 < one_if t
positive true h = omega arith
positive false h = absurd (false≢true h)

from_positive : (t : Bool) → 0 < one_if t → t ≡ true
from_positive true h = refl
from_positive false h = absurd (omega arith)

four : (t : Bool) → t ≡ true → 0 < cond {A = ℕ} t 4 0
four true h = omega arith
four false h = absurd (false≢true h)

from_four : (t : Bool) → 0 < cond {A = ℕ} t 4 0 → t ≡ true
from_four true h = refl
from_four false h = absurd (omega arith)

present_lies : (g00 g10 g01 g11 : ℤ) (x : FacePoint) → present g00 g10 g01 g11 x ≡ true → 0 < degree (sign g00) (sign g10) (sign g01) (sign g11) (sign (Δ g00 g10 g01 g11)) x
present_lies g00 g10 g01 g11 P0 h = positive _ h
present_lies g00 g10 g01 g11 P1 h = positive _ h
present_lies g00 g10 g01 g11 P2 h = positive _ h
present_lies g00 g10 g01 g11 P3 h = positive _ h
present_lies g00 g10 g01 g11 C h = four _ h

lies_present : (g00 g10 g01 g11 : ℤ) (x : FacePoint) → 0 < degree (sign g00) (sign g10) (sign g01) (sign g11) (sign (Δ g00 g10 g01 g11)) x → present g00 g10 g01 g11 x ≡ true
lies_present g00 g10 g01 g11 P0 h = from_positive _ h
lies_present g00 g10 g01 g11 P1 h = from_positive _ h
lies_present g00 g10 g01 g11 P2 h = from_positive _ h
lies_present g00 g10 g01 g11 P3 h = from_positive _ h
lies_present g00 g10 g01 g11 C h = from_four _ h

-- ---- one pixel of a block at a level
module _ (b : Block) (l : Level) (c : Point) where
  abbrev segments : List FaceSegment
  segments = at_pixel face_segments b l c

  abbrev pieces : List Piece
  pieces = map (segment_places (place_of c)) segments

  abbrev signs : {A : Type 0} → (Sign → Sign → Sign → Sign → Sign → A) → A
  signs f = at_pixel (λ g00 g10 g01 g11. f (sign g00) (sign g10) (sign g01) (sign g11) (sign (Δ g00 g10 g01 g11))) b l c

  -- a segment's piece names the place of a point exactly where the segment touches the point
  names_is : (x : FacePoint) (s : FaceSegment) → names (segment_places (place_of c) s) (place_of c x) ≡ touches x s
  names_is x s = λ i. same_points c s.0 x i || (same_points c s.1 x i || false)

  on_is : (x : FacePoint) (s : FaceSegment) → on (place_of c x ∷ []) (segment_places (place_of c) s) ≡ touches x s
  on_is x s = and-true (names (segment_places (place_of c) s) (place_of c x)) ∙ names_is x s

  module _ (r : Readable pixel b l c) where
    -- how many pieces name a point
    count_is : (x : FacePoint) → count_by (on (place_of c x ∷ [])) pieces ≡ signs degree x
    count_is x =
        count_map (segment_places (place_of c)) (on (place_of c x ∷ [])) segments
        ∙ count_same (λ s. on (place_of c x ∷ []) (segment_places (place_of c) s)) (touches x) (on_is x) segments
        ∙ count_touches (corner_height b l c) (corner_height b l (next_x c)) (corner_height b l (next_y c)) (corner_height b l (next_x (next_y c))) (reads_off b l c r) x

    -- a place that a piece names is that of a point
    named_point : (q : Piece) (p : Place) → Contains pieces q → Contains q p → (x : FacePoint) × (place_of c x ≡ p)
    named_point q p h k =
        let m = map_has (segment_places (place_of c)) segments q h in
        let s = m.0 in
        ⊎_elim (λ e. (s.0, e))
        (λ t. ⊎_elim (λ e. (s.1, e)) (λ n. absurd (has_none p n)) (has_cases (place_of c s.1) [] p t))
        (has_cases (place_of c s.0) (place_of c s.1 ∷ []) p (subst (λ w. Contains w p) (sym m.2) k))

    -- a point is a vertex exactly where some piece names it
    present_named : (x : FacePoint) → at_pixel present b l c x ≡ true → (q : Piece) × Contains pieces q × Contains q (place_of c x)
    present_named x h =
        let some : 0 < count_by (on (place_of c x ∷ [])) pieces = subst (λ n. 0 < n) (sym (count_is x)) (present_lies (corner_height b l c) (corner_height b l (next_x c)) (corner_height b l (next_y c)) (corner_height b l (next_x (next_y c))) x h) in
        let t = counted (on (place_of c x ∷ [])) pieces some in
        (t.0, t.1, (names_decides t.0 (place_of c x)).0 (and_parts (names t.0 (place_of c x)) true t.2).0)

    named_present : (x : FacePoint) (q : Piece) → Contains pieces q → Contains q (place_of c x) → at_pixel present b l c x ≡ true
    named_present x q h k =
        let t : on (place_of c x ∷ []) q ≡ true = and_from (names q (place_of c x)) true ((names_decides q (place_of c x)).1 k) refl in
        lies_present (corner_height b l c) (corner_height b l (next_x c)) (corner_height b l (next_y c)) (corner_height b l (next_x (next_y c))) x (subst (λ n. 0 < n) (count_is x) (has_counted (on (place_of c x ∷ [])) pieces q h t))

  -- the vertex at a point stands at that point's place
  pub place_is : (x : FacePoint) → (at_pixel (vertex_of c) b l c x).place ≡ place_of c x
  place_is P0 = refl
  place_is P1 = refl
  place_is P2 = refl
  place_is P3 = refl
  place_is C = refl

  places_are : (xs : List FacePoint) → places_of (map (at_pixel (vertex_of c) b l c) xs) ≡ map (place_of c) xs
  places_are [] = refl
  places_are (x ∷ xs) = ap₂ (λ p ps. p ∷ ps) (place_is x) (places_are xs)

  abbrev kept : List FacePoint
  kept = filter (at_pixel present b l c) face_points

  pub pixel_apart : Distinct (places_of (pixel.vertices b l c))
  pixel_apart = subst Distinct (sym (places_are kept)) (distinct_kept (place_of c) (at_pixel present b l c) face_points (distinct_map (place_of c) (place_inj c) face_points points_distinct))

  module _ (r : Readable pixel b l c) where
    pub pixel_named : (p : Place) → Contains (places_of (pixel.vertices b l c)) p ↔ ((q : Piece) × Contains pieces q × Contains q p)
    pixel_named p = (to, from)
      where
        to : Contains (places_of (pixel.vertices b l c)) p → (q : Piece) × Contains pieces q × Contains q p
        to h =
            let m = map_has (place_of c) kept p (subst (λ ps. Contains ps p) (places_are kept) h) in
            let x = m.0 in
            let n = present_named r x (kept_has (at_pixel present b l c) face_points x m.1).1 in
            (n.0, n.1, subst (Contains n.0) m.2 n.2)

        from : (q : Piece) × Contains pieces q × Contains q p → Contains (places_of (pixel.vertices b l c)) p
        from n =
            let m = named_point r n.0 p n.1 n.2 in
            let x = m.0 in
            let here = named_present r x n.0 n.1 (subst (Contains n.0) (sym m.1) n.2) in
            let h = has_map (place_of c) kept x (has_kept (at_pixel present b l c) face_points x here (every_point x)) in
            subst (λ ps. Contains ps p) (sym (places_are kept)) (subst (Contains (map (place_of c) kept)) m.1 h)

-- ---- sides and their cuts
-- what stands in a list of one element, or of none
only : {A : Type 0} (t : Bool) (x i : A) → Contains (cond t (x ∷ []) []) i → (t ≡ true) × (x ≡ i)
only true x i h = (refl, ⊎_elim (λ e. e) (λ n. absurd (has_none i n)) (has_cases x [] i h))
only false x i h = absurd (has_none i h)

the_one : {A : Type 0} (t : Bool) (x : A) → t ≡ true → Contains (cond t (x ∷ []) []) x
the_one true x h = has_here x [] x refl
the_one false x h = absurd (false≢true h)

-- two joints of one vertex each are the same where the vertices are
same_one : (q p : Place) → SameJoint (q ∷ []) (p ∷ []) → q ≡ p
same_one q p h = sym (⊎_elim (λ e. e) (λ n. absurd (has_none q n)) (has_cases p [] q ((h q).0 (has_here q [] q refl))))

itself : (j : Joint) → SameJoint j j
itself j p = (λ h. h, λ h. h)

abbrev crossed : Block → Level → Side → Bool
crossed b l s = opposite (sign (corner_height b l s.point)) (sign (corner_height b l (upper s)))

-- a cut of an edge is its crossing
cut_place : (b : Block) (l : Level) (s : Side) (j : Joint) → CutOf pixel b l s j → (crossed b l s ≡ true) × SameJoint (edge_place s ∷ []) j
cut_place b l s j k =
    let o = only (crossed b l s) (edge_place s ∷ []) k.0 k.1 in
    (o.0, subst (λ i. SameJoint i j) (sym o.1) k.2)

crossing_cut : (b : Block) (l : Level) (s : Side) → crossed b l s ≡ true → CutOf pixel b l s (edge_place s ∷ [])
crossing_cut b l s t = (edge_place s ∷ [], the_one (crossed b l s) (edge_place s ∷ []) t, itself (edge_place s ∷ []))

-- the points on a pixel's sides
pub data OnSide : Type 0 where
  p0 : OnSide
  p1 : OnSide
  p2 : OnSide
  p3 : OnSide

abbrev point_on : OnSide → FacePoint
point_on p0 = P0
point_on p1 = P1
point_on p2 = P2
point_on p3 = P3

abbrev side_of : Point → OnSide → Side
side_of c p0 = record { axis = Y; point = c }
side_of c p1 = record { axis = Y; point = next_x c }
side_of c p2 = record { axis = X; point = c }
side_of c p3 = record { axis = X; point = next_y c }

has_side : (c : Point) (x : OnSide) → Contains (pixel_sides c) (side_of c x)
has_side c p0 = has_here (side_of c p0) (side_of c p1 ∷ side_of c p2 ∷ side_of c p3 ∷ []) (side_of c p0) refl
has_side c p1 = has_there (side_of c p0) (side_of c p1 ∷ side_of c p2 ∷ side_of c p3 ∷ []) (side_of c p1) (has_here (side_of c p1) (side_of c p2 ∷ side_of c p3 ∷ []) (side_of c p1) refl)
has_side c p2 =
    has_there (side_of c p0) (side_of c p1 ∷ side_of c p2 ∷ side_of c p3 ∷ []) (side_of c p2)
    (has_there (side_of c p1) (side_of c p2 ∷ side_of c p3 ∷ []) (side_of c p2) (has_here (side_of c p2) (side_of c p3 ∷ []) (side_of c p2) refl))
has_side c p3 =
    has_there (side_of c p0) (side_of c p1 ∷ side_of c p2 ∷ side_of c p3 ∷ []) (side_of c p3)
    (has_there (side_of c p1) (side_of c p2 ∷ side_of c p3 ∷ []) (side_of c p3)
    (has_there (side_of c p2) (side_of c p3 ∷ []) (side_of c p3) (has_here (side_of c p3) [] (side_of c p3) refl)))

which_side : (c : Point) (s : Side) → Contains (pixel_sides c) s → (x : OnSide) × (side_of c x ≡ s)
which_side c s h =
    ⊎_elim (λ e. (p0, e))
    (λ h1. ⊎_elim (λ e. (p1, e))
    (λ h2. ⊎_elim (λ e. (p2, e))
    (λ h3. ⊎_elim (λ e. (p3, e)) (λ n. absurd (has_none s n)) (has_cases (side_of c p3) [] s h3))
    (has_cases (side_of c p2) (side_of c p3 ∷ []) s h2))
    (has_cases (side_of c p1) (side_of c p2 ∷ side_of c p3 ∷ []) s h1))
    (has_cases (side_of c p0) (side_of c p1 ∷ side_of c p2 ∷ side_of c p3 ∷ []) s h)

odd_one : (t : Bool) → Odd (one_if t) → t ≡ true
odd_one true h = refl
odd_one false h = absurd (omega arith)

one_odd : (t : Bool) → t ≡ true → Odd (one_if t)
one_odd true h = refl
one_odd false h = absurd (false≢true h)

not_four : (t : Bool) → Odd (cond {A = ℕ} t 4 0) → ⊥
not_four true h = omega arith
not_four false h = omega arith

module _ (b : Block) (l : Level) (c : Point) (r : Readable pixel b l c) where
  -- a point that is named an odd number of times is a cut of a side
  odd_cut : (x : FacePoint) → Odd (signs b l c degree x) → CutOfCell pixel b l c (place_of c x ∷ [])
  odd_cut P0 h = (side_of c p0, has_side c p0, crossing_cut b l (side_of c p0) (odd_one _ h))
  odd_cut P1 h = (side_of c p1, has_side c p1, crossing_cut b l (side_of c p1) (odd_one _ h))
  odd_cut P2 h = (side_of c p2, has_side c p2, crossing_cut b l (side_of c p2) (odd_one _ h))
  odd_cut P3 h = (side_of c p3, has_side c p3, crossing_cut b l (side_of c p3) (odd_one _ h))
  odd_cut C h = absurd (not_four _ h)

  -- and conversely
  crossed_odd : (x : OnSide) → crossed b l (side_of c x) ≡ true → Odd (signs b l c degree (point_on x))
  crossed_odd p0 t = one_odd _ t
  crossed_odd p1 t = one_odd _ t
  crossed_odd p2 t = one_odd _ t
  crossed_odd p3 t = one_odd _ t

  on_place : (x : OnSide) → edge_place (side_of c x) ≡ place_of c (point_on x)
  on_place p0 = refl
  on_place p1 = refl
  on_place p2 = refl
  on_place p3 = refl

  one_parity : (p : Place) → Odd (count_by (on (p ∷ [])) (pieces b l c)) ↔ CutOfCell pixel b l c (p ∷ [])
  one_parity p = (to, from)
    where
      to : Odd (count_by (on (p ∷ [])) (pieces b l c)) → CutOfCell pixel b l c (p ∷ [])
      to h =
          let t = counted (on (p ∷ [])) (pieces b l c) (omega arith) in
          let k = (names_decides t.0 p).0 (and_parts (names t.0 p) true t.2).0 in
          let m = named_point b l c r t.0 p t.1 k in
          let o = subst (λ q. Odd (count_by (on (q ∷ [])) (pieces b l c))) (sym m.1) h in
          subst (λ q. CutOfCell pixel b l c (q ∷ [])) m.1 (odd_cut m.0 (subst Odd (count_is b l c r m.0) o))

      from : CutOfCell pixel b l c (p ∷ []) → Odd (count_by (on (p ∷ [])) (pieces b l c))
      from k =
          let w = which_side c k.0 k.1 in
          let x = w.0 in
          let cut = cut_place b l (side_of c x) (p ∷ []) (subst (λ s. CutOf pixel b l s (p ∷ [])) (sym w.1) k.2) in
          let at = sym (on_place x) ∙ same_one (edge_place (side_of c x)) p cut.1 in
          subst (λ q. Odd (count_by (on (q ∷ [])) (pieces b l c))) at (subst Odd (sym (count_is b l c r (point_on x))) (crossed_odd x cut.0))

  pub pixel_parity : (j : Joint) → IsJoint pixel j → Odd (count_by (on j) (pieces b l c)) ↔ CutOfCell pixel b l c j
  pixel_parity [] h = absurd (let e = h.0 in omega arith)
  pixel_parity (p ∷ []) h = one_parity p
  pixel_parity (p ∷ q ∷ j) h = absurd (let e = h.0 in omega arith)

-- the place of an edge tells the edge
edge_inj : (s t : Side) → edge_place s ≡ edge_place t → s ≡ t
edge_inj s t e = λ i. record { axis = axis_is i; point = (e i).point }
  where
    axis_is : s.axis ≡ t.axis
    axis_is = ap (λ p. unwrap_or p.axis X) e

pub pixel_one_side : (b : Block) (l : Level) (s t : Side) (j : Joint) → CutOf pixel b l s j → CutOf pixel b l t j → s ≡ t
pixel_one_side b l s t j h k =
    let p = (cut_place b l s j h).1 in
    let q = (cut_place b l t j k).1 in
    let here = (q (edge_place s)).1 ((p (edge_place s)).0 (has_here (edge_place s) [] (edge_place s) refl)) in
    edge_inj s t (sym (⊎_elim (λ e. e) (λ n. absurd (has_none (edge_place s) n)) (has_cases (edge_place t) [] (edge_place s) here)))

-- a pixel on the other side of an edge starts one step back, across the edge
abbrev across : Axis → Point → Point
across X c = next_y c
across Y c = next_x c
across Z c = c

across_inj : (a : Axis) (c d : Point) → across a c ≡ across a d → c ≡ d
across_inj X c d e = λ i. record { x = (e i).x; y = suc_inj (ap (λ p. p.y) e) i; z = (e i).z }
  where
    suc_inj : {m n : ℕ} → m + 1 ≡ n + 1 → m ≡ n
    suc_inj h = omega arith
across_inj Y c d e = λ i. record { x = suc_inj (ap (λ p. p.x) e) i; y = (e i).y; z = (e i).z }
  where
    suc_inj : {m n : ℕ} → m + 1 ≡ n + 1 → m ≡ n
    suc_inj h = omega arith
across_inj Z c d e = e

starts : (c : Point) (s : Side) → Contains (pixel_sides c) s → (c ≡ s.point) ⊎ (across s.axis c ≡ s.point)
starts c s h = let w = which_side c s h in go w.0 w.1
  where
    go : (x : OnSide) → side_of c x ≡ s → (c ≡ s.point) ⊎ (across s.axis c ≡ s.point)
    go p0 e = inl (ap (λ t. t.point) e)
    go p1 e = inr (subst (λ t. across t.axis c ≡ t.point) e refl)
    go p2 e = inl (ap (λ t. t.point) e)
    go p3 e = inr (subst (λ t. across t.axis c ≡ t.point) e refl)

-- of three cells that each start at one of two places, two start at the same
two_of_three : (a : Axis) (q c d e : Point) → (c ≡ q) ⊎ (across a c ≡ q) → (d ≡ q) ⊎ (across a d ≡ q) → (e ≡ q) ⊎ (across a e ≡ q) → (c ≡ d) ⊎ (d ≡ e) ⊎ (c ≡ e)
two_of_three a q c d e (inl x) (inl y) z = inl (x ∙ sym y)
two_of_three a q c d e (inl x) (inr y) (inl z) = inr (inr (x ∙ sym z))
two_of_three a q c d e (inl x) (inr y) (inr z) = inr (inl (across_inj a d e (y ∙ sym z)))
two_of_three a q c d e (inr x) (inl y) (inl z) = inr (inl (y ∙ sym z))
two_of_three a q c d e (inr x) (inl y) (inr z) = inr (inr (across_inj a c e (x ∙ sym z)))
two_of_three a q c d e (inr x) (inr y) z = inl (across_inj a c d (x ∙ sym y))

pub pixel_two_cells : (c d e : Point) (s : Side) → Contains (pixel_sides c) s → Contains (pixel_sides d) s → Contains (pixel_sides e) s → (c ≡ d) ⊎ (d ≡ e) ⊎ (c ≡ e)
pixel_two_cells c d e s h k g = two_of_three s.axis s.point c d e (starts c s h) (starts d s k) (starts e s g)

pub pixel_sides_once : (c : Point) → Distinct (pixel_sides c)
pixel_sides_once c = distinct_from_map edge_place (pixel_sides c) (distinct_map (place_of c) (place_inj c) (P0 ∷ P1 ∷ P2 ∷ P3 ∷ []) (numbered_distinct number 0 (P0 ∷ P1 ∷ P2 ∷ P3 ∷ []) (refl, (refl, (refl, (refl, tt))))))

-- ---- a vertex by its place alone
abbrev vertex_at : Block → Level → Place → Vertex
vertex_at b l p = elim p.form [
  | Some f ↦ elim f [
    | Edge ↦ on_edge (unwrap_or p.axis X) p.point (along_edge (corner_height b l p.point) (corner_height b l (upper (record { axis = unwrap_or p.axis X; point = p.point }))))
    | Face ↦ in_face Z p.point (at_pixel centre_offsets b l p.point).first (at_pixel centre_offsets b l p.point).second
  ]
  | None ↦ on_edge X p.point no_offset
]

by_place : (b : Block) (l : Level) (c : Point) (x : FacePoint) → at_pixel (vertex_of c) b l c x ≡ vertex_at b l (place_of c x)
by_place b l c P0 = refl
by_place b l c P1 = refl
by_place b l c P2 = refl
by_place b l c P3 = refl
by_place b l c C = refl

stands_by : (b : Block) (l : Level) (c : Point) (v : Vertex) → Contains (pixel.vertices b l c) v → v ≡ vertex_at b l v.place
stands_by b l c v h =
    let m = map_has (at_pixel (vertex_of c) b l c) (kept b l c) v h in
    let x = m.0 in
    let p : place_of c x ≡ v.place = sym (place_is b l c x) ∙ ap (λ w. w.place) m.2 in
    sym m.2 ∙ by_place b l c x ∙ ap (vertex_at b l) p

pub pixel_offsets : (b : Block) (l : Level) (c d : Point) (v w : Vertex) → Contains (pixel.vertices b l c) v → Contains (pixel.vertices b l d) w → v.place ≡ w.place → v ≡ w
pixel_offsets b l c d v w h k e = stands_by b l c v h ∙ ap (vertex_at b l) e ∙ sym (stands_by b l d w k)

pub pixel_laws : Laws pixel
pixel_laws = record {
  parity = λ b l c j r h. pixel_parity b l c r j h;
  one_side = λ b l c d s t j r q h k. pixel_one_side b l s t j;
  two_cells = λ n c d e s p q r. pixel_two_cells c d e s;
  apart = λ b l c r. pixel_apart b l c;
  named = λ b l c p r. pixel_named b l c r p;
  offsets = λ b l c d v w r q. pixel_offsets b l c d v w;
  sides_once = pixel_sides_once;
}
