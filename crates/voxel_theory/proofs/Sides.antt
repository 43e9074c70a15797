-- The sides of voxels: each is listed once, belongs to at most two voxels, and is told by any two of its points.
use Rattle.std.proofs.Common.{◌≡◌, ℕ, ◌+◌, ◌-◌, min, Bool, true, false, cond, eqb, ◌⊎◌, List, ℤ, Some, None, Option, sym, refl, ap, ◌∙◌, subst, ap₂, inl, inr, ⊎_elim, arith}
use Rattle.std.specs.List.{Contains, AllByRecursion}
use Rattle.std.proofs.lemmas.List.Elements.{All-contains, All-from_recursion}
use Rattle.std.proofs.lemmas.Bool.{eq-eqb, ne_eqb, cond-true, cond-false}
use Rattle.block.specs.Block.{Block}
use Rattle.block.specs.declared.lattice.Point.{Point}
use Rattle.cell.specs.Level.{Sign, minus, none, plus, sign}
use Rattle.cell.specs.Corner.{corner_height}
use Rattle.cell.specs.Crossing.{opposite}
use Rattle.cell.specs.Face.{FaceSegment, face_segments, join, crossed_edges, Δ}
use Rattle.kind.specs.Meaning.{Joint, Distinct, SameJoint, CutOf}
use Rattle.cell.specs.declared.face.FacePoint.{FacePoint}
use Rattle.cell.specs.declared.face.FacePoint.TheVariants.{P0, P1, P2, P3, C}
use Rattle.cell.specs.declared.level.Level.{Level}
use Rattle.cell.specs.declared.vertex.Axis.{Axis}
use Rattle.cell.specs.declared.vertex.Axis.TheVariants.{X, Y, Z}
use Rattle.cell.specs.declared.vertex.Form.{Form}
use Rattle.cell.specs.declared.vertex.Form.TheVariants.{Edge, Face}
use Rattle.cell.specs.declared.vertex.Place.{Place}
use Rattle.cell.specs.declared.vertex.Side.{Side}
use Rattle.kind.proofs.Members.{pair_same, map_has, Numbered, numbered_distinct}
use Rattle.voxel_theory.specs.Voxel.{voxel, next, first_axis, second_axis, side, sides, face_place, at_heights, joint_of}

-- ---- each side once
-- a side's number, by its axis and its steps from the voxel's lowest corner
abbrev side_number : Axis → ℕ → ℕ → ℕ → ℕ
side_number X dx dy dz = dx
side_number Y dx dy dz = 2 + dy
side_number Z dx dy dz = 4 + dz

abbrev number_in : Point → Side → ℕ
number_in c s = side_number s.axis (s.point.x - c.x) (s.point.y - c.y) (s.point.z - c.z)

sides_numbered : (c : Point) → Numbered (number_in c) 0 (sides c)
sides_numbered c = (omega arith, (omega arith, (omega arith, (omega arith, (omega arith, (omega arith, tt))))))

pub sides_once : (c : Point) → Distinct (sides c)
sides_once c = numbered_distinct (number_in c) 0 (sides c) (sides_numbered c)

-- ---- two voxels
-- a side is at its voxel's lowest corner, or one step on along its axis
abbrev Beside : Point → Side → Type 0
Beside c s = (s.point ≡ c) ⊎ (s.point ≡ next s.axis c)

beside : (c : Point) (s : Side) → Contains (sides c) s → Beside c s
beside c s h = All-contains (Beside c) (sides c) s (All-from_recursion (Beside c) (sides c) (inl refl, (inr refl, (inl refl, (inr refl, (inl refl, (inr refl, tt))))))) h

one_less : (m n : ℕ) → m + 1 ≡ n + 1 → m ≡ n
one_less m n e = omega arith

next_same : (a : Axis) (p q : Point) → next a p ≡ next a q → p ≡ q
next_same X p q e = λ i. record { x = one_less p.x q.x (ap (λ (r : Point). r.x) e) i; y = (e i).y; z = (e i).z }
next_same Y p q e = λ i. record { x = (e i).x; y = one_less p.y q.y (ap (λ (r : Point). r.y) e) i; z = (e i).z }
next_same Z p q e = λ i. record { x = (e i).x; y = (e i).y; z = one_less p.z q.z (ap (λ (r : Point). r.z) e) i }

pub two_voxels : (c d e : Point) (s : Side) → Contains (sides c) s → Contains (sides d) s → Contains (sides e) s → (c ≡ d) ⊎ (d ≡ e) ⊎ (c ≡ e)
two_voxels c d e s hc hd he = go (beside c s hc) (beside d s hd) (beside e s he)
  where
    low : (p q : Point) → s.point ≡ p → s.point ≡ q → p ≡ q
    low p q u v = sym u ∙ v

    high : (p q : Point) → s.point ≡ next s.axis p → s.point ≡ next s.axis q → p ≡ q
    high p q u v = next_same s.axis p q (sym u ∙ v)

    go : Beside c s → Beside d s → Beside e s → (c ≡ d) ⊎ (d ≡ e) ⊎ (c ≡ e)
    go (inl u) (inl v) w = inl (low c d u v)
    go (inl u) (inr v) (inl w) = inr (inr (low c e u w))
    go (inl u) (inr v) (inr w) = inr (inl (high d e v w))
    go (inr u) (inl v) (inl w) = inr (inl (low d e v w))
    go (inr u) (inl v) (inr w) = inr (inr (high c e u w))
    go (inr u) (inr v) w = inl (high c d u v)

-- ---- the side of two places on one face
-- of two edges: where they are along one axis, neither that one nor the one in which their points differ, else the third
abbrev between_edges : Axis → Axis → Point → Point → Axis
between_edges X X p q = cond (eqb p.y q.y) Y Z
between_edges X Y p q = Z
between_edges X Z p q = Y
between_edges Y X p q = Z
between_edges Y Y p q = cond (eqb p.x q.x) X Z
between_edges Y Z p q = X
between_edges Z X p q = Y
between_edges Z Y p q = X
between_edges Z Z p q = cond (eqb p.x q.x) X Y

-- a centre has the face's own axis
abbrev normal : Option Form → Option Axis → Option Form → Option Axis → Point → Point → Axis
normal None a g e p q = X
normal (Some f) None g e p q = X
normal (Some Face) (Some a) g e p q = a
normal (Some Edge) (Some a) None e p q = X
normal (Some Edge) (Some a) (Some g) None p q = X
normal (Some Edge) (Some a) (Some Face) (Some e) p q = e
normal (Some Edge) (Some a) (Some Edge) (Some e) p q = between_edges a e p q

abbrev lower : Point → Point → Point
lower p q = record { x = min p.x q.x; y = min p.y q.y; z = min p.z q.z }

abbrev side_of : Place → Place → Side
side_of u v = side (normal u.form u.axis v.form v.axis u.point v.point) (lower u.point v.point)

-- the lower of two points
min_same : (n : ℕ) → min n n ≡ n
min_same n = omega arith

min_next : (n : ℕ) → min n (n + 1) ≡ n
min_next n = omega arith

next_min : (n : ℕ) → min (n + 1) n ≡ n
next_min n = omega arith

lower_same : (p : Point) → lower p p ≡ p
lower_same p = λ i. record { x = min_same p.x i; y = min_same p.y i; z = min_same p.z i }

lower_next : (a : Axis) (p : Point) → lower p (next a p) ≡ p
lower_next X p = λ i. record { x = min_next p.x i; y = min_same p.y i; z = min_same p.z i }
lower_next Y p = λ i. record { x = min_same p.x i; y = min_next p.y i; z = min_same p.z i }
lower_next Z p = λ i. record { x = min_same p.x i; y = min_same p.y i; z = min_next p.z i }

next_lower : (a : Axis) (p : Point) → lower (next a p) p ≡ p
next_lower X p = λ i. record { x = next_min p.x i; y = min_same p.y i; z = min_same p.z i }
next_lower Y p = λ i. record { x = min_same p.x i; y = next_min p.y i; z = min_same p.z i }
next_lower Z p = λ i. record { x = min_same p.x i; y = min_same p.y i; z = next_min p.z i }

lower_both : (a : Axis) (p : Point) → lower (next (first_axis a) p) (next (second_axis a) p) ≡ p
lower_both X p = λ i. record { x = min_same p.x i; y = next_min p.y i; z = min_next p.z i }
lower_both Y p = λ i. record { x = next_min p.x i; y = min_same p.y i; z = min_next p.z i }
lower_both Z p = λ i. record { x = next_min p.x i; y = min_next p.y i; z = min_same p.z i }

both_lower : (a : Axis) (p : Point) → lower (next (second_axis a) p) (next (first_axis a) p) ≡ p
both_lower X p = λ i. record { x = min_same p.x i; y = min_next p.y i; z = next_min p.z i }
both_lower Y p = λ i. record { x = min_next p.x i; y = min_same p.y i; z = next_min p.z i }
both_lower Z p = λ i. record { x = min_next p.x i; y = next_min p.y i; z = min_same p.z i }

-- the axis of two edges
crosswise : (a : Axis) (p q : Point) → between_edges (second_axis a) (first_axis a) p q ≡ a
crosswise X p q = refl
crosswise Y p q = refl
crosswise Z p q = refl

wise_cross : (a : Axis) (p q : Point) → between_edges (first_axis a) (second_axis a) p q ≡ a
wise_cross X p q = refl
wise_cross Y p q = refl
wise_cross Z p q = refl

pick_true : (a b : Axis) (m n : ℕ) → m ≡ n → cond (eqb m n) a b ≡ a
pick_true a b m n e = cond-true (eqb m n) a b (eq-eqb m n e)

pick_false : (a b : Axis) (m n : ℕ) → (m ≡ n → ⊥) → cond (eqb m n) a b ≡ b
pick_false a b m n e = cond-false (eqb m n) a b (ne_eqb m n e)

along_second : (a : Axis) (p : Point) → between_edges (second_axis a) (second_axis a) p (next (first_axis a) p) ≡ a
along_second X p = pick_true X Y p.x p.x refl
along_second Y p = pick_false X Y p.x (p.x + 1) (λ e. omega arith)
along_second Z p = pick_false X Z p.x (p.x + 1) (λ e. omega arith)

second_along : (a : Axis) (p : Point) → between_edges (second_axis a) (second_axis a) (next (first_axis a) p) p ≡ a
second_along X p = pick_true X Y p.x p.x refl
second_along Y p = pick_false X Y (p.x + 1) p.x (λ e. omega arith)
second_along Z p = pick_false X Z (p.x + 1) p.x (λ e. omega arith)

along_first : (a : Axis) (p : Point) → between_edges (first_axis a) (first_axis a) p (next (second_axis a) p) ≡ a
along_first X p = pick_true X Z p.x p.x refl
along_first Y p = pick_true Y Z p.y p.y refl
along_first Z p = pick_false Y Z p.y (p.y + 1) (λ e. omega arith)

first_along : (a : Axis) (p : Point) → between_edges (first_axis a) (first_axis a) (next (second_axis a) p) p ≡ a
first_along X p = pick_true X Z p.x p.x refl
first_along Y p = pick_true Y Z p.y p.y refl
first_along Z p = pick_false Y Z (p.y + 1) p.y (λ e. omega arith)

-- the points that a face's segments join
data Joined : FacePoint → FacePoint → Type 0 where
  j01 : Joined P0 P1
  j02 : Joined P0 P2
  j03 : Joined P0 P3
  j12 : Joined P1 P2
  j13 : Joined P1 P3
  j23 : Joined P2 P3
  j0C : Joined P0 C
  j1C : Joined P1 C
  j2C : Joined P2 C
  j3C : Joined P3 C

made : (s t : Side) → s.axis ≡ t.axis → s.point ≡ t.point → s ≡ t
made s t e f = λ i. record { axis = e i; point = f i }

restored : (s : Side) {x y : FacePoint} → Joined x y → side_of (face_place s x) (face_place s y) ≡ s
restored s j01 = made _ s (along_second s.axis s.point) (lower_next (first_axis s.axis) s.point)
restored s j02 = made _ s (crosswise s.axis _ _) (lower_same s.point)
restored s j03 = made _ s (crosswise s.axis _ _) (lower_next (second_axis s.axis) s.point)
restored s j12 = made _ s (crosswise s.axis _ _) (next_lower (first_axis s.axis) s.point)
restored s j13 = made _ s (crosswise s.axis _ _) (lower_both s.axis s.point)
restored s j23 = made _ s (along_first s.axis s.point) (lower_next (second_axis s.axis) s.point)
restored s j0C = made _ s refl (lower_same s.point)
restored s j1C = made _ s refl (next_lower (first_axis s.axis) s.point)
restored s j2C = made _ s refl (lower_same s.point)
restored s j3C = made _ s refl (next_lower (second_axis s.axis) s.point)

restored_back : (s : Side) {x y : FacePoint} → Joined x y → side_of (face_place s y) (face_place s x) ≡ s
restored_back s j01 = made _ s (second_along s.axis s.point) (next_lower (first_axis s.axis) s.point)
restored_back s j02 = made _ s (wise_cross s.axis _ _) (lower_same s.point)
restored_back s j03 = made _ s (wise_cross s.axis _ _) (next_lower (second_axis s.axis) s.point)
restored_back s j12 = made _ s (wise_cross s.axis _ _) (lower_next (first_axis s.axis) s.point)
restored_back s j13 = made _ s (wise_cross s.axis _ _) (both_lower s.axis s.point)
restored_back s j23 = made _ s (first_along s.axis s.point) (next_lower (second_axis s.axis) s.point)
restored_back s j0C = made _ s refl (lower_same s.point)
restored_back s j1C = made _ s refl (lower_next (first_axis s.axis) s.point)
restored_back s j2C = made _ s refl (lower_same s.point)
restored_back s j3C = made _ s refl (lower_next (second_axis s.axis) s.point)

abbrev IsJoined : FaceSegment → Type 0
IsJoined t = Joined t.0 t.1

abbrev AllJoined : List FaceSegment → Type 0
AllJoined ts = AllByRecursion IsJoined ts

all_joined : (p0 p1 p2 p3 : Bool) (d : Sign) → AllJoined (join (crossed_edges p0 p1 p2 p3) d)
all_joined true true true true minus = (j02, (j13, tt))
all_joined true true true true none = (j0C, (j1C, (j2C, (j3C, tt))))
all_joined true true true true plus = (j03, (j12, tt))
all_joined true true true false d = tt
all_joined true true false true d = tt
all_joined true true false false d = (j01, tt)
all_joined true false true true d = tt
all_joined true false true false d = (j02, tt)
all_joined true false false true d = (j03, tt)
all_joined true false false false d = tt
all_joined false true true true d = tt
all_joined false true true false d = (j12, tt)
all_joined false true false true d = (j13, tt)
all_joined false true false false d = tt
all_joined false false true true d = (j23, tt)
all_joined false false true false d = tt
all_joined false false false true d = tt
all_joined false false false false d = tt

segments_joined : (g00 g10 g01 g11 : ℤ) → AllJoined (face_segments g00 g10 g01 g11)
segments_joined g00 g10 g01 g11 =
    all_joined (opposite (sign g00) (sign g01)) (opposite (sign g10) (sign g11)) (opposite (sign g00) (sign g10)) (opposite (sign g01) (sign g11)) (sign (Δ g00 g10 g01 g11))

-- a joint that is a cut of two sides
module _ (b : Block) (l : Level) where
  joined_at : (s : Side) (t : FaceSegment) → Contains (at_heights face_segments b l s) t → Joined t.0 t.1
  joined_at s t h =
      let u : Axis = first_axis s.axis in
      let v : Axis = second_axis s.axis in
      let p : Point = s.point in
      All-contains IsJoined (at_heights face_segments b l s) t
      (All-from_recursion IsJoined (at_heights face_segments b l s)
      (segments_joined (corner_height b l p) (corner_height b l (next u p)) (corner_height b l (next v p)) (corner_height b l (next u (next v p))))) h

  same_side : (s t : Side) (j : Joint) (u v : FaceSegment) → Joined u.0 u.1 → Joined v.0 v.1 → SameJoint (joint_of s u) j → SameJoint (joint_of t v) j → s ≡ t
  same_side s t j u v ju jv m n =
      ⊎_elim
      (λ e. sym (restored s ju) ∙ ap₂ side_of e.0 e.1 ∙ restored t jv)
      (λ e. sym (restored s ju) ∙ ap₂ side_of e.0 e.1 ∙ restored_back t jv)
      (pair_same (face_place s u.0) (face_place s u.1) (face_place t v.0) (face_place t v.1)
      (λ x. (λ h. (n x).1 ((m x).0 h), λ h. (m x).1 ((n x).0 h))))

  pub one_side : (s t : Side) (j : Joint) → CutOf voxel b l s j → CutOf voxel b l t j → s ≡ t
  one_side s t j h k =
      let u = map_has (joint_of s) (at_heights face_segments b l s) h.0 h.1 in
      let v = map_has (joint_of t) (at_heights face_segments b l t) k.0 k.1 in
      same_side s t j u.0 v.0 (joined_at s u.0 u.1) (joined_at t v.0 v.1)
      (subst (λ i. SameJoint i j) (sym u.2) h.2) (subst (λ i. SameJoint i j) (sym v.2) k.2)
