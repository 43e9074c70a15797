-- A joint lies on an odd number of a voxel's triangles exactly when it is a cut of one of its sides.
use Rattle.std.proofs.Common.{◌≡◌, ℕ, ◌+◌, ◌<◌, Bool, true, false, cond, ◌&&◌, ◌||◌, eqb, ◌≢◌, ◌⊎◌, ◌↔◌, List, [], ◌∷◌, ◌++◌, map, count_by, sym, refl, ap, ◌∙◌, subst, ap₂, inl, inr, ⊎_elim, arith}
use mathlib.Core.Bool.{and-true}
use Rattle.std.specs.List.{Contains, All}
use Rattle.std.proofs.lemmas.List.Elements.{at_from_Contains, All-head, All-tail, Contains-get_or}
use Rattle.std.proofs.lemmas.List.Sums.{sum_by-cons}
use Rattle.std.proofs.lemmas.Bool.{and_left, and_right, or_cases, or_left, or_right, false≢true, cases_Bool, cond-false}
use Rattle.block.specs.Block.{Block}
use Rattle.block.specs.declared.lattice.Point.{Point}
use Rattle.cell.specs.Face.{FaceSegment, face_segments}
use Rattle.kind.specs.Meaning.{Joint, Odd, SameJoint, CutOf, CutOfCell, names, on}
use Rattle.cell.specs.declared.face.FacePoint.{FacePoint}
use Rattle.cell.specs.declared.level.Level.{Level}
use Rattle.cell.specs.declared.vertex.Axis.TheVariants.{X}
use Rattle.cell.specs.declared.vertex.Place.{Place}
use Rattle.cell.specs.declared.vertex.Side.{Side}
use Rattle.clipping.specs.Faces.{Segment, Placed, faces, placed, on_face, segments_on, segments_on_all, local_vertices}
use Rattle.clipping.specs.Clip.{Triangle, joins, linked, triangles}
use Rattle.clipping.specs.Laws.{names_vertex, shared, Proper, Filled}
use Rattle.clipping.proofs.Sets.{joins_cases, joins_itself, joins_flip}
use Rattle.kind.proofs.Members.{has_none, has_here, has_there, has_cases, has_first, has_second, pair_cases, pair_same, three_cases, has_map, map_has}
use Rattle.kind.proofs.Places.{names_decides, has_or_not}
use Rattle.voxel_theory.specs.Voxel.{voxel, sides, face_place, at_heights, joint_of, local_places, place_of, edge, heights, segments, piece_of, pieces}
use Rattle.voxel_theory.proofs.Places.{place_injective, place_test, Matches, AllMatch, faces_match}

-- ---- a segment of the set is a cut, and a cut a segment
linked_append : (ss ts : List Segment) (m n : ℕ) → linked (ss ++ ts) m n ≡ true → (linked ss m n ≡ true) ⊎ (linked ts m n ≡ true)
unfolding linked
linked_append [] ts m n h = inr h
linked_append (s ∷ ss) ts m n h =
    ⊎_elim (λ j. inl (or_left (joins m n s) (linked ss m n) j))
    (λ r. ⊎_elim (λ a. inl (or_right (joins m n s) (linked ss m n) a)) inr (linked_append ss ts m n r))
    (or_cases (joins m n s) (linked (ss ++ ts) m n) h)

linked_left : (ss ts : List Segment) (m n : ℕ) → linked ss m n ≡ true → linked (ss ++ ts) m n ≡ true
unfolding linked
linked_left [] ts m n h = absurd (false≢true h)
linked_left (s ∷ ss) ts m n h =
    ⊎_elim (λ j. or_left (joins m n s) (linked (ss ++ ts) m n) j) (λ r. or_right (joins m n s) (linked (ss ++ ts) m n) (linked_left ss ts m n r))
    (or_cases (joins m n s) (linked ss m n) h)

linked_right : (ss ts : List Segment) (m n : ℕ) → linked ts m n ≡ true → linked (ss ++ ts) m n ≡ true
unfolding linked
linked_right [] ts m n h = h
linked_right (s ∷ ss) ts m n h = or_right (joins m n s) (linked (ss ++ ts) m n) (linked_right ss ts m n h)

-- a segment by its place on the face
abbrev put : Placed → FaceSegment → Segment
put f t = (f.point t.0, f.point t.1)

linked_placed : (f : Placed) (ts : List FaceSegment) (m n : ℕ) → linked (placed f ts) m n ≡ true → (t : FaceSegment) × Contains ts t × (joins m n (put f t) ≡ true)
unfolding linked
linked_placed f [] m n h = absurd (false≢true h)
linked_placed f (t ∷ ts) m n h =
    ⊎_elim (λ j. (t, has_here t ts t refl, j))
    (λ r. let u = linked_placed f ts m n r in (u.0, has_there t ts u.0 u.1, u.2))
    (or_cases (joins m n (put f t)) (linked (placed f ts) m n) h)

placed_linked : (f : Placed) (ts : List FaceSegment) (m n : ℕ) (t : FaceSegment) → Contains ts t → joins m n (put f t) ≡ true → linked (placed f ts) m n ≡ true
unfolding linked
placed_linked f [] m n t h j = absurd (has_none t h)
placed_linked f (u ∷ ts) m n t h j =
    ⊎_elim (λ e. or_left (joins m n (put f u)) (linked (placed f ts) m n) (ap (λ w. joins m n (put f w)) e ∙ j))
    (λ r. or_right (joins m n (put f u)) (linked (placed f ts) m n) (placed_linked f ts m n t r j))
    (has_cases u ts t h)

-- a pair in either order is the same joint
same_order : (u v u' v' : Place) → u ≡ u' → v ≡ v' → SameJoint (u ∷ v ∷ []) (u' ∷ v' ∷ [])
same_order u v u' v' e f x = let q = ap₂ (λ a b. a ∷ b ∷ []) e f in (subst (λ j. Contains j x) q, subst (λ j. Contains j x) (sym q))

flipped : (u v : Place) → SameJoint (u ∷ v ∷ []) (v ∷ u ∷ [])
flipped u v x = (turn u v, turn v u)
  where
    turn : (a b : Place) → Contains (a ∷ b ∷ []) x → Contains (b ∷ a ∷ []) x
    turn a b h = ⊎_elim (λ e. has_there b (a ∷ []) x (has_here a [] x e)) (λ e. has_here b (a ∷ []) x e) (pair_cases a b x h)

module _ (b : Block) (l : Level) (c : Point) where
  abbrev joint_at : ℕ → ℕ → Joint
  joint_at m n = place_of c m ∷ place_of c n ∷ []

  -- of one face
  face_cut : (f : Placed) (s : Side) → Matches c f s → (m n : ℕ) → linked (segments_on (heights b l c) f) m n ≡ true → CutOf voxel b l s (joint_at m n)
  face_cut f s k m n h =
      let u = linked_placed f (on_face face_segments (heights b l c) f) m n h in
      let t = u.0 in
      let in_side = subst (λ ts. Contains ts t) (k.segments b l) u.1 in (
        joint_of s t,
        has_map (joint_of s) (at_heights face_segments b l s) t in_side,
        ⊎_elim
            (λ e. same_order (face_place s t.0) (face_place s t.1) (place_of c m) (place_of c n) (sym (k.place t.0) ∙ ap (place_of c) e.0) (sym (k.place t.1) ∙ ap (place_of c) e.1))
            (λ e x. let p = same_order (face_place s t.0) (face_place s t.1) (place_of c n) (place_of c m) (sym (k.place t.0) ∙ ap (place_of c) e.0) (sym (k.place t.1) ∙ ap (place_of c) e.1) x in
            let q = flipped (place_of c n) (place_of c m) x in (λ z. q.0 (p.0 z), λ z. p.1 (q.1 z)))
            (joins_cases m n (put f t) u.2),
      )

  cut_face : (f : Placed) (s : Side) → Matches c f s → (m n : ℕ) → m < local_vertices → n < local_vertices → CutOf voxel b l s (joint_at m n) → linked (segments_on (heights b l c) f) m n ≡ true
  cut_face f s k m n lm ln h =
      let u = map_has (joint_of s) (at_heights face_segments b l s) h.0 h.1 in
      let t = u.0 in
      let in_face = subst (λ ts. Contains ts t) (sym (k.segments b l)) u.1 in
      let same = subst (λ i. SameJoint i (joint_at m n)) (sym u.2) h.2 in
      let number : (x : FacePoint) (w : ℕ) → w < local_vertices → face_place s x ≡ place_of c w → f.point x ≡ w = λ x w lw e. place_injective c (f.point x) w (k.local x) lw (k.place x ∙ e) in
      placed_linked f (on_face face_segments (heights b l c) f) m n t in_face
      (⊎_elim
      (λ e. ap₂ (λ i j. joins m n (i, j)) (number t.0 m lm e.0) (number t.1 n ln e.1) ∙ joins_itself m n)
      (λ e. ap₂ (λ i j. joins m n (i, j)) (number t.0 n ln e.0) (number t.1 m lm e.1) ∙ joins_flip m n m n ∙ joins_itself m n)
      (pair_same (face_place s t.0) (face_place s t.1) (place_of c m) (place_of c n) same))

  -- of all faces
  faces_cut : (fs : List Placed) (ss : List Side) → AllMatch c fs ss → (m n : ℕ) → linked (segments_on_all (heights b l c) fs) m n ≡ true
      → (s : Side) × Contains ss s × CutOf voxel b l s (joint_at m n)
  unfolding linked
  faces_cut [] [] k m n h = absurd (false≢true h)
  faces_cut [] (s ∷ ss) k m n h = absurd k
  faces_cut (f ∷ fs) [] k m n h = absurd k
  faces_cut (f ∷ fs) (s ∷ ss) k m n h =
      ⊎_elim (λ a. (s, has_here s ss s refl, face_cut f s k.0 m n a))
      (λ r. let u = faces_cut fs ss k.1 m n r in (u.0, has_there s ss u.0 u.1, u.2))
      (linked_append (segments_on (heights b l c) f) (segments_on_all (heights b l c) fs) m n h)

  cut_faces : (fs : List Placed) (ss : List Side) → AllMatch c fs ss → (m n : ℕ) → m < local_vertices → n < local_vertices → (s : Side) → Contains ss s → CutOf voxel b l s (joint_at m n)
      → linked (segments_on_all (heights b l c) fs) m n ≡ true
  cut_faces [] [] k m n lm ln s h q = absurd (has_none s h)
  cut_faces [] (t ∷ ss) k m n lm ln s h q = absurd k
  cut_faces (f ∷ fs) [] k m n lm ln s h q = absurd k
  cut_faces (f ∷ fs) (t ∷ ss) k m n lm ln s h q =
      ⊎_elim
      (λ e. linked_left (segments_on (heights b l c) f) (segments_on_all (heights b l c) fs) m n (cut_face f t k.0 m n lm ln (subst (λ w. CutOf voxel b l w (joint_at m n)) (sym e) q)))
      (λ r. linked_right (segments_on (heights b l c) f) (segments_on_all (heights b l c) fs) m n (cut_faces fs ss k.1 m n lm ln s r q))
      (has_cases t ss s h)

  -- every place of a cut is a place of the voxel
  face_named : (f : Placed) (s : Side) → Matches c f s → (j : Joint) (p : Place) → CutOf voxel b l s j → Contains j p → Contains (local_places c) p
  face_named f s k j p h q =
      let u = map_has (joint_of s) (at_heights face_segments b l s) h.0 h.1 in
      let t = u.0 in
      let in_joint = subst (λ i. Contains i p) (sym u.2) ((h.2 p).1 q) in
      let here : (x : FacePoint) → face_place s x ≡ p → Contains (local_places c) p = λ x e. subst (Contains (local_places c)) (k.place x ∙ e) (Contains-get_or (local_places c) (f.point x) (edge X c) (k.local x)) in
      ⊎_elim (here t.0) (here t.1) (pair_cases (face_place s t.0) (face_place s t.1) p in_joint)

  faces_named : (fs : List Placed) (ss : List Side) → AllMatch c fs ss → (j : Joint) (p : Place) (s : Side) → Contains ss s → CutOf voxel b l s j → Contains j p → Contains (local_places c) p
  faces_named [] [] k j p s h q r = absurd (has_none s h)
  faces_named [] (t ∷ ss) k j p s h q r = absurd k
  faces_named (f ∷ fs) [] k j p s h q r = absurd k
  faces_named (f ∷ fs) (t ∷ ss) k j p s h q r =
      ⊎_elim (λ e. face_named f t k.0 j p (subst (λ w. CutOf voxel b l w j) (sym e) q) r)
      (λ z. faces_named fs ss k.1 j p s z q r)
      (has_cases t ss s h)

  -- ---- the triangles on a joint
  -- of two places of the voxel: those that share the two vertices
  names_as : (t : Triangle) → Proper t → (m : ℕ) → m < local_vertices → names (piece_of c t) (place_of c m) ≡ names_vertex m t
  unfolding names_vertex
  names_as t p m lm =
      let l1 : t.1 < local_vertices = let a = p.2 in let d = p.4 in omega arith in
      let e0 = place_test c t.0 m p.3 lm in
      let e1 = place_test c t.1 m l1 lm in
      let e2 = place_test c t.2 m p.4 lm in
      (λ i. e0 i || (e1 i || (e2 i || false))) ∙ regroup (eqb t.0 m) (eqb t.1 m) (eqb t.2 m)
    where
      regroup : (x y z : Bool) → (x || (y || (z || false))) ≡ (x || y || z)
      regroup true y z = refl
      regroup false true z = refl
      regroup false false true = refl
      regroup false false false = refl

  on_as : (t : Triangle) → Proper t → (m n : ℕ) → m < local_vertices → n < local_vertices → on (joint_at m n) (piece_of c t) ≡ (names_vertex m t && names_vertex n t)
  on_as t p m n lm ln = (λ i. names_as t p m lm i && (names_as t p n ln i && true)) ∙ ap (λ z. names_vertex m t && z) (and-true (names_vertex n t))

  count_as : (ts : List Triangle) → All Proper ts → (m n : ℕ) → m < local_vertices → n < local_vertices → count_by (on (joint_at m n)) (map (piece_of c) ts) ≡ shared ts m n
  unfolding shared
  count_as [] p m n lm ln = refl
  count_as (t ∷ ts) p m n lm ln =
      sum_by-cons (λ q. cond (on (joint_at m n) q) 1 0) (piece_of c t) (map (piece_of c) ts)
      ∙ ap₂ (λ i k. i + k) (ap (λ z. cond z 1 0) (on_as t (All-head Proper t ts p) m n lm ln)) (count_as ts (All-tail Proper t ts p) m n lm ln)
      ∙ sym (sum_by-cons (λ u. cond (names_vertex m u && names_vertex n u) 1 0) t ts)

  -- of any other: none
  piece_local : (t : Triangle) → Proper t → (p : Place) → Contains (piece_of c t) p → Contains (local_places c) p
  piece_local t q p h =
      let l1 : t.1 < local_vertices = let a = q.2 in let d = q.4 in omega arith in
      let here : (m : ℕ) → m < local_vertices → place_of c m ≡ p → Contains (local_places c) p = λ m lm e. subst (Contains (local_places c)) e (Contains-get_or (local_places c) m (edge X c) lm) in
      ⊎_elim (here t.0 q.3) (⊎_elim (here t.1 l1) (here t.2 q.4))
      (three_cases (place_of c t.0) (place_of c t.1) (place_of c t.2) p h)

  no_names : (t : Triangle) → Proper t → (p : Place) → (Contains (local_places c) p → ⊥) → names (piece_of c t) p ≡ false
  no_names t q p out = ⊎_elim (λ h. absurd (out (piece_local t q p ((names_decides (piece_of c t) p).0 h)))) (λ h. h) (cases_Bool (names (piece_of c t) p))

  count_none : (ts : List Triangle) → All Proper ts → (u v : Place) → (Contains (local_places c) u → ⊥) ⊎ (Contains (local_places c) v → ⊥) → count_by (on (u ∷ v ∷ [])) (map (piece_of c) ts) ≡ 0
  count_none [] p u v out = refl
  count_none (t ∷ ts) p u v out =
      let here = All-head Proper t ts p in
      let off : on (u ∷ v ∷ []) (piece_of c t) ≡ false = ⊎_elim
      (λ o. and_left (names (piece_of c t) u) (names (piece_of c t) v && true) (no_names t here u o))
      (λ o. and_right (names (piece_of c t) u) (names (piece_of c t) v && true) (and_left (names (piece_of c t) v) true (no_names t here v o))) out in
      omega (arith, sum_by-cons (λ q. cond (on (u ∷ v ∷ []) q) 1 0) (piece_of c t) (map (piece_of c) ts), cond-false {A = ℕ} (on (u ∷ v ∷ []) (piece_of c t)) 1 0 off, count_none ts (All-tail Proper t ts p) u v out)

  -- ---- the law
  module _ (filled : Filled (segments b l c) (triangles (segments b l c))) where
    parity_local : (m n : ℕ) → m < local_vertices → n < local_vertices → m ≢ n → Odd (count_by (on (joint_at m n)) (pieces b l c)) ↔ CutOfCell voxel b l c (joint_at m n)
    parity_local m n lm ln ne =
        let e = count_as (triangles (segments b l c)) filled.proper m n lm ln in
        let k = filled.parity m n ne in (
          λ h. faces_cut faces (sides c) (faces_match c) m n (k.0 (omega arith)),
          λ h. let o = k.1 (cut_faces faces (sides c) (faces_match c) m n lm ln h.0 h.1 h.2) in omega arith,
        )

    parity_other : (u v : Place) → (Contains (local_places c) u → ⊥) ⊎ (Contains (local_places c) v → ⊥) → Odd (count_by (on (u ∷ v ∷ [])) (pieces b l c)) ↔ CutOfCell voxel b l c (u ∷ v ∷ [])
    parity_other u v out =
        let e = count_none (triangles (segments b l c)) filled.proper u v out in (
          λ h. absurd (omega arith),
          λ h. absurd (⊎_elim
              (λ o. o (faces_named faces (sides c) (faces_match c) (u ∷ v ∷ []) u h.0 h.1 h.2 (has_first u v)))
              (λ o. o (faces_named faces (sides c) (faces_match c) (u ∷ v ∷ []) v h.0 h.1 h.2 (has_second u v))) out),
        )

    pub parity_pair : (u v : Place) → (u ≡ v → ⊥) → Odd (count_by (on (u ∷ v ∷ [])) (pieces b l c)) ↔ CutOfCell voxel b l c (u ∷ v ∷ [])
    parity_pair u v ne = ⊎_elim
        (λ hu. ⊎_elim (λ hv. inside hu hv) (λ o. parity_other u v (inr o)) (has_or_not (local_places c) v))
        (λ o. parity_other u v (inl o)) (has_or_not (local_places c) u)
      where
        inside : Contains (local_places c) u → Contains (local_places c) v → Odd (count_by (on (u ∷ v ∷ [])) (pieces b l c)) ↔ CutOfCell voxel b l c (u ∷ v ∷ [])
        inside hu hv =
            let at_u = at_from_Contains (local_places c) u hu in
            let at_v = at_from_Contains (local_places c) v hv in
            let eu = at_u.2 (edge X c) in
            let ev = at_v.2 (edge X c) in
            subst (λ (j : Joint). Odd (count_by (on j) (pieces b l c)) ↔ CutOfCell voxel b l c j) (ap₂ (λ x y. x ∷ y ∷ []) eu ev)
            (parity_local at_u.0 at_v.0 at_u.1 at_v.1 (λ e. ne (sym eu ∙ ap (place_of c) e ∙ ev)))
