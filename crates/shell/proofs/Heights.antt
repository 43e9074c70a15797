-- The heights at a voxel's corners: how the code reads them, and the voxel that is on one side of the level.
use Rattle.std.proofs.Common.{◌≡◌, ℕ, zero, suc, ◌<◌, Bool, true, false, cond, ◌||◌, ltb, List, [], ◌∷◌, ◌++◌, map, length, get_or, ℤ, pos, Some, None, sym, refl, ap, ◌∙◌, ap₂, ⊎_elim, subst, arith, lit<}
use Rattle.std.specs.List.{list_any, list_all}
use Rattle.std.proofs.lemmas.List.{length-map}
use Rattle.std.proofs.lemmas.List.Folds.{list_any_at, list_all_at, list_all-map}
use mathlib.Core.Bool.{beq}
use Rattle.std.proofs.lemmas.Bool.{true≢false, false≢true, or_from, cond-false, cases_lt, lt-ltb, le-ltb, true_from_ne_false, both_ways, and_parts, ltb-true, ltb-false}
use Rattle.cell.specs.Level.{Sign, minus, none, plus, sign, sign_is_none, on_level}
use Rattle.cell.specs.Crossing.{opposite}
use Rattle.cell.specs.Face.{FaceSegment, face_segments, face_rule, meets_level, crossed_edges, join, Δ}
use Rattle.cell.specs.declared.level.Height.{Height}
use Rattle.clipping.specs.Faces.{Segment, Placed, corner_count, across_x, across_y, across_z, Off, placed, on_face, segments_on, voxel_segments}
use Rattle.clipping.specs.Clip.{Triangle, triangles, clip, degree, lowest, vertices_on}
use Rattle.shell.specs.Table.{FaceOn, placed_of}
use Rattle.shell.specs.declared.face.VoxelFace.{VoxelFace}
use Rattle.cell.specs.Corners.{at_corners}
use Rattle.cell.specs.declared.face.Face.{Face}
use Rattle.shell.specs.Corners.{AllOff, by_corner, is_below, is_minus, meets_level as corner_meets, OneSide}
use Rattle.clipping.specs.Laws.{Filled}
use Rattle.clipping.proofs.Shells.{shells}
use Rattle.shell.specs.Shell.{Local, shell_of}
use Rattle.clipping.proofs.Sets.{lowest_is}

pub corner_read : (hs : List Height) (k : ℕ) (d : Height) → k < length hs → by_corner hs k ≡ (get_or hs k d).value
corner_read [] k d l = absurd (omega arith)
corner_read (h ∷ hs) zero d l = refl
corner_read (h ∷ hs) (suc k) d l = corner_read hs k d (omega arith)

-- ---- tests of all heights
none_any : {X : Type 0} (p : X → Bool) (xs : List X) (d : X) → ((k : ℕ) → k < length xs → p (get_or xs k d) ≡ false) → list_any p xs ≡ false
none_any p [] d f = refl
none_any p (x ∷ xs) d f = or_from _ _ (f 0 (omega arith)) (none_any p xs d (λ k h. f (suc k) (omega arith)))

-- whether an element passes, by the lowest place of one
pub any_lowest : {X : Type 0} (p : X → Bool) (xs : List X) (d : X) (n : ℕ) → length xs ≡ n → list_any p xs ≡ ltb (lowest (λ k. p (get_or xs k d)) n) n
any_lowest p xs d n long =
    let k = lowest (λ k. p (get_or xs k d)) n in
    let l = lowest_is (λ k. p (get_or xs k d)) n in
    ⊎_elim
    (λ h. list_any_at p xs k d (omega arith) (l.passes h) ∙ sym (lt-ltb k n h))
    (λ h. none_any p xs d (λ j i. l.first j (omega arith)) ∙ sym (le-ltb k n h))
    (cases_lt k n)

any_map : {X Y : Type 0} (p : Y → Bool) (f : X → Y) (xs : List X) → list_any p (map f xs) ≡ list_any (λ x. p (f x)) xs
any_map p f [] = refl
any_map p f (x ∷ xs) = ap (λ b. p (f x) || b) (any_map p f xs)

-- whether the level meets a corner, by a test of each height
pub meets_any : (hs : List Height) → length hs ≡ 8 → list_any (λ h. on_level h.value) hs ≡ corner_meets (by_corner hs)
meets_any hs long = sym (any_map on_level (λ h. h.value) hs) ∙ any_lowest on_level (map (λ h. h.value) hs) (pos 0) 8 (length-map hs (λ h. h.value) ∙ long)

beq_same : (a b : Bool) → beq a b ≡ true → a ≡ b
beq_same true true h = refl
beq_same true false h = absurd (false≢true h)
beq_same false true h = absurd (false≢true h)
beq_same false false h = refl

pub kept : (b : Bool) (hs ks : List Height) → Some ks ≡ cond b None (Some hs) → ks ≡ hs
kept true hs ks e = absurd (let z : ◌≡◌ {A = ℕ} 0 1 = cc in omega arith)
kept false hs ks e = cc

-- where each height passes a test that compares it with a side, all corners are on that side
pub all_one_side : (hs : List Height) (b : Bool) → list_all (λ h. beq (is_below h.value) b) hs ≡ true → (k : ℕ) → k < length hs → is_below (by_corner hs k) ≡ b
all_one_side hs b h k l =
    let p = λ (z : ℤ). beq (is_below z) b in
    let long = length-map hs (λ h. h.value) in
    beq_same _ b (true_from_ne_false _ (λ no. both_ways _ (list_all_at p (map (λ h. h.value) hs) k (pos 0) (omega arith) no) (list_all-map p (λ h. h.value) hs ∙ h)))

-- ---- a face
corners_inside : (f : VoxelFace) → (f.c00 < 8) × (f.c10 < 8) × (f.c01 < 8) × (f.c11 < 8)
corners_inside f =
    let a = and_parts (ltb f.c00 8) _ f.corners_in in
    let b = and_parts (ltb f.c10 8) _ a.1 in
    let c = and_parts (ltb f.c01 8) _ b.1 in
    let d = and_parts (ltb f.c11 8) true c.1 in
    (ltb-true _ _ a.0, ltb-true _ _ b.0, ltb-true _ _ c.0, ltb-true _ _ d.0)

pub off_from : (hs : List Height) → AllOff hs → Off (by_corner hs)
off_from hs h k l = (lowest_is (λ j. on_level (by_corner hs j)) 8).first k (let b = ltb-false _ 8 h in omega arith)

module _ (hs : List Height) (off : AllOff hs) (f : VoxelFace) (r : Face) (on : FaceOn (by_corner hs) (placed_of f) r) where
  pub face_off : at_corners meets_level r ≡ false
  face_off =
      let i = corners_inside f in
      let at : (k : ℕ) → k < 8 → on_level (by_corner hs k) ≡ false = off_from hs off in
      or_from _ _ (ap on_level on.g00 ∙ at f.c00 i.0) (or_from _ _ (ap on_level on.g10 ∙ at f.c10 i.1) (or_from _ _ (ap on_level on.g01 ∙ at f.c01 i.2) (ap on_level on.g11 ∙ at f.c11 i.3)))

  -- the cut that the face rule gives
  pub cut_read : (ss : List FaceSegment) → Some ss ≡ at_corners face_rule r → ss ≡ on_face face_segments (by_corner hs) (placed_of f)
  cut_read ss e =
      let q : Some ss ≡ Some (at_corners face_segments r) = e ∙ cond-false (at_corners meets_level r) None (Some (at_corners face_segments r)) face_off in
      let s : ss ≡ at_corners face_segments r = cc in
      s ∙ (λ i. face_segments (on.g00 i) (on.g10 i) (on.g01 i) (on.g11 i))

-- ---- one side of the level
-- off the level a sign is told by whether it is minus
same_sign : (s t : Sign) → sign_is_none s ≡ false → sign_is_none t ≡ false → is_minus s ≡ is_minus t → s ≡ t
same_sign minus minus p q e = refl
same_sign minus none p q e = absurd (true≢false q)
same_sign minus plus p q e = absurd (true≢false e)
same_sign none t p q e = absurd (true≢false p)
same_sign plus minus p q e = absurd (false≢true e)
same_sign plus none p q e = absurd (true≢false q)
same_sign plus plus p q e = refl

not_opposite : (s : Sign) → opposite s s ≡ false
not_opposite minus = refl
not_opposite none = refl
not_opposite plus = refl

uncut : (g00 g10 g01 g11 : ℤ) (s : Sign) → sign g00 ≡ s → sign g10 ≡ s → sign g01 ≡ s → sign g11 ≡ s → face_segments g00 g10 g01 g11 ≡ []
uncut g00 g10 g01 g11 s e00 e10 e01 e11 =
    let no : (a b : ℤ) → sign a ≡ s → sign b ≡ s → opposite (sign a) (sign b) ≡ false = λ a b p q. ap₂ opposite p q ∙ not_opposite s in
    λ i. join (crossed_edges (no g00 g01 e00 e01 i) (no g10 g11 e10 e11 i) (no g00 g10 e00 e10 i) (no g01 g11 e01 e11 i)) (sign (Δ g00 g10 g01 g11))

module _ (g : ℕ → ℤ) (off : Off g) (one : OneSide g) where
  side : (k : ℕ) → k < 8 → sign (g k) ≡ sign (g 0)
  side k l = same_sign (sign (g k)) (sign (g 0)) (off k l) (off 0 (lit< tt)) (one k l)

  bare : (f : Placed) → f.c00 < 8 → f.c10 < 8 → f.c01 < 8 → f.c11 < 8 → segments_on g f ≡ []
  bare f l00 l10 l01 l11 =
      ap (placed f) (uncut (g f.c00) (g f.c10) (g f.c01) (g f.c11) (sign (g 0)) (side f.c00 l00) (side f.c10 l10) (side f.c01 l01) (side f.c11 l11))

  pub no_segments : voxel_segments g ≡ []
  no_segments = λ i.
      bare (across_x 0) (lit< tt) (lit< tt) (lit< tt) (lit< tt) i ++ (bare (across_x 1) (lit< tt) (lit< tt) (lit< tt) (lit< tt) i ++
      (bare (across_y 0) (lit< tt) (lit< tt) (lit< tt) (lit< tt) i ++ (bare (across_y 1) (lit< tt) (lit< tt) (lit< tt) (lit< tt) i ++
      (bare (across_z 0) (lit< tt) (lit< tt) (lit< tt) (lit< tt) i ++ (bare (across_z 1) (lit< tt) (lit< tt) (lit< tt) (lit< tt) i ++ [])))))

pub no_shell : (g : ℕ → ℤ) → Off g → OneSide g → ([], []) ≡ shell_of g
unfolding triangles clip degree
no_shell g off one = sym (ap (λ (ss : List Segment). (triangles ss, vertices_on ss)) (no_segments g off one))

-- what the rules give is closed
pub closed : (g : ℕ → ℤ) (ts : List Triangle) (vs : List ℕ) → Off g → (ts, vs) ≡ shell_of g → Filled (voxel_segments g) ts
closed g ts vs off same = subst (λ (l : Local). Filled (voxel_segments g) l.0) (sym same) (shells g off).0

-- ---- a voxel's segments depend on the heights at its corners alone
module _ (g h : ℕ → ℤ) (same : (k : ℕ) → k < corner_count → g k ≡ h k) where
  same_on : (f : Placed) → f.c00 < corner_count → f.c10 < corner_count → f.c01 < corner_count → f.c11 < corner_count → segments_on g f ≡ segments_on h f
  same_on f l00 l10 l01 l11 = λ i. placed f (face_segments (same f.c00 l00 i) (same f.c10 l10 i) (same f.c01 l01 i) (same f.c11 l11 i))

  pub same_segments : voxel_segments g ≡ voxel_segments h
  same_segments = λ i.
      same_on (across_x 0) (lit< tt) (lit< tt) (lit< tt) (lit< tt) i ++ (same_on (across_x 1) (lit< tt) (lit< tt) (lit< tt) (lit< tt) i ++
      (same_on (across_y 0) (lit< tt) (lit< tt) (lit< tt) (lit< tt) i ++ (same_on (across_y 1) (lit< tt) (lit< tt) (lit< tt) (lit< tt) i ++
      (same_on (across_z 0) (lit< tt) (lit< tt) (lit< tt) (lit< tt) i ++ (same_on (across_z 1) (lit< tt) (lit< tt) (lit< tt) (lit< tt) i ++ [])))))
