-- What a shape holds is what its voxel means.
use Rattle.std.proofs.Common.{◌≡◌, ℕ, suc, ◌<◌, Bool, cond, List, [], ◌∷◌, map, get_or, ℤ, pos, Some, None, filter, sym, refl, ap, ◌∙◌, ap₂, arith}
use Rattle.std.specs.List.{Contains, All}
use Rattle.std.proofs.lemmas.List.Elements.{All-contains, All-head, All-tail}
use Rattle.std.proofs.lemmas.Bool.{le-ltb, cond-false}
use Rattle.block.specs.Block.{Block}
use Rattle.block.specs.declared.lattice.Point.{Point}
use Rattle.cell.specs.Corner.{corner_height, corners_declined, HeightsAt}
use Rattle.cell.specs.Face.{face_segments}
use Rattle.cell.specs.Level.{on_level}
use Rattle.cell.specs.declared.level.Height.{Height}
use Rattle.cell.specs.declared.level.Level.{Level}
use Rattle.cell.specs.declared.vertex.Axis.TheVariants.{X, Y, Z}
use Rattle.cell.specs.declared.vertex.Side.{Side}
use Rattle.clipping.specs.Clip.{Triangle, is_on, vertices_on, triangles}
use Rattle.clipping.specs.Faces.{Off, Placed, local_vertices, local_order, across_x, across_y, across_z, faces, on_face, voxel_segments}
use Rattle.clipping.specs.Laws.{Proper}
use Rattle.clipping.proofs.Order.{local_below}
use Rattle.clipping.proofs.Sets.{lowest_none}
use Rattle.clipping.proofs.Shells.{shells}
use Rattle.kind.specs.Meaning.{cell_declined}
use Rattle.kind.specs.Shapes.{number, bordered, local_pieces}
use Rattle.kind.proofs.Reading.{readable}
use Rattle.voxel.specs.Holds.{Holds}
use Rattle.voxel.specs.declared.cube.Cube.{Cube}
use Rattle.kind.proofs.Members.{has_here, has_there, kept_has}
use Rattle.voxel_theory.specs.Voxel.{voxel, corners, heights, segments, sides, side, next, edge, local_places, place_of, vertex_at, piece_of, cuts, at_heights}
use Rattle.voxel_theory.proofs.Places.{Matches, place_test, faces_match}
use Rattle.voxel_theory.proofs.Reading.{off_level}
use Rattle.voxel.specs.Local.{all_local, local_vertex, centre_vertex, rank, numbered, borders_of, face_cuts, paired}
use Rattle.shell.specs.Corners.{AllOff, by_corner, meets_level}
use Rattle.shell.proofs.Heights.{same_segments}
use Rattle.shell.proofs.Faces.{at_map}

-- ---- lists
map_same : {X Y : Type 0} (f g : X → Y) (xs : List X) → ((x : X) → Contains xs x → f x ≡ g x) → map f xs ≡ map g xs
map_same f g [] e = refl
map_same f g (x ∷ xs) e = ap₂ (λ y ys. y ∷ ys) (e x (has_here x xs x refl)) (map_same f g xs (λ z h. e z (has_there x xs z h)))

-- ---- the level meets no corner, by the code's test and by the rules
pub from_off : (hs : List Height) → Off (by_corner hs) → AllOff hs
from_off hs off = le-ltb _ 8 (let e = lowest_none (λ j. on_level (by_corner hs j)) 8 off in omega arith)

vertex_below : (p : ℕ → Bool) (v : ℕ) → Contains (filter p local_order) v → v < local_vertices
vertex_below p v h = All-contains (λ w. w < local_vertices) local_order v local_below (kept_has p local_order v h).0

-- a local vertex stands at its place
pub place_local : (c : Point) (g : ℕ → ℤ) (v : ℕ) → v < local_vertices → (local_vertex c g v).place ≡ place_of c v
place_local c g v h = sym (at_map (λ w. w.place) (all_local c g) v (edge X c) (centre_vertex c g Z 4 5 6 7) h)

-- ---- a voxel whose corners were read
module _ (b : Block) (l : Level) (at : Point) (hs : List Height) (e : HeightsAt b l (corners at) hs) where
  pub corner_same : (k : ℕ) → k < 8 → by_corner hs k ≡ heights b l at k
  corner_same k h = ap (λ ys. get_or ys k (pos 0)) e ∙ at_map (corner_height b l) (corners at) k (pos 0) at h

  pub segments_same : voxel_segments (by_corner hs) ≡ segments b l at
  segments_same = same_segments (by_corner hs) (heights b l at) corner_same

  locals : all_local at (by_corner hs) ≡ map (vertex_at b l) (local_places at)
  locals = ap (λ ys. all_local at (λ k. get_or ys k (pos 0))) e

  local_is : (v : ℕ) → v < local_vertices → local_vertex at (by_corner hs) v ≡ vertex_at b l (place_of at v)
  local_is v h =
      ap (λ vs. get_or vs v (centre_vertex at (by_corner hs) Z 4 5 6 7)) locals
      ∙ at_map (vertex_at b l) (local_places at) v (centre_vertex at (by_corner hs) Z 4 5 6 7) (edge X at) h

  pub vertices_held : map (local_vertex at (by_corner hs)) (vertices_on (voxel_segments (by_corner hs))) ≡ voxel.vertices b l at
  vertices_held =
      ap (λ ss. map (local_vertex at (by_corner hs)) (vertices_on ss)) segments_same
      ∙ map_same (local_vertex at (by_corner hs)) (λ v. vertex_at b l (place_of at v)) (vertices_on (segments b l at))
      (λ v h. local_is v (vertex_below (is_on (segments b l at)) v h))

  -- the number of a place among vertices is the rank of its local vertex
  number_rank : (vs : List ℕ) (t : ℕ) → ((v : ℕ) → Contains vs v → v < local_vertices) → t < local_vertices
      → number (map (λ v. vertex_at b l (place_of at v)) vs) (place_of at t) ≡ rank vs t
  number_rank [] t low lt = refl
  number_rank (v ∷ vs) t low lt =
      λ i. cond (place_test at v t (low v (has_here v vs v refl)) lt i) 1 (suc (number_rank vs t (λ w h. low w (has_there v vs w h)) lt i))

  numbers_are : (vs : List ℕ) (ts : List Triangle) → ((v : ℕ) → Contains vs v → v < local_vertices) → All Proper ts
      → map (map (number (map (λ v. vertex_at b l (place_of at v)) vs))) (map (piece_of at) ts) ≡ map (numbered vs) ts
  numbers_are vs [] low p = refl
  numbers_are vs (t ∷ ts) low p =
      let q = All-head Proper t ts p in
      let lt1 : t.1 < local_vertices = omega (arith, q.2, q.4) in
      λ i. (number_rank vs t.0 low q.3 i ∷ number_rank vs t.1 low lt1 i ∷ number_rank vs t.2 low q.4 i ∷ []) ∷ numbers_are vs ts low (All-tail Proper t ts p) i

  pub pieces_held : All Proper (triangles (segments b l at))
      → map (numbered (vertices_on (voxel_segments (by_corner hs)))) (triangles (voxel_segments (by_corner hs))) ≡ map (map (number (voxel.vertices b l at))) (voxel.pieces b l at)
  pieces_held p =
      ap (λ ss. map (numbered (vertices_on ss)) (triangles ss)) segments_same
      ∙ sym (numbers_are (vertices_on (segments b l at)) (triangles (segments b l at)) (λ v h. vertex_below (is_on (segments b l at)) v h) p)

  -- ---- sides and cuts
  cuts_held : (f : Placed) (s : Side) → Matches at f s → on_face face_segments (by_corner hs) f ≡ at_heights face_segments b l s → face_cuts at (by_corner hs) f ≡ cuts b l s
  cuts_held f s m q = λ i. map (λ t. m.place t.0 i ∷ m.place t.1 i ∷ []) (q i)

  same_face : (f : Placed) → on_face face_segments (by_corner hs) f ≡ on_face face_segments (λ k. get_or (map (corner_height b l) (corners at)) k (pos 0)) f
  same_face f = ap (λ ys. on_face face_segments (λ k. get_or ys k (pos 0)) f) e

  pub borders_held : paired (sides at) (map (face_cuts at (by_corner hs)) faces) ≡ bordered voxel b l at
  borders_held =
      let m = faces_match at in
      λ i. (side X at, cuts_held (across_x 0) (side X at) m.0 (same_face (across_x 0)) i)
      ∷ (side X (next X at), cuts_held (across_x 1) (side X (next X at)) m.1.0 (same_face (across_x 1)) i)
      ∷ (side Y at, cuts_held (across_y 0) (side Y at) m.1.1.0 (same_face (across_y 0)) i)
      ∷ (side Y (next Y at), cuts_held (across_y 1) (side Y (next Y at)) m.1.1.1.0 (same_face (across_y 1)) i)
      ∷ (side Z at, cuts_held (across_z 0) (side Z at) m.1.1.1.1.0 (same_face (across_z 0)) i)
      ∷ (side Z (next Z at), cuts_held (across_z 1) (side Z (next Z at)) m.1.1.1.1.1.0 (same_face (across_z 1)) i)
      ∷ []

  -- ---- what is known once the corners were read
  module _ (none : corners_declined b l (corners at) ≡ None) where
    rules_off : Off (heights b l at)
    rules_off = off_level b l at none

    pub read_off : AllOff hs
    read_off = from_off hs (λ k h. ap on_level (corner_same k h) ∙ rules_off k h)

    pub triangles_proper : All Proper (triangles (segments b l at))
    triangles_proper = (shells (heights b l at) rules_off).0.proper

    -- so the code does not refuse them
    pub no_refusal : None ≡ cond (meets_level (by_corner hs)) None (Some hs) → ⊥
    no_refusal e = let q : None ≡ Some hs = e ∙ cond-false (meets_level (by_corner hs)) None (Some hs) read_off in let z : ◌≡◌ {A = ℕ} 0 1 = cc in omega arith

-- ---- the vertices, triangles and borders of a voxel that was read
pub held : (b : Block) (l : Level) (at : Point) (c : Cube) → cell_declined voxel b l at ≡ None → Holds b l at c →
    let g : ℕ → ℤ = by_corner c.corners.heights in
    (map (local_vertex c.at g) (vertices_on (voxel_segments g)) ≡ voxel.vertices b l at)
    × (map (numbered (vertices_on (voxel_segments g))) (triangles (voxel_segments g)) ≡ local_pieces voxel b l at)
    × (borders_of c.at g ≡ bordered voxel b l at)
held b l at c none h =
    let hs = c.corners.heights in
    let g = by_corner hs in (
      ap (λ p. map (local_vertex p g) (vertices_on (voxel_segments g))) h.place ∙ vertices_held b l at hs h.heights,
      pieces_held b l at hs h.heights (triangles_proper b l at hs h.heights (readable voxel b l at none).reads),
      ap (λ p. borders_of p g) h.place ∙ borders_held b l at hs h.heights,
    )
