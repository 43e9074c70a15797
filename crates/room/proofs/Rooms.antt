-- A kind whose cells lie in a box, and are small, has room; voxels and pixels are such kinds.
use Rattle.std.proofs.Common.{◌≡◌, ℕ, ◌+◌, ◌-◌, ◌≤◌, Bool, true, ◌&&◌, ltb, List, [], ◌∷◌, map, length, sym, subst, arith}
use Rattle.std.proofs.lemmas.Bool.{and_parts, and_from, ltb-true, lt-ltb}
use Rattle.block.specs.Lattice.{inside, count}
use Rattle.block.specs.declared.lattice.Point.{Point}
use Rattle.block.specs.declared.lattice.Sizes.{Sizes}
use Rattle.cell.specs.Face.{FaceSegment, join, crossings, Δ}
use Rattle.cell.specs.Level.{Sign, minus, none, plus, sign}
use Rattle.cell.specs.declared.face.FacePoint.{FacePoint}
use Rattle.clipping.specs.Faces.{local_vertices}
use Rattle.clipping.specs.Laws.{most_triangles}
use Rattle.kind.specs.Meaning.{Meaning, Piece, Laws}
use Rattle.kind.proofs.Members.{length_kept}
use Rattle.pixel_theory.specs.Kind.{pixel, face_points, present, segment_places, place_of}
use Rattle.pixel_theory.specs.Pixel.{at_pixel, vertex_of}
use Rattle.pixel_theory.proofs.Laws.{pixel_laws}
use Rattle.surface.specs.Room.{CellsAtMost, EachAtMost}
use Rattle.surface.proofs.Boxes.{box_bounds}
use Rattle.surface.proofs.Room.{enough_room}
use Rattle.voxel_theory.specs.Voxel.{voxel}
use Rattle.voxel_theory.proofs.Laws.{voxel_laws, voxel_small}
use Rattle.room.specs.Room.{HasRoom, voxel_box, pixel_box, most_points, most_segments, VoxelsHaveRoom, PixelsHaveRoom}

has_room : (m : Meaning) (box : Sizes → Sizes) (vertices pieces : ℕ) → Laws m →
    ((n : Sizes) (p : Point) → m.cell n p ≡ true → inside (box n) p ≡ true) → EachAtMost m vertices pieces → HasRoom m box vertices pieces
has_room m box vertices pieces laws lies small o is =
    let n = o.sizes in
    let few = subst (λ k. CellsAtMost k n (count (box n))) (sym is) (box_bounds m n (box n) (lies n)) in
    enough_room o (subst Laws (sym is) laws) (count (box n)) vertices pieces few (subst (λ k. EachAtMost k vertices pieces) (sym is) small)

-- what has a next point lies in an axis that is one shorter
shorter : (k n : ℕ) → ltb (k + 1) n ≡ true → ltb k (n - 1) ≡ true
shorter k n t = lt-ltb _ _ (omega (arith, ltb-true _ _ t))

-- three tests that hold, each for another
all_three : (s t u x y z : Bool) → (s ≡ true → x ≡ true) → (t ≡ true → y ≡ true) → (u ≡ true → z ≡ true) → (s && t && u) ≡ true → (x && y && z) ≡ true
all_three s t u x y z f g h e =
    let v = and_parts (s && t) u e in
    let w = and_parts s t v.0 in
    and_from (x && y) z (and_from x y (f w.0) (g w.1)) (h v.1)

pub voxels : VoxelsHaveRoom
voxels =
    has_room voxel voxel_box local_vertices most_triangles voxel_laws
    (λ n p. all_three _ _ _ _ _ _ (shorter p.x n.x) (shorter p.y n.y) (shorter p.z n.z))
    (record { its_vertices = λ b l c r. voxel_small.vertices b l c; its_pieces = voxel_small.pieces })

-- joined crossings give at most four pieces
few_joined : (piece : FaceSegment → Piece) (ps : List FacePoint) (d : Sign) → length (map piece (join ps d)) ≤ most_segments
few_joined piece [] d = omega arith
few_joined piece (p ∷ []) d = omega arith
few_joined piece (p ∷ q ∷ []) d = omega arith
few_joined piece (p ∷ q ∷ r ∷ []) d = omega arith
few_joined piece (p ∷ q ∷ r ∷ t ∷ []) minus = omega arith
few_joined piece (p ∷ q ∷ r ∷ t ∷ []) none = omega arith
few_joined piece (p ∷ q ∷ r ∷ t ∷ []) plus = omega arith
few_joined piece (p ∷ q ∷ r ∷ t ∷ u ∷ ps) d = omega arith

pub pixels : PixelsHaveRoom
pixels =
    has_room pixel pixel_box most_points most_segments pixel_laws
    (λ n p. all_three _ _ _ _ _ _ (shorter p.x n.x) (shorter p.y n.y) (λ t. t))
    (record {
      its_vertices = λ b l c r. length_kept (at_pixel (vertex_of c) b l c) (at_pixel present b l c) face_points;
      its_pieces = λ b l c r.
          few_joined (segment_places (place_of c))
          (at_pixel (λ g00 g10 g01 g11. crossings (sign g00) (sign g10) (sign g01) (sign g11)) b l c)
          (at_pixel (λ g00 g10 g01 g11. sign (Δ g00 g10 g01 g11)) b l c);
    })
