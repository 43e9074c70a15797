-- Local vertices by number.
use Rattle.std.proofs.Common.{◌≡◌, ℕ, zero, suc, ◌+◌, ◌-◌, ◌≤◌, Bool, true, false, not, cond, ltb, eqb, List, [], ◌∷◌, length, get_or, ℤ, Some, None, Option, refl, ap, ◌∙◌, arith}
use Rattle.std.specs.List.{slice_get, position, position_or_len}
use Rattle.std.specs.Option.{option_map, unwrap_or}
use Rattle.std.proofs.lemmas.Bool.{ltb-false}
use Rattle.std.proofs.lemmas.List.Sums.{prefix_len-le-length}
use Rattle.block.specs.declared.lattice.Point.{Point}
use Rattle.cell.specs.Face.{centre_offsets}
use Rattle.cell.specs.Vertex.{in_face}
use Rattle.cell.specs.declared.face.Face.{Face}
use Rattle.cell.specs.declared.vertex.Axis.{Axis}
use Rattle.cell.specs.declared.vertex.Axis.TheVariants.{Z}
use Rattle.clipping.specs.Faces.{Placed, across_z}
use Rattle.shell.specs.Table.{FaceOn, drawn, drawn_faces, placed_of}
use Rattle.shell.specs.declared.face.VoxelFace.{VoxelFace}
use Rattle.voxel.specs.Local.{corner_at, centre_at, centre_vertex, local_vertex, rank}

-- ---- the centres of the faces
either_at : {X : Type 0} (xs : List X) (n : ℕ) (d : X) → unwrap_or (slice_get xs n) d ≡ get_or xs n d
either_at [] n d = refl
either_at (x ∷ xs) zero d = refl
either_at (x ∷ xs) (suc n) d = either_at xs n d

mapped_or : {X Y : Type 0} (f : X → Y) (o : Option X) (d : X) → f (unwrap_or o d) ≡ unwrap_or (option_map f o) (f d)
mapped_or f None d = refl
mapped_or f (Some x) d = refl

-- the face at a place, or else the last
pub drawn_or : (n : ℕ) (o : Option VoxelFace) (f d : VoxelFace) → option_map drawn o ≡ slice_get drawn_faces n → f ≡ unwrap_or o d → drawn d ≡ (Z, across_z 1) → drawn f ≡ get_or drawn_faces n (Z, across_z 1)
drawn_or n o f d e u last = ap drawn u ∙ mapped_or drawn o d ∙ (λ i. unwrap_or (e i) (last i)) ∙ either_at drawn_faces n (Z, across_z 1)

pub centre_made : (c : Point) (g : ℕ → ℤ) (f : VoxelFace) (r : Face) (p : Axis × Placed) → FaceOn g (placed_of f) r → drawn f ≡ p
    → in_face f.axis (corner_at c f.c00) (centre_offsets r.g00.value r.g10.value r.g01.value r.g11.value).first (centre_offsets r.g00.value r.g10.value r.g01.value r.g11.value).second
    ≡ centre_vertex c g p.0 p.1.c00 p.1.c10 p.1.c01 p.1.c11
centre_made c g f r p on e =
    (λ i. in_face f.axis (corner_at c f.c00) (centre_offsets (on.g00 i) (on.g10 i) (on.g01 i) (on.g11 i)).first (centre_offsets (on.g00 i) (on.g10 i) (on.g01 i) (on.g11 i)).second)
    ∙ ap (λ (q : Axis × Placed). centre_vertex c g q.0 q.1.c00 q.1.c10 q.1.c01 q.1.c11) e

-- the centres stand behind the twelve crossings
centre_after : (c : Point) (g : ℕ → ℤ) (k : ℕ) → centre_at c g k ≡ local_vertex c g (suc (suc (suc (suc (suc (suc (suc (suc (suc (suc (suc (suc k))))))))))))
centre_after c g zero = refl
centre_after c g (suc zero) = refl
centre_after c g (suc (suc zero)) = refl
centre_after c g (suc (suc (suc zero))) = refl
centre_after c g (suc (suc (suc (suc zero)))) = refl
centre_after c g (suc (suc (suc (suc (suc zero))))) = refl
centre_after c g (suc (suc (suc (suc (suc (suc k)))))) = refl

pub centre_local : (c : Point) (g : ℕ → ℤ) (v : ℕ) → 12 ≤ v → centre_at c g (v - 12) ≡ local_vertex c g v
centre_local c g v h =
    let e : suc (suc (suc (suc (suc (suc (suc (suc (suc (suc (suc (suc (v - 12)))))))))))) ≡ v = omega arith in
    centre_after c g (v - 12) ∙ ap (local_vertex c g) e

-- ---- the number of a vertex among others, by its place
rank_place : (us : List ℕ) (v : ℕ) → rank us v ≡ position_or_len (λ u. eqb u v) us + 1
rank_place [] v = refl
rank_place (u ∷ us) v = go (eqb u v) (rank_place us v)
  where
    go : (b : Bool) → rank us v ≡ position_or_len (λ u. eqb u v) us + 1 → cond b 1 (suc (rank us v)) ≡ cond (not b) (1 + position_or_len (λ u. eqb u v) us) 0 + 1
    go true e = refl
    go false e = omega arith

pub rank_found : (us : List ℕ) (v i : ℕ) → Some i ≡ position (λ u. eqb u v) us → i + 1 ≡ rank us v
rank_found us v i e = go (ltb (position_or_len (λ u. eqb u v) us) (length us)) e
  where
    go : (b : Bool) → Some i ≡ cond b (Some (position_or_len (λ u. eqb u v) us)) None → i + 1 ≡ rank us v
    go true h = let same : i ≡ position_or_len (λ u. eqb u v) us = cc in let r = rank_place us v in omega arith
    go false h = absurd (let z : ◌≡◌ {A = ℕ} 0 1 = cc in omega arith)

pub rank_none : (us : List ℕ) (v : ℕ) → None ≡ position (λ u. eqb u v) us → length us + 1 ≡ rank us v
rank_none us v e = go (ltb (position_or_len (λ u. eqb u v) us) (length us)) refl e
  where
    go : (b : Bool) → ltb (position_or_len (λ u. eqb u v) us) (length us) ≡ b → None ≡ cond b (Some (position_or_len (λ u. eqb u v) us)) None → length us + 1 ≡ rank us v
    go true t h = absurd (let z : ◌≡◌ {A = ℕ} 0 1 = cc in omega arith)
    go false t h =
        let past = ltb-false _ _ t in
        let most : position_or_len (λ u. eqb u v) us ≤ length us = prefix_len-le-length (λ u. not (eqb u v)) us in
        let r = rank_place us v in omega arith
