-- The vertices of a voxel: no two at one place, those that its pieces name, and no more than eighteen.
use Rattle.std.proofs.Common.{◌≡◌, ℕ, ◌<◌, ◌≤◌, true, ◌||◌, eqb, ◌⊎◌, ◌↔◌, List, [], ◌∷◌, map, length, sym, refl, ap, subst, inl, inr, ⊎_elim, arith}
use Rattle.std.specs.List.{Contains}
use Rattle.std.proofs.lemmas.List.Elements.{All-contains}
use Rattle.std.proofs.lemmas.Bool.{ltb-true, lt-ltb, eqb-true, eq-eqb, or_cases, or_left, or_right}
use Rattle.block.specs.Block.{Block}
use Rattle.block.specs.declared.lattice.Point.{Point}
use Rattle.kind.specs.Meaning.{Piece, Distinct, places_of}
use Rattle.cell.specs.declared.level.Level.{Level}
use Rattle.cell.specs.declared.vertex.Place.{Place}
use Rattle.cell.specs.declared.vertex.Vertex.{Vertex}
use Rattle.clipping.specs.Faces.{local_vertices, local_order}
use Rattle.clipping.specs.Clip.{Triangle, degree, is_on, vertices_on, triangles}
use Rattle.clipping.specs.Laws.{names_vertex, uses, Proper, Filled}
use Rattle.clipping.proofs.Order.{order_has}
use Rattle.kind.proofs.Members.{three_has, three_cases, has_map, map_has, has_kept, kept_has, length_kept, distinct_kept}
use Rattle.kind.proofs.Counts.{counted, has_counted}
use Rattle.voxel_theory.specs.Voxel.{place_of, vertex_at, segments, vertices, piece_of, pieces}
use Rattle.voxel_theory.proofs.Places.{places_distinct}

-- the places of the vertices are those of their local numbers
places_are : (b : Block) (l : Level) (c : Point) (vs : List ℕ) → places_of (map (λ v. vertex_at b l (place_of c v)) vs) ≡ map (place_of c) vs
places_are b l c [] = refl
places_are b l c (v ∷ vs) = ap (λ ps. place_of c v ∷ ps) (places_are b l c vs)

pub apart : (b : Block) (l : Level) (c : Point) → Distinct (places_of (vertices b l c))
apart b l c =
    subst Distinct (sym (places_are b l c (vertices_on (segments b l c))))
    (distinct_kept (place_of c) (is_on (segments b l c)) local_order (places_distinct c))

-- a vertex is that of its place
pub vertex_is : (b : Block) (l : Level) (c : Point) (v : Vertex) → Contains (vertices b l c) v → v ≡ vertex_at b l v.place
vertex_is b l c v h =
    let t = map_has (λ v. vertex_at b l (place_of c v)) (vertices_on (segments b l c)) v h in
    subst (λ (w : Vertex). w ≡ vertex_at b l w.place) t.2 refl

pub at_most_eighteen : (b : Block) (l : Level) (c : Point) → length (vertices b l c) ≤ local_vertices
at_most_eighteen b l c = length_kept (λ v. vertex_at b l (place_of c v)) (is_on (segments b l c)) local_order

-- a triangle's piece has the places of the vertices that the triangle names
piece_has : (c : Point) (t : Triangle) (m : ℕ) → names_vertex m t ≡ true → Contains (piece_of c t) (place_of c m)
unfolding names_vertex
piece_has c t m h =
    let here : (k : ℕ) → eqb k m ≡ true → place_of c k ≡ place_of c m = λ k e. ap (place_of c) (eqb-true k m e) in
    three_has (place_of c t.0) (place_of c t.1) (place_of c t.2) (place_of c m)
    (⊎_elim (λ r. ⊎_elim (λ e. inl (here t.0 e)) (λ e. inr (inl (here t.1 e))) (or_cases (eqb t.0 m) (eqb t.1 m) r))
    (λ e. inr (inr (here t.2 e)))
    (or_cases (eqb t.0 m || eqb t.1 m) (eqb t.2 m) h))

has_piece : (c : Point) (t : Triangle) (p : Place) → Proper t → Contains (piece_of c t) p → (m : ℕ) × (m < local_vertices) × (names_vertex m t ≡ true) × (place_of c m ≡ p)
unfolding names_vertex
has_piece c t p q h = go (three_cases (place_of c t.0) (place_of c t.1) (place_of c t.2) p h)
  where
    self : (k : ℕ) → eqb k k ≡ true
    self k = eq-eqb k k refl

    go : (place_of c t.0 ≡ p) ⊎ (place_of c t.1 ≡ p) ⊎ (place_of c t.2 ≡ p) → (m : ℕ) × (m < local_vertices) × (names_vertex m t ≡ true) × (place_of c m ≡ p)
    go (inl e) = (t.0, q.3, or_left _ _ (or_left _ _ (self t.0)), e)
    go (inr (inl e)) = let a = q.2 in let d = q.4 in (t.1, omega arith, or_left _ _ (or_right _ _ (self t.1)), e)
    go (inr (inr e)) = (t.2, q.4, or_right _ _ (self t.2), e)

module _ (b : Block) (l : Level) (c : Point) (filled : Filled (segments b l c) (triangles (segments b l c))) where
  pub named : (p : Place) → Contains (places_of (vertices b l c)) p ↔ ((q : Piece) × Contains (pieces b l c) q × Contains q p)
  unfolding uses
  named p = (to, from)
    where
      to : Contains (places_of (vertices b l c)) p → (q : Piece) × Contains (pieces b l c) q × Contains q p
      to h =
          let ts = triangles (segments b l c) in
          let k = map_has (place_of c) (vertices_on (segments b l c)) p (subst (λ ps. Contains ps p) (places_are b l c (vertices_on (segments b l c))) h) in
          let m = k.0 in
          let d = ltb-true 0 (degree (segments b l c) m) (kept_has (is_on (segments b l c)) local_order m k.1).1 in
          let t = counted (names_vertex m) ts ((filled.named m).1 d) in
          (piece_of c t.0, has_map (piece_of c) ts t.0 t.1, subst (Contains (piece_of c t.0)) k.2 (piece_has c t.0 m t.2))

      from : (q : Piece) × Contains (pieces b l c) q × Contains q p → Contains (places_of (vertices b l c)) p
      from h =
          let ts = triangles (segments b l c) in
          let t = map_has (piece_of c) ts h.0 h.1 in
          let k = has_piece c t.0 p (All-contains Proper ts t.0 filled.proper t.1) (subst (λ q. Contains q p) (sym t.2) h.2) in
          let m = k.0 in
          let d = (filled.named m).0 (has_counted (names_vertex m) ts t.0 t.1 k.2) in
          let kept = has_kept (is_on (segments b l c)) local_order m (lt-ltb 0 (degree (segments b l c) m) d) (order_has m k.1) in
          subst (λ ps. Contains ps p) (sym (places_are b l c (vertices_on (segments b l c))))
          (subst (Contains (map (place_of c) (vertices_on (segments b l c)))) k.3 (has_map (place_of c) (vertices_on (segments b l c)) m kept))
