-- The clipping of every tame set ends with nothing left, and its triangles fill the set.
use Rattle.std.proofs.Common.{◌≡◌, ℕ, zero, suc, ◌+◌, ◌%◌, ◌<◌, ◌≤◌, true, ◌&&◌, eqb, ◌≢◌, ◌↔◌, List, [], ◌∷◌, length, refl, ⊎_elim, arith}
use Rattle.std.specs.List.{All}
use Rattle.std.proofs.lemmas.List.Elements.{All-nil, All-cons}
use Rattle.std.proofs.lemmas.List.Sums.{sum_by-cons}
use Rattle.std.proofs.lemmas.Bool.Decides.{nat_tests}
use Rattle.std.proofs.lemmas.Bool.{cases_eq, cases_lt}
use Rattle.clipping.specs.Faces.{Segment}
use Rattle.clipping.specs.Clip.{Triangle, joins, degree, linked, strike, apex, neighbour, turn, clip, left, triangles}
use Rattle.clipping.specs.Laws.{times, Tame, names_vertex, shared, uses, Proper, Clips}
use Rattle.clipping.proofs.Sets.{bit, linked_times, times_linked, toggle_times}
use Rattle.clipping.proofs.Turns.{Found, found, apex_degree, after, after_tame, after_length, degree_rest, degree_after, times_rest}

-- a triangle's vertices as numbers
names_sum : (v a b w : ℕ) → v ≢ a → v ≢ b → a < b → bit (names_vertex w (v, a, b)) ≡ bit (eqb v w) + bit (eqb a w) + bit (eqb b w)
unfolding names_vertex
names_sum v a b w p q r = grind (arith, nat_tests)

-- two different vertices lie on a triangle exactly when they are the ends of one of its edges
names_edges : (v a b x y : ℕ) → v ≢ a → v ≢ b → a < b → x ≢ y
    → bit (names_vertex x (v, a, b) && names_vertex y (v, a, b)) ≡ bit (joins x y (v, a)) + bit (joins x y (v, b)) + bit (joins x y (a, b))
unfolding names_vertex joins
names_edges v a b x y p q r d = grind (arith, nat_tests)

-- What the triangles are to the segments, with the parity in numbers.
record Done (S : List Segment) (ts : List Triangle) : Type 0 where
  parity : (x y : ℕ) → x ≢ y → shared ts x y % 2 ≡ times S x y % 2
  proper : All Proper ts
  named : (w : ℕ) → (0 < uses ts w) ↔ (0 < degree S w)
  few : 0 < length S → length ts + 2 ≤ length S
  empty : length S ≡ 0 → length ts ≡ 0

-- one triangle more
grow : (S : List Segment) (v a b : ℕ) → Tame S → Found S v a b → (ts : List Triangle) → Done (after S v a b) ts → Done S ((v, a, b) ∷ ts)
unfolding shared uses
grow S v a b t f ts d = record {
  parity = λ x y ne.
      let e = names_edges v a b x y f.v≢a f.v≢b f.a<b ne in
      let c = sum_by-cons (λ (k : Triangle). bit (names_vertex x k && names_vertex y k)) (v, a, b) ts in
      let r = times_rest S v a b t f x y in
      let ih = d.parity x y ne in
      ⊎_elim (λ p. omega arith) (λ p. omega arith) (toggle_times (strike (strike S v a) v b) a b x y);
  proper = All-cons Proper (v, a, b) ts (f.v≢a, f.v≢b, f.a<b, f.v_local, f.b_local) d.proper;
  named = λ w.
      let e = names_sum v a b w f.v≢a f.v≢b f.a<b in
      let c = sum_by-cons (λ (k : Triangle). bit (names_vertex w k)) (v, a, b) ts in
      let r = degree_rest S v a b t f w in
      let q = degree_after S v a b t f w in
      ⊎_elim (λ u. let ih = (d.named w).0 u in (λ h. omega arith, λ h. omega arith))
      (λ u. let ih : degree (after S v a b) w ≤ 0 = ⊎_elim (λ k. absurd (omega (arith, (d.named w).1 k))) (λ k. k) (cases_lt 0 (degree (after S v a b) w)) in (λ h. omega arith, λ h. omega arith))
      (cases_lt 0 (uses ts w));
  few = λ h. ⊎_elim
      (λ p. ⊎_elim (λ k. let g = d.empty k in omega arith) (λ k. let g = d.few (omega arith) in omega arith) (cases_eq (length (after S v a b)) 0))
      (λ p. let g = d.few p.1 in omega arith)
      (after_length S v a b t f);
  empty = λ h. absurd (⊎_elim (λ p. omega arith) (λ p. omega arith) (after_length S v a b t f));
}

-- nothing is clipped from the empty set
nothing : Done [] []
unfolding shared uses times degree
nothing = record { parity = λ x y ne. refl; proper = All-nil Proper; named = λ w. (λ h. h, λ h. h); few = λ h. absurd (omega arith); empty = λ h. refl }

-- enough turns clip everything
clipped : (n : ℕ) (S : List Segment) → Tame S → length S ≤ n → (left n S ≡ []) × Done S (clip n S)
unfolding left clip turn
clipped zero [] t l = (refl, nothing)
clipped zero (s ∷ ss) t l = absurd (omega arith)
clipped (suc n) [] t l = (refl, nothing)
clipped (suc n) (s ∷ ss) t l =
    let v : ℕ = apex (s ∷ ss) in
    let a : ℕ = neighbour (s ∷ ss) v in
    let b : ℕ = neighbour (strike (s ∷ ss) v a) v in
    let top = apex_degree s ss t in
    let f = found (s ∷ ss) v t top.0 top.1 in
    let k = after_length (s ∷ ss) v a b t f in
    let ih = clipped n (after (s ∷ ss) v a b) (after_tame (s ∷ ss) v a b t f) (omega arith) in
    (ih.0, grow (s ∷ ss) v a b t f (clip n (after (s ∷ ss) v a b)) ih.1)

-- an odd number is a set's multiplicity 1
odd_linked : (S : List Segment) (x y n : ℕ) → Tame S → n % 2 ≡ times S x y % 2 → (n % 2 ≡ 1) ↔ (linked S x y ≡ true)
odd_linked S x y n t e =
    (λ h. times_linked S x y (omega (arith, t.once x y)), λ h. omega (arith, t.once x y, linked_times S x y h))

pub clips : Clips
unfolding triangles
clips S t =
    let c = clipped (length S) S t (omega arith) in (
      c.0,
      record {
        parity = λ x y ne. odd_linked S x y (shared (triangles S) x y) t (c.1.parity x y ne);
        proper = c.1.proper;
        named = c.1.named;
        few = c.1.few;
      },
    )
