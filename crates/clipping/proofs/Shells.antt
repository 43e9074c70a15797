-- The two lowest neighbours, and a voxel's triangles.
use Rattle.std.proofs.Common.{◌≡◌, ℕ, ◌<◌, ◌≤◌, true, false, not, ◌&&◌, eqb, ◌≢◌, List, [], ◌∷◌, length, sym, ap, ◌∙◌, subst, ⊎_elim, arith}
use mathlib.Core.Bool.{and-true, and-false}
use Rattle.std.proofs.lemmas.Bool.{cases_eq, cases_Bool, eq-eqb, ne_eqb, both_ways}
use Rattle.std.proofs.lemmas.Bool.Decides.{nat_tests}
use Rattle.clipping.specs.Faces.{Segment, voxel_segments}
use Rattle.clipping.specs.Clip.{joins, linked, strike, neighbour, apex, clip, triangles}
use Rattle.clipping.specs.Laws.{times, Tame, Filled, Second, Shells, most_segments, most_triangles}
use Rattle.clipping.proofs.Sets.{bit, bit_true, joins_itself, strike_times, linked_times, times_linked, lowest_same}
use Rattle.clipping.proofs.Turns.{apex_degree, found}
use Rattle.clipping.proofs.Clips.{clips}
use Rattle.clipping.proofs.Voxels.{voxels}

-- a segment from v to another vertex than a does not join v and a
joins_apart : (v a u : ℕ) → u ≢ a → bit (joins v u (v, a)) ≡ 0
unfolding joins
joins_apart v a u ne = grind (arith, nat_tests)

-- the same multiplicity, the same test
same_test : (ss ts : List Segment) (u v : ℕ) → times ss u v ≡ times ts u v → linked ss u v ≡ linked ts u v
same_test ss ts u v e =
    ⊎_elim (λ p. p ∙ sym (times_linked ts u v (omega (arith, linked_times ss u v p))))
    (λ p. p ∙ sym (⊎_elim (λ q. absurd (both_ways (linked ss u v) p (times_linked ss u v (omega (arith, linked_times ts u v q))))) (λ q. q) (cases_Bool (linked ts u v))))
    (cases_Bool (linked ss u v))

strike_linked : (ss : List Segment) → Tame ss → (v a : ℕ) → linked ss v a ≡ true → (u : ℕ) → linked (strike ss v a) v u ≡ (linked ss v u && not (eqb u a))
strike_linked ss t v a h u = ⊎_elim
    (λ e. let z : linked (strike ss v a) v a ≡ false = ⊎_elim
    (λ q. absurd (omega (arith, t.once v a, strike_times ss v a v a h, bit_true (joins v a (v, a)) (joins_itself v a), linked_times (strike ss v a) v a q))) (λ q. q)
    (cases_Bool (linked (strike ss v a) v a)) in
    ap (linked (strike ss v a) v) e ∙ z ∙ sym (ap (λ b. linked ss v u && not b) (eq-eqb u a e) ∙ and-false (linked ss v u)))
    (λ d. same_test (strike ss v a) ss v u (omega (arith, strike_times ss v a v u h, joins_apart v a u d))
    ∙ sym (ap (λ b. linked ss v u && not b) (ne_eqb u a d) ∙ and-true (linked ss v u)))
    (cases_eq u a)

pub second : Second
unfolding neighbour
second [] t h = absurd (omega arith)
second (s ∷ ss) t h =
    let v : ℕ = apex (s ∷ ss) in
    let a : ℕ = neighbour (s ∷ ss) v in
    let top = apex_degree s ss t in
    let f = found (s ∷ ss) v t top.0 top.1 in
    let e = lowest_same (linked (strike (s ∷ ss) v a) v) (λ u. linked (s ∷ ss) v u && not (eqb u a)) 18 (λ j l. strike_linked (s ∷ ss) t v a f.va j) in
    (e, subst (λ b. a < b) e f.a<b)

-- without segments there are no triangles, and else there are at least two fewer than segments
few : (ss : List Segment) → Filled ss (triangles ss) → length ss ≤ most_segments → length (triangles ss) ≤ most_triangles
unfolding triangles clip
few [] f l = omega arith
few (s ∷ ss) f l = let k = f.few (omega arith) in omega arith

pub shells : Shells
shells g off =
    let v = voxels g off in
    let f = (clips (voxel_segments g) v.0).1 in
    (f, few (voxel_segments g) f v.2)
