-- The segments of a voxel off the level are tame.
use Rattle.std.proofs.Common.{◌≡◌, ℕ, zero, suc, ◌+◌, ◌<◌, ◌≤◌, Bool, true, false, cond, not, ◌&&◌, T, eqb, ltb, leb, ◌≢◌, ◌⊎◌, List, [], ◌∷◌, length, get_or, ℤ, sym, refl, ap, ◌∙◌, subst, ap₂, inl, inr, ⊎_elim, add-zero, zero-add, arith, lit<, ltb→lt}
use Rattle.std.specs.List.{All}
use Rattle.std.proofs.lemmas.List.Sums.{sum_by-cons}
use Rattle.std.proofs.lemmas.List.Elements.{All-from_recursion, All-get_or}
use Rattle.std.proofs.lemmas.Bool.{and_parts, not-true, eqb-true, eqb-false, ne_eqb, ltb-true, leb-true, or_from, cases_Bool, cases_lt}
use Rattle.cell.specs.Level.{sign}
use Rattle.cell.specs.Face.{Δ}
use Rattle.clipping.specs.Faces.{Segment, Off, voxel_segments, centred, crossed, corner, x_edge, y_edge, z_edge, across_x, across_y, across_z, local_vertices}
use Rattle.clipping.specs.Clip.{ends_at, joins, degree, linked}
use Rattle.clipping.specs.Laws.{times, Tame, Degrees, Voxels}
use Rattle.clipping.proofs.Sets.{bit, bit_false, bit_le, unlinked_times, joins_cases}
use Rattle.clipping.proofs.Turns.{times_swap, joins_loop}
use Rattle.clipping.proofs.Cases.{distinct, sound, degrees_are, good, expected, good_at}

-- the tests say what they test
distinct_once : (ss : List Segment) → distinct ss ≡ true → (u v : ℕ) → times ss u v ≤ 1
unfolding times distinct
distinct_once [] h u v = omega arith
distinct_once (s ∷ ss) h u v =
    let p = and_parts (not (linked ss s.0 s.1)) (distinct ss) h in
    let z = unlinked_times ss s.0 s.1 (not-true (linked ss s.0 s.1) p.0) in
    let c = sum_by-cons (λ x. bit (joins u v x)) s ss in
    let ih = distinct_once ss p.1 u v in
    ⊎_elim
    (λ j. let b = bit_le (joins u v s) in
    let y : times ss u v ≡ 0 = ⊎_elim
    (λ q. ap₂ (times ss) (sym q.0) (sym q.1) ∙ z)
    (λ q. times_swap ss u v ∙ ap₂ (times ss) (sym q.0) (sym q.1) ∙ z) (joins_cases u v s j) in
    omega arith)
    (λ j. let b = bit_false (joins u v s) j in omega arith)
    (cases_Bool (joins u v s))

sound_parts : (s : Segment) (ss : List Segment) → sound (s ∷ ss) ≡ true → (s.0 ≢ s.1) × (s.0 < local_vertices) × (s.1 < local_vertices) × (sound ss ≡ true)
unfolding sound
sound_parts s ss h =
    let p = and_parts (not (eqb s.0 s.1)) (ltb s.0 local_vertices && (ltb s.1 local_vertices && sound ss)) h in
    let q = and_parts (ltb s.0 local_vertices) (ltb s.1 local_vertices && sound ss) p.1 in
    let r = and_parts (ltb s.1 local_vertices) (sound ss) q.1 in
    (eqb-false s.0 s.1 (not-true (eqb s.0 s.1) p.0), ltb-true s.0 local_vertices q.0, ltb-true s.1 local_vertices r.0, r.1)

sound_no_loop : (ss : List Segment) → sound ss ≡ true → (v : ℕ) → times ss v v ≡ 0
unfolding times
sound_no_loop [] h v = refl
sound_no_loop (s ∷ ss) h v =
    let p = sound_parts s ss h in
    omega (arith, sum_by-cons (λ x. bit (joins v v x)) s ss, joins_loop v s.0 s.1 p.0, sound_no_loop ss p.3 v)

sound_local : (ss : List Segment) → sound ss ≡ true → (v : ℕ) → local_vertices ≤ v → degree ss v ≡ 0
unfolding degree ends_at
sound_local [] h v l = refl
sound_local (s ∷ ss) h v l =
    let p = sound_parts s ss h in
    let q = p.1 in
    let r = p.2 in
    let e = or_from (eqb s.0 v) (eqb s.1 v) (ne_eqb s.0 v (λ k. omega arith)) (ne_eqb s.1 v (λ k. omega arith)) in
    omega (arith, sum_by-cons (λ x. bit (ends_at v x)) s ss, bit_false (ends_at v s) e, sound_local ss p.3 v l)

degrees_at : (ss : List Segment) (k : ℕ) (ds : List ℕ) → degrees_are ss k ds ≡ true → (i : ℕ) → i < length ds → degree ss (k + i) ≡ get_or ds i 0
unfolding degrees_are
degrees_at ss k [] h i l = absurd (omega arith)
degrees_at ss k (d ∷ ds) h zero l =
    let p = and_parts (eqb (degree ss k) d) (degrees_are ss (suc k) ds) h in rw add-zero (eqb-true (degree ss k) d p.0)
degrees_at ss k (d ∷ ds) h (suc i) l =
    let p = and_parts (eqb (degree ss k) d) (degrees_are ss (suc k) ds) h in
    let e : k + suc i ≡ suc k + i = omega arith in
    ap (degree ss) e ∙ degrees_at ss (suc k) ds p.1 i (omega arith)

-- the first and the last part of the test
good_parts : (ss : List Segment) (ds : List ℕ) → good ss ds ≡ true → (degrees_are ss 0 ds ≡ true) × (length ss ≤ 24)
unfolding good
good_parts ss ds h =
    let p = and_parts (degrees_are ss 0 ds) (distinct ss && (sound ss && leb (length ss) 24)) h in
    let q = and_parts (distinct ss) (sound ss && leb (length ss) 24) p.1 in
    let r = and_parts (sound ss) (leb (length ss) 24) q.1 in
    (p.0, leb-true (length ss) 24 r.1)

-- a degree that occurs
Fine : ℕ → Type 0
Fine d = (d ≡ 0) ⊎ (d ≡ 2) ⊎ (d ≡ 4)

fine_two : (b : Bool) → Fine (cond b 2 0)
unfolding Fine
fine_two true = inr (inl refl)
fine_two false = inl refl

fine_four : (b : Bool) → Fine (cond b 4 0)
unfolding Fine
fine_four true = inr (inr refl)
fine_four false = inl refl

good_tame : (ss : List Segment) (ds : List ℕ) → length ds ≡ local_vertices → All Fine ds → good ss ds ≡ true → Tame ss
unfolding good Fine
good_tame ss ds n fine h =
    let p = and_parts (degrees_are ss 0 ds) (distinct ss && (sound ss && leb (length ss) 24)) h in
    let q = and_parts (distinct ss) (sound ss && leb (length ss) 24) p.1 in
    let r = and_parts (sound ss) (leb (length ss) 24) q.1 in
    let loc = sound_local ss r.0 in
    record {
      degrees = λ v. ⊎_elim
          (λ l. let k : v < length ds = omega arith in
          let e : degree ss v ≡ get_or ds v 0 = ap (degree ss) (sym (zero-add v)) ∙ degrees_at ss 0 ds p.0 v k in
          subst Fine (sym e) (All-get_or Fine ds v 0 k fine))
          (λ l. inl (loc v l)) (cases_lt v local_vertices);
      once = distinct_once ss q.0;
      no_loop = sound_no_loop ss r.0;
      local = loc;
    }

-- by cases for a step
below_two : (P : ℕ → Type 0) → P 0 → P 1 → (n : ℕ) → n < 2 → P n
below_two P p q zero h = p
below_two P p q (suc zero) h = q
below_two P p q (suc (suc n)) h = absurd (omega arith)

module _ (g : ℕ → ℤ) (off : Off g) where
  -- the degrees of the local vertices in order
  wanted : List ℕ
  wanted =
      expected (sign (g 0)) (sign (g 1)) (sign (g 2)) (sign (g 3)) (sign (g 4)) (sign (g 5)) (sign (g 6)) (sign (g 7))
      (centred g (across_x 0)) (centred g (across_x 1)) (centred g (across_y 0)) (centred g (across_y 1)) (centred g (across_z 0)) (centred g (across_z 1))

  voxel_good : good (voxel_segments g) wanted ≡ true
  unfolding wanted
  voxel_good =
      good_at (sign (g 0)) (sign (g 1)) (sign (g 2)) (sign (g 3)) (sign (g 4)) (sign (g 5)) (sign (g 6)) (sign (g 7))
      (sign (Δ (g 0) (g 2) (g 4) (g 6))) (sign (Δ (g 1) (g 3) (g 5) (g 7))) (sign (Δ (g 0) (g 1) (g 4) (g 5)))
      (sign (Δ (g 2) (g 3) (g 6) (g 7))) (sign (Δ (g 0) (g 1) (g 2) (g 3))) (sign (Δ (g 4) (g 5) (g 6) (g 7)))
      (off 0 (lit< tt)) (off 1 (lit< tt)) (off 2 (lit< tt)) (off 3 (lit< tt)) (off 4 (lit< tt)) (off 5 (lit< tt)) (off 6 (lit< tt)) (off 7 (lit< tt))

  voxel_degree : (v : ℕ) → v < 18 → degree (voxel_segments g) v ≡ get_or wanted v 0
  unfolding good wanted
  voxel_degree v l =
      ap (degree (voxel_segments g)) (sym (zero-add v)) ∙
      degrees_at (voxel_segments g) 0 wanted (good_parts (voxel_segments g) wanted voxel_good).0 v l

  voxel_tame : Tame (voxel_segments g)
  unfolding wanted
  voxel_tame =
      good_tame (voxel_segments g) wanted refl
      (All-from_recursion Fine wanted (fine_two _, (fine_two _, (fine_two _, (fine_two _, (fine_two _, (fine_two _, (fine_two _, (fine_two _, (fine_two _, (fine_two _, (fine_two _, (fine_two _, (fine_four _, (fine_four _, (fine_four _, (fine_four _, (fine_four _, (fine_four _, tt)))))))))))))))))))
      voxel_good

  at : (v : ℕ) → T (ltb v 18) → degree (voxel_segments g) v ≡ get_or wanted v 0
  at v l = voxel_degree v (ltb→lt v 18 l)

  voxel_degrees : Degrees g
  unfolding wanted
  voxel_degrees = record {
    on_x = λ dy dz p q. below_two (λ dy. degree (voxel_segments g) (x_edge dy dz) ≡ cond (crossed g (corner 0 dy dz) (corner 1 dy dz)) 2 0)
        (below_two (λ dz. degree (voxel_segments g) (x_edge 0 dz) ≡ cond (crossed g (corner 0 0 dz) (corner 1 0 dz)) 2 0) (at 0 tt) (at 2 tt) dz q)
        (below_two (λ dz. degree (voxel_segments g) (x_edge 1 dz) ≡ cond (crossed g (corner 0 1 dz) (corner 1 1 dz)) 2 0) (at 1 tt) (at 3 tt) dz q) dy p;
    on_y = λ dx dz p q. below_two (λ dx. degree (voxel_segments g) (y_edge dx dz) ≡ cond (crossed g (corner dx 0 dz) (corner dx 1 dz)) 2 0)
        (below_two (λ dz. degree (voxel_segments g) (y_edge 0 dz) ≡ cond (crossed g (corner 0 0 dz) (corner 0 1 dz)) 2 0) (at 4 tt) (at 6 tt) dz q)
        (below_two (λ dz. degree (voxel_segments g) (y_edge 1 dz) ≡ cond (crossed g (corner 1 0 dz) (corner 1 1 dz)) 2 0) (at 5 tt) (at 7 tt) dz q) dx p;
    on_z = λ dx dy p q. below_two (λ dx. degree (voxel_segments g) (z_edge dx dy) ≡ cond (crossed g (corner dx dy 0) (corner dx dy 1)) 2 0)
        (below_two (λ dy. degree (voxel_segments g) (z_edge 0 dy) ≡ cond (crossed g (corner 0 dy 0) (corner 0 dy 1)) 2 0) (at 8 tt) (at 10 tt) dy q)
        (below_two (λ dy. degree (voxel_segments g) (z_edge 1 dy) ≡ cond (crossed g (corner 1 dy 0) (corner 1 dy 1)) 2 0) (at 9 tt) (at 11 tt) dy q) dx p;
    centre_x = below_two (λ s. degree (voxel_segments g) (12 + s) ≡ cond (centred g (across_x s)) 4 0) (at 12 tt) (at 13 tt);
    centre_y = below_two (λ s. degree (voxel_segments g) (14 + s) ≡ cond (centred g (across_y s)) 4 0) (at 14 tt) (at 15 tt);
    centre_z = below_two (λ s. degree (voxel_segments g) (16 + s) ≡ cond (centred g (across_z s)) 4 0) (at 16 tt) (at 17 tt);
  }

pub voxels : Voxels
voxels g off = (voxel_tame g off, voxel_degrees g off, (good_parts (voxel_segments g) (wanted g off) (voxel_good g off)).1)
