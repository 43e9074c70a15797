-- What the code reads off the eighteen numbers: the apex and its neighbours, and one turn after another.
use Rattle.std.proofs.Common.{◌≡◌, ℕ, zero, suc, ◌<◌, ◌≤◌, true, cond, eqb, ltb, List, [], ◌∷◌, length, get_or, sym, refl, ap, ◌∙◌, subst, ap₂, ⊎_elim, arith}
use mathlib.Core.Path.{subst₃}
use lib.Count.{ones, count_trailing_zeros}
use Rattle.std.proofs.lemmas.Bool.{cond-true, cases_lt, eqb-true, eq-eqb, both_ways}
use Rattle.clipping.specs.Faces.{Segment}
use Rattle.clipping.specs.Clip.{degree, is_on, vertices_on, linked, strike, toggle, lowest, apex, neighbour, turn, clip, triangles}
use Rattle.clipping.specs.Laws.{times, Tame}
use Rattle.clipping.specs.Masks.{digit, toggled, used_in, apex_of, Means, Clippable, Stepped}
use Rattle.clipping.proofs.Sets.{lowest_same, lowest_le, linked_times, times_linked, strike_times}
use Rattle.clipping.proofs.Turns.{Found, found, apex_degree, after, after_tame, after_length}
use Rattle.clipping.proofs.Order.{order_same}
use Rattle.clipping.proofs.Digits.{trailing_lowest}
use Rattle.clipping.proofs.Masks.{means_toggled}

-- the apex
pub apex_read : (xs : List ℕ) (ss : List Segment) → Means xs ss → apex_of xs ≡ apex ss
unfolding apex
apex_read xs ss m =
    let at : (n j : ℕ) → j < 18 → eqb (ones (get_or xs j 0)) n ≡ eqb (degree ss j) n = λ n j h. ap (λ k. eqb k n) (m.counts j h) in
    ap₂ (λ two four. cond (ltb two 18) two four)
    (lowest_same (λ v. eqb (ones (get_or xs v 0)) 2) (λ v. eqb (degree ss v) 2) 18 (at 2))
    (lowest_same (λ v. eqb (ones (get_or xs v 0)) 4) (λ v. eqb (degree ss v) 4) 18 (at 4))

-- the vertices on the segments
pub used_read : (xs : List ℕ) (ss : List Segment) → Means xs ss → used_in xs ≡ vertices_on ss
used_read xs ss m = order_same (λ v. ltb 0 (ones (get_or xs v 0))) (is_on ss) (λ v l. ap (ltb 0) (m.counts v l))

-- the lowest neighbour
pub neighbour_read : (xs : List ℕ) (ss : List Segment) → Means xs ss → (v : ℕ) → v < 18 → (linked ss v (neighbour ss v) ≡ true) × (neighbour ss v < 18)
    → ((x y : ℕ) → times ss x y ≤ 1) → count_trailing_zeros 32 (get_or xs v 0) ≡ neighbour ss v
unfolding neighbour
neighbour_read xs ss m v lv n once =
    let t : ℕ = count_trailing_zeros 32 (get_or xs v 0) in
    let w = trailing_lowest 32 (get_or xs v 0) in
    let k : ℕ = lowest (linked ss v) 18 in
    let lk = n.1 in
    let dk : digit (get_or xs v 0) k ≡ 1 = omega (arith, m.digits v k lv n.1, linked_times ss v k n.0, once v k) in
    let t≤k : t ≤ k = ⊎_elim (λ h. absurd (both_ways (eqb (digit (get_or xs v 0) k) 1) (w.first k h) (eq-eqb (digit (get_or xs v 0) k) 1 dk))) (λ h. h) (cases_lt k t) in
    let dt = eqb-true (digit (get_or xs v 0) t) 1 (w.passes (omega arith)) in
    let lt : linked ss v t ≡ true = times_linked ss v t (omega (arith, m.digits v t lv (omega arith))) in
    let k≤t = lowest_le (linked ss v) 18 t lt in
    omega arith

-- a segment of the set is struck by a toggle
pub toggle_strikes : (ss : List Segment) (u v : ℕ) → linked ss u v ≡ true → toggle ss u v ≡ strike ss u v
unfolding toggle
toggle_strikes ss u v h = cond-true (linked ss u v) (strike ss u v) ((u, v) ∷ ss) h

-- the number of turns does not matter once it suffices
clip_enough : (n m : ℕ) (S : List Segment) → Tame S → length S ≤ n → length S ≤ m → clip n S ≡ clip m S
unfolding clip turn
clip_enough zero zero S t p q = refl
clip_enough zero (suc m) [] t p q = refl
clip_enough zero (suc m) (s ∷ S) t p q = absurd (omega arith)
clip_enough (suc n) zero [] t p q = refl
clip_enough (suc n) zero (s ∷ S) t p q = absurd (omega arith)
clip_enough (suc n) (suc m) [] t p q = refl
clip_enough (suc n) (suc m) (s ∷ S) t p q =
    let v : ℕ = apex (s ∷ S) in
    let a : ℕ = neighbour (s ∷ S) v in
    let b : ℕ = neighbour (strike (s ∷ S) v a) v in
    let top = apex_degree s S t in
    let f = found (s ∷ S) v t top.0 top.1 in
    let k = after_length (s ∷ S) v a b t f in
    ap (λ ts. (v, a, b) ∷ ts) (clip_enough n m (after (s ∷ S) v a b) (after_tame (s ∷ S) v a b t f) (omega arith) (omega arith))

-- at a set with an apex a turn finds its three vertices
pub found_at : (ss : List Segment) → Tame ss → apex ss < 18
    → Found ss (apex ss) (neighbour ss (apex ss)) (neighbour (strike ss (apex ss) (neighbour ss (apex ss))) (apex ss))
unfolding apex lowest degree
found_at [] t h = absurd (omega arith)
found_at (s ∷ ss) t h = let top = apex_degree s ss t in found (s ∷ ss) (apex (s ∷ ss)) t top.0 top.1

-- the empty set has no apex, and only that
pub apex_empty : (ss : List Segment) → Tame ss → 18 ≤ apex ss → ss ≡ []
apex_empty [] t h = refl
apex_empty (s ∷ ss) t h = let top = apex_degree s ss t in absurd (omega arith)

-- One turn of the code: v, a and b as it reads them off the numbers.
pub record Read (xs : List ℕ) (ss : List Segment) (v a b : ℕ) : Type 0 where
  pub is_apex : v ≡ apex ss
  pub is_a : a ≡ neighbour ss (apex ss)
  pub is_b : b ≡ neighbour (strike ss (apex ss) (neighbour ss (apex ss))) (apex ss)
  pub found : Found ss v a b
  pub means : Means (toggled (toggled (toggled xs v a) v b) a b) (after ss v a b)

module _ (xs : List ℕ) (ss : List Segment) (m : Means xs ss) (t : Tame ss) (top : apex ss < 18) where
  -- the three vertices of the set
  V : ℕ
  V = apex ss

  A : ℕ
  A = neighbour ss (apex ss)

  B : ℕ
  B = neighbour (strike ss (apex ss) (neighbour ss (apex ss))) (apex ss)

  f : Found ss V A B
  unfolding V A B
  f = found_at ss t top

  a_low : A < 18
  a_low = let l = f.a<b in let h = f.b_local in omega arith

  a_read : count_trailing_zeros 32 (get_or xs V 0) ≡ A
  unfolding V A
  a_read = neighbour_read xs ss m (apex ss) top (f.va, a_low) t.once

  one : Means (toggled xs V A) (strike ss V A)
  one = subst (λ ss'. Means (toggled xs V A) ss') (toggle_strikes ss V A f.va) (means_toggled xs ss m t.once V A f.v_local a_low f.v≢a)

  once_one : (x y : ℕ) → times (strike ss V A) x y ≤ 1
  once_one x y = omega (arith, t.once x y, strike_times ss V A x y f.va)

  b_read : count_trailing_zeros 32 (get_or (toggled xs V A) V 0) ≡ B
  unfolding V A B
  b_read = neighbour_read (toggled xs V A) (strike ss V A) one V top (f.vb, f.b_local) once_one

  two : Means (toggled (toggled xs V A) V B) (strike (strike ss V A) V B)
  two =
      subst (λ ss'. Means (toggled (toggled xs V A) V B) ss') (toggle_strikes (strike ss V A) V B f.vb)
      (means_toggled (toggled xs V A) (strike ss V A) one once_one V B f.v_local f.b_local f.v≢b)

  three : Means (toggled (toggled (toggled xs V A) V B) A B) (after ss V A B)
  three =
      means_toggled (toggled (toggled xs V A) V B) (strike (strike ss V A) V B) two
      (λ x y. omega (arith, once_one x y, strike_times (strike ss V A) V B x y f.vb)) A B a_low f.b_local (λ e. let l = f.a<b in absurd (omega arith))

  canonical : Read xs ss V A B
  unfolding V A B
  canonical = record { is_apex = refl; is_a = refl; is_b = refl; found = f; means = three }

  pub read : (v a b : ℕ) → v ≡ apex_of xs → a ≡ count_trailing_zeros 32 (get_or xs v 0) → b ≡ count_trailing_zeros 32 (get_or (toggled xs v a) v 0) → Read xs ss v a b
  read v a b ev ea eb =
      let pv : V ≡ v = unfold V in sym (ev ∙ apex_read xs ss m) in
      let pa : A ≡ a = sym (ea ∙ ap (λ k. count_trailing_zeros 32 (get_or xs k 0)) (sym pv) ∙ a_read) in
      let pb : B ≡ b = sym (eb ∙ ap₂ (λ k l. count_trailing_zeros 32 (get_or (toggled xs k l) k 0)) (sym pv) (sym pa) ∙ b_read) in
      subst₃ (λ k l n. Read xs ss k l n) pv pa pb canonical

-- the first triangle, and the others
step_canonical : (ss : List Segment) → Tame ss → apex ss < 18
    → let v : ℕ = apex ss in let a : ℕ = neighbour ss v in let b : ℕ = neighbour (strike ss v a) v in triangles ss ≡ (v, a, b) ∷ triangles (after ss v a b)
unfolding triangles clip turn apex lowest degree
step_canonical [] t h = absurd (omega arith)
step_canonical (s ∷ ss) t h =
    let v : ℕ = apex (s ∷ ss) in
    let a : ℕ = neighbour (s ∷ ss) v in
    let b : ℕ = neighbour (strike (s ∷ ss) v a) v in
    let f = found_at (s ∷ ss) t h in
    let k = after_length (s ∷ ss) v a b t f in
    ap (λ ts. (v, a, b) ∷ ts) (clip_enough (length ss) (length (after (s ∷ ss) v a b)) (after (s ∷ ss) v a b) (after_tame (s ∷ ss) v a b t f) (omega arith) (omega arith))

pub triangles_step : (ss : List Segment) (v a b : ℕ) → Tame ss → apex ss < 18
    → v ≡ apex ss → a ≡ neighbour ss (apex ss) → b ≡ neighbour (strike ss (apex ss) (neighbour ss (apex ss))) (apex ss)
    → triangles ss ≡ (v, a, b) ∷ triangles (after ss v a b)
triangles_step ss v a b t h ev ea eb =
    subst₃ (λ v a b. triangles ss ≡ (v, a, b) ∷ triangles (after ss v a b)) (sym ev) (sym ea) (sym eb) (step_canonical ss t h)

-- what the code reads are vertices; ys are the numbers after the first toggle
pub read_low : (xs ys : List ℕ) (v : ℕ) → Clippable xs → v ≡ apex_of xs → v < 18 → ys ≡ toggled xs v (count_trailing_zeros 32 (get_or xs v 0))
    → (count_trailing_zeros 32 (get_or xs v 0) < 18) × (count_trailing_zeros 32 (get_or ys v 0) < 18)
read_low xs ys v k ev lv ey =
    let top : apex k.segments < 18 = omega (arith, ev, apex_read xs k.segments k.means) in
    let r = read xs k.segments k.means k.tame top v (count_trailing_zeros 32 (get_or xs v 0)) (count_trailing_zeros 32 (get_or ys v 0)) ev refl (ap (λ zs. count_trailing_zeros 32 (get_or zs v 0)) ey) in
    let l = r.found.a<b in
    let h = r.found.b_local in
    omega arith

-- a turn of the code steps every tame set that its numbers mean
pub steps : (xs ys zs ws : List ℕ) (v a b : ℕ) → v ≡ apex_of xs → v < 18 → a ≡ count_trailing_zeros 32 (get_or xs v 0) → ys ≡ toggled xs v a → b ≡ count_trailing_zeros 32 (get_or ys v 0)
    → zs ≡ toggled ys v b → ws ≡ toggled zs a b → (ss : List Segment) → Means xs ss → Tame ss → Stepped ss ws (v, a, b)
steps xs ys zs ws v a b ev lv ea ey eb ez ew ss m t =
    let top : apex ss < 18 = omega (arith, ev, apex_read xs ss m) in
    let r = read xs ss m t top v a b ev ea (eb ∙ ap (λ zs. count_trailing_zeros 32 (get_or zs v 0)) ey) in
    let e : ws ≡ toggled (toggled (toggled xs v a) v b) a b = ew ∙ ap (λ l. toggled l a b) (ez ∙ ap (λ l. toggled l v b) ey) in
    let k = after_length ss v a b t r.found in
    record {
      rest = after ss v a b;
      means = subst (λ l. Means l (after ss v a b)) (sym e) r.means;
      tame = after_tame ss v a b t r.found;
      first = triangles_step ss v a b t top r.is_apex r.is_a r.is_b;
      fewer = omega arith;
    }
