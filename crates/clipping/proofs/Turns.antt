-- One turn of the clipping of a tame set: it finds three vertices, keeps the set tame, and what it adds up to.
use Rattle.std.proofs.Common.{◌≡◌, ℕ, ◌+◌, ◌*◌, ◌%◌, ◌<◌, ◌≤◌, Bool, true, false, cond, ◌||◌, eqb, ltb, ◌≢◌, ◌⊎◌, List, ◌∷◌, length, count_by, sym, refl, ap, ◌∙◌, ap₂, inl, inr, ⊎_elim, arith}
use mathlib.Core.Path.{fun_ext}
use Rattle.std.proofs.lemmas.List.Sums.{sum_by-cons}
use Rattle.std.proofs.lemmas.Bool.{eqb-true, eq-eqb, ne_eqb, cases_Bool, ltb-true, ltb-false, cases_eq, cases_lt}
use Rattle.clipping.specs.Faces.{Segment, local_vertices}
use Rattle.clipping.specs.Clip.{ends_at, joins, degree, linked, strike, toggle, lowest, apex, neighbour}
use Rattle.clipping.specs.Laws.{times, Tame}
use Rattle.clipping.proofs.Sets.{bit, bit_true, bit_false, bit_le, lowest_is, lowest_le, has_neighbour, linked_degree, left_end, strike_degree, strike_times, strike_length, toggle_degree, toggle_times, toggle_length, linked_times, times_linked, unlinked_times, joins_itself, joins_swap, joins_cases}

-- the degrees as numbers that `omega` reads
pub record Even (ss : List Segment) (v : ℕ) : Type 0 where
  pub even : degree ss v % 2 ≡ 0
  pub four : degree ss v ≤ 4

pub tame_even : (ss : List Segment) → Tame ss → (v : ℕ) → Even ss v
tame_even ss t v = let h = t.degrees v in omega arith

pub even_cases : (n : ℕ) → n % 2 ≡ 0 → n ≤ 4 → (n ≡ 0) ⊎ (n ≡ 2) ⊎ (n ≡ 4)
even_cases n h k =
    ⊎_elim (λ p. inl p)
    (λ p. ⊎_elim (λ q. inr (inl q)) (λ q. inr (inr (omega arith))) (cases_eq n 2))
    (cases_eq n 0)

-- a set that is not empty has a vertex on it
on_some : (s : Segment) (ss : List Segment) → 1 ≤ degree (s ∷ ss) s.0
unfolding degree
on_some s ss = omega (arith, sum_by-cons (λ x. bit (ends_at s.0 x)) s ss, bit_true (ends_at s.0 s) (left_end s.0 s.1))

-- the apex lies on two segments at least
pub apex_degree : (s : Segment) (ss : List Segment) → Tame (s ∷ ss) → (2 ≤ degree (s ∷ ss) (apex (s ∷ ss))) × (apex (s ∷ ss) < local_vertices)
unfolding apex
apex_degree s ss t = go (ltb two local_vertices) refl
  where
    S : List Segment
    S = s ∷ ss

    two : ℕ
    two = lowest (λ v. eqb (degree S v) 2) local_vertices

    four : ℕ
    four = lowest (λ v. eqb (degree S v) 4) local_vertices

    w : ℕ
    w = s.0

    go : (b : Bool) → ltb two local_vertices ≡ b → (2 ≤ degree S (cond b two four)) × (cond b two four < local_vertices)
    go true e =
        let l = ltb-true two local_vertices e in
        let d = eqb-true (degree S two) 2 ((lowest_is (λ v. eqb (degree S v) 2) local_vertices).passes l) in
        omega arith
    go false e =
        let l = ltb-false two local_vertices e in
        let d = on_some s ss in
        let c : w < local_vertices = ⊎_elim (λ p. p) (λ p. absurd (omega (arith, t.local w p))) (cases_lt w local_vertices) in
        let not_two : degree S w ≢ 2 = λ q. absurd (omega (arith, lowest_le (λ v. eqb (degree S v) 2) local_vertices w (eq-eqb (degree S w) 2 q))) in
        let is_four : degree S w ≡ 4 = let h = tame_even S t w in omega arith in
        let m = lowest_le (λ v. eqb (degree S v) 4) local_vertices w (eq-eqb (degree S w) 4 is_four) in
        let n : four < local_vertices = omega arith in
        let f = eqb-true (degree S four) 4 ((lowest_is (λ v. eqb (degree S v) 4) local_vertices).passes n) in
        omega arith

-- the lowest neighbour of a vertex on a segment
pub neighbour_is : (ss : List Segment) (v : ℕ) → ((u : ℕ) → local_vertices ≤ u → degree ss u ≡ 0) → 1 ≤ degree ss v → (linked ss v (neighbour ss v) ≡ true) × (neighbour ss v < local_vertices)
unfolding neighbour
neighbour_is ss v out h =
    let u = has_neighbour ss v h in
    let d = (linked_degree ss v u.0 u.1).1 in
    let c : u.0 < local_vertices = ⊎_elim (λ p. p) (λ p. absurd (omega (arith, out u.0 p))) (cases_lt u.0 local_vertices) in
    let m = lowest_le (linked ss v) local_vertices u.0 u.1 in
    let n : lowest (linked ss v) local_vertices < local_vertices = omega arith in
    ((lowest_is (linked ss v) local_vertices).passes n, n)

-- What a turn finds: the apex v, its two lowest neighbours a and b, and the sets on the way.
pub record Found (ss : List Segment) (v a b : ℕ) : Type 0 where
  pub va : linked ss v a ≡ true
  pub vb : linked (strike ss v a) v b ≡ true
  pub v≢a : v ≢ a
  pub v≢b : v ≢ b
  pub a<b : a < b
  pub v_local : v < local_vertices
  pub b_local : b < local_vertices

-- no segment of a tame set joins a vertex to itself, also once others are struck
no_loop_from : (ss : List Segment) (v u : ℕ) → times ss v v ≡ 0 → linked ss v u ≡ true → v ≢ u
no_loop_from ss v u h l e = let k = rw (← e) at (linked_times ss v u l) in omega arith

-- a is the lowest neighbour of v, and b that once va is struck
two_neighbours : (S : List Segment) (v a b : ℕ) → Tame S → (linked S v a ≡ true) → (linked (strike S v a) v b ≡ true) → a ≡ neighbour S v → v < local_vertices → b < local_vertices → Found S v a b
unfolding neighbour
two_neighbours S v a b t va vb low lv lb =
    let loops = strike_times S v a v v va in
    let once = t.once v a in
    let twice = strike_times S v a v a va in
    let self = bit_true (joins v a (v, a)) (joins_itself v a) in
    let many = linked_times (strike S v a) v b vb in
    let more = strike_times S v a v b va in
    let vb' : linked S v b ≡ true = times_linked S v b (omega arith) in
    let a≤b : a ≤ b = omega (arith, low, lowest_le (linked S v) local_vertices b vb') in
    let a≢b : a ≢ b = λ e. let z = rw (← e) at many in absurd (omega arith) in
    record {
      va = va;
      vb = vb;
      v≢a = no_loop_from S v a (t.no_loop v) va;
      v≢b = no_loop_from S v b (t.no_loop v) vb';
      a<b = omega arith;
      v_local = lv;
      b_local = lb;
    }

pub found : (S : List Segment) (v : ℕ) → Tame S → 2 ≤ degree S v → v < local_vertices → Found S v (neighbour S v) (neighbour (strike S v (neighbour S v)) v)
found S v t h l =
    let a : ℕ = neighbour S v in
    let na = neighbour_is S v t.local (omega arith) in
    let da = strike_degree S v a v na.0 in
    let one = bit_le (ends_at v (v, a)) in
    let nb = neighbour_is (strike S v a) v (λ u k. omega (arith, t.local u k, strike_degree S v a u na.0)) (omega arith) in
    two_neighbours S v a (neighbour (strike S v a) v) t na.0 nb.0 refl l nb.1

-- the ends of a segment as numbers
pub ends_sum : (u v w : ℕ) → u ≢ v → bit (ends_at w (u, v)) ≡ bit (eqb u w) + bit (eqb v w)
unfolding ends_at
ends_sum u v w d = go (eqb u w) refl (eqb v w) refl
  where
    go : (b : Bool) → eqb u w ≡ b → (c : Bool) → eqb v w ≡ c → bit (b || c) ≡ bit b + bit c
    go true p true q = absurd (d (eqb-true u w p ∙ sym (eqb-true v w q)))
    go true p false q = refl
    go false p true q = refl
    go false p false q = refl

-- a multiplicity does not depend on the order of the ends
pub times_swap : (ss : List Segment) (x y : ℕ) → times ss x y ≡ times ss y x
unfolding times
times_swap ss x y = ap (λ (p : Segment → Bool). count_by p ss) (fun_ext (joins_swap x y))

-- toggling keeps every multiplicity at most 1
pub toggle_once : (ss : List Segment) (u v : ℕ) → ((x y : ℕ) → times ss x y ≤ 1) → (x y : ℕ) → times (toggle ss u v) x y ≤ 1
toggle_once ss u v once x y =
    ⊎_elim (λ p. omega (arith, once x y))
    (λ p. ⊎_elim
    (λ j. ⊎_elim
    (λ q. let z : times ss x y ≡ 0 = ap₂ (times ss) (sym q.0) (sym q.1) ∙ unlinked_times ss u v p.0 in omega (arith, bit_le (joins x y (u, v))))
    (λ q. let z : times ss x y ≡ 0 = times_swap ss x y ∙ ap₂ (times ss) (sym q.0) (sym q.1) ∙ unlinked_times ss u v p.0 in omega (arith, bit_le (joins x y (u, v))))
    (joins_cases x y (u, v) j))
    (λ j. omega (arith, once x y, bit_false (joins x y (u, v)) j))
    (cases_Bool (joins x y (u, v))))
    (toggle_times ss u v x y)

-- no loop comes in
pub joins_loop : (x u v : ℕ) → u ≢ v → bit (joins x x (u, v)) ≡ 0
joins_loop x u v d =
    ⊎_elim
    (λ j. absurd (⊎_elim (λ q. d (q.0 ∙ sym q.1)) (λ q. d (q.0 ∙ sym q.1)) (joins_cases x x (u, v) j)))
    (λ j. bit_false (joins x x (u, v)) j)
    (cases_Bool (joins x x (u, v)))

-- the set after a turn
abbrev pub after : List Segment → ℕ → ℕ → ℕ → List Segment
after S v a b = toggle (strike (strike S v a) v b) a b

module _ (S : List Segment) (v a b : ℕ) (t : Tame S) (f : Found S v a b) where
  a≢b : a ≢ b
  a≢b e = let l = f.a<b in absurd (omega arith)

  -- the degrees over a turn
  pub degree_rest : (w : ℕ) → degree S w ≡ 2 * bit (eqb v w) + bit (eqb a w) + bit (eqb b w) + degree (strike (strike S v a) v b) w
  degree_rest w =
      omega (arith, strike_degree S v a w f.va, strike_degree (strike S v a) v b w f.vb, ends_sum v a w f.v≢a, ends_sum v b w f.v≢b)

  pub degree_after : (w : ℕ) → (degree (strike (strike S v a) v b) w ≡ bit (eqb a w) + bit (eqb b w) + degree (after S v a b) w) ⊎ (degree (after S v a b) w ≡ bit (eqb a w) + bit (eqb b w) + degree (strike (strike S v a) v b) w)
  degree_after w =
      ⊎_elim (λ p. inl (omega (arith, ends_sum a b w a≢b))) (λ p. inr (omega (arith, ends_sum a b w a≢b)))
      (toggle_degree (strike (strike S v a) v b) a b w)

  -- the multiplicities over a turn
  pub times_rest : (x y : ℕ) → times S x y ≡ bit (joins x y (v, a)) + bit (joins x y (v, b)) + times (strike (strike S v a) v b) x y
  times_rest x y = omega (arith, strike_times S v a x y f.va, strike_times (strike S v a) v b x y f.vb)

  after_even : (w : ℕ) → (degree (after S v a b) w % 2 ≡ 0) × (degree (after S v a b) w ≤ 4)
  after_even w = omega (arith, tame_even S t w, degree_rest w, degree_after w)

  -- the set stays tame
  pub after_tame : Tame (after S v a b)
  after_tame = record {
    degrees = λ w. even_cases (degree (after S v a b) w) (after_even w).0 (after_even w).1;
    once = toggle_once (strike (strike S v a) v b) a b (λ x y. omega (arith, t.once x y, times_rest x y));
    no_loop = λ w. ⊎_elim (λ p. omega (arith, t.no_loop w, times_rest w w)) (λ p. omega (arith, t.no_loop w, times_rest w w, joins_loop w a b a≢b))
        (toggle_times (strike (strike S v a) v b) a b w w);
    local = λ w h. let l = f.a<b in let m = f.b_local in
        omega (arith, t.local w h, degree_rest w, degree_after w, bit_false (eqb a w) (ne_eqb a w (λ e. omega arith)), bit_false (eqb b w) (ne_eqb b w (λ e. omega arith)));
  }

  -- a turn takes three segments away, or two for one
  pub after_length : (length S ≡ 3 + length (after S v a b)) ⊎ ((length S ≡ 1 + length (after S v a b)) × (1 ≤ length (after S v a b)))
  after_length =
      let p = strike_length S v a f.va in
      let q = strike_length (strike S v a) v b f.vb in
      ⊎_elim (λ r. inl (omega arith)) (λ r. inr (omega arith)) (toggle_length (strike (strike S v a) v b) a b)
