-- Lists of segments: how a sum over the segments changes as one is struck or toggled.
use Rattle.std.proofs.Common.{◌≡◌, ℕ, zero, suc, ◌+◌, ◌<◌, ◌≤◌, Bool, true, false, cond, ◌&&◌, ◌||◌, eqb, ltb, ◌⊎◌, List, [], ◌∷◌, length, sum_by, sym, refl, ap, ◌∙◌, ap₂, inl, inr, ⊎_elim, arith}
use mathlib.Core.Bool.{or_comm, and_comm}
use Rattle.std.proofs.lemmas.List.Sums.{sum_by-cons}
use Rattle.std.proofs.lemmas.Bool.{and_parts, or_cases, or_parts, eqb-true, eq-eqb, cond-true, cond-false, cases_Bool, true≢false, both_ways, and_from, or_left, or_right, ltb-true, ltb-false, or_from, cases_eq, cases_lt}
use Rattle.clipping.specs.Faces.{Segment}
use Rattle.clipping.specs.Clip.{ends_at, joins, degree, linked, strike, toggle, lowest}
use Rattle.clipping.specs.Laws.{times}

-- a segment that joins u and v is the pair, one way or the other
pub joins_cases : (u v : ℕ) (s : Segment) → joins u v s ≡ true → ((s.0 ≡ u) × (s.1 ≡ v)) ⊎ ((s.0 ≡ v) × (s.1 ≡ u))
unfolding joins
joins_cases u v s h =
    ⊎_elim
    (λ p. let q = and_parts (eqb s.0 u) (eqb s.1 v) p in inl (eqb-true s.0 u q.0, eqb-true s.1 v q.1))
    (λ p. let q = and_parts (eqb s.0 v) (eqb s.1 u) p in inr (eqb-true s.0 v q.0, eqb-true s.1 u q.1))
    (or_cases (eqb s.0 u && eqb s.1 v) (eqb s.0 v && eqb s.1 u) h)

-- a test as a number
abbrev pub bit : Bool → ℕ
bit b = cond b 1 0

pub bit_true : (b : Bool) → b ≡ true → bit b ≡ 1
bit_true b h = cond-true {A = ℕ} b 1 0 h

pub bit_false : (b : Bool) → b ≡ false → bit b ≡ 0
bit_false b h = cond-false {A = ℕ} b 1 0 h

pub bit_le : (b : Bool) → bit b ≤ 1
bit_le true = omega arith
bit_le false = omega arith

pub eqb_itself : (n : ℕ) → eqb n n ≡ true
eqb_itself n = eq-eqb n n refl

pub joins_itself : (u v : ℕ) → joins u v (u, v) ≡ true
unfolding joins
joins_itself u v =
    or_left (eqb u u && eqb v v) (eqb u v && eqb v u) (and_from (eqb u u) (eqb v v) (eqb_itself u) (eqb_itself v))

-- a weight that does not see which end comes first
pub EvenHanded : (Segment → ℕ) → Type 0
EvenHanded f = (s : Segment) (u v : ℕ) → joins u v s ≡ true → f s ≡ f (u, v)

pub by_end : ℕ → Segment → ℕ
by_end w s = cond (ends_at w s) 1 0

pub by_ends : ℕ → ℕ → Segment → ℕ
by_ends x y s = cond (joins x y s) 1 0

pub end_even : (w : ℕ) → EvenHanded (by_end w)
unfolding EvenHanded by_end ends_at
end_even w s u v h =
    ⊎_elim (λ p. ap₂ (λ x y. cond (eqb x w || eqb y w) 1 0) p.0 p.1)
    (λ p. ap₂ (λ x y. cond (eqb x w || eqb y w) 1 0) p.0 p.1 ∙ ap (λ b. cond b 1 0) (or_comm (eqb v w) (eqb u w)))
    (joins_cases u v s h)

-- the ends of a pair in the other order
pub joins_flip : (x y u v : ℕ) → joins x y (v, u) ≡ joins x y (u, v)
unfolding joins
joins_flip x y u v =
    or_comm (eqb v x && eqb u y) (eqb v y && eqb u x) ∙
    ap₂ (λ a b. a || b) (and_comm (eqb v y) (eqb u x)) (and_comm (eqb v x) (eqb u y))

pub joins_swap : (x y : ℕ) (s : Segment) → joins x y s ≡ joins y x s
unfolding joins
joins_swap x y s = or_comm (eqb s.0 x && eqb s.1 y) (eqb s.0 y && eqb s.1 x)

pub ends_even : (x y : ℕ) → EvenHanded (by_ends x y)
unfolding EvenHanded by_ends
ends_even x y s u v h =
    ⊎_elim (λ p. ap₂ (λ k l. cond (joins x y (k, l)) 1 0) p.0 p.1)
    (λ p. ap₂ (λ k l. cond (joins x y (k, l)) 1 0) p.0 p.1 ∙ ap (λ b. cond b 1 0) (joins_flip x y u v))
    (joins_cases u v s h)

pub one_even : EvenHanded (λ s. 1)
unfolding EvenHanded
one_even s u v h = refl

-- a struck segment takes its weight away
pub strike_sum : (f : Segment → ℕ) → EvenHanded f → (ss : List Segment) (u v : ℕ) → linked ss u v ≡ true → sum_by f ss ≡ f (u, v) + sum_by f (strike ss u v)
unfolding EvenHanded linked strike
strike_sum f e [] u v h = absurd (true≢false (sym h))
strike_sum f e (s ∷ ss) u v h = go (joins u v s) refl (strike_sum f e ss u v)
  where
    go : (b : Bool) → joins u v s ≡ b → (linked ss u v ≡ true → sum_by f ss ≡ f (u, v) + sum_by f (strike ss u v))
        → sum_by f (s ∷ ss) ≡ f (u, v) + sum_by f (cond b ss (s ∷ strike ss u v))
    go true p ih = sum_by-cons f s ss ∙ ap (λ k. k + sum_by f ss) (e s u v p)
    go false p ih =
        let l : linked ss u v ≡ true = ⊎_elim (λ q. absurd (both_ways (joins u v s) p q)) (λ q. q) (or_cases (joins u v s) (linked ss u v) h) in
        omega (arith, ih l, sum_by-cons f s ss, sum_by-cons f s (strike ss u v))

-- a toggled segment takes its weight away, or brings it
pub toggle_sum : (f : Segment → ℕ) → EvenHanded f → (ss : List Segment) (u v : ℕ)
    → ((linked ss u v ≡ true) × (sum_by f ss ≡ f (u, v) + sum_by f (toggle ss u v))) ⊎ ((linked ss u v ≡ false) × (sum_by f (toggle ss u v) ≡ f (u, v) + sum_by f ss))
unfolding toggle
toggle_sum f e ss u v = go (linked ss u v) refl
  where
    go : (b : Bool) → linked ss u v ≡ b
        → ((b ≡ true) × (sum_by f ss ≡ f (u, v) + sum_by f (cond b (strike ss u v) ((u, v) ∷ ss)))) ⊎ ((b ≡ false) × (sum_by f (cond b (strike ss u v) ((u, v) ∷ ss)) ≡ f (u, v) + sum_by f ss))
    go true p = inl (refl, strike_sum f e ss u v p)
    go false p = inr (refl, sum_by-cons f (u, v) ss)

-- the length is a sum
pub length_sum : (ss : List Segment) → sum_by (λ s. 1) ss ≡ length ss
length_sum [] = refl
length_sum (s ∷ ss) = omega (arith, sum_by-cons (λ (x : Segment). 1) s ss, length_sum ss)

-- whether a segment is in the set, by how often
pub unlinked_times : (ss : List Segment) (u v : ℕ) → linked ss u v ≡ false → times ss u v ≡ 0
unfolding linked times
unlinked_times [] u v h = refl
unlinked_times (s ∷ ss) u v h =
    let p = or_parts (joins u v s) (linked ss u v) h in
    omega (arith, sum_by-cons (λ x. cond (joins u v x) 1 0) s ss, bit_false (joins u v s) p.0, unlinked_times ss u v p.1)

pub linked_times : (ss : List Segment) (u v : ℕ) → linked ss u v ≡ true → 1 ≤ times ss u v
unfolding times by_ends
linked_times ss u v h =
    omega (arith, strike_sum (by_ends u v) (ends_even u v) ss u v h, bit_true (joins u v (u, v)) (joins_itself u v))

pub times_linked : (ss : List Segment) (u v : ℕ) → 1 ≤ times ss u v → linked ss u v ≡ true
times_linked ss u v h = ⊎_elim (λ p. p) (λ p. let z = unlinked_times ss u v p in absurd (omega arith)) (cases_Bool (linked ss u v))

-- degrees and multiplicities as a segment is struck
pub strike_degree : (ss : List Segment) (u v w : ℕ) → linked ss u v ≡ true → degree ss w ≡ bit (ends_at w (u, v)) + degree (strike ss u v) w
unfolding degree by_end
strike_degree ss u v w h = strike_sum (by_end w) (end_even w) ss u v h

pub strike_times : (ss : List Segment) (u v x y : ℕ) → linked ss u v ≡ true → times ss x y ≡ bit (joins x y (u, v)) + times (strike ss u v) x y
unfolding times by_ends
strike_times ss u v x y h = strike_sum (by_ends x y) (ends_even x y) ss u v h

pub strike_length : (ss : List Segment) (u v : ℕ) → linked ss u v ≡ true → length ss ≡ suc (length (strike ss u v))
strike_length ss u v h = omega (arith, strike_sum (λ s. 1) one_even ss u v h, length_sum ss, length_sum (strike ss u v))

-- the same as one is toggled
pub toggle_degree : (ss : List Segment) (u v w : ℕ)
    → ((linked ss u v ≡ true) × (degree ss w ≡ bit (ends_at w (u, v)) + degree (toggle ss u v) w)) ⊎ ((linked ss u v ≡ false) × (degree (toggle ss u v) w ≡ bit (ends_at w (u, v)) + degree ss w))
unfolding degree by_end
toggle_degree ss u v w = toggle_sum (by_end w) (end_even w) ss u v

pub toggle_times : (ss : List Segment) (u v x y : ℕ)
    → ((linked ss u v ≡ true) × (times ss x y ≡ bit (joins x y (u, v)) + times (toggle ss u v) x y)) ⊎ ((linked ss u v ≡ false) × (times (toggle ss u v) x y ≡ bit (joins x y (u, v)) + times ss x y))
unfolding times by_ends
toggle_times ss u v x y = toggle_sum (by_ends x y) (ends_even x y) ss u v

pub toggle_length : (ss : List Segment) (u v : ℕ) → (length ss ≡ suc (length (toggle ss u v))) ⊎ (length (toggle ss u v) ≡ suc (length ss))
toggle_length ss u v =
    ⊎_elim (λ p. inl (omega (arith, length_sum ss, length_sum (toggle ss u v)))) (λ p. inr (omega (arith, length_sum ss, length_sum (toggle ss u v))))
    (toggle_sum (λ s. 1) one_even ss u v)

-- a segment's ends lie on it
pub left_end : (u v : ℕ) → ends_at u (u, v) ≡ true
unfolding ends_at
left_end u v = or_left (eqb u u) (eqb v u) (eqb_itself u)

pub right_end : (u v : ℕ) → ends_at v (u, v) ≡ true
unfolding ends_at
right_end u v = or_right (eqb u v) (eqb v v) (eqb_itself v)

pub linked_degree : (ss : List Segment) (u v : ℕ) → linked ss u v ≡ true → (1 ≤ degree ss u) × (1 ≤ degree ss v)
linked_degree ss u v h =
    let p = strike_degree ss u v u h in
    let q = strike_degree ss u v v h in
    let a = bit_true (ends_at u (u, v)) (left_end u v) in
    let b = bit_true (ends_at v (u, v)) (right_end u v) in
    omega arith

-- a vertex that lies on a segment has a neighbour
pub has_neighbour : (ss : List Segment) (v : ℕ) → 1 ≤ degree ss v → (u : ℕ) × (linked ss v u ≡ true)
unfolding degree linked ends_at joins
has_neighbour [] v h = absurd (omega arith)
has_neighbour (s ∷ ss) v h = go (eqb s.0 v) refl (eqb s.1 v) refl (has_neighbour ss v)
  where
    go : (b : Bool) → eqb s.0 v ≡ b → (c : Bool) → eqb s.1 v ≡ c → (1 ≤ degree ss v → (u : ℕ) × (linked ss v u ≡ true)) → (u : ℕ) × (linked (s ∷ ss) v u ≡ true)
    go true p c q ih = (s.1, or_left (joins v s.1 s) (linked ss v s.1) (or_left (eqb s.0 v && eqb s.1 s.1) (eqb s.0 s.1 && eqb s.1 v) (and_from (eqb s.0 v) (eqb s.1 s.1) p (eqb_itself s.1))))
    go false p true q ih = (s.0, or_left (joins v s.0 s) (linked ss v s.0) (or_right (eqb s.0 v && eqb s.1 s.0) (eqb s.0 s.0 && eqb s.1 v) (and_from (eqb s.0 s.0) (eqb s.1 v) (eqb_itself s.0) q)))
    go false p false q ih =
        let z = bit_false (ends_at v s) (or_from (eqb s.0 v) (eqb s.1 v) p q) in
        let r = ih (omega (arith, sum_by-cons (λ x. cond (ends_at v x) 1 0) s ss)) in
        (r.0, or_right (joins v r.0 s) (linked ss v r.0) r.1)

-- What `lowest` finds.
pub record Lowest (p : ℕ → Bool) (n k : ℕ) : Type 0 where
  pub most : k ≤ n
  pub passes : k < n → p k ≡ true
  pub first : (j : ℕ) → j < k → p j ≡ false

pub lowest_is : (p : ℕ → Bool) (n : ℕ) → Lowest p n (lowest p n)
unfolding lowest
lowest_is p zero = record { most = omega arith; passes = λ h. absurd (omega arith); first = λ j h. absurd (omega arith) }
lowest_is p (suc n) = go (ltb (lowest p n) n) refl (p n) refl (lowest_is p n)
  where
    go : (b : Bool) → ltb (lowest p n) n ≡ b → (c : Bool) → p n ≡ c → Lowest p n (lowest p n) → Lowest p (suc n) (cond b (lowest p n) (cond c n (suc n)))
    go true e c f w = let l = ltb-true (lowest p n) n e in record { most = omega arith; passes = λ h. w.passes l; first = w.first }
    go false e true f w =
        let l = ltb-false (lowest p n) n e in
        record { most = omega arith; passes = λ h. f; first = λ j h. w.first j (omega arith) }
    go false e false f w =
        let l = ltb-false (lowest p n) n e in
        record { most = omega arith; passes = λ h. absurd (omega arith); first = λ j h. ⊎_elim (λ q. rw q at f) (λ q. w.first j (omega arith)) (cases_eq n j) }

-- what passes bounds it
pub lowest_le : (p : ℕ → Bool) (n k : ℕ) → p k ≡ true → lowest p n ≤ k
lowest_le p n k h = ⊎_elim (λ l. absurd (both_ways (p k) ((lowest_is p n).first k l) h)) (λ l. l) (cases_lt k (lowest p n))

-- there is one such number
pub lowest_unique : (p : ℕ → Bool) (n k : ℕ) → Lowest p n k → k ≡ lowest p n
lowest_unique p n k w =
    let l = lowest_is p n in
    let a : lowest p n ≤ k = ⊎_elim (λ h. absurd (both_ways (p k) (l.first k h) (w.passes (let m = l.most in omega arith)))) (λ h. h) (cases_lt k (lowest p n)) in
    let b : k ≤ lowest p n = ⊎_elim (λ h. absurd (both_ways (p (lowest p n)) (w.first (lowest p n) h) (l.passes (let m = w.most in omega arith)))) (λ h. h) (cases_lt (lowest p n) k) in
    omega arith

pub lowest_found : (p : ℕ → Bool) (n k : ℕ) → k < n → p k ≡ true → ((j : ℕ) → j < k → p j ≡ false) → k ≡ lowest p n
lowest_found p n k l h f = lowest_unique p n k (record { most = omega arith; passes = λ _. h; first = f })

pub lowest_none : (p : ℕ → Bool) (n : ℕ) → ((j : ℕ) → j < n → p j ≡ false) → n ≡ lowest p n
lowest_none p n f = lowest_unique p n n (record { most = omega arith; passes = λ h. absurd (omega arith); first = f })

-- tests that agree below n find the same
pub lowest_same : (p q : ℕ → Bool) (n : ℕ) → ((j : ℕ) → j < n → p j ≡ q j) → lowest p n ≡ lowest q n
lowest_same p q n e =
    let l = lowest_is p n in
    let m = l.most in
    lowest_unique q n (lowest p n) (record {
      most = l.most;
      passes = λ h. sym (e (lowest p n) h) ∙ l.passes h;
      first = λ j h. sym (e j (omega arith)) ∙ l.first j h;
    })
