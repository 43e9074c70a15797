-- Toggling a segment in the eighteen numbers is toggling it in the set.
use Rattle.std.proofs.Common.{◌≡◌, ℕ, ◌+◌, ◌*◌, ◌^◌, ◌<◌, ◌≤◌, true, eqb, ◌≢◌, List, length, get_or, set, sym, ap, ◌∙◌, subst, ap₂, ⊎_elim, arith, length-set}
use lib.Bits.{bit_xor, xor_lt}
use lib.Count.{ones}
use Rattle.std.proofs.lemmas.Nat.{pow_below}
use Rattle.std.proofs.lemmas.List.{get_or-set_same, get_or-set_other}
use Rattle.std.proofs.lemmas.Bool.{cases_eq, ne_eqb}
use Rattle.std.proofs.lemmas.Bool.Decides.{nat_tests}
use Rattle.clipping.specs.Faces.{Segment}
use Rattle.clipping.specs.Clip.{ends_at, joins, degree, toggle}
use Rattle.clipping.specs.Laws.{times}
use Rattle.clipping.specs.Masks.{digit, flip, flipped, toggled, Means}
use Rattle.clipping.proofs.Sets.{bit, bit_true, bit_false, toggle_times, toggle_degree, linked_times, unlinked_times, left_end, right_end, joins_itself}
use Rattle.clipping.proofs.Turns.{times_swap}
use Rattle.clipping.proofs.Digits.{ones_flip, digit_flip_same, digit_flip_other}

-- a list with one number flipped
flipped_same : (xs : List ℕ) (u v : ℕ) → u < length xs → get_or (flipped xs u v) u 0 ≡ flip (get_or xs u 0) v
unfolding flipped
flipped_same xs u v h = get_or-set_same xs u (flip (get_or xs u 0) v) 0 h

flipped_other : (xs : List ℕ) (u v x : ℕ) → x ≢ u → get_or (flipped xs u v) x 0 ≡ get_or xs x 0
unfolding flipped
flipped_other xs u v x ne = get_or-set_other xs u x (flip (get_or xs u 0) v) 0 ne

pub length_flipped : (xs : List ℕ) (u v : ℕ) → length (flipped xs u v) ≡ length xs
unfolding flipped
length_flipped xs u v = length-set xs u (flip (get_or xs u 0) v)

flip_small : (n k : ℕ) → n < 2 ^ 18 → k < 18 → flip n k < 2 ^ 18
flip_small n k h l = xor_lt 18 n (2 ^ k) h (pow_below k 18 l)

-- which segments join two where one of them is an end
joins_left : (u v y : ℕ) → u ≢ v → bit (joins u y (u, v)) ≡ bit (eqb v y)
unfolding joins
joins_left u v y ne = grind (arith, nat_tests)

joins_right : (u v y : ℕ) → u ≢ v → bit (joins v y (u, v)) ≡ bit (eqb u y)
unfolding joins
joins_right u v y ne = grind (arith, nat_tests)

joins_neither : (u v x y : ℕ) → x ≢ u → x ≢ v → bit (joins x y (u, v)) ≡ 0
unfolding joins
joins_neither u v x y p q = grind (arith, nat_tests)

ends_neither : (u v x : ℕ) → x ≢ u → x ≢ v → bit (ends_at x (u, v)) ≡ 0
unfolding ends_at
ends_neither u v x p q = grind (arith, nat_tests)

module _ (xs : List ℕ) (ss : List Segment) (m : Means xs ss) (once : (x y : ℕ) → times ss x y ≤ 1) (u v : ℕ) (lu : u < 18) (lv : v < 18) (ne : u ≢ v) where
  long : length (toggled xs u v) ≡ 18
  unfolding toggled
  long = length_flipped (flipped xs u v) v u ∙ length_flipped xs u v ∙ m.long

  at_u : get_or (toggled xs u v) u 0 ≡ flip (get_or xs u 0) v
  unfolding toggled
  at_u = flipped_other (flipped xs u v) v u u ne ∙ flipped_same xs u v (omega (arith, m.long))

  at_v : get_or (toggled xs u v) v 0 ≡ flip (get_or xs v 0) u
  unfolding toggled
  at_v = flipped_same (flipped xs u v) v u (omega (arith, m.long, length_flipped xs u v)) ∙ ap (λ n. flip n u) (flipped_other xs u v v (λ e. ne (sym e)))

  at_other : (x : ℕ) → x ≢ u → x ≢ v → get_or (toggled xs u v) x 0 ≡ get_or xs x 0
  unfolding toggled
  at_other x p q = flipped_other (flipped xs u v) v u x q ∙ flipped_other xs u v x p

  -- the multiplicities and the degrees over a toggle
  times_kept : (x y : ℕ) → bit (joins x y (u, v)) ≡ 0 → times (toggle ss u v) x y ≡ times ss x y
  times_kept x y h = ⊎_elim (λ p. omega arith) (λ p. omega arith) (toggle_times ss u v x y)

  times_turned : times ss u v + times (toggle ss u v) u v ≡ 1
  times_turned =
      let j = bit_true (joins u v (u, v)) (joins_itself u v) in
      ⊎_elim (λ p. omega (arith, once u v)) (λ p. omega (arith, unlinked_times ss u v p.0)) (toggle_times ss u v u v)

  degree_turned : (w : ℕ) → ends_at w (u, v) ≡ true → degree (toggle ss u v) w + 2 * times ss u v ≡ degree ss w + 1
  degree_turned w h =
      let j = bit_true (ends_at w (u, v)) h in
      ⊎_elim (λ p. omega (arith, once u v, linked_times ss u v p.0)) (λ p. omega (arith, unlinked_times ss u v p.0)) (toggle_degree ss u v w)

  degree_kept : (w : ℕ) → w ≢ u → w ≢ v → degree (toggle ss u v) w ≡ degree ss w
  degree_kept w p q = let j = ends_neither u v w p q in ⊎_elim (λ p. omega arith) (λ p. omega arith) (toggle_degree ss u v w)

  at : ℕ → ℕ
  at x = get_or (toggled xs u v) x 0

  digits_u : (y : ℕ) → y < 18 → digit (at u) y ≡ times (toggle ss u v) u y
  unfolding at
  digits_u y ly = ap (λ n. digit n y) at_u ∙ ⊎_elim
      (λ e. subst (λ k. digit (flip (get_or xs u 0) v) k ≡ times (toggle ss u v) u k) e
      (omega (arith, digit_flip_same (get_or xs u 0) v, m.digits u v lu lv, times_turned)))
      (λ d. digit_flip_other (get_or xs u 0) v y (λ e. d (sym e)) ∙ m.digits u y lu ly ∙ sym (times_kept u y (joins_left u v y ne ∙ bit_false (eqb v y) (ne_eqb v y d))))
      (cases_eq v y)

  digits_v : (y : ℕ) → y < 18 → digit (at v) y ≡ times (toggle ss u v) v y
  unfolding at
  digits_v y ly = ap (λ n. digit n y) at_v ∙ ⊎_elim
      (λ e. subst (λ k. digit (flip (get_or xs v 0) u) k ≡ times (toggle ss u v) v k) e
      (omega (arith, digit_flip_same (get_or xs v 0) u, m.digits v u lv lu, times_turned, times_swap ss u v, times_swap (toggle ss u v) u v)))
      (λ d. digit_flip_other (get_or xs v 0) u y (λ e. d (sym e)) ∙ m.digits v y lv ly ∙ sym (times_kept v y (joins_right u v y ne ∙ bit_false (eqb u y) (ne_eqb u y d))))
      (cases_eq u y)

  -- one of the three places
  by_place : (P : ℕ → Type 0) → P u → P v → ((x : ℕ) → x ≢ u → x ≢ v → P x) → (x : ℕ) → P x
  by_place P p q r x = ⊎_elim (λ e. subst P (sym e) p) (λ d. ⊎_elim (λ e. subst P (sym e) q) (λ c. r x d c) (cases_eq x v)) (cases_eq x u)

  pub means_toggled : Means (toggled xs u v) (toggle ss u v)
  unfolding at
  means_toggled = record {
    long = long;
    digits = λ x y lx ly. by_place (λ x. x < 18 → digit (at x) y ≡ times (toggle ss u v) x y)
        (λ _. digits_u y ly) (λ _. digits_v y ly)
        (λ x p q lx. ap (λ n. digit n y) (at_other x p q) ∙ m.digits x y lx ly ∙ sym (times_kept x y (joins_neither u v x y p q))) x lx;
    counts = by_place (λ x. x < 18 → ones (at x) ≡ degree (toggle ss u v) x)
        (λ _. ap ones at_u ∙ omega (arith, ones_flip (get_or xs u 0) v, m.digits u v lu lv, m.counts u lu, degree_turned u (left_end u v)))
        (λ _. ap ones at_v ∙ omega (arith, ones_flip (get_or xs v 0) u, m.digits v u lv lu, m.counts v lv, degree_turned v (right_end u v), times_swap ss u v))
        (λ x p q lx. ap ones (at_other x p q) ∙ m.counts x lx ∙ sym (degree_kept x p q));
    small = by_place (λ x. x < 18 → at x < 2 ^ 18)
        (λ _. omega (arith, at_u, flip_small (get_or xs u 0) v (m.small u lu) lv))
        (λ _. omega (arith, at_v, flip_small (get_or xs v 0) u (m.small v lv) lu))
        (λ x p q lx. omega (arith, at_other x p q, m.small x lx));
  }

-- the two writes of the code are a toggle
pub toggle_step : (xs : List ℕ) (u v p q : ℕ) → p ≡ 2 ^ v → q ≡ 2 ^ u
    → set (set xs u (bit_xor (get_or xs u 0) p)) v (bit_xor (get_or (set xs u (bit_xor (get_or xs u 0) p)) v 0) q) ≡ toggled xs u v
unfolding toggled flipped
toggle_step xs u v p q e f = ap₂ (λ p q. set (set xs u (bit_xor (get_or xs u 0) p)) v (bit_xor (get_or (set xs u (bit_xor (get_or xs u 0) p)) v 0) q)) e f
