-- The local vertices in order, and those of them that pass a test, gathered one after the other.
use Rattle.std.proofs.Common.{◌≡◌, ℕ, zero, suc, ◌+◌, ◌<◌, Bool, true, false, cond, List, [], ◌∷◌, ◌++◌, length, get_or, take, set, filter, sym, refl, ap, ◌∙◌, subst, zero-add, arith, lit<}
use Rattle.std.specs.List.{Contains, All}
use Rattle.std.proofs.lemmas.List.Elements.{All-from_recursion, filter_more}
use Rattle.std.proofs.lemmas.List.Elements.{All-from_recursion, Contains-get_or, All-contains}
use Rattle.std.proofs.lemmas.List.{take_more_set, append-nil}
use Rattle.std.proofs.lemmas.Bool.{cond-true, cond-false}
use Rattle.clipping.specs.Faces.{local_vertices, local_order}
use Rattle.kind.proofs.Members.{has_here, has_there}

-- the numbers from k on
abbrev numbers : ℕ → ℕ → List ℕ
numbers k zero = []
numbers k (suc n) = k ∷ numbers (suc k) n

number_at : (k n v : ℕ) → v < n → get_or (numbers k n) v 0 ≡ k + v
number_at k zero v l = absurd (omega arith)
number_at k (suc n) zero l = omega arith
number_at k (suc n) (suc v) l = let e = number_at (suc k) n v (omega arith) in omega arith

pub order_at : (v : ℕ) → v < local_vertices → get_or local_order v 0 ≡ v
order_at v l = number_at 0 local_vertices v l ∙ zero-add v

pub order_has : (v : ℕ) → v < local_vertices → Contains local_order v
order_has v l = subst (Contains local_order) (order_at v l) (Contains-get_or local_order v 0 l)

-- one vertex more, by the test's answer
module _ (p : ℕ → Bool) (out : List ℕ) (n v : ℕ) (so_far : take n out ≡ filter p (take v local_order)) (lv : v < local_vertices) where
  next_is : filter p (take (v + 1) local_order) ≡ filter p (take v local_order) ++ cond (p v) (v ∷ []) []
  next_is = filter_more p local_order v 0 lv ∙ ap (λ w. filter p (take v local_order) ++ cond (p w) (w ∷ []) []) (order_at v lv)

  pub gathered : n < length out → p v ≡ true → take (n + 1) (set out n v) ≡ filter p (take (v + 1) local_order)
  gathered ln h = take_more_set out n v ln ∙ ap (λ l. l ++ (v ∷ [])) so_far ∙ sym (next_is ∙ ap (λ l. filter p (take v local_order) ++ l) (cond-true (p v) (v ∷ []) [] h))

  pub passed : p v ≡ false → take n out ≡ filter p (take (v + 1) local_order)
  passed h = so_far ∙ sym (next_is ∙ ap (λ l. filter p (take v local_order) ++ l) (cond-false (p v) (v ∷ []) [] h) ∙ append-nil (filter p (take v local_order)))

-- tests that agree on every local vertex keep the same
kept_same : (p q : ℕ → Bool) (vs : List ℕ) → ((v : ℕ) → Contains vs v → p v ≡ q v) → filter p vs ≡ filter q vs
kept_same p q [] e = refl
kept_same p q (v ∷ vs) e =
    (λ i. cond (e v (has_here v vs v refl) i) (v ∷ kept_same p q vs (λ w h. e w (has_there v vs w h)) i) (kept_same p q vs (λ w h. e w (has_there v vs w h)) i))

-- the order lists local vertices
pub local_below : All (λ w. w < local_vertices) local_order
local_below = All-from_recursion (λ w. w < local_vertices) local_order (lit< tt, (lit< tt, (lit< tt, (lit< tt, (lit< tt, (lit< tt, (lit< tt, (lit< tt, (lit< tt, (lit< tt, (lit< tt, (lit< tt, (lit< tt, (lit< tt, (lit< tt, (lit< tt, (lit< tt, (lit< tt, tt))))))))))))))))))

pub order_same : (p q : ℕ → Bool) → ((v : ℕ) → v < local_vertices → p v ≡ q v) → filter p local_order ≡ filter q local_order
order_same p q e = kept_same p q local_order (λ v h. e v (All-contains (λ w. w < local_vertices) local_order v local_below h))
