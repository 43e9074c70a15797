-- How many elements of a list pass a test.
use Rattle.std.proofs.Common.{◌≡◌, ℕ, ◌+◌, ◌<◌, Bool, true, cond, List, [], ◌∷◌, map, count_by, sym, refl, ap, ◌∙◌, ap₂, ⊎_elim, arith}
use Rattle.std.specs.List.{Contains}
use Rattle.std.proofs.lemmas.List.Sums.{sum_by-cons}
use Rattle.std.proofs.lemmas.Bool.{cases_Bool}
use Rattle.kind.proofs.Members.{has_none, has_here, has_there, has_cases}

abbrev one_if : Bool → ℕ
one_if t = cond t 1 0

module _ {X : Type 0} (p : X → Bool) where
  pub count_cons : (x : X) (xs : List X) → count_by p (x ∷ xs) ≡ one_if (p x) + count_by p xs
  count_cons x xs = sum_by-cons (λ y. one_if (p y)) x xs

  -- some element passes where the count is not 0, and conversely
  pub counted : (xs : List X) → 0 < count_by p xs → (x : X) × Contains xs x × (p x ≡ true)
  counted [] h = absurd (omega arith)
  counted (x ∷ xs) h =
      ⊎_elim
      (λ t. (x, has_here x xs x refl, t))
      (λ f.
      let none = ap one_if f in
      let rest = counted xs (omega (arith, count_cons x xs)) in
      (rest.0, has_there x xs rest.0 rest.1, rest.2))
      (cases_Bool (p x))

  pub has_counted : (xs : List X) (x : X) → Contains xs x → p x ≡ true → 0 < count_by p xs
  has_counted [] x h t = absurd (has_none x h)
  has_counted (y ∷ xs) x h t =
      ⊎_elim
      (λ e. let one = ap one_if (ap p e ∙ t) in omega (arith, count_cons y xs))
      (λ r. let rest = has_counted xs x r t in omega (arith, count_cons y xs))
      (has_cases y xs x h)

module _ {X : Type 0} (p q : X → Bool) (same : (x : X) → p x ≡ q x) where
  -- the same test counts the same
  pub count_same : (xs : List X) → count_by p xs ≡ count_by q xs
  count_same [] = refl
  count_same (x ∷ xs) = count_cons p x xs ∙ ap₂ (λ a b. one_if a + b) (same x) (count_same xs) ∙ sym (count_cons q x xs)

module _ {X Y : Type 0} (f : X → Y) (p : Y → Bool) where
  pub count_map : (xs : List X) → count_by p (map f xs) ≡ count_by (λ x. p (f x)) xs
  count_map [] = refl
  count_map (x ∷ xs) = count_cons p (f x) (map f xs) ∙ ap (λ n. one_if (p (f x)) + n) (count_map xs) ∙ sym (count_cons (λ x. p (f x)) x xs)
