-- Lists put end to end: what they have, and how long they are.
use Rattle.std.proofs.Common.{◌≡◌, ℕ, ◌+◌, ◌*◌, ◌≤◌, Bool, not, List, [], ◌∷◌, ◌++◌, length, sum_by, filter, sym, refl, ap, ◌∙◌, subst, ⊎_elim, arith}
use Rattle.std.specs.List.{Contains, flat_map}
use Rattle.std.proofs.lemmas.List.Elements.{Contains-append_left, Contains-append_right, All-contains_itself, All-weaker, Contains-append_cases}
use Rattle.std.proofs.lemmas.List.Filters.{sum_by-filter_both}
use Rattle.std.proofs.lemmas.List.{append_assoc, length-append}
use Rattle.std.proofs.lemmas.List.Sums.{sum_by-append, sum_by-cons, sum_by-le}
use Rattle.kind.proofs.Members.{has_none, has_here, has_there, has_cases}

module _ {X A : Type 0} (f : X → List A) where
  pub has_joined : (xs : List X) (x : X) (a : A) → Contains xs x → Contains (f x) a → Contains (flat_map f xs) a
  has_joined [] x a h k = absurd (has_none x h)
  has_joined (y ∷ xs) x a h k =
      ⊎_elim (λ e. Contains-append_left (f y) (flat_map f xs) a (subst (λ z. Contains (f z) a) (sym e) k))
      (λ r. Contains-append_right (f y) (flat_map f xs) a (has_joined xs x a r k))
      (has_cases y xs x h)

  pub joined_has : (xs : List X) (a : A) → Contains (flat_map f xs) a → (x : X) × Contains xs x × Contains (f x) a
  joined_has [] a h = absurd (has_none a h)
  joined_has (y ∷ xs) a h =
      ⊎_elim (λ here. (y, has_here y xs y refl, here))
      (λ later. let t = joined_has xs a later in (t.0, has_there y xs t.0 t.1, t.2))
      (Contains-append_cases (f y) (flat_map f xs) a h)

  pub joined_append : (xs ys : List X) → flat_map f (xs ++ ys) ≡ flat_map f xs ++ flat_map f ys
  joined_append [] ys = refl
  joined_append (x ∷ xs) ys = ap (λ zs. f x ++ zs) (joined_append xs ys) ∙ sym (append_assoc (f x) (flat_map f xs) (flat_map f ys))

  pub sum_by_joined : (g : A → ℕ) (xs : List X) → sum_by g (flat_map f xs) ≡ sum_by (λ x. sum_by g (f x)) xs
  sum_by_joined g [] = refl
  sum_by_joined g (x ∷ xs) =
      sum_by-append g (f x) (flat_map f xs) ∙ ap (λ k. sum_by g (f x) + k) (sum_by_joined g xs) ∙ sym (sum_by-cons (λ y. sum_by g (f y)) x xs)

  length_joined : (xs : List X) → length (flat_map f xs) ≡ sum_by (λ x. length (f x)) xs
  length_joined [] = refl
  length_joined (x ∷ xs) =
      length-append (f x) (flat_map f xs) ∙ ap (λ k. length (f x) + k) (length_joined xs) ∙ sym (sum_by-cons (λ y. length (f y)) x xs)

  -- a filter leaves less
  pub joined_kept_by : (test : X → Bool) (xs : List X) → length (flat_map f (filter test xs)) ≤ length (flat_map f xs)
  joined_kept_by test xs =
      omega (arith, length_joined (filter test xs), length_joined xs, sum_by-filter_both test (λ x. not (test x)) (λ _. refl) (λ x. length (f x)) xs)

  -- lists of at most so many elements each
  pub joined_at_most : (most : ℕ) (xs : List X) → ((x : X) → Contains xs x → length (f x) ≤ most) → length (flat_map f xs) ≤ length xs * most
  joined_at_most most xs each =
      rw (length_joined xs) (sum_by-le (λ x. length (f x)) most xs (All-weaker (Contains xs) (λ x. length (f x) ≤ most) each xs (All-contains_itself xs)))
