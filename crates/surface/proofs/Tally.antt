-- A sum over a list is odd exactly if one term is odd, where no three are.
use Rattle.std.proofs.Common.{◌≡◌, ℕ, ◌%◌, ◌⊎◌, ◌↔◌, List, [], ◌∷◌, map, sum_by, sym, refl, subst, inl, inr, ⊎_elim, arith}
use Rattle.std.specs.List.{Contains}
use Rattle.std.proofs.lemmas.List.Sums.{sum_by-cons}
use Rattle.std.proofs.lemmas.Bool.{cases_eq}
use Rattle.kind.specs.Meaning.{Odd, Distinct}
use Rattle.kind.proofs.Members.{has_none, has_here, has_there, has_cases, has_map}

-- a number is even or odd
parity : (n : ℕ) → (n % 2 ≡ 0) ⊎ Odd n
parity n = ⊎_elim (λ e. inl e) (λ ne. inr (omega arith)) (cases_eq (n % 2) 0)

-- E: the elements; key: what tells them apart; f: the terms; C: the elements that count
module _ {E K : Type 0} (key : E → K) (f : E → ℕ) (C : E → Type 0) where
  -- how many elements of a list count, with the parity of the sum
  pub data Tally (xs : List E) : Type 0 where
    none : ((x : E) → Contains xs x → C x → ⊥) → sum_by f xs % 2 ≡ 0 → Tally xs
    one : (x : E) → Contains xs x → C x → ((y : E) → Contains xs y → C y → y ≡ x) → sum_by f xs % 2 ≡ 1 → Tally xs
    two : (x y : E) → Contains xs x → Contains xs y → C x → C y → (key x ≡ key y → ⊥) → sum_by f xs % 2 ≡ 0 → Tally xs

  -- an element that does not count goes before
  tally_no : (x : E) (xs : List E) → (C x → ⊥) → f x % 2 ≡ 0 → Tally xs → Tally (x ∷ xs)
  tally_no x xs out even (none all e) = none (λ y h c. ⊎_elim (λ i. out (subst C (sym i) c)) (λ r. all y r c) (has_cases x xs y h)) (omega (arith, sum_by-cons f x xs))
  tally_no x xs out even (one y h c alone e) =
      one y (has_there x xs y h) c (λ z k d. ⊎_elim (λ i. absurd (out (subst C (sym i) d))) (λ r. alone z r d) (has_cases x xs z k)) (omega (arith, sum_by-cons f x xs))
  tally_no x xs out even (two y z h k c d ne e) = two y z (has_there x xs y h) (has_there x xs z k) c d ne (omega (arith, sum_by-cons f x xs))

  -- one that counts goes before
  tally_yes : (x : E) (xs : List E) → C x → f x % 2 ≡ 1 → (Contains (map key xs) (key x) → ⊥) →
      ((y z : E) → Contains xs y → Contains xs z → C y → C z → (key x ≡ key y) ⊎ (key y ≡ key z) ⊎ (key x ≡ key z)) → Tally xs → Tally (x ∷ xs)
  tally_yes x xs c odd new three (none all e) =
      one x (has_here x xs x refl) c (λ y h d. ⊎_elim (λ i. sym i) (λ r. absurd (all y r d)) (has_cases x xs y h)) (omega (arith, sum_by-cons f x xs))
  tally_yes x xs c odd new three (one y h d alone e) =
      two x y (has_here x xs x refl) (has_there x xs y h) c d (λ i. new (subst (Contains (map key xs)) (sym i) (has_map key xs y h))) (omega (arith, sum_by-cons f x xs))
  tally_yes x xs c odd new three (two y z h k d g ne e) =
      absurd (⊎_elim (λ i. new (subst (Contains (map key xs)) (sym i) (has_map key xs y h)))
      (⊎_elim ne (λ i. new (subst (Contains (map key xs)) (sym i) (has_map key xs z k))))
      (three y z h k d g))

  -- the tally of a list whose keys are distinct, whose odd terms are those that count, and of which no three count
  pub tally : (xs : List E) → Distinct (map key xs) → ((x : E) → Contains xs x → Odd (f x) ↔ C x) →
      ((x y z : E) → Contains xs x → Contains xs y → Contains xs z → C x → C y → C z → (key x ≡ key y) ⊎ (key y ≡ key z) ⊎ (key x ≡ key z)) → Tally xs
  tally [] d odd three = none (λ x h c. has_none x h) refl
  tally (x ∷ xs) d odd three =
      let rest : Tally xs = tally xs d.1 (λ y h. odd y (has_there x xs y h)) (λ y z w h k g. three y z w (has_there x xs y h) (has_there x xs z k) (has_there x xs w g)) in
      let here : Contains (x ∷ xs) x = has_here x xs x refl in
      ⊎_elim
      (λ even. tally_no x xs (λ c. let o = (odd x here).1 c in omega arith) even rest)
      (λ o. let c = (odd x here).0 o in tally_yes x xs c o d.0 (λ y z h k. three x y z here (has_there x xs y h) (has_there x xs z k) c) rest)
      (parity (f x))
