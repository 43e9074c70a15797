-- Filters that let all pass, or none.
use Rattle.std.proofs.Common.{◌≡◌, Bool, true, false, cond, List, [], ◌∷◌, ◌++◌, filter, refl, ap, ◌∙◌}
use Rattle.std.specs.List.{Contains}
use Rattle.std.proofs.lemmas.List.Elements.{filter-append}
use Rattle.std.proofs.lemmas.List.{append-nil}
use Rattle.kind.proofs.Members.{has_here, has_there}

module _ {X : Type 0} (p : X → Bool) where
  pub kept_all : (xs : List X) → ((x : X) → Contains xs x → p x ≡ true) → filter p xs ≡ xs
  kept_all [] all = refl
  kept_all (x ∷ xs) all =
      ap (λ t. cond t (x ∷ filter p xs) (filter p xs)) (all x (has_here x xs x refl)) ∙ ap (λ ys. x ∷ ys) (kept_all xs (λ y h. all y (has_there x xs y h)))

  kept_none : (xs : List X) → ((x : X) → Contains xs x → p x ≡ false) → filter p xs ≡ []
  kept_none [] all = refl
  kept_none (x ∷ xs) all =
      ap (λ t. cond t (x ∷ filter p xs) (filter p xs)) (all x (has_here x xs x refl)) ∙ kept_none xs (λ y h. all y (has_there x xs y h))

  -- a filter takes away what was appended
  pub kept_front : (xs ys : List X) → ((x : X) → Contains xs x → p x ≡ true) → ((y : X) → Contains ys y → p y ≡ false) → filter p (xs ++ ys) ≡ xs
  kept_front xs ys all none =
      filter-append p xs ys ∙ ap (λ zs. zs ++ filter p ys) (kept_all xs all) ∙ ap (λ zs. xs ++ zs) (kept_none ys none) ∙ append-nil xs
