-- A list of different elements is no longer than a list that has them all.
use Rattle.std.proofs.Common.{◌≡◌, ℕ, suc, ◌*◌, ◌≤◌, List, [], ◌∷◌, ◌++◌, length, sym, refl, ap, ◌∙◌, subst, ⊎_elim, add-mul, arith}
use Rattle.std.specs.List.{Contains}
use Rattle.std.proofs.lemmas.List.Elements.{Contains-append_left, Contains-append_right}
use Rattle.std.proofs.lemmas.List.{length-append}
use Rattle.kind.specs.Meaning.{Distinct}
use Rattle.kind.proofs.Members.{has_none, has_here, has_there, has_cases}

-- a list without one occurrence of an element
record Remaining {X : Type 0} (xs : List X) (x : X) : Type 0 where
  rest : List X
  shorter : length xs ≡ suc (length rest)
  others : (y : X) → Contains xs y → (x ≡ y → ⊥) → Contains rest y

module _ {X : Type 0} where
  remaining : (xs : List X) (x : X) → Contains xs x → Remaining xs x
  remaining [] x h = absurd (has_none x h)
  remaining (z ∷ xs) x h =
      ⊎_elim
      (λ e. record { rest = xs; shorter = refl; others = λ y k ne. ⊎_elim (λ i. absurd (ne (sym e ∙ i))) (λ later. later) (has_cases z xs y k) })
      (λ later.
      let t = remaining xs x later in
      record {
        rest = z ∷ t.rest;
        shorter = ap suc t.shorter;
        others = λ y k ne. ⊎_elim (λ i. has_here z t.rest y i) (λ r. has_there z t.rest y (t.others y r ne)) (has_cases z xs y k);
      })
      (has_cases z xs x h)

  pub length_within : (xs ys : List X) → Distinct xs → ((x : X) → Contains xs x → Contains ys x) → length xs ≤ length ys
  length_within [] ys d all = omega arith
  length_within (x ∷ xs) ys d all =
      let t = remaining ys x (all x (has_here x xs x refl)) in
      let e = t.shorter in
      let short = length_within xs t.rest d.1 (λ y h. t.others y (all y (has_there x xs y h)) (λ i. d.0 (subst (Contains xs) (sym i) h))) in
      omega arith

-- a list of at most so many elements has all of which P holds
abbrev pub Covered : {A : Type 0} → (A → Type 0) → ℕ → Type 0
Covered {A} P most = (all : List A) × (length all ≤ most) × ((a : A) → P a → Contains all a)

-- what belongs to some element of a list is covered where what belongs to each is
pub covered_all : {X A : Type 0} (P : X → A → Type 0) (most : ℕ) (xs : List X) → ((x : X) → Contains xs x → Covered (P x) most) →
    Covered (λ a. (x : X) × Contains xs x × P x a) (length xs * most)
covered_all P most [] each = ([], omega arith, λ a t. absurd (has_none t.0 t.1))
covered_all P most (x ∷ xs) each =
    let here = each x (has_here x xs x refl) in
    let rest = covered_all P most xs (λ y h. each y (has_there x xs y h)) in
    let fits : length (here.0 ++ rest.0) ≤ length (x ∷ xs) * most =
    (let h = here.1 in let r = rest.1 in omega (arith, length-append here.0 rest.0, add-mul 1 (length xs) most)) in (
      here.0 ++ rest.0,
      fits,
      λ a t.
          ⊎_elim (λ e. Contains-append_left here.0 rest.0 a (here.2 a (subst (λ y. P y a) (sym e) t.2)))
          (λ later. Contains-append_right here.0 rest.0 a (rest.2 a (t.0, later, t.2)))
          (has_cases x xs t.0 t.1),
    )
