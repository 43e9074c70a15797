-- `Contains` and `Distinct` by recursion over the list.
use Rattle.std.proofs.Common.{◌≡◌, ℕ, zero, suc, ◌+◌, ◌<◌, ◌≤◌, Bool, true, false, cond, ◌⊎◌, ◌↔◌, List, [], ◌∷◌, ◌++◌, map, length, get_or, filter, sym, refl, ap, ◌∙◌, subst, inl, inr, ⊎_elim, arith}
use Rattle.std.specs.List.{Contains}
use Rattle.std.proofs.lemmas.List.{length-map}
use Rattle.std.proofs.lemmas.List.Elements.{Contains-append_cases}
use Rattle.std.proofs.lemmas.List.Sums.{length-filter, count_by-le-length}
use Rattle.std.proofs.lemmas.Bool.{false≢true}
use Rattle.kind.specs.Meaning.{Distinct}

-- The four rules of `Contains`: what is below uses no index any more.
module _ {X : Type 0} where
  pub has_none : (x : X) → Contains [] x → ⊥
  has_none x h = let lt = h.1 in omega arith

  pub has_here : (y : X) (xs : List X) (x : X) → y ≡ x → Contains (y ∷ xs) x
  has_here y xs x e = (0, omega arith, e)

  pub has_there : (y : X) (xs : List X) (x : X) → Contains xs x → Contains (y ∷ xs) x
  has_there y xs x h = let lt = h.1 in (suc h.0, omega arith, h.2)

  pub has_cases : (y : X) (xs : List X) (x : X) → Contains (y ∷ xs) x → (y ≡ x) ⊎ Contains xs x
  has_cases y xs x h = go h.0 h.1 h.2
    where
      go : (k : ℕ) → k < length (y ∷ xs) → get_or (y ∷ xs) k x ≡ x → (y ≡ x) ⊎ Contains xs x
      go zero lt at = inl at
      go (suc k) lt at = inr (k, omega arith, at)

-- `Contains` of a list of two
module _ {X : Type 0} (u v : X) where
  abbrev pair : List X
  pair = u ∷ v ∷ []

  pub has_first : Contains pair u
  has_first = has_here u (v ∷ []) u refl

  pub has_second : Contains pair v
  has_second = has_there u (v ∷ []) v (has_here v [] v refl)

  pub pair_cases : (x : X) → Contains pair x → (u ≡ x) ⊎ (v ≡ x)
  pair_cases x h = ⊎_elim inl (λ r. ⊎_elim inr (λ z. absurd (has_none x z)) (has_cases v [] x r)) (has_cases u (v ∷ []) x h)

module _ {X : Type 0} (u v u' v' : X) where
  -- two lists of two with the same elements have them in the same order or in the other
  pub pair_same : ((x : X) → Contains (u ∷ v ∷ []) x ↔ Contains (u' ∷ v' ∷ []) x) → ((u ≡ u') × (v ≡ v')) ⊎ ((u ≡ v') × (v ≡ u'))
  pair_same h =
      go (pair_cases u' v' u ((h u).0 (has_first u v))) (pair_cases u' v' v ((h v).0 (has_second u v)))
      (pair_cases u v u' ((h u').1 (has_first u' v'))) (pair_cases u v v' ((h v').1 (has_second u' v')))
    where
      go : (u' ≡ u) ⊎ (v' ≡ u) → (u' ≡ v) ⊎ (v' ≡ v) → (u ≡ u') ⊎ (v ≡ u') → (u ≡ v') ⊎ (v ≡ v') → ((u ≡ u') × (v ≡ v')) ⊎ ((u ≡ v') × (v ≡ u'))
      go (inl a) (inr b) c d = inl (sym a, sym b)
      go (inr a) (inl b) c d = inr (sym a, sym b)
      go (inl a) (inl b) c (inl d) = inr (d, sym b)
      go (inl a) (inl b) c (inr d) = inl (sym a, d)
      go (inr a) (inr b) (inl c) d = inl (c, sym b)
      go (inr a) (inr b) (inr c) d = inr (sym a, c)

-- `Contains` of a list of three
module _ {X : Type 0} (u v w : X) where
  abbrev three : List X
  three = u ∷ v ∷ w ∷ []

  pub three_has : (x : X) → (u ≡ x) ⊎ (v ≡ x) ⊎ (w ≡ x) → Contains three x
  three_has x (inl e) = has_here u (v ∷ w ∷ []) x e
  three_has x (inr (inl e)) = has_there u (v ∷ w ∷ []) x (has_here v (w ∷ []) x e)
  three_has x (inr (inr e)) = has_there u (v ∷ w ∷ []) x (has_there v (w ∷ []) x (has_here w [] x e))

  pub three_cases : (x : X) → Contains three x → (u ≡ x) ⊎ (v ≡ x) ⊎ (w ≡ x)
  three_cases x h = ⊎_elim inl (λ r. inr (pair_cases v w x r)) (has_cases u (v ∷ w ∷ []) x h)

-- `Contains` of a `map`
module _ {X Y : Type 0} (f : X → Y) where
  pub has_map : (xs : List X) (x : X) → Contains xs x → Contains (map f xs) (f x)
  has_map [] x h = absurd (has_none x h)
  has_map (y ∷ xs) x h =
      ⊎_elim (λ e. has_here (f y) (map f xs) (f x) (ap f e))
      (λ r. has_there (f y) (map f xs) (f x) (has_map xs x r))
      (has_cases y xs x h)

  pub map_has : (xs : List X) (y : Y) → Contains (map f xs) y → (x : X) × Contains xs x × (f x ≡ y)
  map_has [] y h = absurd (has_none y h)
  map_has (z ∷ xs) y h =
      ⊎_elim (λ e. (z, has_here z xs z refl, e))
      (λ r. let t = map_has xs y r in (t.0, has_there z xs t.0 t.1, t.2))
      (has_cases (f z) (map f xs) y h)

-- `Contains` of a filter: first of one turn of it, by the test's answer
module _ {X : Type 0} where
  keep_here : (b : Bool) (y : X) (us : List X) (x : X) → b ≡ true → y ≡ x → Contains (cond b (y ∷ us) us) x
  keep_here true y us x t e = has_here y us x e
  keep_here false y us x t e = absurd (false≢true t)

  keep_there : (b : Bool) (y : X) (us : List X) (x : X) → Contains us x → Contains (cond b (y ∷ us) us) x
  keep_there true y us x h = has_there y us x h
  keep_there false y us x h = h

  keep_cases : (b : Bool) (y : X) (us : List X) (x : X) → Contains (cond b (y ∷ us) us) x → ((b ≡ true) × (y ≡ x)) ⊎ Contains us x
  keep_cases true y us x h = ⊎_elim (λ e. inl (refl, e)) (λ r. inr r) (has_cases y us x h)
  keep_cases false y us x h = inr h

module _ {X : Type 0} (p : X → Bool) where
  pub has_kept : (xs : List X) (x : X) → p x ≡ true → Contains xs x → Contains (filter p xs) x
  has_kept [] x t h = h
  has_kept (y ∷ xs) x t h =
      ⊎_elim (λ e. keep_here (p y) y (filter p xs) x (ap p e ∙ t) e)
      (λ r. keep_there (p y) y (filter p xs) x (has_kept xs x t r))
      (has_cases y xs x h)

  pub kept_has : (xs : List X) (x : X) → Contains (filter p xs) x → Contains xs x × (p x ≡ true)
  kept_has [] x h = absurd (has_none x h)
  kept_has (y ∷ xs) x h =
      ⊎_elim (λ t. (has_here y xs x t.1, sym (ap p t.1) ∙ t.0))
      (λ r. let t = kept_has xs x r in (has_there y xs x t.0, t.1))
      (keep_cases (p y) y (filter p xs) x h)

-- `Distinct`
module _ {X : Type 0} where
  pub distinct_append : (xs ys : List X) → Distinct xs → Distinct ys → ((x : X) → Contains xs x → Contains ys x → ⊥) → Distinct (xs ++ ys)
  distinct_append [] ys d e apart = e
  distinct_append (x ∷ xs) ys d e apart = (
    λ h. ⊎_elim d.0 (apart x (has_here x xs x refl)) (Contains-append_cases xs ys x h),
    distinct_append xs ys d.1 e (λ y h k. apart y (has_there x xs y h) k),
  )

module _ {X Y : Type 0} (f : X → Y) where
  keep_distinct : (b : Bool) (x : X) (us : List X) → (Contains (map f us) (f x) → ⊥) → Distinct (map f us) → Distinct (map f (cond b (x ∷ us) us))
  keep_distinct true x us new d = (new, d)
  keep_distinct false x us new d = d

  -- a filter keeps the images apart
  pub distinct_kept : (p : X → Bool) (xs : List X) → Distinct (map f xs) → Distinct (map f (filter p xs))
  distinct_kept p [] d = d
  distinct_kept p (x ∷ xs) d =
      keep_distinct (p x) x (filter p xs)
      (λ h. let t = map_has f (filter p xs) (f x) h in d.0 (subst (Contains (map f xs)) t.2 (has_map f xs t.0 (kept_has p xs t.0 t.1).0)))
      (distinct_kept p xs d.1)

  -- what a map keeps apart is apart, and conversely where the map does not bring two together
  pub distinct_from_map : (xs : List X) → Distinct (map f xs) → Distinct xs
  distinct_from_map [] d = tt
  distinct_from_map (x ∷ xs) d = (λ h. d.0 (has_map f xs x h), distinct_from_map xs d.1)

  pub distinct_map : ((x y : X) → f x ≡ f y → x ≡ y) → (xs : List X) → Distinct xs → Distinct (map f xs)
  distinct_map inj [] d = tt
  distinct_map inj (x ∷ xs) d =
      (λ h. let t = map_has f xs (f x) h in d.0 (subst (Contains xs) (inj t.0 x t.2) t.1), distinct_map inj xs d.1)

  pub length_kept : (p : X → Bool) (xs : List X) → length (map f (filter p xs)) ≤ length xs
  length_kept p xs = omega (arith, length-map (filter p xs) f, length-filter p xs, count_by-le-length p xs)

-- A list whose elements have the numbers k, k + 1 and so on, by a function that tells each its number.
abbrev pub Numbered : {Y : Type 0} → (Y → ℕ) → ℕ → List Y → Type 0
Numbered number k [] = Unit {0}
Numbered number k (y ∷ ys) = (number y ≡ k) × Numbered number (suc k) ys

module _ {Y : Type 0} (number : Y → ℕ) where
  numbered_from : (k : ℕ) (ys : List Y) → Numbered number k ys → (y : Y) → Contains ys y → k ≤ number y
  numbered_from k [] n y h = absurd (has_none y h)
  numbered_from k (z ∷ ys) n y h =
      ⊎_elim (λ e. let m = n.0 in let q = ap number e in omega arith) (λ r. let m = numbered_from (suc k) ys n.1 y r in omega arith) (has_cases z ys y h)

  pub numbered_distinct : (k : ℕ) (ys : List Y) → Numbered number k ys → Distinct ys
  numbered_distinct k [] n = tt
  numbered_distinct k (y ∷ ys) n =
      (λ h. let a = numbered_from (suc k) ys n.1 y h in let b = n.0 in omega arith, numbered_distinct (suc k) ys n.1)

  pub numbered_at : (k : ℕ) (ys : List Y) → Numbered number k ys → (m : ℕ) → m < length ys → (d : Y) → number (get_or ys m d) ≡ k + m
  numbered_at k [] n m l d = absurd (omega arith)
  numbered_at k (y ∷ ys) n zero l d = let e = n.0 in omega arith
  numbered_at k (y ∷ ys) n (suc m) l d = let e = numbered_at (suc k) ys n.1 m (omega arith) d in omega arith
