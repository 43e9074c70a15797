-- The numbers of the piece list, by the vertex list.
use Rattle.std.proofs.Common.{◌≡◌, ℕ, zero, suc, ◌+◌, ◌≤◌, Bool, true, cond, ◌&&◌, eqb, ◌⊎◌, List, [], ◌∷◌, ◌++◌, map, length, take, Some, Decides, count_by, filter, sym, refl, ap, ◌∙◌, subst, inl, inr, ⊎_elim, arith}
use Rattle.std.specs.List.{Contains, slice_get}
use Rattle.std.proofs.lemmas.List.Sums.{sum_by-cons}
use Rattle.std.proofs.lemmas.Bool.{cases_Bool, cond-true, cond-false}
use Rattle.std.proofs.lemmas.List.Elements.{Decides-contains}
use Rattle.std.proofs.lemmas.Bool.Decides.{Decides-by_or, Decides-eqb, Decides-like, not_from_Decides, same_from_decides}
use Rattle.cell.specs.declared.vertex.Place.{Place}
use Rattle.cell.specs.declared.vertex.Vertex.{Vertex}
use Rattle.kind.specs.Meaning.{Distinct, Piece, Joint, names, on, places_of, same_place}
use Rattle.kind.specs.Shapes.{number}
use Rattle.kind.proofs.Members.{has_none, has_here, has_there, has_cases, has_map, map_has}
use Rattle.kind.proofs.Places.{same_place_decides, names_decides}
use Rattle.surface.specs.Ledger.{Opening, State, pieces_of, piece_list, after}
use Rattle.surface.specs.Kept.{Kept, Numbered, AlwaysKept, has_number, on_numbers}
use Rattle.surface.proofs.Checks.{some_none}
use Rattle.surface.proofs.Decisions.{refuted}
use Rattle.surface.proofs.Runs.{always_sound}

-- a place has the number 1 at the first vertex, or one more than among the others
pub number_cases : (v : Vertex) (vs : List Vertex) (p : Place) → ((v.place ≡ p) × (number (v ∷ vs) p ≡ 1)) ⊎ ((v.place ≡ p → ⊥) × (number (v ∷ vs) p ≡ suc (number vs p)))
number_cases v vs p =
    let same = same_place_decides v.place p in
    ⊎_elim (λ t. inl (same.0 t, cond-true _ 1 (suc (number vs p)) t))
    (λ f. inr (not_from_Decides _ same f, cond-false _ 1 (suc (number vs p)) f))
    (cases_Bool (same_place v.place p))

pub number_low : (vs : List Vertex) (p : Place) → 1 ≤ number vs p
number_low [] p = omega arith
number_low (v ∷ vs) p = ⊎_elim (λ t. let e = t.1 in omega arith) (λ t. let e = t.1 in omega arith) (number_cases v vs p)

-- a place that is not the first vertex's is listed behind it
pub behind : (v : Vertex) (vs : List Vertex) (p : Place) → (v.place ≡ p → ⊥) → Contains (places_of (v ∷ vs)) p → Contains (places_of vs) p
behind v vs p ne h = ⊎_elim (λ e. absurd (ne e)) (λ later. later) (has_cases v.place (places_of vs) p h)

pub number_high : (vs : List Vertex) (p : Place) → Contains (places_of vs) p → number vs p ≤ length vs
number_high [] p h = absurd (has_none p h)
number_high (v ∷ vs) p h =
    ⊎_elim (λ t. let e = t.1 in omega arith)
    (λ t. let e = t.1 in let later = number_high vs p (behind v vs p t.0 h) in omega arith)
    (number_cases v vs p)

-- no other place has the number of a listed one
number_same : (vs : List Vertex) (p q : Place) → Contains (places_of vs) p → number vs p ≡ number vs q → p ≡ q
number_same [] p q h e = absurd (has_none p h)
number_same (v ∷ vs) p q h e =
    ⊎_elim
    (λ t. ⊎_elim (λ u. sym t.0 ∙ u.0) (λ u. let z : ⊥ = omega (arith, t.1, u.1, number_low vs q) in absurd z) (number_cases v vs q))
    (λ t.
    ⊎_elim (λ u. let z : ⊥ = omega (arith, t.1, u.1, number_low vs p) in absurd z)
    (λ u. number_same vs p q (behind v vs p t.0 h) (omega (arith, t.1, u.1)))
    (number_cases v vs q))
    (number_cases v vs p)

pub nth_has : {X : Type 0} (xs : List X) (k : ℕ) (x : X) → slice_get xs k ≡ Some x → Contains xs x
nth_has [] k x e = absurd (some_none x (sym e))
nth_has (y ∷ xs) zero x e = has_here y xs x (cc)
nth_has (y ∷ xs) (suc k) x e = has_there y xs x (nth_has xs k x e)

pub number_counted : (vs : List Vertex) → Distinct (places_of vs) → (k : ℕ) (v : Vertex) → slice_get vs k ≡ Some v → number vs v.place ≡ suc k
number_counted [] d k v e = absurd (some_none v (sym e))
number_counted (w ∷ vs) d zero v e =
    let same : w ≡ v = cc in
    ⊎_elim (λ t. t.1) (λ t. absurd (t.0 (ap (λ u. u.place) same))) (number_cases w vs v.place)
number_counted (w ∷ vs) d (suc k) v e =
    ⊎_elim (λ t. absurd (d.0 (subst (Contains (places_of vs)) (sym t.0) (has_map (λ u. u.place) vs v (nth_has vs k v e)))))
    (λ t. t.1 ∙ ap suc (number_counted vs d.1 k v e))
    (number_cases w vs v.place)

-- a place that is listed keeps its number where more vertices are appended
pub number_append : (vs ws : List Vertex) (p : Place) → Contains (places_of vs) p → number (vs ++ ws) p ≡ number vs p
number_append [] ws p h = absurd (has_none p h)
number_append (v ∷ vs) ws p h =
    ⊎_elim (λ t. cond-true _ 1 (suc (number (vs ++ ws) p)) ((same_place_decides v.place p).1 t.0) ∙ sym t.1)
    (λ t. cond-false _ 1 (suc (number (vs ++ ws) p)) (refuted (same_place_decides v.place p) t.0) ∙ ap suc (number_append vs ws p (behind v vs p t.0 h)) ∙ sym t.1)
    (number_cases v vs p)

-- one that is not listed has its number behind the list
pub number_append_new : (vs ws : List Vertex) (p : Place) → (Contains (places_of vs) p → ⊥) → number (vs ++ ws) p ≡ length vs + number ws p
number_append_new [] ws p ne = omega arith
number_append_new (v ∷ vs) ws p ne =
    ⊎_elim (λ t. absurd (ne (has_here v.place (places_of vs) p t.0)))
    (λ t. let e = t.1 in let rest = number_append_new vs ws p (λ h. ne (has_there v.place (places_of vs) p h)) in omega arith)
    (number_cases v (vs ++ ws) p)

-- and one that a filter keeps has one more than how many it keeps before
pub number_kept : (kept : Vertex → Bool) (vs : List Vertex) → Distinct (places_of vs) → (k : ℕ) (v : Vertex) → slice_get vs k ≡ Some v → kept v ≡ true → number (filter kept vs) v.place ≡ suc (length (filter kept (take k vs)))
number_kept kept [] d k v e t = absurd (some_none v (sym e))
number_kept kept (w ∷ vs) d zero v e t =
    let same : w ≡ v = cc in
    let here : filter kept (w ∷ vs) ≡ w ∷ filter kept vs = cond-true (kept w) (w ∷ filter kept vs) (filter kept vs) (ap kept same ∙ t) in
    ap (λ us. number us v.place) here
    ∙ cond-true (same_place w.place v.place) 1 (suc (number (filter kept vs) v.place)) ((same_place_decides w.place v.place).1 (ap (λ u. u.place) same))
number_kept kept (w ∷ vs) d (suc k) v e t =
    let later = number_kept kept vs d.1 k v e t in
    let other : w.place ≡ v.place → ⊥ = λ i. d.0 (subst (Contains (places_of vs)) (sym i) (has_map (λ u. u.place) vs v (nth_has vs k v e))) in
    ⊎_elim
    (λ yes_w.
    ap (λ us. number us v.place) (cond-true (kept w) (w ∷ filter kept vs) (filter kept vs) yes_w)
    ∙ cond-false (same_place w.place v.place) 1 (suc (number (filter kept vs) v.place)) (refuted (same_place_decides w.place v.place) other)
    ∙ ap suc later
    ∙ ap (λ us. suc (length us)) (sym (cond-true (kept w) (w ∷ filter kept (take k vs)) (filter kept (take k vs)) yes_w)))
    (λ no_w.
    ap (λ us. number us v.place) (cond-false (kept w) (w ∷ filter kept vs) (filter kept vs) no_w)
    ∙ later
    ∙ ap (λ us. suc (length us)) (sym (cond-false (kept w) (w ∷ filter kept (take k vs)) (filter kept (take k vs)) no_w)))
    (cases_Bool (kept w))

has_number_decides : (ns : List ℕ) (n : ℕ) → Decides (has_number ns n) (Contains ns n)
has_number_decides ns n =
    Decides-contains ns n (has_number ns n) (Decides-by_or (λ k. eqb k n) (λ k. k ≡ n) (λ ks. has_number ks n) (λ k. Decides-eqb k n) refl (λ _ _. refl) ns)

module _ (vs : List Vertex) (q : Piece) (listed : (p : Place) → Contains q p → Contains (places_of vs) p) where
  -- a piece has a place's number exactly when it names the place
  pub number_named : (p : Place) → has_number (map (number vs) q) (number vs p) ≡ names q p
  number_named p =
      same_from_decides (has_number (map (number vs) q) (number vs p)) (names q p)
      (Decides-like (has_number (map (number vs) q) (number vs p))
      (λ h. let t = map_has (number vs) q (number vs p) h in subst (Contains q) (number_same vs t.0 p (listed t.0 t.1) t.2) t.1)
      (λ h. has_map (number vs) q p h)
      (has_number_decides (map (number vs) q) (number vs p)))
      (names_decides q p)

  number_on : (j : Joint) → on_numbers (map (number vs) j) (map (number vs) q) ≡ on j q
  number_on [] = refl
  number_on (p ∷ j) = ap (λ t. t && on_numbers (map (number vs) j) (map (number vs) q)) (number_named p) ∙ ap (λ t. names q p && t) (number_on j)

-- as many elements pass as their images do
count_map : {X Y : Type 0} (f : X → Y) (p : Y → Bool) (r : X → Bool) (xs : List X) → ((x : X) → Contains xs x → p (f x) ≡ r x) → count_by p (map f xs) ≡ count_by r xs
count_map f p r [] same = refl
count_map f p r (x ∷ xs) same =
    sum_by-cons (λ y. cond (p y) 1 0) (f x) (map f xs)
    ∙ ap (λ t. cond t 1 0 + count_by p (map f xs)) (same x (has_here x xs x refl))
    ∙ ap (λ k. cond (r x) 1 0 + k) (count_map f p r xs (λ y h. same y (has_there x xs y h)))
    ∙ sym (sum_by-cons (λ y. cond (r y) 1 0) x xs)

module _ (o : Opening) (s : State) (ok : Kept o s) where
  -- every place that a listed piece names is listed
  pub named_listed : (q : Piece) → Contains (pieces_of s.held) q → (p : Place) → Contains q p → Contains (places_of s.vertices) p
  named_listed q h p k = (ok.named p).1 (q, h, k)

  number_listed : (ns : List ℕ) (n : ℕ) → Contains (piece_list s) ns → Contains ns n → (1 ≤ n) × (n ≤ length s.vertices)
  number_listed ns n h k =
      let q = map_has (map (number s.vertices)) (pieces_of s.held) ns h in
      let p = map_has (number s.vertices) q.0 n (subst (λ ks. Contains ks n) (sym q.2) k) in
      let e = p.2 in
      let low = number_low s.vertices p.0 in
      let high = number_high s.vertices p.0 (named_listed q.0 q.1 p.0 p.1) in
      (omega arith, omega arith)

  pub numbered : Numbered s
  numbered = record {
    counted = number_counted s.vertices ok.once;
    listed = number_listed;
    same_count = λ j. count_map (map (number s.vertices)) (on_numbers (map (number s.vertices) j)) (on j) (pieces_of s.held) (λ q h. number_on s.vertices q (named_listed q h) j);
  }

pub always_kept : AlwaysKept
always_kept o laws cs = let ok = (always_sound o laws cs).kept in (ok, numbered o (after o cs) ok)
