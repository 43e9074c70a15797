-- A withdrawal by numbers leaves the lists that it leaves by places.
use Rattle.std.proofs.Common.{◌≡◌, ℕ, zero, suc, ◌+◌, ◌-◌, ◌<◌, ◌≤◌, Bool, true, false, cond, not, ◌&&◌, ◌||◌, eqb, ltb, List, [], ◌∷◌, ◌++◌, map, length, take, Some, sum_by, count_by, filter, sym, refl, ap, ◌∙◌, subst, ap₂, arith}
use Rattle.std.specs.List.{Contains, slice_get}
use Rattle.std.proofs.lemmas.List.Elements.{Contains-append_left, Contains-append_right}
use Rattle.std.proofs.lemmas.List.{map-append}
use Rattle.std.proofs.lemmas.List.Sums.{sum_by-cons}
use Rattle.std.proofs.lemmas.Bool.Decides.{nat_tests}
use Rattle.block.specs.declared.lattice.Point.{Point}
use Rattle.cell.specs.declared.vertex.Place.{Place}
use Rattle.cell.specs.declared.vertex.Vertex.{Vertex}
use Rattle.kind.specs.Meaning.{Piece, names, places_of, same_point}
use Rattle.kind.specs.Shapes.{number}
use Rattle.kind.proofs.Members.{has_here, has_there, has_map, map_has, kept_has}
use Rattle.surface.specs.Changes.{Split, renumbered}
use Rattle.surface.specs.Kept.{Kept, has_number}
use Rattle.surface.specs.Ledger.{Opening, State, positions, pieces_of, piece_list, named_by, without}
use Rattle.surface.specs.Striking.{any_names, spare, by_before, once, singled, unnamed, below, lowered, unstruck, by_number, lost_of, Strikes}
use Rattle.surface.proofs.Changing.{all_follow}
use Rattle.surface.proofs.Decisions.{named_by_decides}
use Rattle.surface.proofs.Joined.{has_joined, joined_has, joined_append}
use Rattle.surface.proofs.Numbers.{nth_has, number_low, number_named, number_counted, named_listed, numbered}

-- 1 for a test that holds, 0 for one that fails
abbrev bit : Bool → ℕ
bit b = cond b 1 0

-- Tests, by their cases.
or_assoc : (a b c : Bool) → (a || (b || c)) ≡ (a || b || c)
or_assoc true b c = refl
or_assoc false b c = refl

and_or : (s e h : Bool) → (s && e || s && h) ≡ (s && (e || h))
and_or true e h = refl
and_or false e h = refl

-- where one of two holds, the first holds without the second exactly if the second fails
other_only : (a b : Bool) → (a || b) ≡ true → (not b && a) ≡ not b
other_only true true e = refl
other_only true false e = refl
other_only false true e = refl
other_only false false e = e

cond_not : {A : Type 0} (b : Bool) (x y : A) → cond (not b) x y ≡ cond b y x
cond_not true x y = refl
cond_not false x y = refl

bit_and : (s e : Bool) → bit (not s && e) ≡ cond s 0 (bit e)
bit_and true e = refl
bit_and false e = refl

-- what is new at one element, and then at others, is what is new at all of them
bit_split : (s e h : Bool) → bit (not s && e) + bit (not (s || e) && h) ≡ bit (not s && (e || h))
bit_split true e h = refl
bit_split false true h = refl
bit_split false false true = refl
bit_split false false false = refl

bit_tells : (b : Bool) → ltb 0 (bit b) ≡ b
bit_tells true = refl
bit_tells false = refl

some_positive : (m n : ℕ) → (ltb 0 m || ltb 0 n) ≡ ltb 0 (m + n)
some_positive m n = grind (arith, nat_tests)

-- Sums, by their terms: all 0 where a test holds, sums of two, or 0.
module _ {X : Type 0} where
  sum_if : (s : Bool) (m : X → ℕ) (g : X → X) → ((x : X) → m (g x) ≡ cond s 0 (m x)) → (xs : List X) → sum_by m (map g xs) ≡ cond s 0 (sum_by m xs)
  sum_if s m g each [] = grind arith
  sum_if s m g each (x ∷ xs) =
      let first = each x in
      let rest = sum_if s m g each xs in
      grind (arith, sum_by-cons m (g x) (map g xs), sum_by-cons m x xs)

  sum_both : (f g h : X → ℕ) → ((x : X) → f x ≡ g x + h x) → (xs : List X) → sum_by f xs ≡ sum_by g xs + sum_by h xs
  sum_both f g h each [] = refl
  sum_both f g h each (x ∷ xs) =
      let first = each x in
      let rest = sum_both f g h each xs in
      omega (arith, sum_by-cons f x xs, sum_by-cons g x xs, sum_by-cons h x xs)

  sum_none : (f : X → ℕ) → ((x : X) → f x ≡ 0) → (xs : List X) → sum_by f xs ≡ 0
  sum_none f each [] = refl
  sum_none f each (x ∷ xs) =
      let first = each x in
      let rest = sum_none f each xs in
      omega (arith, sum_by-cons f x xs)

-- A test of lists that holds where one of an element does.
module _ {X : Type 0} (t : X → Bool) (any : List X → Bool) (none : any [] ≡ false) (more : (x : X) (xs : List X) → any (x ∷ xs) ≡ (t x || any xs)) where
  any_append : (xs ys : List X) → any (xs ++ ys) ≡ (any xs || any ys)
  any_append [] ys = ap (λ b. b || any ys) (sym none)
  any_append (x ∷ xs) ys =
      more x (xs ++ ys) ∙ ap (λ b. t x || b) (any_append xs ys) ∙ or_assoc (t x) (any xs) (any ys) ∙ ap (λ b. b || any ys) (sym (more x xs))

  any_push : (xs : List X) (x : X) → any (xs ++ x ∷ []) ≡ (any xs || t x)
  any_push xs x = any_append xs (x ∷ []) ∙ ap (λ b. any xs || b) (more x [] ∙ grind (arith, none))

  -- where each element counts if the test holds of it and of none before it, one counts at most
  first_alone : (f : List X → X → X) (m : X → ℕ) → ((seen : List X) (x : X) → m (f seen x) ≡ bit (not (any seen) && t x)) →
      (seen xs : List X) → sum_by m (by_before f seen xs) ≡ bit (not (any seen) && any xs)
  first_alone f m each seen [] = grind (arith, none)
  first_alone f m each seen (x ∷ xs) =
      sum_by-cons m (f seen x) (by_before f (seen ++ x ∷ []) xs)
      ∙ ap₂ (λ i j. i + j) (each seen x) (first_alone f m each (seen ++ x ∷ []) xs ∙ ap (λ b. bit (not b && any xs)) (any_push seen x))
      ∙ bit_split (any seen) (t x) (any xs)
      ∙ ap (λ b. bit (not (any seen) && b)) (sym (more x xs))

  -- the test holds exactly if a count of what it tests is not 0
  any_counted : (m : X → ℕ) → ((x : X) → t x ≡ ltb 0 (m x)) → (xs : List X) → any xs ≡ ltb 0 (sum_by m xs)
  any_counted m each [] = none
  any_counted m each (x ∷ xs) =
      more x xs ∙ ap₂ (λ a b. a || b) (each x) (any_counted m each xs) ∙ some_positive (m x) (sum_by m xs) ∙ ap (ltb 0) (sym (sum_by-cons m x xs))

-- 0 in place of a number of which a test holds
abbrev cleared : (ℕ → Bool) → ℕ → ℕ
cleared test n = cond (test n) 0 n

-- how often a number stands in a piece, and in pieces
abbrev times : ℕ → List ℕ → ℕ
times k q = count_by (λ n. eqb n k) q

abbrev times_all : ℕ → List (List ℕ) → ℕ
times_all k qs = sum_by (times k) qs

-- A number k that is not 0: how often it stands in what is left of pieces.
module _ (k : ℕ) (pos : 1 ≤ k) where
  eqb_cleared : (test : ℕ → Bool) (n : ℕ) → eqb (cleared test n) k ≡ (not (test k) && eqb n k)
  eqb_cleared test n = grind (arith, nat_tests)

  has_cleared : (test : ℕ → Bool) (q : List ℕ) → has_number (map (cleared test) q) k ≡ (not (test k) && has_number q k)
  has_cleared test [] = grind arith
  has_cleared test (n ∷ q) = ap₂ (λ a b. a || b) (eqb_cleared test n) (has_cleared test q) ∙ and_or (not (test k)) (eqb n k) (has_number q k)

  times_cleared : (test : ℕ → Bool) (q : List ℕ) → times k (map (cleared test) q) ≡ cond (test k) 0 (times k q)
  times_cleared test = sum_if (test k) (λ n. bit (eqb n k)) (cleared test) (λ n. ap bit (eqb_cleared test n) ∙ bit_and (test k) (eqb n k))

  times_once : (q : List ℕ) → times k (once q) ≡ bit (has_number q k)
  times_once =
      first_alone (λ n. eqb n k) (λ ns. has_number ns k) refl (λ _ _. refl) (λ seen. cleared (has_number seen)) (λ n. bit (eqb n k))
      (λ seen n. ap bit (eqb_cleared (has_number seen) n)) []

  times_singled : (qs : List (List ℕ)) → times_all k (singled qs) ≡ bit (any_names qs k)
  times_singled =
      first_alone (λ q. has_number q k) (λ qs. any_names qs k) refl (λ _ _. refl) (λ seen q. once (map (spare seen) q)) (times k)
      (λ seen q. times_once (map (spare seen) q) ∙ ap bit (has_cleared (any_names seen) q)) []

  times_unnamed : (gone stay : List (List ℕ)) → times_all k (unnamed gone stay) ≡ bit (not (any_names stay k) && any_names gone k)
  times_unnamed gone stay =
      sum_if (any_names stay k) (times k) (map (spare stay)) (times_cleared (any_names stay)) (singled gone)
      ∙ ap (cond (any_names stay k) 0) (times_singled gone)
      ∙ sym (bit_and (any_names stay k) (any_names gone k))

  has_counted : (q : List ℕ) → has_number q k ≡ ltb 0 (times k q)
  has_counted = any_counted (λ n. eqb n k) (λ ns. has_number ns k) refl (λ _ _. refl) (λ n. bit (eqb n k)) (λ n. sym (bit_tells (eqb n k)))

  -- so it stands there exactly if the pieces that go have it and those that stay do not, and then once
  any_unnamed : (gone stay : List (List ℕ)) → any_names (unnamed gone stay) k ≡ (not (any_names stay k) && any_names gone k)
  any_unnamed gone stay =
      any_counted (λ q. has_number q k) (λ qs. any_names qs k) refl (λ _ _. refl) (times k) has_counted (unnamed gone stay)
      ∙ ap (ltb 0) (times_unnamed gone stay)
      ∙ bit_tells (not (any_names stay k) && any_names gone k)

  unnamed_once : (gone stay : List (List ℕ)) → times_all k (unnamed gone stay) ≡ bit (any_names (unnamed gone stay) k)
  unnamed_once gone stay = times_unnamed gone stay ∙ ap bit (sym (any_unnamed gone stay))

  -- below the next number are those below this one, and this one
  below_next : (qs : List (List ℕ)) → below qs (suc k) ≡ below qs k + times_all k qs
  below_next =
      sum_both (count_by (λ n. ltb 0 n && ltb n (suc k))) (count_by (λ n. ltb 0 n && ltb n k)) (times k)
      (sum_both (λ n. bit (ltb 0 n && ltb n (suc k))) (λ n. bit (ltb 0 n && ltb n k)) (λ n. bit (eqb n k)) (λ n. grind (arith, nat_tests)))

below_one : (qs : List (List ℕ)) → below qs 1 ≡ 0
below_one = sum_none (count_by (λ n. ltb 0 n && ltb n 1)) (sum_none (λ n. bit (ltb 0 n && ltb n 1)) (λ n. grind (arith, nat_tests)))

-- the vertices from the number n on are kept exactly if their numbers do not stand in pieces
abbrev Marked : List (List ℕ) → (Vertex → Bool) → ℕ → List Vertex → Type 0
Marked lost kept n vs = (j : ℕ) (v : Vertex) → slice_get vs j ≡ Some v → any_names lost (n + j) ≡ not (kept v)

module _ (lost : List (List ℕ)) (kept : Vertex → Bool) where
  marked_here : (n : ℕ) (v : Vertex) (vs : List Vertex) → Marked lost kept n (v ∷ vs) → any_names lost n ≡ not (kept v)
  marked_here n v vs m = let e : n ≡ n + 0 = omega arith in ap (any_names lost) e ∙ m 0 v refl

  marked_behind : (n : ℕ) (v : Vertex) (vs : List Vertex) → Marked lost kept n (v ∷ vs) → Marked lost kept (suc n) vs
  marked_behind n v vs m j w at = let e : suc n + j ≡ n + suc j = omega arith in ap (any_names lost) e ∙ m (suc j) w at

  unstruck_kept : (n : ℕ) (vs : List Vertex) → Marked lost kept n vs → unstruck lost n vs ≡ filter kept vs
  unstruck_kept n [] m = refl
  unstruck_kept n (v ∷ vs) m =
      ap (λ us. cond (any_names lost n) us (v ∷ us)) (unstruck_kept (suc n) vs (marked_behind n v vs m))
      ∙ ap (λ b. cond b (filter kept vs) (v ∷ filter kept vs)) (marked_here n v vs m)
      ∙ cond_not (kept v) (filter kept vs) (v ∷ filter kept vs)

-- Pieces in which no number stands twice.
module _ (lost : List (List ℕ)) (alone : (k : ℕ) → 1 ≤ k → times_all k lost ≡ bit (any_names lost k)) where
  less_below : (k : ℕ) → below lost (suc k) ≤ k
  less_below zero = omega (arith, below_one lost)
  less_below (suc k) =
      let rest = less_below k in
      let this : 1 ≤ suc k = omega arith in
      grind (arith, below_next (suc k) this lost, alone (suc k) this)

  module _ (kept : Vertex → Bool) where
    -- of so many vertices each is kept, or its number stands there
    below_kept : (n : ℕ) (vs : List Vertex) → 1 ≤ n → Marked lost kept n vs → (j : ℕ) → j ≤ length vs → below lost (n + j) + length (filter kept (take j vs)) ≡ below lost n + j
    below_kept n vs pos m zero le = let e : n + 0 ≡ n = omega arith in omega (arith, ap (below lost) e)
    below_kept n [] pos m (suc j) le = let z : ⊥ = omega arith in absurd z
    below_kept n (v ∷ vs) pos m (suc j) le =
        let rest = below_kept (suc n) vs (omega arith) (marked_behind lost kept n v vs m) j (omega arith) in
        let here = marked_here lost kept n v vs m in
        let e : n + suc j ≡ suc n + j = omega arith in
        grind (arith, below_next n pos lost, alone n pos, ap (below lost) e)

    lowered_kept : (vs : List Vertex) → Marked lost kept 1 vs → (k : ℕ) → 1 ≤ k → k ≤ length vs → lowered lost k ≡ renumbered kept vs k
    lowered_kept vs m k low high =
        let rest = below_kept 1 vs (omega arith) m (k - 1) (omega arith) in
        let e : 1 + (k - 1) ≡ k = omega arith in
        omega (arith, ap (below lost) e, below_one lost)

-- a number that is not 0 is not lowered to 0
pub below_less : (gone stay : List (List ℕ)) (k : ℕ) → 1 ≤ k → below (unnamed gone stay) k < k
below_less gone stay k pos =
    let less = less_below (unnamed gone stay) (λ i p. unnamed_once i p gone stay) (k - 1) in
    let e : suc (k - 1) ≡ k = omega arith in
    omega (arith, ap (below (unnamed gone stay)) e)

-- pieces by number have a place's number exactly if they name the place
any_named : (vs : List Vertex) (p : Place) (qs : List Piece) → ((q : Piece) → Contains qs q → (r : Place) → Contains q r → Contains (places_of vs) r) → any_names (map (map (number vs)) qs) (number vs p) ≡ named_by qs p
any_named vs p [] listed = refl
any_named vs p (q ∷ qs) listed =
    ap₂ (λ a b. a || b) (number_named vs q (listed q (has_here q qs q refl)) p) (any_named vs p qs (λ r h. listed r (has_there q qs r h)))

named_append : (p : Place) (qs rs : List Piece) → named_by (qs ++ rs) p ≡ (named_by qs p || named_by rs p)
named_append p = any_append (λ q. names q p) (λ qs. named_by qs p) refl (λ _ _. refl)

map_same : {X Y : Type 0} (f g : X → Y) (xs : List X) → ((x : X) → Contains xs x → f x ≡ g x) → map f xs ≡ map g xs
map_same f g [] same = refl
map_same f g (x ∷ xs) same = ap₂ (λ y ys. y ∷ ys) (same x (has_here x xs x refl)) (map_same f g xs (λ y h. same y (has_there x xs y h)))

-- A withdrawal: the pieces that stay are those before the cell's own and those behind.
module _ (o : Opening) (s : State) (ok : Kept o s) (c : Point) (t : Split s.held c) where
  abbrev vs : List Vertex
  vs = s.vertices

  abbrev before : List Piece
  before = pieces_of t.before

  abbrev gone : List Piece
  gone = t.cell.pieces

  abbrev behind : List Piece
  behind = pieces_of t.behind

  abbrev stay : List Piece
  stay = pieces_of (without s.held c)

  abbrev numbers : List Piece → List (List ℕ)
  numbers = by_number s c t

  abbrev lost : List (List ℕ)
  lost = lost_of s c t

  abbrev wanted : Vertex → Bool
  wanted v = named_by stay v.place

  all_parts : pieces_of s.held ≡ before ++ (gone ++ behind)
  all_parts = ap pieces_of t.whole ∙ joined_append (λ h. h.pieces) t.before (t.cell ∷ t.behind)

  stay_parts : stay ≡ before ++ behind
  stay_parts = ap pieces_of t.rest ∙ joined_append (λ h. h.pieces) t.before t.behind

  stay_numbers : numbers stay ≡ numbers before ++ numbers behind
  stay_numbers = ap numbers stay_parts ∙ map-append (map (number vs)) before behind

  gone_listed : (q : Piece) → Contains gone q → Contains (pieces_of s.held) q
  gone_listed q h = subst (λ qs. Contains qs q) (sym all_parts) (Contains-append_right before (gone ++ behind) q (Contains-append_left gone behind q h))

  stay_listed : (q : Piece) → Contains stay q → Contains (pieces_of s.held) q
  stay_listed q h =
      let j = joined_has (λ g. g.pieces) (without s.held c) q h in
      has_joined (λ g. g.pieces) s.held j.0 q (kept_has (λ g. not (same_point g.position c)) s.held j.0 j.1).0 j.2

  -- a listed place is named by the pieces that go or by those that stay
  either_names : (p : Place) → Contains (places_of vs) p → (named_by gone p || named_by stay p) ≡ true
  either_names p h =
      let in_some = (named_by_decides (pieces_of s.held) p).1 ((ok.named p).0 h) in
      let in_all = ap (λ qs. named_by qs p) all_parts ∙ named_append p before (gone ++ behind) in
      let in_rest = named_append p gone behind in
      let in_stay = ap (λ qs. named_by qs p) stay_parts ∙ named_append p before behind in
      grind arith

  -- so its number is lost exactly if those that stay do not name it
  lost_unnamed : (p : Place) → Contains (places_of vs) p → any_names lost (number vs p) ≡ not (named_by stay p)
  lost_unnamed p h =
      let in_gone = any_named vs p gone (λ q m. named_listed o s ok q (gone_listed q m)) in
      let in_stay = ap (λ qs. any_names qs (number vs p)) (sym stay_numbers) ∙ any_named vs p stay (λ q m. named_listed o s ok q (stay_listed q m)) in
      any_unnamed (number vs p) (number_low vs p) (numbers gone) (numbers before ++ numbers behind)
      ∙ ap₂ (λ a b. not a && b) in_stay in_gone
      ∙ other_only (named_by gone p) (named_by stay p) (either_names p h)

  all_marked : Marked lost wanted 1 vs
  all_marked j v at =
      let e : 1 + j ≡ suc j = omega arith in
      ap (any_names lost) (e ∙ sym (number_counted vs ok.once j v at)) ∙ lost_unnamed v.place (has_map (λ u. u.place) vs v (nth_has vs j v at))

  -- the numbers of the pieces that stay are those of listed vertices, so they follow
  follows : (ns : List ℕ) (n : ℕ) → Contains (numbers stay) ns → Contains ns n → lowered lost n ≡ renumbered wanted vs n
  follows ns n h k =
      let q = map_has (map (number vs)) stay ns h in
      let listed = subst (Contains (piece_list s)) q.2 (has_map (map (number vs)) (pieces_of s.held) q.0 (stay_listed q.0 q.1)) in
      let within = (numbered o s ok).listed ns n listed k in
      lowered_kept lost (λ i p. unnamed_once i p (numbers gone) (numbers before ++ numbers behind)) wanted vs all_marked n within.0 within.1

  stay_follow : map (map (lowered lost)) (numbers before) ++ map (map (lowered lost)) (numbers behind) ≡ map (map (renumbered wanted vs)) (numbers stay)
  stay_follow =
      sym (map-append (map (lowered lost)) (numbers before) (numbers behind))
      ∙ ap (map (map (lowered lost))) (sym stay_numbers)
      ∙ map_same (map (lowered lost)) (map (renumbered wanted vs)) (numbers stay) (λ ns h. map_same (lowered lost) (renumbered wanted vs) ns (λ n k. follows ns n h k))

-- what a withdrawal leaves of the lists
pub strikes : (o : Opening) (s : State) → Kept o s → (c : Point) → Contains (positions s.held) c → (t : Split s.held c) → Strikes s c t
strikes o s ok c held t = record {
  vertices = unstruck_kept (lost_of s c t) (wanted o s ok c t) 1 s.vertices (all_marked o s ok c t);
  pieces = stay_follow o s ok c t ∙ sym (all_follow o s ok c held);
}
