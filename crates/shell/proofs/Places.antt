-- The vertex that the code finds is the apex of the rule.
use Rattle.std.proofs.Common.{◌≡◌, ℕ, ◌<◌, ◌≤◌, Bool, true, false, cond, ltb, eqb, List, length, get_or, Some, None, Option, refl, sym, ◌∙◌, ap₂, arith}
use lib.Count.{ones}
use Rattle.std.specs.List.{position, position_or_len}
use Rattle.std.specs.Option.{option_or}
use Rattle.std.proofs.lemmas.Bool.{cond-true, ltb-true, ltb-false}
use Rattle.std.proofs.lemmas.List.Sums.{position_or_len_is}
use Rattle.clipping.specs.Clip.{lowest}
use Rattle.clipping.specs.Faces.{local_vertices}
use Rattle.clipping.specs.Masks.{apex_of}
use Rattle.clipping.proofs.Sets.{lowest_is}
use Rattle.shell.specs.Links.{apex}

-- a vertex by its number, or nothing past the last
abbrev local : ℕ → Option ℕ
local v = cond (ltb v local_vertices) (Some v) None

place : (p : ℕ → Bool) (xs : List ℕ) → length xs ≡ local_vertices → position p xs ≡ local (lowest (λ v. p (get_or xs v 0)) local_vertices)
place p xs long =
    let k = lowest (λ v. p (get_or xs v 0)) local_vertices in
    let l = lowest_is (λ v. p (get_or xs v 0)) local_vertices in
    let at : position_or_len p xs ≡ k = position_or_len_is p xs k 0 (let m = l.most in omega arith) l.first (λ h. l.passes (omega arith)) in
    λ i. cond (ltb (at i) (long i)) (Some (at i)) None

either : (a b : ℕ) → option_or (local a) (local b) ≡ local (cond (ltb a local_vertices) a b)
either a b = go (ltb a local_vertices) refl
  where
    go : (t : Bool) → ltb a local_vertices ≡ t → option_or (cond t (Some a) None) (local b) ≡ local (cond t a b)
    go true e = sym (cond-true _ _ _ e)
    go false e = refl

pub apex_local : (xs : List ℕ) → length xs ≡ local_vertices → apex xs ≡ local (apex_of xs)
apex_local xs long = ap₂ option_or (place (λ x. eqb (ones x) 2) xs long) (place (λ x. eqb (ones x) 4) xs long)
    ∙ either (lowest (λ v. eqb (ones (get_or xs v 0)) 2) local_vertices) (lowest (λ v. eqb (ones (get_or xs v 0)) 4) local_vertices)

found : (k v : ℕ) → Some v ≡ local k → (v ≡ k) × (k < local_vertices)
found k v = go (ltb k local_vertices) refl
  where
    go : (t : Bool) → ltb k local_vertices ≡ t → Some v ≡ cond t (Some k) None → (v ≡ k) × (k < local_vertices)
    go true e h = (cc, ltb-true _ _ e)
    go false e h = absurd (let z : ◌≡◌ {A = ℕ} 0 1 = cc in omega arith)

none : (k : ℕ) → None ≡ local k → local_vertices ≤ k
none k = go (ltb k local_vertices) refl
  where
    go : (t : Bool) → ltb k local_vertices ≡ t → None ≡ cond t (Some k) None → local_vertices ≤ k
    go true e h = absurd (let z : ◌≡◌ {A = ℕ} 0 1 = cc in omega arith)
    go false e h = ltb-false _ _ e

pub apex_found : (xs : List ℕ) (v : ℕ) → length xs ≡ local_vertices → Some v ≡ apex xs → (v ≡ apex_of xs) × (v < local_vertices)
apex_found xs v long h = let f = found (apex_of xs) v (h ∙ apex_local xs long) in (f.0, omega arith)

pub apex_none : (xs : List ℕ) → length xs ≡ local_vertices → None ≡ apex xs → local_vertices ≤ apex_of xs
apex_none xs long h = none (apex_of xs) (h ∙ apex_local xs long)
