-- The list of all pixels, from the one with a number on.
use Rattle.std.proofs.Common.{◌≡◌, ℕ, ◌+◌, ◌<◌, ◌≤◌, [], ◌∷◌, map, length, drop, cond, ltb, List, Some, None, Option, sym, subst, ◌∙◌, zero-add, add-one, drop-cons, arith}
use Rattle.std.specs.Iterator.{YieldsFirst, Yields}
use Rattle.std.specs.List.{range_with_len}
use Rattle.std.proofs.lemmas.Bool.{ltb-true}
use Rattle.std.proofs.lemmas.Bool.Decides.{nat_tests}
use Rattle.std.proofs.lemmas.Iterator.{YieldsList}
use Rattle.std.proofs.lemmas.Iterator.Consumers.{YieldsList-from_first, YieldsList-turn, YieldsList-end}
use Rattle.std.proofs.lemmas.List.{drop_all}
use Rattle.std.proofs.lemmas.List.FromFn.{length-map-range_with_len, get_or-map-range_with_len}
use Rattle.std.proofs.lemmas.Option.{cond_some}
use Rattle.block.specs.declared.lattice.Point.{Point}
use Rattle.block.specs.declared.lattice.Sizes.{Sizes}
use Rattle.pixel.specs.Pixels.{pixel_count, pixel_numbered, pixel_at, all_pixels, pixels_left}
use Rattle.pixel.specs.declared.pixels.Iter.{Iter}

taken : {X : Type 0} (f : ℕ → X) (n i : ℕ) → i < n → drop i (map f (range_with_len 0 n)) ≡ f i ∷ drop (i + 1) (map f (range_with_len 0 n))
taken f n i h =
    drop-cons _ i (f i) (subst (λ m. i < m) (sym (length-map-range_with_len f 0 n)) h)
    ∙ (λ j. get_or-map-range_with_len f 0 n i i (f i) h (zero-add i) j ∷ drop (sym (add-one i) j) (map f (range_with_len 0 n)))

past : {X : Type 0} (x : X) (n i : ℕ) → cond (ltb i n) (Some x) None ≡ None → n ≤ i
past x n i h = grind (arith, nat_tests)

count_all : (n : Sizes) → length (all_pixels n) ≡ pixel_count n
count_all n = length-map-range_with_len (pixel_numbered n) 0 (pixel_count n)

pub first_left : (n : Sizes) (i : ℕ) (at : Point) → pixel_at n i ≡ Some at → drop i (all_pixels n) ≡ at ∷ drop (i + 1) (all_pixels n)
first_left n i at h =
    let (below, is) = cond_some _ _ _ h in
    taken (pixel_numbered n) (pixel_count n) i (ltb-true _ _ below) ∙ (λ j. is j ∷ drop (i + 1) (all_pixels n))

pub none_left : (n : Sizes) (i : ℕ) → pixel_at n i ≡ None → drop i (all_pixels n) ≡ []
none_left n i h = drop_all i (all_pixels n) (subst (λ m. m ≤ i) (sym (count_all n)) (past _ _ _ h))

-- an iterator over all pixels that has given some gives the next, and ends after the last
module _ (n : Sizes) (s : Iter) (start : pixels_left s ≡ all_pixels n) (given : List Point) (t u : Iter) (by : Yields (YieldsFirst pixels_left) s given t) where
  road : YieldsList (YieldsFirst pixels_left) (λ x. x) s (all_pixels n)
  road = YieldsList-from_first (λ x. x) pixels_left (all_pixels n) start

  pub next_given : (r : Option Point) (at : Point) → r ≡ Some at → YieldsFirst pixels_left t r u → (length given < pixel_count n) × (at ≡ pixel_numbered n (length given))
  next_given r at is step =
      let (below, here) = YieldsList-turn road given t by r u at is step in
      let h : length given < pixel_count n = subst (λ m. length given < m) (count_all n) below in
      (h, here ∙ get_or-map-range_with_len (pixel_numbered n) 0 (pixel_count n) (length given) (length given) at h (zero-add (length given)))

  pub all_given : (r : Option Point) → r ≡ None → YieldsFirst pixels_left t r u → length given ≡ pixel_count n
  all_given r is step = (YieldsList-end road given t by r u is step).1 ∙ count_all n
