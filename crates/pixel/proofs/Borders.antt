-- The cuts of a pixel's sides, by place.
use Rattle.std.proofs.Common.{◌≡◌, ℕ, zero, suc, Bool, true, false, cond, List, [], ◌∷◌, Some, None, refl, ap, ◌∙◌, arith}
use Rattle.std.specs.List.{slice_get, zip}
use Rattle.std.specs.Option.{option_map}
use Rattle.std.proofs.lemmas.Option.{slice_get-map}
use Rattle.cell.specs.Corners.{edges_of}
use Rattle.cell.specs.Crossing.{opposite}
use Rattle.cell.specs.Level.{sign}
use Rattle.cell.specs.declared.crossing.Edge.{Edge}
use Rattle.cell.specs.declared.vertex.Side.{Side}
use Rattle.kind.specs.Meaning.{Joint}
use Rattle.kind.specs.Shapes.{cut_at}
use Rattle.pixel_theory.specs.Kind.{edge_place, pixel_sides}
use Rattle.pixel.specs.Contour.{contour_borders, border}
use Rattle.pixel.specs.declared.contour.Contour.{Contour}

-- an edge has no second cut
past_one : (t : Bool) (j : Joint) (n : ℕ) → (n ≡ 0 → ⊥) → slice_get (cond t (j ∷ []) []) n ≡ None
past_one t j zero h = absurd (h refl)
past_one true j (suc n) h = refl
past_one false j (suc n) h = refl

-- what two lists have at a place, their pairs have there
pair_at : {A B : Type 0} (xs : List A) (ys : List B) (k : ℕ) (x : A) (y : B) → slice_get xs k ≡ Some x → slice_get ys k ≡ Some y → slice_get (zip xs ys) k ≡ Some (x, y)
pair_at [] ys k x y h g = grind arith
pair_at (a ∷ xs) [] k x y h g = grind arith
pair_at (a ∷ xs) (b ∷ ys) zero x y h g = grind arith
pair_at (a ∷ xs) (b ∷ ys) (suc k) x y h g = pair_at xs ys k x y h g

module _ (k : Contour) (side : ℕ) (s : Side) (e : Edge) (hs : slice_get (pixel_sides k.square.at) side ≡ Some s) (he : slice_get (edges_of k.face) side ≡ Some e) (n : ℕ) where
  cut_is : cut_at (contour_borders k) side n ≡ slice_get (border (s, e)).1 n
  cut_is =
      let here : slice_get (contour_borders k) side ≡ Some (border (s, e)) = slice_get-map border (zip (pixel_sides k.square.at) (edges_of k.face)) side ∙ ap (option_map border) (pair_at (pixel_sides k.square.at) (edges_of k.face) side s e hs he) in
      rw here

  pub only_cut : n ≡ 0 → opposite (sign e.low.value) (sign e.high.value) ≡ true → cut_at (contour_borders k) side n ≡ Some (edge_place s ∷ [])
  only_cut z c = cut_is ∙ rw (z, c)

  pub no_cut : opposite (sign e.low.value) (sign e.high.value) ≡ false → cut_at (contour_borders k) side n ≡ None
  no_cut c = cut_is ∙ rw c

  pub no_second : (n ≡ 0 → ⊥) → cut_at (contour_borders k) side n ≡ None
  no_second z = cut_is ∙ past_one _ _ n z
