-- The contours of one pixel more, and a refusal that stays.
use Rattle.std.proofs.Common.{◌≡◌, ℕ, zero, suc, ◌+◌, ◌-◌, ◌≤◌, length, Some, None, Option, ap, ◌∙◌, add-zero, add-suc, add-one, arith, length-append}
use lib.ListN.{length-map}
use Rattle.block.specs.Block.{Block}
use Rattle.block.specs.Refusals.{Told, or_else}
use Rattle.block.specs.declared.lattice.Point.{Point}
use Rattle.cell.specs.declared.level.Level.{Level}
use Rattle.cell.specs.Face.{face_segments}
use Rattle.kind.specs.Meaning.{cell_declined}
use Rattle.pixel_theory.specs.Kind.{pixel, segment_places, place_of}
use Rattle.pixel_theory.specs.Pixel.{at_pixel}
use Rattle.pixel.specs.Pixels.{pixel_numbered, contours, contours_declined}

-- a pixel has as many pieces as its face has segments
pub piece_count : (b : Block) (l : Level) (at : Point) → length (pixel.pieces b l at) ≡ length (at_pixel face_segments b l at)
piece_count b l at = length-map (at_pixel face_segments b l at) (segment_places (place_of at))

module _ (b : Block) (l : Level) where
  pub length_more : (i : ℕ) → length (contours b l (i + 1)) ≡ length (contours b l i) + length (pixel.pieces b l (pixel_numbered b.sizes i))
  length_more i = ap (λ k. length (contours b l k)) (add-one i) ∙ length-append (contours b l i) _

  pub declined_more : (i : ℕ) (d : Option Told) → contours_declined b l i ≡ None → cell_declined pixel b l (pixel_numbered b.sizes i) ≡ d → contours_declined b l (i + 1) ≡ d
  declined_more i d before here = ap (contours_declined b l) (add-one i) ∙ (λ j. or_else (before j) (here j))

  stays_by : (k d : ℕ) (t : Told) → contours_declined b l k ≡ Some t → contours_declined b l (k + d) ≡ Some t
  stays_by k zero t h = ap (contours_declined b l) (add-zero k) ∙ h
  stays_by k (suc d) t h = ap (contours_declined b l) (add-suc k d) ∙ ap (λ o. or_else o (cell_declined pixel b l (pixel_numbered b.sizes (k + d)))) (stays_by k d t h)

  pub stays : (k n : ℕ) (t : Told) → k ≤ n → contours_declined b l k ≡ Some t → contours_declined b l n ≡ Some t
  stays k n t h e = let same : n ≡ k + (n - k) = omega arith in ap (contours_declined b l) same ∙ stays_by k (n - k) t e
