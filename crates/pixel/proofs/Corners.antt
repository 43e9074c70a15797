-- The face of a pixel whose corners were read.
use Rattle.std.proofs.Common.{◌≡◌, ℕ, List, map, get_or, None, sym, ap, ◌∙◌}
use Rattle.std.proofs.Math.ListN.{get_or-map}
use Rattle.block.specs.Block.{Block}
use Rattle.block.specs.declared.lattice.Point.{Point}
use Rattle.cell.specs.Corner.{corner_height, corners_declined, HeightsAt}
use Rattle.cell.specs.Face.{meets_level}
use Rattle.cell.specs.declared.level.Height.{Height}
use Rattle.cell.specs.declared.level.Level.{Level}
use Rattle.pixel_theory.specs.Pixel.{pixel_corners}
use Rattle.pixel_theory.proofs.Points.{corners_off}
use Rattle.pixel.specs.Contour.{HeightsOf}

module _ (b : Block) (l : Level) (at : Point) (hs : List Height) (h : HeightsAt b l (pixel_corners at) hs) where
  height_is : (k : ℕ) (d : Height) → (get_or hs k d).value ≡ get_or (map (corner_height b l) (pixel_corners at)) k d.value
  height_is k d = sym (get_or-map (λ (g : Height). g.value) hs k d) ∙ ap (λ xs. get_or xs k d.value) h

  pub heights_of : (d00 d10 d01 d11 : Height) → corners_declined b l (pixel_corners at) ≡ None
      → HeightsOf b l at (record { g00 = get_or hs 0 d00; g10 = get_or hs 1 d10; g01 = get_or hs 2 d01; g11 = get_or hs 3 d11 })
  heights_of d00 d10 d01 d11 reads = record {
    g00 = height_is 0 d00;
    g10 = height_is 1 d10;
    g01 = height_is 2 d01;
    g11 = height_is 3 d11;
    off = (λ i. meets_level (height_is 0 d00 i) (height_is 1 d10 i) (height_is 2 d01 i) (height_is 3 d11 i)) ∙ corners_off b l at reads;
  }
