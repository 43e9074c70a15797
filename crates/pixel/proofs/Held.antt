-- What a contour holds is what its pixel means.
use Rattle.std.proofs.Common.{◌≡◌, List, [], ◌∷◌, map, refl}
use Rattle.block.specs.Block.{Block}
use Rattle.block.specs.declared.lattice.Point.{Point}
use Rattle.cell.specs.Corners.{at_corners}
use Rattle.cell.specs.declared.face.Cut.{Cut}
use Rattle.cell.specs.declared.face.Cut.TheVariants.{Uncut, Single, Rising, Falling, Star}
use Rattle.cell.specs.declared.face.FacePoint.{FacePoint}
use Rattle.cell.specs.declared.level.Level.{Level}
use Rattle.cell.specs.declared.vertex.Axis.TheVariants.{X, Y}
use Rattle.kind.specs.Shapes.{bordered}
use Rattle.kind.specs.declared.segment.Segment.{Segment}
use Rattle.pixel_theory.specs.Numbers.{numbers_in}
use Rattle.pixel_theory.specs.Kind.{pixel}
use Rattle.pixel_theory.specs.Pixel.{at_pixel, vertex_of, next_x, next_y}
use Rattle.pixel.specs.Contour.{Holds, bordering, contour_borders, parts_in}
use Rattle.pixel.specs.declared.contour.Contour.{Contour}

pub numbers_held : (k : Cut) → map (λ (s : Segment). s.from ∷ s.to ∷ []) (parts_in k) ≡ numbers_in k
numbers_held Uncut = refl
numbers_held (Single p q) = refl
numbers_held Rising = refl
numbers_held Falling = refl
numbers_held Star = refl

module _ (b : Block) (l : Level) (at : Point) (k : Contour) (h : Holds b l at k) where
  pub vertices_held : (xs : List FacePoint) → map (at_corners (vertex_of k.square.at) k.face) xs ≡ map (at_pixel (vertex_of at) b l at) xs
  vertices_held xs =
      let g = h.heights in
      λ i. map (vertex_of (h.at_is i) (g.g00 i) (g.g10 i) (g.g01 i) (g.g11 i)) xs

  pub borders_held : contour_borders k ≡ bordered pixel b l at
  borders_held =
      let g = h.heights in
      λ i. bordering (record { axis = Y; point = h.at_is i }) (g.g00 i) (g.g01 i)
      ∷ bordering (record { axis = Y; point = next_x (h.at_is i) }) (g.g10 i) (g.g11 i)
      ∷ bordering (record { axis = X; point = h.at_is i }) (g.g00 i) (g.g10 i)
      ∷ bordering (record { axis = X; point = next_y (h.at_is i) }) (g.g01 i) (g.g11 i)
      ∷ []
