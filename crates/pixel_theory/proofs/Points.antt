-- The places of a pixel's points, told apart, and the heights of a pixel that can be read.
use Rattle.std.proofs.Common.{◌≡◌, ℕ, ◌+◌, true, false, None, ◌&&◌, eqb, sym, refl, ap, ◌∙◌, arith}
use Rattle.std.proofs.lemmas.Bool.{eq-eqb, ne_eqb, or_from}
use Rattle.std.proofs.lemmas.List.Elements.{recursion_from_All}
use Rattle.block.specs.Block.{Block}
use Rattle.block.specs.declared.lattice.Point.{Point}
use Rattle.cell.specs.Corner.{corners_declined}
use Rattle.cell.specs.Face.{meets_level}
use Rattle.cell.specs.Interpolant.{same}
use Rattle.cell.specs.declared.face.FacePoint.{FacePoint}
use Rattle.cell.specs.declared.face.FacePoint.TheVariants.{P0, P1, P2, P3, C}
use Rattle.cell.specs.declared.level.Level.{Level}
use Rattle.kind.specs.Meaning.{same_place, Readable}
use Rattle.kind.proofs.Places.{same_point_self, same_place_decides}
use Rattle.kind.proofs.Reading.{IsOff, all_off}
use Rattle.pixel_theory.specs.Kind.{pixel, place_of}
use Rattle.pixel_theory.specs.Pixel.{at_pixel, pixel_corners, next_x, next_y}

-- a step leads elsewhere
stepped : (n : ℕ) → eqb (n + 1) n ≡ false
stepped n = ne_eqb (n + 1) n (λ e. omega arith)

step_back : (n : ℕ) → eqb n (n + 1) ≡ false
step_back n = ne_eqb n (n + 1) (λ e. omega arith)

same_number : (n : ℕ) → eqb n n ≡ true
same_number n = eq-eqb n n refl

module _ (c : Point) where
  -- the places of two points are the same exactly where the points are
  pub same_points : (x y : FacePoint) → same_place (place_of c x) (place_of c y) ≡ same x y
  same_points P0 P0 = same_point_self c
  same_points P0 P1 = ap (λ t. t && eqb c.y c.y && eqb c.z c.z) (step_back c.x)
  same_points P0 P2 = refl
  same_points P0 P3 = refl
  same_points P0 C = refl
  same_points P1 P0 = ap (λ t. t && eqb c.y c.y && eqb c.z c.z) (stepped c.x)
  same_points P1 P1 = same_point_self (next_x c)
  same_points P1 P2 = refl
  same_points P1 P3 = refl
  same_points P1 C = refl
  same_points P2 P0 = refl
  same_points P2 P1 = refl
  same_points P2 P2 = same_point_self c
  same_points P2 P3 = λ i. same_number c.x i && step_back c.y i && eqb c.z c.z
  same_points P2 C = refl
  same_points P3 P0 = refl
  same_points P3 P1 = refl
  same_points P3 P2 = λ i. same_number c.x i && stepped c.y i && eqb c.z c.z
  same_points P3 P3 = same_point_self (next_y c)
  same_points P3 C = refl
  same_points C P0 = refl
  same_points C P1 = refl
  same_points C P2 = refl
  same_points C P3 = refl
  same_points C C = same_point_self c

  pub apart : (x y : FacePoint) → place_of c x ≡ place_of c y → same x y ≡ true
  apart x y e = sym (same_points x y) ∙ (same_place_decides (place_of c x) (place_of c y)).1 e

-- a pixel whose corners serve, and so one that can be read, meets the level at no corner
pub corners_off : (b : Block) (l : Level) (c : Point) → corners_declined b l (pixel_corners c) ≡ None → at_pixel meets_level b l c ≡ false
corners_off b l c reads =
    let off = recursion_from_All (IsOff b l) (pixel_corners c) (all_off b l (pixel_corners c) reads) in
    or_from _ _ off.0 (or_from _ _ off.1.0 (or_from _ _ off.1.1.0 off.1.1.1.0))

pub reads_off : (b : Block) (l : Level) (c : Point) → Readable pixel b l c → at_pixel meets_level b l c ≡ false
reads_off b l c r = corners_off b l c r.reads
