-- How far the clipping of a set has come.
use Rattle.std.specs.Prelude.{◌≡◌, ℕ, ◌+◌, ◌≤◌, List, ◌++◌, map, length, take}
use Rattle.clipping.specs.Faces.{Segment}
use Rattle.clipping.specs.Clip.{triangles}
use Rattle.clipping.specs.Laws.{Tame}
use Rattle.clipping.specs.Masks.{Means}
use Rattle.shell.specs.Shell.{named}
use Rattle.shell.specs.declared.LocalTriangle.{LocalTriangle}

-- what is left of the set, and the n triangles that are written
pub record Progress (ss : List Segment) (xs : List ℕ) (out : List LocalTriangle) (n : ℕ) : Type 0 where
  pub rest : List Segment
  pub means : Means xs rest
  pub tame : Tame rest
  pub done : map named (take n out) ++ triangles rest ≡ triangles ss
  pub count : n + length (triangles rest) ≡ length (triangles ss)
  pub fewer : length rest ≤ length ss
