-- The corners of a cell, read one after another.
use Rattle.std.proofs.Common.{◌≡◌, ℕ, List, length, map, take, drop}
use Rattle.block.specs.Block.{Block}
use Rattle.block.specs.declared.lattice.Point.{Point}
use Rattle.cell.specs.Corner.{corner_height, corners_declined}
use Rattle.cell.specs.declared.level.Height.{Height}
use Rattle.cell.specs.declared.level.Level.{Level}

-- how far it has come: the first i corners do not decide, and their heights are written
pub record ReadTo (b : Block) (l : Level) (ps : List Point) (hs : List Height) (i : ℕ) : Type 0 where
  pub passed : corners_declined b l ps ≡ corners_declined b l (drop i ps)
  pub stand : map (λ (h : Height). h.value) (take i hs) ≡ map (corner_height b l) (take i ps)
  pub room : length hs ≡ length ps
