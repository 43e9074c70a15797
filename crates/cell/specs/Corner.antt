-- What is read at a corner of a cell.
use Rattle.std.specs.Prelude.{◌≡◌, if◌then◌else◌, List, [], ◌∷◌, map, ℤ, pos, Some, None, Ok, Err, Option, Result}
use Rattle.block.specs.Block.{Block}
use Rattle.block.specs.Refusals.{Told, told}
use Rattle.block.specs.declared.fault.Fault.{Fault}
use Rattle.block.specs.declared.lattice.Point.{Point}
use Rattle.block.specs.declared.refusal.Refusal.TheVariants.{Faulty, OnLevel}
use Rattle.cell.specs.Level.{height, on_level}
use Rattle.cell.specs.declared.level.Height.{Height}
use Rattle.cell.specs.declared.level.Level.{Level}

abbrev pub height_above : Level → ℤ → ℤ
height_above l v = height l.p l.q v

-- the refusal of a corner that answers a fault or meets the level
abbrev pub answer_declined : Level → Point → Result ℤ Fault → Option Told
answer_declined l at (Err f) = Some (told (Faulty f))
answer_declined l at (Ok v) = if on_level (height_above l v) then Some (told (OnLevel at)) else None

abbrev pub corner_declined : Block → Level → Point → Option Told
corner_declined b l at = answer_declined l at (b.at at)

-- the height at a corner that has a sample
abbrev pub answer_height : Level → Result ℤ Fault → ℤ
answer_height l (Ok v) = height_above l v
answer_height l (Err f) = pos 0

abbrev pub corner_height : Block → Level → Point → ℤ
corner_height b l at = answer_height l (b.at at)

-- the refusal of a cell by its corners in order: that of the first corner which has one
abbrev pub corners_declined : Block → Level → List Point → Option Told
corners_declined b l [] = None
corners_declined b l (p ∷ ps) = elim (corner_declined b l p) [ Some t ↦ Some t | None ↦ corners_declined b l ps ]

-- heights that stand at points
abbrev pub HeightsAt : Block → Level → List Point → List Height → Type 0
HeightsAt b l ps hs = map (λ h. h.value) hs ≡ map (corner_height b l) ps
