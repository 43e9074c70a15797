-- What a survey of a block's contours tells.
use Rattle.std.specs.Prelude.{◌≡◌, length}
use Rattle.block.specs.Block.{Block}
use Rattle.cell.specs.declared.level.Level.{Level}
use Rattle.pixel.specs.Pixels.{pixel_count, contours}
use Rattle.pixel.specs.declared.survey.Survey.{Survey}

pub record Surveyed (b : Block) (l : Level) (s : Survey) : Type 0 where
  pub planes : s.planes ≡ b.sizes.z
  pub pixels : s.pixels ≡ pixel_count b.sizes
  pub segments : s.segments ≡ length (contours b l (pixel_count b.sizes))
