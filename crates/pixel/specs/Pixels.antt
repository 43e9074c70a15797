-- The pixels of a block in order, and the contours of all of them.
use Rattle.std.specs.Prelude.{ℕ, zero, suc, ◌-◌, ◌*◌, ◌/◌, ◌%◌, if◌then◌else◌, List, [], ◌++◌, map, drop, Some, None, Option, nat_lt}
use Rattle.std.specs.List.{range_with_len}
use Rattle.block.specs.Block.{Block}
use Rattle.block.specs.Refusals.{Told, or_else}
use Rattle.block.specs.declared.lattice.Point.{Point}
use Rattle.block.specs.declared.lattice.Sizes.{Sizes}
use Rattle.cell.specs.declared.level.Level.{Level}
use Rattle.kind.specs.Meaning.{Piece, cell_declined}
use Rattle.pixel.specs.declared.pixels.Iter.{Iter}
use Rattle.pixel_theory.specs.Kind.{pixel}

-- how many pixels there are
abbrev pub pixel_count : Sizes → ℕ
pixel_count n = (n.x - 1) * ((n.y - 1) * n.z)

-- the pixel with a number, counted from 0: x fastest, then y, then z
abbrev pub pixel_numbered : Sizes → ℕ → Point
pixel_numbered n i = record { x = i % (n.x - 1); y = i / (n.x - 1) % (n.y - 1); z = i / (n.x - 1) / (n.y - 1) }

abbrev pub pixel_at : Sizes → ℕ → Option Point
pixel_at n i = if nat_lt i (pixel_count n) then Some (pixel_numbered n i) else None

-- all pixels, and those that an iterator has still to give
abbrev pub all_pixels : Sizes → List Point
all_pixels n = map (pixel_numbered n) (range_with_len 0 (pixel_count n))

abbrev pub pixels_left : Iter → List Point
pixels_left s = drop s.next (all_pixels s.pixels.sizes)

-- the refusal of the first k pixels, if any: that of the first which has one
abbrev pub contours_declined : Block → Level → ℕ → Option Told
contours_declined b l zero = None
contours_declined b l (suc k) = or_else (contours_declined b l k) (cell_declined pixel b l (pixel_numbered b.sizes k))

-- the segments of the first k pixels, one pixel after another
abbrev pub contours : Block → Level → ℕ → List Piece
contours b l zero = []
contours b l (suc k) = contours b l k ++ pixel.pieces b l (pixel_numbered b.sizes k)
