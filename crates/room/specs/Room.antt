-- How many slots suffice for the voxels of a block, and for its pixels.
use Rattle.std.specs.Prelude.{◌≡◌, ℕ, ◌-◌, ◌<◌, List, Some}
use Rattle.block.specs.Block.{Block}
use Rattle.block.specs.Lattice.{count}
use Rattle.block.specs.Refusals.{Told}
use Rattle.block.specs.declared.lattice.Point.{Point}
use Rattle.block.specs.declared.lattice.Sizes.{Sizes}
use Rattle.clipping.specs.Faces.{local_vertices}
use Rattle.clipping.specs.Laws.{most_triangles}
use Rattle.kind.specs.Meaning.{Meaning}
use Rattle.pixel_theory.specs.Kind.{pixel}
use Rattle.surface.specs.Ledger.{Opening, Call, take_declined, after}
use Rattle.surface.specs.Room.{RoomFor}
use Rattle.voxel_theory.specs.Voxel.{voxel}

-- a kind has room: with slots for each point of a box, and for so many vertices and pieces of each, no take is declined for want of slots, by 12, 13 or 14
abbrev pub HasRoom : Meaning → (Sizes → Sizes) → ℕ → ℕ → Type 0
HasRoom m box vertices pieces = (o : Opening) → o.meaning ≡ m → RoomFor o.rooms (count (box o.sizes)) vertices pieces →
    (cs : List Call) (b : Block) (c : Point) (t : Told) → take_declined o (after o cs) b c ≡ Some t → t.number < 12

-- the voxels of a block lie in a box that is one shorter along each axis
abbrev pub voxel_box : Sizes → Sizes
voxel_box n = record { x = n.x - 1; y = n.y - 1; z = n.z - 1 }

abbrev pub VoxelsHaveRoom : Type 0
VoxelsHaveRoom = HasRoom voxel voxel_box local_vertices most_triangles

-- its pixels lie in a box that is one shorter along x and y
abbrev pub pixel_box : Sizes → Sizes
pixel_box n = record { x = n.x - 1; y = n.y - 1; z = n.z }

-- the most vertices and segments of a pixel
abbrev pub most_points : ℕ
most_points = 5

abbrev pub most_segments : ℕ
most_segments = 4

abbrev pub PixelsHaveRoom : Type 0
PixelsHaveRoom = HasRoom pixel pixel_box most_points most_segments
