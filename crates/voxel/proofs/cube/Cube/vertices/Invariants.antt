use Rattle.std.proofs.Common.{◌≡◌, map, length, take}
use Rattle.voxel.specs.Local.{local_vertex}
use Rattle.shell.specs.Corners.{by_corner}
use Rattle.voxel.proofs.cube.Cube.vertices.Given as goal

abbrev pub invariant-loop-i : goal.invariant-loop-i
invariant-loop-i l = (length l.vertices ≡ 18) × (take l.i l.vertices ≡ map (local_vertex l.self.at (by_corner l.self.corners.heights)) (take l.i l.local))
