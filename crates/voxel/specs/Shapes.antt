-- What a shape hands out.
use Rattle.std.specs.Prelude.{List, take}
use Rattle.cell.specs.declared.vertex.Side.{Side}
use Rattle.cell.specs.declared.vertex.Vertex.{Vertex}
use Rattle.kind.specs.Meaning.{Joint}
use Rattle.kind.specs.declared.triangle.Triangle.{Triangle}
use Rattle.shell.specs.Corners.{by_corner}
use Rattle.voxel.specs.Local.{borders_of}
use Rattle.voxel.specs.declared.held.VoxelShape.{VoxelShape}

abbrev pub shape_points : VoxelShape → List Vertex
shape_points s = take s.vertex_count s.vertices

abbrev pub shape_parts : VoxelShape → List Triangle
shape_parts s = take s.triangle_count s.triangles

abbrev pub shape_borders : VoxelShape → List (Side × List Joint)
shape_borders s = borders_of s.cube.at (by_corner s.cube.corners.heights)
