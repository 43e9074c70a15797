-- The triangles of a voxel as the code holds them, from the heights at its corners.
use Rattle.std.specs.Prelude.{ℕ, ◌≤◌, if◌then◌else◌, List, map, take, ℤ, Some, None, Option}
use Rattle.clipping.specs.Faces.{local_vertices, voxel_segments}
use Rattle.clipping.specs.Clip.{Triangle, triangles, vertices_on}
use Rattle.clipping.specs.Laws.{most_triangles, Filled}
use Rattle.shell.specs.Corners.{meets_level}
use Rattle.shell.specs.declared.LocalTriangle.{LocalTriangle}
use Rattle.shell.specs.declared.Shell.{Shell}

-- the triangles of a voxel, and its local vertices in order
abbrev pub Local : Type 0
Local = List Triangle × List ℕ

abbrev pub shell_of : (ℕ → ℤ) → Local
shell_of g = (triangles (voxel_segments g), vertices_on (voxel_segments g))

-- a voxel has its shell where the level meets no corner of it
abbrev pub shell_rule : (ℕ → ℤ) → Option Local
shell_rule g = if meets_level g then None else Some (shell_of g)

-- what the code holds
abbrev pub named : LocalTriangle → Triangle
named t = (t.apex, t.low, t.high)

abbrev pub told : Shell → Local
told s = (map named (take s.triangle_count s.triangles), take s.vertex_count s.vertices)

-- Its triangles close up against the segments of the voxel's faces: two vertices lie together on an odd number of triangles exactly when a segment joins them.
abbrev pub Closed : (ℕ → ℤ) → Shell → Type 0
Closed g s = Filled (voxel_segments g) (told s).0

-- its counts fit its arrays
pub record Fits (s : Shell) : Type 0 where
  pub triangles : s.triangle_count ≤ most_triangles
  pub vertices : s.vertex_count ≤ local_vertices
