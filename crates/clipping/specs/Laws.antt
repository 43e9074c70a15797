-- What holds of a set of segments before its clipping, and of the triangles afterwards.
use Rattle.std.specs.Prelude.{◌≡◌, ℕ, ◌+◌, ◌%◌, ◌<◌, ◌≤◌, Bool, true, if◌then◌else◌, not, ◌&&◌, ◌||◌, ◌≢◌, ◌⊎◌, ◌↔◌, List, [], length, ℤ, count_by, ◌==◌}
use Rattle.std.specs.List.{All}
use Rattle.clipping.specs.Faces.{Segment, corner, x_edge, y_edge, z_edge, across_x, across_y, across_z, local_vertices, Off, crossed, centred, voxel_segments}
use Rattle.clipping.specs.Clip.{Triangle, degree, joins, linked, strike, lowest, neighbour, apex, left, triangles}

-- how often the segment between two vertices stands in the list
unfoldable pub times : List Segment → ℕ → ℕ → ℕ
times ss u v = count_by (joins u v) ss

-- A set of segments that can be clipped: each vertex lies on 0, 2 or 4 of them, no segment is there twice or joins a vertex to itself, and all are between local vertices.
pub record Tame (ss : List Segment) : Type 0 where
  pub degrees : (v : ℕ) → (degree ss v ≡ 0) ⊎ (degree ss v ≡ 2) ⊎ (degree ss v ≡ 4)
  pub once : (u v : ℕ) → times ss u v ≤ 1
  pub no_loop : (v : ℕ) → times ss v v ≡ 0
  pub local : (v : ℕ) → local_vertices ≤ v → degree ss v ≡ 0

-- whether a triangle names a vertex
unfoldable pub names_vertex : ℕ → Triangle → Bool
names_vertex x t = t.0 == x || t.1 == x || t.2 == x

-- on how many triangles two vertices lie together
unfoldable pub shared : List Triangle → ℕ → ℕ → ℕ
shared ts u v = count_by (λ t. names_vertex u t && names_vertex v t) ts

-- how many triangles name a vertex
unfoldable pub uses : List Triangle → ℕ → ℕ
uses ts v = count_by (names_vertex v) ts

-- A triangle's three vertices differ, and its neighbours stand in order.
abbrev pub Proper : Triangle → Type 0
Proper t = (t.0 ≢ t.1) × (t.0 ≢ t.2) × (t.1 < t.2) × (t.0 < local_vertices) × (t.2 < local_vertices)

-- What the triangles are to the segments: two vertices lie together on an odd number of triangles exactly when they are joined, the triangles name the vertices of the segments, and there are two fewer triangles than segments or still less.
pub record Filled (ss : List Segment) (ts : List Triangle) : Type 0 where
  pub parity : (u v : ℕ) → u ≢ v → (shared ts u v % 2 ≡ 1) ↔ (linked ss u v ≡ true)
  pub proper : All Proper ts
  pub named : (v : ℕ) → (0 < uses ts v) ↔ (0 < degree ss v)
  pub few : 0 < length ss → length ts + 2 ≤ length ss

-- Every tame set is clipped to nothing, and its triangles fill it.
abbrev pub Clips : Type 0
Clips = (ss : List Segment) → Tame ss → (left (length ss) ss ≡ []) × Filled ss (triangles ss)

-- On how many of a voxel's segments its local vertices lie: a crossing on two, a centre on four.
pub record Degrees (g : ℕ → ℤ) : Type 0 where
  pub on_x : (dy dz : ℕ) → dy < 2 → dz < 2 → degree (voxel_segments g) (x_edge dy dz) ≡ (if crossed g (corner 0 dy dz) (corner 1 dy dz) then 2 else 0)
  pub on_y : (dx dz : ℕ) → dx < 2 → dz < 2 → degree (voxel_segments g) (y_edge dx dz) ≡ (if crossed g (corner dx 0 dz) (corner dx 1 dz) then 2 else 0)
  pub on_z : (dx dy : ℕ) → dx < 2 → dy < 2 → degree (voxel_segments g) (z_edge dx dy) ≡ (if crossed g (corner dx dy 0) (corner dx dy 1) then 2 else 0)
  pub centre_x : (s : ℕ) → s < 2 → degree (voxel_segments g) (12 + s) ≡ (if centred g (across_x s) then 4 else 0)
  pub centre_y : (s : ℕ) → s < 2 → degree (voxel_segments g) (14 + s) ≡ (if centred g (across_y s) then 4 else 0)
  pub centre_z : (s : ℕ) → s < 2 → degree (voxel_segments g) (16 + s) ≡ (if centred g (across_z s) then 4 else 0)

-- the most segments and the most triangles that a voxel has
abbrev pub most_segments : ℕ
most_segments = 24

abbrev pub most_triangles : ℕ
most_triangles = 22

-- Off the level a voxel's segments are a tame set with these degrees.
abbrev pub Voxels : Type 0
Voxels = (g : ℕ → ℤ) → Off g → Tame (voxel_segments g) × Degrees g × (length (voxel_segments g) ≤ most_segments)

-- The neighbour that is lowest once va is struck is the lowest neighbour of v in the whole set apart from a, and a < b.
abbrev pub Second : Type 0
Second = (ss : List Segment) → Tame ss → 0 < length ss →
    let v : ℕ = apex ss in
    let a : ℕ = neighbour ss v in
    let b : ℕ = lowest (λ u. linked ss v u && not (u == a)) local_vertices in
    (neighbour (strike ss v a) v ≡ b) × (a < b)

-- Off the level a voxel's triangles fill its segments, and are few.
abbrev pub Shells : Type 0
Shells = (g : ℕ → ℤ) → Off g → Filled (voxel_segments g) (triangles (voxel_segments g)) × (length (triangles (voxel_segments g)) ≤ most_triangles)
