-- Points of the lattice, the sizes that a block may have, and the order in which samples are stored.
use Rattle.std.specs.Prelude.{ℕ, ◌+◌, ◌*◌, min, Bool, ◌&&◌, nat_le, nat_lt}
use Rattle.block.specs.declared.lattice.Point.{Point}
use Rattle.block.specs.declared.lattice.Sizes.{Sizes}

abbrev pub inside : Sizes → Point → Bool
inside n p = nat_lt p.x n.x && nat_lt p.y n.y && nat_lt p.z n.z

-- the point that lies as far from one point as another from the origin
abbrev pub plus : Point → Point → Point
plus o p = record { x = o.x + p.x; y = o.y + p.y; z = o.z + p.z }

-- the same where a coordinate stops at the largest that there is
abbrev pub plus_capped : Point → Point → Point
plus_capped o p = record { x = min (o.x + p.x) 4294967295; y = min (o.y + p.y) 4294967295; z = min (o.z + p.z) 4294967295 }

-- the most points along an axis
abbrev pub longest : ℕ
longest = 1024

abbrev pub allowed : ℕ → Bool
allowed n = nat_le 1 n && nat_le n longest

abbrev pub all_allowed : Sizes → Bool
all_allowed n = allowed n.x && allowed n.y && allowed n.z

-- how many points there are
abbrev pub count : Sizes → ℕ
count n = n.x * (n.y * n.z)

-- the place of a point in storage order: x fastest, then y, then z
abbrev pub index : Sizes → Point → ℕ
index n p = p.x + n.x * (p.y + n.y * p.z)
