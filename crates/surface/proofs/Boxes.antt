-- Cells that lie in a box are at most as many as the box has points.
use Rattle.std.proofs.Common.{◌≡◌, ℕ, zero, suc, ◌*◌, ◌<◌, ◌≤◌, true, ◌&&◌, ltb, List, [], ◌∷◌, map, length, refl, ap, ⊎_elim, le_trans, arith}
use Rattle.std.specs.List.{Contains, flat_map}
use Rattle.std.proofs.lemmas.List.{length-map}
use Rattle.std.proofs.lemmas.Bool.{and_parts, cases_eq, ltb-true}
use Rattle.block.specs.Lattice.{inside, count}
use Rattle.block.specs.declared.lattice.Point.{Point}
use Rattle.block.specs.declared.lattice.Sizes.{Sizes}
use Rattle.kind.proofs.Members.{has_here, has_there, has_map}
use Rattle.surface.specs.Room.{BoxBounds}
use Rattle.surface.proofs.Joined.{has_joined, joined_at_most}
use Rattle.surface.proofs.Within.{length_within}

-- the numbers below a number
abbrev below : ℕ → List ℕ
below zero = []
below (suc n) = n ∷ below n

has_below : (n k : ℕ) → k < n → Contains (below n) k
has_below zero k less = let z : ⊥ = omega arith in absurd z
has_below (suc n) k less = ⊎_elim (λ e. has_here n (below n) k e) (λ ne. has_there n (below n) k (has_below n k (omega arith))) (cases_eq n k)

length_below : (n : ℕ) → length (below n) ≡ n
length_below zero = refl
length_below (suc n) = ap suc (length_below n)

abbrev point : ℕ → ℕ → ℕ → Point
point x y z = record { x = x; y = y; z = z }

module _ (box : Sizes) where
  -- the points of a box: a column of them, a layer of columns, and all layers
  abbrev column : ℕ → ℕ → List Point
  column x y = map (point x y) (below box.z)

  abbrev layer : ℕ → List Point
  layer x = flat_map (column x) (below box.y)

  abbrev points : List Point
  points = flat_map layer (below box.x)

  has_points : (p : Point) → inside box p ≡ true → Contains points p
  has_points p t =
      let u = and_parts (ltb p.x box.x && ltb p.y box.y) (ltb p.z box.z) t in
      let v = and_parts (ltb p.x box.x) (ltb p.y box.y) u.0 in
      has_joined layer (below box.x) p.x p (has_below box.x p.x (ltb-true _ _ v.0))
      (has_joined (column p.x) (below box.y) p.y p (has_below box.y p.y (ltb-true _ _ v.1))
      (has_map (point p.x p.y) (below box.z) p.z (has_below box.z p.z (ltb-true _ _ u.1))))

  column_size : (x y : ℕ) → length (column x y) ≤ box.z
  column_size x y = omega (arith, length-map (below box.z) (point x y), length_below box.z)

  layer_size : (x : ℕ) → length (layer x) ≤ box.y * box.z
  layer_size x = rw (length_below box.y) at (joined_at_most (column x) box.z (below box.y) (λ y h. column_size x y))

  points_size : length points ≤ count box
  points_size = rw (length_below box.x) at (joined_at_most layer (box.y * box.z) (below box.x) (λ x h. layer_size x))

pub box_bounds : BoxBounds
box_bounds m n box lies ps d all = le_trans (length_within ps (points box) d (λ p h. has_points box p (lies p (all p h)))) (points_size box)
