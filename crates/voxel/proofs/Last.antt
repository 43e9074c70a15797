-- The last local vertex, and what stands past it.
use Rattle.std.proofs.Common.{◌≡◌, ℕ, suc, ◌≤◌, List, length, get_or, ℤ, sym, refl, ap, ◌∙◌, ⊎_elim, arith, lit≤}
use Rattle.std.proofs.lemmas.List.{get_or_past}
use Rattle.std.proofs.lemmas.Bool.{cases_eq}
use Rattle.block.specs.declared.lattice.Point.{Point}
use Rattle.cell.specs.declared.vertex.Axis.TheVariants.{Z}
use Rattle.cell.specs.declared.vertex.Vertex.{Vertex}
use Rattle.voxel.specs.Local.{centre_vertex, all_local, local_vertex}

-- of a list whose last element is the default, what stands at its last place or past it
last_or_past : {X : Type 0} (xs : List X) (d : X) (n v : ℕ) → get_or xs n d ≡ d → length xs ≤ suc n → n ≤ v → d ≡ get_or xs v d
last_or_past xs d n v e short h =
    ⊎_elim
    (λ same. sym (ap (λ k. get_or xs k d) same ∙ e))
    (λ ne. sym (get_or_past xs v d (omega arith)))
    (cases_eq v n)

pub last_local : (c : Point) (g : ℕ → ℤ) (v : ℕ) → 17 ≤ v → centre_vertex c g Z 4 5 6 7 ≡ local_vertex c g v
last_local c g v h = last_or_past {X = Vertex} (all_local c g) (centre_vertex c g Z 4 5 6 7) 17 v refl (lit≤ tt) h
