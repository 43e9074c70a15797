use Rattle.std.proofs.Common.{◌≡◌, [], ◌∷◌, map, length, take}
use Rattle.voxel.specs.Local.{numbered}
use Rattle.shell.specs.Shell.{named}
use Rattle.voxel.proofs.voxel.number_triangles.Given as goal

abbrev pub invariant-loop-i : goal.invariant-loop-i
invariant-loop-i l =
    (length l.all ≡ 22)
    × (map (λ t. t.first ∷ t.second ∷ t.third ∷ []) (take l.i l.all) ≡ map (numbered l.local) (map named (take l.i l.triangles)))
