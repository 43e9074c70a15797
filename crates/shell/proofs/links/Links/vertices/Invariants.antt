use Rattle.std.proofs.Common.{◌≡◌, ◌≤◌, ltb, length, get_or, take, filter}
use lib.Count.{ones}
use Rattle.clipping.specs.Faces.{local_vertices, local_order}
use Rattle.shell.proofs.links.Links.vertices.Given as goal

abbrev pub invariant-loop-v : goal.invariant-loop-v
invariant-loop-v l = (take l.n l.out ≡ filter (λ v. ltb 0 (ones (get_or l.self.masks v 0))) (take l.v local_order)) × (l.n ≤ l.v) × (length l.out ≡ local_vertices)
