use Rattle.std.proofs.Common.{◌≡◌, take}
use Rattle.clipping.specs.Faces.{faces, segments_on_all}
use Rattle.clipping.specs.Masks.{entered, blank}
use Rattle.shell.specs.Corners.{by_corner}
use Rattle.shell.proofs.Faces.{IsTable}
use Rattle.shell.proofs.links.Links.of.Given as goal

abbrev pub invariant-loop-face : goal.invariant-loop-face
invariant-loop-face l = record {
  table : IsTable l.face-items;
  so_far : l.links.masks ≡ entered blank (segments_on_all (by_corner l.corners.heights) (take l.face-index faces));
}
