use Rattle.std.proofs.Common.{refl, ◌∙◌}
use Rattle.cell.specs.Vertex.{in_face}
use Rattle.shell.specs.Corners.{by_corner}
use Rattle.voxel.proofs.Locals.{centre_made, drawn_or}
use Rattle.voxel.proofs.cube.Cube.centre.Goals as goal

pub returns : goal.returns
returns c =
    let s = c.args.self.now in
    let f = c.unwrap_or-face.result in
    let o = c.centre_offsets-centre in
    record {
      answer =
          c.in_face.ensures.answer ∙ (λ i. in_face f.axis (c.corner.ensures.answer i) (o.ensures.answer i).first (o.ensures.answer i).second)
          ∙ centre_made s.at (by_corner s.corners.heights) f c.face.result _ c.face.ensures.answer
          (drawn_or c.args.n c.numbered.result f _ c.numbered.ensures.answer c.unwrap_or-face.ensures refl);
    }
