use Rattle.pixel.proofs.Corners.{heights_of}
use Rattle.pixel.proofs.pixel.read_face.Goals as goal

pub returns : goal.returns
returns g c =
    let read = rw c.corners.ensures.answer at c.in_ok-g00.ensures.answer in
    record { answer = (read.0, heights_of _ _ _ _ read.1 _ _ _ _ read.0) }
