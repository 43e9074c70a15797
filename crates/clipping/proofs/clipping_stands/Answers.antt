use Rattle.clipping.proofs.Clips.{clips}
use Rattle.clipping.proofs.Shells.{second}
use Rattle.clipping.proofs.clipping_stands.Goals as goal

pub returns : goal.returns
returns c = record { clips = clips; second = second }
