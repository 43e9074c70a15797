use Rattle.clipping.proofs.Voxels.{voxels}
use Rattle.clipping.proofs.Shells.{shells}
use Rattle.clipping.proofs.voxels_stand.Goals as goal

pub returns : goal.returns
returns c = record { voxels = voxels; shells = shells }
