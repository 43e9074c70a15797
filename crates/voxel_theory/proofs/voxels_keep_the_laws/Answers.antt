use Rattle.voxel_theory.proofs.Laws.{voxel_laws, voxel_small}
use Rattle.voxel_theory.proofs.voxels_keep_the_laws.Goals as goal

pub returns : goal.returns
returns c = record { laws = voxel_laws; small = voxel_small }
