-- The proof, which the kind carries, that voxels keep the laws.
use Rattle.kind.specs.Meaning.{Laws}
use Rattle.voxel_theory.specs.Voxel.{voxel}
use Rattle.voxel_theory.proofs.Laws as theory

pub voxel_laws : Laws voxel
voxel_laws = theory.voxel_laws
