-- The proof, which the kind carries, that pixels keep the laws.
use Rattle.kind.specs.Meaning.{Laws}
use Rattle.pixel_theory.specs.Kind.{pixel}
use Rattle.pixel_theory.proofs.Laws as theory

pub pixel_laws : Laws pixel
pixel_laws = theory.pixel_laws
