use Rattle.pixel_theory.proofs.Laws.{pixel_laws}
use Rattle.pixel_theory.proofs.pixels_keep_the_laws.Goals as goal

pub returns : goal.returns
returns c = record { laws = pixel_laws }
