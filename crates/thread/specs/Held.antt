-- What a bead that was read holds.
use Rattle.std.specs.Prelude.{List, [], ◌∷◌, map}
use Rattle.cell.specs.declared.vertex.Side.{Side}
use Rattle.kind.specs.Meaning.{Joint}
use Rattle.thread.specs.Thread.{end, knot_place}
use Rattle.thread.specs.declared.bead.Bead.{Bead}

-- its two ends, each with its knot
abbrev pub held_borders : Bead → List (Side × List Joint)
held_borders b = map (λ p. (end p, (knot_place p ∷ []) ∷ [])) b.ends
