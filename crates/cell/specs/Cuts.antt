-- The segments that the cut of a face stands for.
use Rattle.std.specs.Prelude.{List, [], ◌∷◌, drop, Option}
use Rattle.std.specs.Option.{option_map}
use Rattle.cell.specs.Face.{FaceSegment, P0, P1, P2, P3, C}
use Rattle.cell.specs.declared.face.Cut.{Cut}
use Rattle.cell.specs.declared.face.Segments.{Segments}
use Rattle.cell.specs.declared.face.Cut.TheVariants.{Uncut, Single, Rising, Falling, Star}

-- the segments of each case
abbrev pub segments_in : Cut → List FaceSegment
segments_in Uncut = []
segments_in (Single p q) = (p, q) ∷ []
segments_in Rising = (P0, P3) ∷ (P1, P2) ∷ []
segments_in Falling = (P0, P2) ∷ (P1, P3) ∷ []
segments_in Star = (P0, C) ∷ (P1, C) ∷ (P2, C) ∷ (P3, C) ∷ []

-- the segments of a cut, if there is one
abbrev pub segments_of : Option Cut → Option (List FaceSegment)
segments_of r = option_map segments_in r

-- those that are still to come
abbrev pub segments_left : Segments → List FaceSegment
segments_left s = drop s.next (segments_in s.cut)
