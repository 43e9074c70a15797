use Rattle.cell.proofs.Reading.{ReadTo}
use Rattle.cell.proofs.corner.heights_at.Given as goal

abbrev pub invariant-loop-i : goal.invariant-loop-i
invariant-loop-i g l = ReadTo (g.S.Source.block l.source) l.level l.corners l.heights l.i
