use Rattle.std.proofs.Common.{refl}
use Rattle.clipping.specs.Clip.{ends_at, joins, degree, linked, strike, toggle, lowest, apex, neighbour, turn, clip, triangles}
use Rattle.rows.specs.Rows.{RowsStand}
use Rattle.rows.proofs.rows_stand.Goals as goal

-- the rules are computed
stand : RowsStand
unfolding ends_at joins degree linked strike toggle lowest apex neighbour turn clip triangles
stand = refl

pub returns : goal.returns
returns c = record { answer = refl; stand = stand }
