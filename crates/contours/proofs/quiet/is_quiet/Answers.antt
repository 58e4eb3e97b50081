-- `contours::quiet::is_quiet` meets its contract. Assumes nothing.
use Rattle.std.proofs.Common.{arith}
use Rattle.contours.proofs.QuietLaws.{run-below, lacks_sign}
use Rattle.contours.proofs.quiet.is_quiet.Goals as goal

pub returns : goal.returns
returns c = lacks_sign _ _ _ _ _ _ _ _ c.signs_of-lower.ensures c.signs_of-upper.ensures
