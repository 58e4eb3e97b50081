-- `contours::march::march_run` meets its contract. Assumes nothing.
use Rattle.std.proofs.Common.{sym, refl, arith}
use Rattle.contours.proofs.QuietLaws.{quiet_passed}
use Rattle.contours.proofs.march.march_run.Goals as goal

pub returns-then-is_quiet : goal.returns-then-is_quiet
returns-then-is_quiet c = record { is = sym (quiet_passed _ _ _ _ _ _ (c.is_quiet.ensures c.if-is_quiet.true) _); few = omega arith; long = refl }
