-- `distance::rows::span` meets its contract. The invariant: the places before x are written. Assumes nothing.
use mathlib.Core.Path.{refl, ◌∙◌}
use Prim.Native.Nat.{◌≤◌, ◌<◌, ◌+◌, ◌*◌}
use native.Mathlib.Omega.{arith}
use lib.ListN.{length-set}
use Rattle.distance.proofs.NumberLaws.{product, gap-square}
use Rattle.distance.proofs.WroteLaws.{wrote_none, wrote_more, wrote-end}
use Rattle.distance.proofs.rows.span.Goals as goal
use Rattle.distance.proofs.rows.span.Goals.{In-loop-x}

pub overflow_sub-work : goal.overflow_sub-work
overflow_sub-work c = omega (arith, gap-square c.loop-x.x c.args.p)
