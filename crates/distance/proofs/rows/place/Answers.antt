-- `distance::rows::place` meets its contract. Assumes nothing.
use mathlib.Core.Path.{sym}
use Prim.Native.Nat.{◌+◌, ◌<◌}
use native.Mathlib.Omega.{arith}
use lib.ListN.{get_or}
use Rattle.distance.proofs.NumberLaws.{product}
use Rattle.distance.proofs.EnvelopeLaws.{taken-same, taken_skip, rest-none}
use Rattle.distance.proofs.RowLaws.{key-near, key-lost}
use Rattle.distance.proofs.rows.place.Goals as goal
use Rattle.distance.proofs.rows.place.Goals.{Then-d-lt-NONE}

pub returns-then-d-lt-NONE : goal.returns-then-d-lt-NONE
returns-then-d-lt-NONE c = let e = c.top.ensures in record { taken = taken-same _ _ _ _ _ _ _ _ _ (sym (key-near c.args.q (get_or c.args.work.now (c.args.base + c.args.q) 0) c.if-d-lt-NONE.true)) e.taken; rest = e.rest }

pub returns : goal.returns
returns c = record { taken = taken-same _ _ _ _ _ _ _ _ _ (sym (key-lost c.args.q (get_or c.args.work.now (c.args.base + c.args.q) 0) c.if-d-lt-NONE.false)) (taken_skip _ _ _ _ _); rest = rest-none _ _ _ }
