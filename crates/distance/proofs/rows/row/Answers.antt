-- `distance::rows::row` meets its contract. Assumes nothing.
use native.Mathlib.Omega.{arith}
use Rattle.distance.proofs.EnvelopeLaws.{sound}
use Rattle.distance.proofs.RowLaws.{keyed, row-keys, row-filled, row-blank}
use Rattle.distance.proofs.rows.row.Goals as goal

pub fill-requires : goal.fill-requires
fill-requires c = let v = c.envelope-n in
    let k = keyed c.args.work.now c.args.base _ _ c.requires.nx_bound (row-keys c.args.work.now c.args.base _) in
    let l = c.if-n-eq0.false in record { nx_bound = c.requires.nx_bound_2; nx_in_bounds = omega (arith, v.auto.work, c.requires.nx_in_bounds); sound = sound _ _ _ _ _ _ k (omega arith) v.ensures.stack; n_nonzero = omega arith }

pub returns-else-n-eq0 : goal.returns-else-n-eq0
returns-else-n-eq0 c = let v = c.envelope-n.ensures in
    row-filled _ _ _ _ _ _ c.requires.nx_bound c.requires.nx_bound_2 v.rest _ v.stack c.fill.ensures
