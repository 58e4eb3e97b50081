-- `setup::tables::fill` meets its contract. Assumes nothing.
use native.Mathlib.Omega.{arith}
use Rattle.setup.proofs.TableLaws.{tables_are}
use Rattle.setup.proofs.tables.fill.Goals as goal

pub returns : goal.returns
returns c = let r = c.fill_rims in
    tables_are c.args.g c.requires.sides c.args.r c.args.wide _ _ _ (omega (arith, c.requires.in_bounds, r.auto.w)) c.fill.auto.t r.ensures c.fill.ensures.1
