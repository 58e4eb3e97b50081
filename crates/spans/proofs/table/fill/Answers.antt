-- `spans::table::fill` meets its contract. Assumes nothing.
use native.Mathlib.Omega.{arith}
use Rattle.numbers.proofs.RootLaws.{no_nan_bits}
use Rattle.raster.proofs.LogLaws.{le_same}
use Rattle.spans.proofs.TableLaws.{head_long, spanning_some, spanning_none}
use Rattle.spans.proofs.table.fill.Goals as goal

pub float_from_bits-t : goal.float_from_bits-t
float_from_bits-t c = no_nan_bits _ (omega (arith, c.reach-s.ensures))

pub returns-then-told : goal.returns-then-told
returns-then-told c = let t = c.told in
    let k = t.ensures.1 c.if-told.true in
    (head_long t.new.t _ _ _ t.ensures.0, spanning_some _ _ _ _ k.0 k.1 k.2)

pub returns : goal.returns
returns c = let t = c.told.new.t in
    let e = c.told.ensures.0 in
    (head_long t _ _ _ e, spanning_none _ _ t (le_same c.requires.in_bounds e))
