-- `abi::of_cutting::put_state` meets its contract. Assumes nothing.
use native.Mathlib.Omega.{arith}
use lib.ListN.{length-set}
use Rattle.abi.proofs.CutLaws.{counts_put, floats_put}
use Rattle.abi.proofs.of_cutting.put_state.Goals as goal

pub bounds-counts-1 : goal.bounds-counts-1
bounds-counts-1 c = simp length-set (omega arith)

pub bounds-counts-2 : goal.bounds-counts-2
bounds-counts-2 c = simp length-set (omega arith)

pub bounds-floats-1 : goal.bounds-floats-1
bounds-floats-1 c = simp length-set (omega arith)

pub returns : goal.returns
returns c = let a = c.args in record { counts_after = counts_put a.t a.counts.now _ c.is_down.ensures; floats_after = floats_put a.t a.floats.now _ c.spot-p.ensures }
