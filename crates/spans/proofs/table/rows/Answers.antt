-- `spans::table::rows` meets its contract. The invariant: the words of the rows so far are told. Assumes nothing.
use mathlib.Core.Path.{refl, ◌∙◌}
use Prim.Native.Nat.{◌+◌, ◌*◌}
use native.Mathlib.Omega.{arith}
use lib.ListN.{length-set}
use lib.Ieee.{binary64, of_bits}
use Rattle.loops.proofs.Cases.{never}
use Rattle.numbers.proofs.RootLaws.{no_nan_bits}
use Rattle.spans.proofs.TableLaws.{words_long, entries_none, entries_more, entries-end}
use Rattle.spans.proofs.table.rows.Goals as goal

pub float_from_bits-t : goal.float_from_bits-t
float_from_bits-t c = no_nan_bits _ (omega (arith, c.in-Some.ensures.outer))

pub float_from_bits-t-in-loop-q : goal.float_from_bits-t-in-loop-q
float_from_bits-t-in-loop-q c = no_nan_bits _ (omega (arith, c.in-Some.ensures.inner))

pub loop-q-preserved : goal.loop-q-preserved
loop-q-preserved c = let k = c.loop-q in
    (words_long k.t _ _ _ _ ∙ k.invariant.0, entries_more _ _ _ _ _ _ (omega (arith, c.loop-q-test.true, c.requires.s_nonzero, c.loop-q.invariant.0)) k.invariant.1 c.in-Some.ensures)
