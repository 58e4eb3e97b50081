-- `rims::boxes::fill_entries` meets its contract. The invariant: the entries of the samples so far stand in the table, and nothing else has changed. Assumes nothing.
use Prim.Native.Nat.{◌+◌, ◌<◌}
use native.Mathlib.Omega.{arith}
use lib.ListN.{length}
use Rattle.numbers.proofs.RootLaws.{no_nan_bits}
use Rattle.rims.proofs.FirstLaws.{apart_none, apart-set}
use Rattle.rims.proofs.BoxLaws.{entries_none, entries_next, entries-end}
use Rattle.rims.proofs.boxes.fill_entries.Goals as goal
use Rattle.rims.proofs.boxes.fill_entries.Goals.{In-loop-k}

-- the sample and its place in the table
room : (c : In-loop-k) → c.args.at + 1 + c.loop-k.k < length c.loop-k.w
room c = let p = c.requires.s_nonzero in omega (arith, c.loop-k-test.true, p.1, p.3, c.loop-k.invariant.0.long)

few : (c : In-loop-k) → c.loop-k.k < 2048
few c = omega (arith, c.loop-k-test.true, c.requires.s_nonzero.1)

pub float_from_bits-w : goal.float_from_bits-w
float_from_bits-w c = no_nan_bits _ (omega (arith, c.entry_of.ensures.0))

pub loop-k-preserved : goal.loop-k-preserved
loop-k-preserved c = let l = c.loop-k in (
  apart-set _ _ _ l.w _ _ (omega arith) (omega (arith, few (goal.at.loop-k-preserved c).In-loop-k)) l.invariant.0,
  entries_next c.args.g c.args.r c.args.n c.args.at c.args.s l.k c.args.w.now l.w _ (room (goal.at.loop-k-preserved c).In-loop-k) (omega (arith, c.requires.s_nonzero.1, c.requires.s_nonzero.2)) c.loop-k-test.true c.requires.rim l.invariant.0 c.entry_of.ensures l.invariant.1,
)
