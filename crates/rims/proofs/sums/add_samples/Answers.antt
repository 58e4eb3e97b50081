-- `rims::sums::add_samples` meets its contract. The invariant: the samples so far are summed up. Assumes nothing.
use native.Mathlib.Omega.{arith}
use mathlib.Core.Path.{sym, ◌∙◌}
use Rattle.rims.proofs.SumLaws.{zeros-long, summed_none, summed_end}
use Rattle.rims.proofs.sums.add_samples.Goals as goal

pub loop-k-init : goal.loop-k-init
loop-k-init c = (summed_none _ _ _ _ _ _ _ c.requires.counts_value, omega arith)

pub returns : goal.returns
returns c = let i = c.loop-k.invariant in (i.0.long, summed_end _ _ _ _ _ _ _ _ (omega (arith, i.1, c.loop-k-test.false)) i.0)
