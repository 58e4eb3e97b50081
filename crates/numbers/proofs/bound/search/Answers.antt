-- `numbers::bound::search` meets its contract. Assumes nothing.
use Rattle.std.proofs.Common.{None, sym, ap, ◌∙◌, arith}
use Rattle.numbers.proofs.RootLaws.{no_nan_bits}
use Rattle.loops.specs.Loop.{on}
use Rattle.loops.proofs.LoopLaws.{going_none, going_on, going_end}
use Rattle.numbers.specs.Bound.{look_at, looked, bound_from}
use Rattle.numbers.proofs.BoundLaws.{found_at}
use Rattle.numbers.proofs.bound.search.Goals as goal

pub loop-i-init : goal.loop-i-init
loop-i-init c = going_none _ _ _ _

pub float_from_bits-result : goal.float_from_bits-result
float_from_bits-result c = no_nan_bits _ (omega arith)

pub returns-then-separates : goal.returns-then-separates
returns-then-separates c = let s = c.args in
    let l = c.loop-i in
    found_at s.r s.k (omega arith) None l.i l.invariant (omega arith) (sym c.separates.ensures ∙ c.if-separates.true)

pub loop-i-preserved : goal.loop-i-preserved
unfolding look_at
loop-i-preserved c = let l = c.loop-i in
    going_on _ 0 8 (on None) None None l.i l.invariant (omega arith) (rw (sym c.separates.ensures ∙ c.if-separates.false))

pub returns : goal.returns
unfolding bound_from looked
returns c = ap looked (going_end _ 0 8 (on None) (on None) _ c.loop-i.invariant (omega arith))
