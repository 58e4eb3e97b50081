-- `spans::runs::is_bare` meets its contract. Assumes nothing.
use mathlib.Core.Path.{sym, ◌∙◌}
use borrow.Author.Tests.{not-true}
use Rattle.loops.proofs.Cases.{never}
use Rattle.spans.proofs.IdleLaws.{bare-is}
use Rattle.spans.proofs.runs.is_bare.Goals as goal

pub returns : goal.returns
returns c = λ t.
    let s = c.args in
    bare-is _ s.base s.nx s.o s.n _ _ _ _ _ c.end_of-e.ensures c.min-a.ensures c.min-m.ensures c.end_of.ensures
    c.max-b.ensures (sym c.has_stock.ensures ∙ c.if-has_stock.false) (sym c.has_stock-2.ensures ∙ not-true _ t)
