-- `contours::trace::contours` meets its contract. Assumes nothing.
use Rattle.std.proofs.Common.{sym, ap, ◌∙◌, arith}
use Rattle.contours.specs.Places.{words_end}
use Rattle.contours.proofs.ContourLaws.{tabled_joins, tracing-none, again_joins, contoured, contoured_cells}
use Rattle.contours.proofs.trace.contours.Goals as goal

pub chain_all-open-requires : goal.chain_all-open-requires
chain_all-open-requires c = let a = c.args in
    let t = c.tabulate-m.ensures in
    let n = c.cells-n.result in record { over = c.requires.over; m_bound = t.few; each = tabled_joins a.g a.f.now a.level n _ _ _ t; tracing = tracing-none a.g a.f.now a.level n _ _ _ t _ (omega (arith, c.requires.nx_in_bounds, c.cells-n.ensures)) }

pub chain_all-requires : goal.chain_all-requires
chain_all-requires c = let a = c.args in
    let t = c.tabulate-m.ensures in
    let u = c.chain_all-open.ensures in record { over = c.requires.over; m_bound = t.few; each = again_joins a.g a.f.now a.level c.cells-n.result _ _ _ t _ _ _ _ _ u; tracing = u.tracing }

pub returns : goal.returns
returns c = let a = c.args in
    let t = c.tabulate-m.ensures in
    let u = c.chain_all-open.ensures in
    let n = c.cells-n.ensures in
    contoured_cells a.g _ _ _ _ _ _ _ n
    (contoured a.g a.f.now a.level c.cells-n.result _ _ _ t _ _ _ _ _ u c.requires.over.sides a.words.now (t.sized.words_long ∙ ap words_end n ∙ sym c.requires.sized.words_long) _ _ _ _ c.chain_all.ensures)
