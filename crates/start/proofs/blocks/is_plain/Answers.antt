-- `start::blocks::is_plain` meets its contract. Assumes nothing.
use mathlib.Core.Path.{sym, ◌∙◌}
use Rattle.loops.proofs.Cases.{both}
use Rattle.start.proofs.blocks.is_plain.Goals as goal

pub returns : goal.returns
returns c = λ t.
    let p = both _ _ t in
    let q = both _ _ p.0 in
    let o = both _ _ q.0 in
    let l = both _ _ q.1 in
    record {
      x_finite = sym c.is_finite.ensures ∙ o.0;
      y_finite = sym c.is_finite-2.ensures ∙ o.1;
      cell_finite = sym c.is_finite-3.ensures ∙ l.0;
      positive = l.1;
      rooted = c.is_rooted.ensures p.1;
    }
