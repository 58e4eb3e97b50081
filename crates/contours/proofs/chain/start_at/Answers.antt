-- `contours::chain::start_at` meets its contract. Assumes nothing.
use Rattle.std.proofs.Common.{◌≡◌, ℕ, get_or, sym, ap, ◌∙◌, arith}
use Rattle.contours.specs.Chain.{edge_point, starts_at}
use Rattle.contours.proofs.EdgeLaws.{edge-below}
use Rattle.contours.proofs.TourLaws.{traced_start, traced_pass, unused-start}
use Rattle.contours.proofs.chain.start_at.Goals as goal
use Rattle.contours.proofs.chain.start_at.Goals.{After-starts}

-- whether a chain starts at the edge's mark
starts-here : (c : After-starts) → let a = c.args in c.starts.result ≡ starts_at a.first (get_or a.marks.now a.s.0 0)
starts-here c = let a = c.args in c.starts.ensures ∙ ap (λ (k : ℕ). starts_at a.first (get_or a.marks.now k 0)) c.from.ensures

pub bounds-marks-from : goal.bounds-marks-from
bounds-marks-from c = omega (arith, edge-below _ _ c.requires.over.sides c.requires.between, c.requires.tracing.cells, c.requires.tracing.marks-long, c.from.ensures)

pub returns-then-starts : goal.returns-then-starts
returns-then-starts c = let a = c.args in
    traced_start (edge_point a.g a.f.now a.level) a.g a.n a.first a.s.0 a.words.now a.marks.now a.pts.now a.c (sym (starts-here (goal.at.returns-then-starts c).After-starts) ∙ c.if-starts.true) _ _ _ _
    c.take_up.ensures

pub returns : goal.returns
returns c = let a = c.args in
    traced_pass (edge_point a.g a.f.now a.level) a.g a.n a.first a.s.0 a.words.now a.marks.now a.pts.now a.c (sym (starts-here (goal.at.returns c).After-starts) ∙ c.if-starts.false) c.requires.tracing
