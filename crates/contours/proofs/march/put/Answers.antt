-- `contours::march::put` meets its contract. Assumes nothing.
use Rattle.std.proofs.Common.{ℕ, ◌+◌, ◌*◌, List, set, ap, ◌∙◌}
use Rattle.contours.specs.March.{put_segment}
use Rattle.contours.proofs.march.put.Goals as goal

pub returns : goal.returns
unfolding put_segment
returns c = let a = c.args in
    c.put_edge-2.ensures ∙ ap (λ (l : List ℕ). set l (2 * a.k + 1) a.s.to.0) c.put_edge.ensures
