-- `contours::tables::insert_all` meets its contract. The invariant: k segments are in the tables. Assumes nothing.
use Rattle.std.proofs.Common.{◌≡◌, ℕ, ◌+◌, ◌*◌, ◌<◌, ◌≤◌, length, get_or, ap, ◌∙◌, subst, arith}
use Rattle.contours.specs.Edge.{edge}
use Rattle.contours.specs.Square.{segment}
use Rattle.contours.specs.Places.{next_at, words_end}
use Rattle.contours.specs.Traced.{Below, Inserted}
use Rattle.contours.specs.declared.edge.EdgeNo.{EdgeNo}
use Rattle.contours.proofs.TableLaws.{segment-each, inserted-none, inserted_more}
use Rattle.contours.proofs.tables.insert_all.Goals as goal
use Rattle.contours.proofs.tables.insert_all.Goals.{After-from, In-loop-k}

-- the segment's edges have their places in the tables
below : (c : In-loop-k) → let l = c.loop-k in Below (2 * c.args.n) (segment (edge (get_or l.words (2 * l.k) 0)) (edge (get_or l.words (2 * l.k + 1) 0)))
below c = let p = c.requires in segment-each _ _ _ _ _ _ p.below c.loop-k.invariant.0.kept p.few c.loop-k-test.true

-- the segment and the tables are within the slices
room : (c : In-loop-k) → let a = c.args in let l = c.loop-k in
    (2 * l.k + 1 < next_at a.n) × (a.n ≤ 1048576) × (length l.words ≡ words_end a.n) × (length l.marks ≡ 2 * a.n)
room c =
    let p = c.requires in
    let j = c.loop-k.invariant.0 in
    (omega (arith, p.few, c.loop-k-test.true), p.cells, j.words_long ∙ p.words_long, j.marks-long ∙ p.marks-long)

-- the edge that the segment leaves
from_is : (c : After-from) → c.from.result ≡ get_or c.loop-k.words (2 * c.loop-k.k) 0
from_is c = c.from.ensures ∙ ap (λ (e : EdgeNo). e.0) c.edge_at-from.ensures

pub loop-k-init : goal.loop-k-init
loop-k-init c = (inserted-none _ _ _, omega arith)

pub put_edge-requires : goal.put_edge-requires
put_edge-requires c = let h = room (goal.at.put_edge-requires c).In-loop-k in omega (arith, h.1, h.2, (below (goal.at.put_edge-requires c).In-loop-k).from, from_is (goal.at.put_edge-requires c).After-from, c.next_at-next.ensures)

pub bounds-marks-from : goal.bounds-marks-from
bounds-marks-from c = let h = room (goal.at.bounds-marks-from c).In-loop-k in omega (arith, h.1, h.3, (below (goal.at.bounds-marks-from c).In-loop-k).to, c.from-in-loop-k.ensures, ap (λ (e : EdgeNo). e.0) c.edge_at-to.ensures)

pub loop-k-preserved : goal.loop-k-preserved
loop-k-preserved c = let l = c.loop-k in
    let p = c.requires in
    let a = c.args in
    let to = ap (λ (e : EdgeNo). e.0) c.edge_at-to.ensures in (
      rw (c.put_edge.ensures, c.from-in-loop-k.ensures, from_is (goal.at.loop-k-preserved c).After-from, c.next_at-next.ensures, to)
          (inserted_more _ _ _ _ _ _ l.invariant.0 (omega (arith, p.few, c.loop-k-test.true)) (below (goal.at.loop-k-preserved c).In-loop-k).from),
      omega (arith, c.loop-k-test.true),
    )
