-- `contours::chain::chain_all` meets its contract. The invariant: the chains of k segments are taken up. Assumes nothing.
use Rattle.std.proofs.Common.{◌≡◌, ℕ, ◌+◌, ◌*◌, ◌<◌, ◌≤◌, length, get_or, sym, refl, ap, ◌∙◌, subst, arith}
use Rattle.contours.specs.Edge.{edge, Between}
use Rattle.contours.specs.Square.{segment, Joins}
use Rattle.contours.specs.Places.{next_at, words_end}
use Rattle.contours.specs.Chain.{chains, edge_point}
use Rattle.contours.specs.Traced.{pieces_in, Traced}
use Rattle.contours.specs.declared.edge.EdgeNo.{EdgeNo}
use Rattle.contours.specs.declared.square.Segment.{Segment}
use Rattle.contours.proofs.TableLaws.{segment-read, segment-each}
use Rattle.contours.proofs.TourLaws.{toured, tour_none, tour_more}
use Rattle.contours.proofs.chain.chain_all.Goals as goal
use Rattle.contours.proofs.chain.chain_all.Goals.{In-loop-k}

-- the segment at k joins edges of the grid
joins : (c : In-loop-k) → let l = c.loop-k in Joins c.args.g (segment (edge (get_or l.words (2 * l.k) 0)) (edge (get_or l.words (2 * l.k + 1) 0)))
joins c =
    segment-each (Joins c.args.g) _ _ _ _ _ c.requires.each c.loop-k.invariant.0.segments_kept c.requires.m_bound c.loop-k-test.true

-- and its place is within the words
placed : (c : In-loop-k) → let a = c.args in (2 * c.loop-k.k + 1 < next_at a.n) × (length c.loop-k.words ≡ words_end a.n) × (a.n ≤ 1048576)
placed c =
    let t = c.loop-k.invariant.0.tracing in
    (omega (arith, c.requires.m_bound, c.loop-k-test.true), t.words_long, omega (arith, t.cells, c.requires.over.sides.cells))

pub loop-k-init : goal.loop-k-init
loop-k-init c = (tour_none _ _ _ _ _ _ _ _ _ refl c.requires.tracing, omega arith)

pub start_at-c-requires : goal.start_at-c-requires
start_at-c-requires c = record { over = c.requires.over; tracing = c.loop-k.invariant.0.tracing; between = subst (Between c.args.g) (sym c.edge_at-s.ensures) (joins (goal.at.start_at-c-requires c).In-loop-k).from }

pub loop-k-preserved : goal.loop-k-preserved
loop-k-preserved c = let l = c.loop-k in
    let a = c.args in
    let h = placed (goal.at.loop-k-preserved c).In-loop-k in (
      tour_more (edge_point a.g a.f.now a.level) a.g a.n a.first a.words.now a.pts.now _ l.k l.words l.marks l.pts l.c l.invariant.0 _
          (ap (λ (e : EdgeNo). e.0) c.edge_at-s.ensures ∙ sym (ap (λ (s : Segment). s.from.0) (segment-read a.n l.k a.words.now l.words l.invariant.0.segments_kept h.0))) _ _ _ _ c.start_at-c.ensures,
      omega (arith, c.loop-k-test.true),
    )
