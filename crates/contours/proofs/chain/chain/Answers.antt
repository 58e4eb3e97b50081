-- `contours::chain::chain` meets its contract. The invariant: some edges were followed, and what is kept of their points is written. The measure: edges that are not used. Assumes nothing.
use Rattle.std.proofs.Common.{◌≡◌, ℕ, ◌*◌, ◌<◌, ◌≤◌, List, length, get_or, set, sym, refl, ap, ◌∙◌, subst, arith, length-set, ne_eqb, eqb-true}
use lib.Ieee.{Float}
use borrow.Author.Tests.{eqb-false}
use Rattle.loops.specs.Cells.{ones}
use Rattle.loops.proofs.CellLaws.{ones_le, ones-mark}
use Rattle.geom.specs.Points.{put_point}
use Rattle.geom.specs.declared.vec2.Vec2.{Vec2}
use Rattle.raster.specs.declared.grid.Grid.{Grid}
use Rattle.raster.specs.Grid.{Sides}
use Rattle.contours.specs.declared.edge.EdgeNo.{EdgeNo}
use Rattle.contours.specs.Edge.{edge, nothing, Between}
use Rattle.contours.specs.Chain.{edge_point, Chaining}
use Rattle.contours.proofs.EdgeLaws.{edge-below}
use Rattle.contours.proofs.FollowLaws.{Following, following_none, following_more, out_open, out-closed, out-used, point-room, first-room}
use Rattle.contours.proofs.chain.chain.Goals as goal
use Rattle.contours.proofs.chain.chain.Goals.{After-next_of-n, At-loop-g, Else-eq, Else-is_used, Else-eq-2, Start, Then-eq, Then-is_used, Then-eq-2}

-- an edge of the grid has its place in the tables
below : (g : Grid) (next marks : List ℕ) (pts : List Float) (first s n : ℕ) → Sides g → Chaining g next marks pts first s → Between g (edge n) → n < length marks
below g next marks pts first s n h p b = omega (arith, edge-below g (edge n) h b, p.marks-long)

-- at each turn, with the slices as they were lent
follows : (c : At-loop-g) → let a = c.args in
    Following (edge_point a.g a.f.now a.level) a.next.now a.marks.now a.pts.now a.first a.s.0 c.loop-g.marks c.loop-g.pts c.loop-g.t c.loop-g.cur.0
follows c =
    let p = c.requires.chaining in
    let a = c.args in
    c.loop-g.invariant.following _ _ p (below _ _ _ _ _ _ _ c.requires.over.sides p p.start) c.use_edge.ensures (c.put.ensures ∙ ap (λ (q : Vec2). put_point a.first q a.pts.now) c.crossing-p.ensures)

-- the number of the edge that follows
abbrev n-at : List ℕ → ℕ → ℕ
n-at next cur = get_or next cur 0

n_is : (c : After-next_of-n) → c.next_of-n.result.0 ≡ n-at c.args.next.now c.loop-g.cur.0
n_is c = ap (λ (e : EdgeNo). e.0) c.next_of-n.ensures

-- it is one of the grid, and has its place in the tables
leads : (c : At-loop-g) → (n-at c.args.next.now c.loop-g.cur.0 ≡ nothing → ⊥) → Between c.args.g (edge (n-at c.args.next.now c.loop-g.cur.0))
leads c e = let p = c.requires.chaining in p.leads.to c.loop-g.cur.0 (omega (arith, (follows c).walked.here, p.next-long, p.marks-long)) (ne_eqb _ _ e)

placed : (c : At-loop-g) → (n-at c.args.next.now c.loop-g.cur.0 ≡ nothing → ⊥) → n-at c.args.next.now c.loop-g.cur.0 < length c.args.marks.now
placed c e = below _ _ _ _ _ _ _ c.requires.over.sides c.requires.chaining (leads c e)

-- the tables' edges have room for their points
wide : (c : Start) → 2 * length c.args.marks.now ≤ length c.args.pts.now
wide c = omega (arith, c.requires.chaining.marks-long, c.requires.chaining.pts-long)

-- what the tests say of it
is_none : (c : Then-eq) → n-at c.args.next.now c.loop-g.cur.0 ≡ nothing
is_none c = sym ((let told : c.next_of-n.result.0 ≡ n-at c.args.next.now c.loop-g.cur.0 = ap (λ (e : EdgeNo). e.0) c.next_of-n.ensures in told)) ∙ eqb-true _ _ (sym c.eq.ensures ∙ c.if-eq.true)

not_none : (c : Else-eq) → n-at c.args.next.now c.loop-g.cur.0 ≡ nothing → ⊥
not_none c z = eqb-false _ _ (sym c.eq.ensures ∙ c.if-eq.false) ((let told : c.next_of-n.result.0 ≡ n-at c.args.next.now c.loop-g.cur.0 = ap (λ (e : EdgeNo). e.0) c.next_of-n.ensures in told) ∙ z)

is-first : (c : Then-eq-2) → n-at c.args.next.now c.loop-g.cur.0 ≡ c.args.s.0
is-first c = sym ((let told : c.next_of-n.result.0 ≡ n-at c.args.next.now c.loop-g.cur.0 = ap (λ (e : EdgeNo). e.0) c.next_of-n.ensures in told)) ∙ eqb-true _ _ (sym c.eq-in-loop-g.ensures ∙ c.if-eq-2.true)

not_first : (c : Else-eq-2) → n-at c.args.next.now c.loop-g.cur.0 ≡ c.args.s.0 → ⊥
not_first c z = eqb-false _ _ (sym c.eq-in-loop-g.ensures ∙ c.if-eq-2.false) ((let told : c.next_of-n.result.0 ≡ n-at c.args.next.now c.loop-g.cur.0 = ap (λ (e : EdgeNo). e.0) c.next_of-n.ensures in told) ∙ z)

used : (c : Then-is_used) → get_or c.loop-g.marks (n-at c.args.next.now c.loop-g.cur.0) 0 ≡ 1
used c = ap (λ (k : ℕ). get_or c.loop-g.marks k 0) (sym ((let told : c.next_of-n.result.0 ≡ n-at c.args.next.now c.loop-g.cur.0 = ap (λ (e : EdgeNo). e.0) c.next_of-n.ensures in told))) ∙ eqb-true _ _ (sym c.is_used.ensures ∙ c.if-is_used.true)

fresh : (c : Else-is_used) → get_or c.loop-g.marks (n-at c.args.next.now c.loop-g.cur.0) 0 ≡ 1 → ⊥
fresh c z = eqb-false _ _ (sym c.is_used.ensures ∙ c.if-is_used.false) (ap (λ (k : ℕ). get_or c.loop-g.marks k 0) ((let told : c.next_of-n.result.0 ≡ n-at c.args.next.now c.loop-g.cur.0 = ap (λ (e : EdgeNo). e.0) c.next_of-n.ensures in told)) ∙ z)

pub use_edge-requires : goal.use_edge-requires
use_edge-requires c = below _ _ _ _ _ _ _ c.requires.over.sides c.requires.chaining c.requires.chaining.start

pub put-requires : goal.put-requires
put-requires c = let p = c.requires.chaining in
    let a = c.args in
    first-room (edge_point a.g a.f.now a.level) a.next.now a.marks.now a.pts.now a.first a.s.0 p.room (below _ _ _ _ _ _ _ c.requires.over.sides p p.start) p.unused (omega (arith, p.marks-long, p.pts-long))

pub loop-g-init : goal.loop-g-init
loop-g-init c = record {
  following = λ m w h b d e. rw (d, e, c.crossing-p.ensures) (following_none _ _ m w _ _ h.room b h.unused (omega (arith, h.marks-long, h.pts-long)));
}

pub next_of-n-requires : goal.next_of-n-requires
next_of-n-requires c = let p = c.requires.chaining in omega (arith, (follows (goal.at.next_of-n-requires c).At-loop-g).walked.here, p.next-long, p.marks-long)

pub returns-then-eq : goal.returns-then-eq
returns-then-eq c = out_open _ _ _ _ _ _ c.requires.chaining.room _ _ _ _ (follows (goal.at.returns-then-eq c).At-loop-g) (is_none (goal.at.returns-then-eq c).Then-eq)

pub returns-then-eq-2 : goal.returns-then-eq-2
returns-then-eq-2 c = out-closed _ _ _ _ _ _ c.requires.chaining.room _ _ _ _ (follows (goal.at.returns-then-eq-2 c).At-loop-g) (not_none (goal.at.returns-then-eq-2 c).Else-eq) (is-first (goal.at.returns-then-eq-2 c).Then-eq-2)

pub is_used-requires : goal.is_used-requires
is_used-requires c = omega (arith, placed (goal.at.is_used-requires c).At-loop-g (not_none (goal.at.is_used-requires c).Else-eq), (follows (goal.at.is_used-requires c).At-loop-g).walked.long, n_is (goal.at.is_used-requires c).After-next_of-n)

pub returns-then-is_used : goal.returns-then-is_used
returns-then-is_used c = out-used _ _ _ _ _ _ c.requires.chaining.room _ _ _ _ (follows (goal.at.returns-then-is_used c).At-loop-g) (not_none (goal.at.returns-then-is_used c).Else-eq) (not_first (goal.at.returns-then-is_used c).Else-eq-2) (used (goal.at.returns-then-is_used c).Then-is_used)

pub use_edge-requires-in-loop-g : goal.use_edge-requires-in-loop-g
use_edge-requires-in-loop-g c = omega (arith, placed (goal.at.use_edge-requires-in-loop-g c).At-loop-g (not_none (goal.at.use_edge-requires-in-loop-g c).Else-eq), (follows (goal.at.use_edge-requires-in-loop-g c).At-loop-g).walked.long, n_is (goal.at.use_edge-requires-in-loop-g c).After-next_of-n)

pub crossing-requires : goal.crossing-requires
crossing-requires c = record { over = c.requires.over; between = subst (Between c.args.g) (sym c.next_of-n.ensures) (leads (goal.at.crossing-requires c).At-loop-g (not_none (goal.at.crossing-requires c).Else-eq)) }

pub extend-t-requires : goal.extend-t-requires
extend-t-requires c = point-room _ _ _ _ _ _ c.requires.chaining.room _ _ _ _ _ (follows (goal.at.extend-t-requires c).At-loop-g) (placed (goal.at.extend-t-requires c).At-loop-g (not_none (goal.at.extend-t-requires c).Else-eq)) (fresh (goal.at.extend-t-requires c).Else-is_used) (wide (goal.at.extend-t-requires c).Start)

pub loop-g-smaller : goal.loop-g-smaller
loop-g-smaller c = let m = c.loop-g.marks in
    let n = get_or c.args.next.now c.loop-g.cur.0 0 in
    let b = placed (goal.at.loop-g-smaller c).At-loop-g (not_none (goal.at.loop-g-smaller c).Else-eq) in
    let w = (follows (goal.at.loop-g-smaller c).At-loop-g).walked.long in
    let u = ap ones (c.use_edge-in-loop-g.ensures ∙ ap (λ (k : ℕ). set m k 1) (n_is (goal.at.loop-g-smaller c).After-next_of-n)) in
    let o = ap length c.use_edge.ensures in
    omega (arith, u, o, ones-mark m n (omega arith) (ne_eqb _ _ (fresh (goal.at.loop-g-smaller c).Else-is_used)), ones_le (set m n 1), length-set m n 1, length-set c.args.marks.now c.args.s.0 1)

pub loop-g-preserved : goal.loop-g-preserved
loop-g-preserved c = let a = c.args in
    let x = c.extend-t.ensures in
    record {
      following = λ m w h b d e.
          let n = length-set m a.s.0 1 in
          let o = length-set a.marks.now a.s.0 1 in
          rw (x.1, x.0, c.crossing.ensures, c.use_edge-in-loop-g.ensures, c.next_of-n.ensures)
          (following_more _ _ m w _ _ h.room _ _ _ _ _ (c.loop-g.invariant.following m w h b d e) refl (not_none (goal.at.loop-g-preserved c).Else-eq) (not_first (goal.at.loop-g-preserved c).Else-eq-2) (fresh (goal.at.loop-g-preserved c).Else-is_used)
          (omega (arith, placed (goal.at.loop-g-preserved c).At-loop-g (not_none (goal.at.loop-g-preserved c).Else-eq), ap length d, ap length c.use_edge.ensures)) (omega (arith, h.marks-long, h.pts-long)));
    }
