-- `passes::trial::simulate` meets its contract. The invariants: the pass is what the legs so far, and in the leg the samples so far, leave (`Going`), and lengths, room and where no stock is are kept (`Safe`). Each `break 'outer` goes by `leaves`. Assumes nothing.
use mathlib.Core.Bool.{false}
use mathlib.Core.Path.{◌≡◌, ap, ◌∙◌}
use Prim.Native.Nat.{◌/◌, ◌≤◌}
use native.Mathlib.Omega.{arith}
use lib.ListN.{length}
use Prim.Native.Nat.{ℕ}
use mathlib.Core.List.{List}
use lib.Ieee.{Float}
use Rattle.geom.specs.declared.vec2.Vec2.{Vec2}
use Rattle.loops.specs.Loop.{Run}
use Rattle.loops.proofs.LoopLaws.{going_none, going_on, going_out, going_end}
use Rattle.geom.specs.Vec.{f0}
use Rattle.geom.specs.Points.{points}
use Rattle.rims.proofs.TileLaws.{tiled_fewer}
use Rattle.setup.specs.Place.{allowed_at}
use Rattle.events.specs.Lent.{triple_at}
use Rattle.passes.specs.Simulate.{Pass, ps, tr, sample_step, simulate_of}
use Rattle.passes.proofs.SimulateLaws.{Safe, safe_start, safe_again, safe_then, safe_spent, safe_on, fit_of_lem, over-same, room_then, full_then, half-some, turn-none, turn_gap, turn-full, turn_on, leg_on, leg_out, pass-full, pass_on, pass-out, long-put}
use Rattle.passes.proofs.trial.simulate.Goals as goal
use Rattle.passes.proofs.trial.simulate.Goals.{At-loop-k, At-outer, In-loop-k}

-- the pass where the loop over the legs begins
abbrev start : List ℕ → List ℕ → List Float → Vec2 → Pass
start map log out first = ps map log out (tr false 1 0 0 first f0)

out-same : (h : At-outer) → length (start h.args.map.now h.args.log.now h.put_triple.new.triples h.vertex-first.result).out ≡ length h.args.triples.now
out-same h = ap length h.put_triple.ensures ∙ long-put h.args.kept (triple_at h.vertex-first.result f0) h.args.triples.now

some : (h : At-outer) → 1 ≤ length h.args.guide.now / 2
some h = half-some _ h.requires.usable.point

all-safe : (k : At-loop-k) → Safe k.args.kept (start k.args.map.now k.args.log.now k.put_triple.new.triples k.vertex-first.result) (ps k.loop-k.map k.loop-k.log k.loop-k.triples k.loop-k.t)
all-safe k = safe_then _ _ _ _ k.outer.invariant.1 k.loop-k.invariant.1

-- a turn over the samples that is left leaves the whole pass: both loops
leaves : (c : In-loop-k) (u : Pass) → sample_step c.args.s (allowed_at c.args.s c.args.wall.now c.args.vs.now c.args.lens.now) c.args.kept c.leg_at-leg.result c.loop-k.k (ps c.loop-k.map c.loop-k.log c.loop-k.triples c.loop-k.t) ≡ Run.out u
    → u ≡ simulate_of c.args.s (allowed_at c.args.s c.args.wall.now c.args.vs.now c.args.lens.now) (points 0 (length c.args.guide.now / 2) c.args.guide.now) c.args.kept c.args.map.now c.args.log.now c.args.triples.now
leaves c u e =
    pass-out _ _ _ _ _ ((let told : 1 ≤ length c.args.guide.now / 2 = half-some _ c.requires.usable.point in told)) _ _ _ _ c.vertex-first.ensures c.if-room-kept.false _ c.put_triple.ensures _
    (going_out _ _ _ _ _ _ _ c.outer.invariant.0 c.outer-test.true
    (leg_out _ _ _ _ _ _ c.outer.invariant.0.low c.outer-test.true _ _ _ c.leg_at-leg.ensures (going_out _ _ _ _ _ _ _ c.loop-k.invariant.0 c.loop-k-test.true e)))

pub vertex-first-requires : goal.vertex-first-requires
vertex-first-requires c = omega (arith, c.requires.usable.point)

pub returns-then-room-kept : goal.returns-then-room-kept
returns-then-room-kept c = pass-full _ _ _ _ _ (half-some _ c.requires.usable.point) _ _ _ _ c.vertex-first.ensures c.if-room-kept.true

pub put_triple-requires : goal.put_triple-requires
put_triple-requires c = omega (arith, c.if-room-kept.false)

pub outer-init : goal.outer-init
outer-init c = (going_none _ _ _ _, safe_start _ _ _ c.args.triples.now _ _ c.requires.usable.ready c.if-room-kept.false c.put_triple.ensures)

pub leg_at-leg-requires : goal.leg_at-leg-requires
leg_at-leg-requires c = record { le_k = c.outer.invariant.0.low; k_in_bounds = omega arith }

pub loop-k-init : goal.loop-k-init
loop-k-init c = (going_none _ _ _ _, safe_again _ _ _ c.outer.invariant.1)

pub find_shift-f-requires : goal.find_shift-f-requires
find_shift-f-requires c = record { walls = c.requires.walls; tables = c.requires.tables }

pub invariant_of-ground : goal.invariant_of-ground
invariant_of-ground c = let h = all-safe (goal.at.invariant_of-ground c).At-loop-k in record { over = over-same _ _ _ h.cells-long c.requires.usable.over; tiled = tiled_fewer _ _ _ _ h.fewer c.requires.tiled }

pub overflow_add-kept : goal.overflow_add-kept
overflow_add-kept c = omega (arith, (all-safe (goal.at.overflow_add-kept c).At-loop-k).room, out-same (goal.at.overflow_add-kept c).At-outer, c.well_formed)

pub advance-t-requires : goal.advance-t-requires
advance-t-requires c = record { tables = c.requires.tables; fit = fit_of_lem _ _ _ _ _ _ c.requires.usable (safe_spent _ _ _ _ (all-safe (goal.at.advance-t-requires c).At-loop-k)); points_in_bounds = room_then _ _ _ ((all-safe (goal.at.advance-t-requires c).At-loop-k).out-long ∙ out-same (goal.at.advance-t-requires c).At-outer) c.if-room-kept-2.false }

pub overflow_step-k : goal.overflow_step-k
overflow_step-k c = omega (arith, c.loop-k-test.true)

pub loop-k-smaller : goal.loop-k-smaller
loop-k-smaller c = omega (arith, c.loop-k-test.true)

pub loop-k-preserved : goal.loop-k-preserved
loop-k-preserved c = (
  going_on _ _ _ _ _ _ _ c.loop-k.invariant.0 c.loop-k-test.true
      (turn_on _ _ _ _ _ _ _ c.max_shift-most.ensures _ _ c.sample-at.ensures c.find_shift-f.ensures _ c.in-Some.is _ c.gap.ensures c.if-gap.false
      (room_then _ _ _ ((all-safe (goal.at.loop-k-preserved c).At-loop-k).out-long ∙ out-same (goal.at.loop-k-preserved c).At-outer) c.if-room-kept-2.false) _ c.advance-t.ensures),
  safe_on _ _ _ _ _ _ _ _ (safe_spent _ _ _ _ c.loop-k.invariant.1) (room_then _ _ _ (c.outer.invariant.1.out-long ∙ out-same (goal.at.loop-k-preserved c).At-outer) c.if-room-kept-2.false) c.advance-t.ensures,
)

pub overflow_step-seg : goal.overflow_step-seg
overflow_step-seg c = omega (arith, c.outer-test.true, c.well_formed)

pub outer-smaller : goal.outer-smaller
outer-smaller c = omega (arith, c.outer-test.true)

pub outer-preserved : goal.outer-preserved
outer-preserved c = (going_on _ _ _ _ _ _ _ c.outer.invariant.0 c.outer-test.true (leg_on _ _ _ _ _ _ c.outer.invariant.0.low c.outer-test.true _ _ _ c.leg_at-leg.ensures (going_end _ _ _ _ _ _ c.loop-k.invariant.0 c.loop-k-test.false)), all-safe (goal.at.outer-preserved c).At-loop-k)

pub shape_of-map-after-outer : goal.shape_of-map-after-outer
shape_of-map-after-outer c = c.outer.invariant.1.cells-long

pub shape_of-log-after-outer : goal.shape_of-log-after-outer
shape_of-log-after-outer c = c.outer.invariant.1.log-long

pub shape_of-triples-after-outer : goal.shape_of-triples-after-outer
shape_of-triples-after-outer c = c.outer.invariant.1.out-long ∙ out-same (goal.at.shape_of-triples-after-outer c).At-outer

pub returns-after-outer : goal.returns-after-outer
returns-after-outer c = pass_on _ _ _ _ _ (some (goal.at.returns-after-outer c).At-outer) _ _ _ _ c.vertex-first.ensures c.if-room-kept.false _ c.put_triple.ensures _ (going_end _ _ _ _ _ _ c.outer.invariant.0 c.outer-test.false)

pub shape_of-map-in_default : goal.shape_of-map-in_default
shape_of-map-in_default c = (all-safe (goal.at.shape_of-map-in_default c).At-loop-k).cells-long

pub shape_of-log-in_default : goal.shape_of-log-in_default
shape_of-log-in_default c = (all-safe (goal.at.shape_of-log-in_default c).At-loop-k).log-long

pub shape_of-triples-in_default : goal.shape_of-triples-in_default
shape_of-triples-in_default c = (all-safe (goal.at.shape_of-triples-in_default c).At-loop-k).out-long ∙ out-same (goal.at.shape_of-triples-in_default c).At-outer

pub returns-in_default : goal.returns-in_default
returns-in_default c = leaves (goal.at.returns-in_default c).In-loop-k _ (turn-none _ _ _ _ _ _ _ c.max_shift-most.ensures _ _ c.sample-at.ensures c.find_shift-f.ensures c.in_default.is)

pub shape_of-map-then-gap : goal.shape_of-map-then-gap
shape_of-map-then-gap c = (all-safe (goal.at.shape_of-map-then-gap c).At-loop-k).cells-long

pub shape_of-log-then-gap : goal.shape_of-log-then-gap
shape_of-log-then-gap c = (all-safe (goal.at.shape_of-log-then-gap c).At-loop-k).log-long

pub shape_of-triples-then-gap : goal.shape_of-triples-then-gap
shape_of-triples-then-gap c = (all-safe (goal.at.shape_of-triples-then-gap c).At-loop-k).out-long ∙ out-same (goal.at.shape_of-triples-then-gap c).At-outer

pub returns-then-gap : goal.returns-then-gap
returns-then-gap c = leaves (goal.at.returns-then-gap c).In-loop-k _ (turn_gap _ _ _ _ _ _ _ c.max_shift-most.ensures _ _ c.sample-at.ensures c.find_shift-f.ensures _ c.in-Some.is _ c.gap.ensures c.if-gap.true)

pub shape_of-map-then-room-kept-2 : goal.shape_of-map-then-room-kept-2
shape_of-map-then-room-kept-2 c = (all-safe (goal.at.shape_of-map-then-room-kept-2 c).At-loop-k).cells-long

pub shape_of-log-then-room-kept-2 : goal.shape_of-log-then-room-kept-2
shape_of-log-then-room-kept-2 c = (all-safe (goal.at.shape_of-log-then-room-kept-2 c).At-loop-k).log-long

pub shape_of-triples-then-room-kept-2 : goal.shape_of-triples-then-room-kept-2
shape_of-triples-then-room-kept-2 c = (all-safe (goal.at.shape_of-triples-then-room-kept-2 c).At-loop-k).out-long ∙ out-same (goal.at.shape_of-triples-then-room-kept-2 c).At-outer

pub returns-then-room-kept-2 : goal.returns-then-room-kept-2
returns-then-room-kept-2 c = leaves (goal.at.returns-then-room-kept-2 c).In-loop-k _ (turn-full _ _ _ _ _ _ _ c.max_shift-most.ensures _ _ c.sample-at.ensures c.find_shift-f.ensures _ c.in-Some.is _ c.gap.ensures c.if-gap.false
    (full_then _ _ _ ((all-safe (goal.at.returns-then-room-kept-2 c).At-loop-k).out-long ∙ out-same (goal.at.returns-then-room-kept-2 c).At-outer) c.if-room-kept-2.true))
