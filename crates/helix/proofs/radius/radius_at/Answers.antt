-- `helix::radius::radius_at` meets its contract. Assumes nothing.
use mathlib.Core.Path.{sym, ap, ◌∙◌}
use lib.Ieee.{Float, of_bits, le}
use Rattle.loops.proofs.LoopLaws.{going_none}
use Rattle.helix.proofs.RadiusLaws.{radius-none, radius-some, radius_more, radius-end}
use Rattle.helix.proofs.radius.radius_at.Goals as goal

pub loop-k-init : goal.loop-k-init
loop-k-init c = going_none _ _ _ _

pub returns-then-not-radius-least : goal.returns-then-not-radius-least
returns-then-not-radius-least c = radius-none c.args.s c.args.wall.now c.args.vs.now c.args.lens.now c.args.c _ _ _ c.loop-k.invariant c.loop-k-test.true (ap (λ (x : Float). le x c.loop-k.radius) (sym c.least-least.ensures) ∙ c.if-not-radius-least.true)

pub rim_allowed-requires : goal.rim_allowed-requires
rim_allowed-requires c = c.requires

pub returns-then-rim_allowed : goal.returns-then-rim_allowed
returns-then-rim_allowed c = radius-some c.args.s c.args.wall.now c.args.vs.now c.args.lens.now c.args.c _ _ _ c.loop-k.invariant c.loop-k-test.true (ap (λ (x : Float). le x c.loop-k.radius) (sym c.least-least.ensures) ∙ c.if-not-radius-least.false) _ c.rim_allowed.ensures c.if-rim_allowed.true

pub loop-k-preserved : goal.loop-k-preserved
unfolding of_bits
loop-k-preserved c = radius_more c.args.s c.args.wall.now c.args.vs.now c.args.lens.now c.args.c _ _ _ c.loop-k.invariant c.loop-k-test.true (ap (λ (x : Float). le x c.loop-k.radius) (sym c.least-least.ensures) ∙ c.if-not-radius-least.false) _ c.rim_allowed.ensures c.if-rim_allowed.false

pub returns : goal.returns
returns c = radius-end c.args.s c.args.wall.now c.args.vs.now c.args.lens.now c.args.c _ _ _ c.loop-k.invariant c.loop-k-test.false
