-- `helix::radius::rim_allowed` meets its contract. Assumes nothing.
use mathlib.Core.Path.{ap, ◌∙◌}
use mathlib.Core.Bool.{not}
use Rattle.loops.proofs.LoopLaws.{going_none, any-on, any_out, any_none}
use Rattle.helix.proofs.RadiusLaws.{blocked-is}
use Rattle.helix.proofs.radius.rim_allowed.Goals as goal

pub loop-k-init : goal.loop-k-init
loop-k-init c = going_none _ _ _ _

pub allowed_at-requires : goal.allowed_at-requires
allowed_at-requires c = c.requires

pub returns-then-not-allowed_at : goal.returns-then-not-allowed_at
returns-then-not-allowed_at c = ap not (any_out _ 0 36 _ c.loop-k.invariant c.loop-k-test.true (blocked-is c.args.s c.args.wall.now c.args.vs.now c.args.lens.now c.args.c _ _ _ c.rim_point-p.ensures _ c.allowed_at.ensures ∙ (ap not c.if-not-allowed_at.true)))

pub loop-k-preserved : goal.loop-k-preserved
loop-k-preserved c = any-on _ 0 36 _ c.loop-k.invariant c.loop-k-test.true (blocked-is c.args.s c.args.wall.now c.args.vs.now c.args.lens.now c.args.c _ _ _ c.rim_point-p.ensures _ c.allowed_at.ensures ∙ (ap not c.if-not-allowed_at.false))

pub returns : goal.returns
returns c = ap not (any_none _ 0 36 _ c.loop-k.invariant c.loop-k-test.false)
