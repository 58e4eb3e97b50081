-- `flood::flood::flood_on` meets its contract. Assumes nothing.
use mathlib.Core.Path.{refl}
use native.Mathlib.Omega.{arith}
use borrow.Author.Rules.{rules}
use Rattle.flood.proofs.FloodLaws.{flooding_none, flooding_asks, flooding_more, flooding_out, flooding_end, flooding_long}
use Rattle.flood.proofs.flood.flood_on.Goals as goal

pub loop-t-init : goal.loop-t-init
loop-t-init c = (refl, flooding_none c.args.g c.requires.sides c.args.b.now c.requires.nx_in_bounds _ c.requires.stack_bound c.args.stack.now refl)

pub returns-then-len-eq0 : goal.returns-then-len-eq0
returns-then-len-eq0 c = flooding_out c.args.g c.requires.sides c.args.b.now c.requires.nx_in_bounds _ c.requires.stack_bound c.loop-t.b c.loop-t.stack c.loop-t.len c.loop-t.t c.loop-t.invariant.1 c.loop-t-test.true c.if-len-eq0.true

pub visit-len-requires : goal.visit-len-requires
visit-len-requires c = let r = flooding_asks c.args.g c.requires.sides c.args.b.now c.requires.nx_in_bounds _ c.requires.stack_bound c.loop-t.b c.loop-t.stack c.loop-t.len c.loop-t.t c.loop-t.invariant.1 (let z = c.if-len-eq0.false in omega arith) (omega (arith, c.loop-t.invariant.0, c.requires.nx_in_bounds_2)) in record { sides = c.requires.sides; nx_in_bounds = omega (arith, flooding_long c.args.g c.requires.sides c.args.b.now c.requires.nx_in_bounds _ c.requires.stack_bound c.loop-t.b c.loop-t.stack c.loop-t.len c.loop-t.t c.loop-t.invariant.1, c.requires.nx_in_bounds); len_in_bounds = r.0; len_bound = r.1 }

pub loop-t-preserved : goal.loop-t-preserved
loop-t-preserved c = (search rules, flooding_more c.args.g c.requires.sides c.args.b.now c.requires.nx_in_bounds _ c.requires.stack_bound c.loop-t.b c.loop-t.stack c.loop-t.len c.loop-t.t c.loop-t.invariant.1 c.loop-t-test.true (let z = c.if-len-eq0.false in omega arith) _ _ _ c.visit-len.ensures.b_after c.visit-len.ensures.only)

pub returns : goal.returns
returns c = flooding_end c.args.g c.requires.sides c.args.b.now c.requires.nx_in_bounds _ c.requires.stack_bound c.loop-t.b c.loop-t.stack c.loop-t.len c.loop-t.t c.loop-t.invariant.1 c.loop-t-test.false
