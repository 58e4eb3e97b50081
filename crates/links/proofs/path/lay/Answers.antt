-- `links::path::lay` meets its contract. Assumes nothing.
use mathlib.Core.Path.{refl, sym, ap, ◌∙◌}
use native.Mathlib.Omega.{arith}
use lib.ListN.{length}
use borrow.Author.Tests.{eqb-true, eqb-false}
use Rattle.geom.proofs.PointLaws.{put-length}
use Rattle.links.proofs.LatticeLaws.{nodes_pos}
use Rattle.links.proofs.LayLaws.{laying_none, laying_all, laying_stop, laying_start, laying_end, laying_more}
use Rattle.links.proofs.path.lay.Goals as goal

pub returns-then-eq : goal.returns-then-eq
returns-then-eq c = let i = c.loop-k.invariant in record { ps_after = laying_stop _ c.args.net.laid _ c.requires.befores _ _ _ _ i.0 (eqb-true _ _ (sym c.eq.ensures ∙ c.if-eq.true)) ∙ laying_all _ c.args.net.laid _ c.requires.befores _ c.args.ps.now _ c.requires.l_in_bounds _ c.nodes-last.ensures c.put.ensures _ c.from.ensures _ c.node_in-v.ensures; upper_bound = i.0.low; ps_len_unchanged = i.1 ∙ ap length c.put.ensures ∙ put-length _ _ _ }

pub returns-then-eq-2 : goal.returns-then-eq-2
returns-then-eq-2 c = let i = c.loop-k.invariant in record { ps_after = laying_start _ c.args.net.laid _ c.requires.befores _ _ _ _ i.0 (eqb-false _ _ (sym c.eq.ensures ∙ c.if-eq.false)) (eqb-true _ _ (sym c.eq-in-loop-k.ensures ∙ c.if-eq-2.true)) ∙ laying_all _ c.args.net.laid _ c.requires.befores _ c.args.ps.now _ c.requires.l_in_bounds _ c.nodes-last.ensures c.put.ensures _ c.from.ensures _ c.node_in-v.ensures; upper_bound = i.0.low; ps_len_unchanged = i.1 ∙ ap length c.put.ensures ∙ put-length _ _ _ }

pub loop-k-preserved : goal.loop-k-preserved
loop-k-preserved c = let l = c.loop-k in (laying_more _ c.args.net.laid _ c.requires.befores _ _ _ _ l.invariant.0 c.loop-k-test.true (eqb-false _ _ (sym c.eq.ensures ∙ c.if-eq.false)) (eqb-false _ _ (sym c.eq-in-loop-k.ensures ∙ c.if-eq-2.false)) _ c.centre.ensures _ c.put-in-loop-k.ensures _ c.from-in-loop-k.ensures _ c.node_in-v-in-loop-k.ensures, ap length c.put-in-loop-k.ensures ∙ put-length _ _ l.ps ∙ l.invariant.1)

pub returns : goal.returns
returns c = let i = c.loop-k.invariant in record { ps_after = laying_end _ c.args.net.laid _ c.requires.befores _ _ _ _ i.0 c.loop-k-test.false ∙ laying_all _ c.args.net.laid _ c.requires.befores _ c.args.ps.now _ c.requires.l_in_bounds _ c.nodes-last.ensures c.put.ensures _ c.from.ensures _ c.node_in-v.ensures; upper_bound = i.0.low; ps_len_unchanged = i.1 ∙ ap length c.put.ensures ∙ put-length _ _ _ }
