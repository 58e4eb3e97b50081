-- `links::search::Seeker::run` meets its contract. The invariant: i turns are done. Assumes nothing.
use mathlib.Core.Path.{◌∙◌}
use native.Mathlib.Omega.{arith}
use Rattle.links.proofs.LatticeLaws.{nodes-most}
use Rattle.links.proofs.SeekLaws.{seeking_none, seeking_sound, seeking_more, seeking_out, seeking_end}
use Rattle.links.proofs.search.Seeker.run.Goals as goal

pub loop-i-init : goal.loop-i-init
loop-i-init c = seeking_none _ c.args.self.now.allowed.now _ _ c.requires.searching

pub step-t-requires : goal.step-t-requires
step-t-requires c = let l = c.loop-i in record { searching = l.invariant.searching; sound = seeking_sound _ c.args.self.now.allowed.now _ _ c.requires.searching c.args.self.now.net.laid c.requires.costs_value _ _ _ _ l.invariant; m_bound = l.invariant.few; i_bound = omega (arith, c.loop-i-test.true, c.nodes-i-end.ensures) }

pub returns-in-Out : goal.returns-in-Out
returns-in-Out c = let l = c.loop-i in
    let r = seeking_out _ c.args.self.now.allowed.now _ _ c.requires.searching c.args.self.now.net.laid c.requires.costs_value _ _ _ _ l.invariant _ c.nodes-i-end.ensures c.loop-i-test.true _ _ _ c.step-t.ensures.costs_after c.step-t.ensures.turned _ c.in-Out.is in
    record { u_after = r.0; only = r.1.0; costs_len_unchanged = r.1.1 }

pub loop-i-preserved : goal.loop-i-preserved
loop-i-preserved c = let l = c.loop-i in seeking_more _ c.args.self.now.allowed.now _ _ c.requires.searching c.args.self.now.net.laid c.requires.costs_value _ _ _ _ l.invariant _ c.nodes-i-end.ensures c.loop-i-test.true _ _ _ c.step-t.ensures.costs_after c.step-t.ensures.turned _ c.in-On.is

pub returns : goal.returns
returns c = let l = c.loop-i in
    let r = seeking_end _ c.args.self.now.allowed.now _ _ c.requires.searching c.args.self.now.net.laid c.requires.costs_value _ _ _ _ l.invariant _ c.nodes-i-end.ensures c.loop-i-test.false in
    record { u_after = r.0; only = r.1.0; costs_len_unchanged = r.1.1 }
