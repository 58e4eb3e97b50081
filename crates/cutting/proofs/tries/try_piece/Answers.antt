-- `cutting::tries::try_piece` meets its contract. Assumes nothing.
use mathlib.Core.Path.{refl}
use native.Mathlib.Omega.{arith}
use Rattle.cutting.proofs.TriesLaws.{piece_in, starts_few, trying_none, start_asks, try_asks, trying_more, done_full, done-worth, done-last}
use borrow.Author.Rules.{rules}
use Rattle.cutting.proofs.tries.try_piece.Goals as goal

pub first-near-requires : goal.first-near-requires
first-near-requires c = record { le_m = c.requires.among.some; m_in_bounds = piece_in _ _ _ _ _ c.requires.fitted _ _ c.requires.among }

pub loop-k-init : goal.loop-k-init
loop-k-init c = record { map-long = refl; log-long = refl; long = refl; out-long = refl; trying = λ pos N. trying_none _ _ _ _ _ _ _ _ _ _ _ _ c.requires.fitted c.requires.ready c.requires.among }

pub start_of-start-requires : goal.start_of-start-requires
start_of-start-requires c =
    let r = start_asks _ _ _ _ _ c.requires.fitted _ _ c.requires.among c.args.closed _ _ c.first-near.ensures _ (omega (arith, c.loop-k-test.true, c.starts-end.ensures)) in
    record { near_lt_n = r.0; n_bound = r.1.0; k_bound = r.1.1 }

pub try_from-t-requires : goal.try_from-t-requires
try_from-t-requires c =
    let r = try_asks _ _ _ _ _ _ _ _ _ _ _ _ c.requires.fitted c.requires.ready c.requires.among _ c.first-near.ensures _ _ _ _ _ _ (c.loop-k.invariant.trying _ c.first-near.ensures) (omega (arith, c.loop-k-test.true, c.starts-end.ensures)) _ c.start_of-start.ensures in
    record { fitted = r.0; ready = r.1.0; among = r.1.1.0; closed_bound = r.1.1.1 }

pub returns-in-Full : goal.returns-in-Full
returns-in-Full c =
    let r = done_full _ _ _ _ _ _ _ _ _ _ _ _ c.requires.fitted c.requires.ready c.requires.among _ c.first-near.ensures _ _ _ _ _ _ (c.loop-k.invariant.trying _ c.first-near.ensures) (omega (arith, c.loop-k-test.true, c.starts-end.ensures)) _ c.start_of-start.ensures _ _ _ _ _ c.try_from-t.ensures.map_unchanged c.try_from-t.ensures.only c.try_from-t.ensures.result_after c.in-Full.is in
    record { map_unchanged = r.0; only = r.1.0; result_after = r.1.1 }

pub returns-in-Worth : goal.returns-in-Worth
returns-in-Worth c =
    let r = done-worth _ _ _ _ _ _ _ _ _ _ _ _ c.requires.fitted c.requires.ready c.requires.among _ c.first-near.ensures _ _ _ _ _ _ (c.loop-k.invariant.trying _ c.first-near.ensures) (omega (arith, c.loop-k-test.true, c.starts-end.ensures)) _ c.start_of-start.ensures _ _ _ _ _ c.try_from-t.ensures.map_unchanged c.try_from-t.ensures.only c.try_from-t.ensures.result_after _ _ _ c.in-Worth.is _ c.sat_add.ensures in
    record { map_unchanged = r.0; only = r.1.0; result_after = r.1.1 }

pub overflow_step-k : goal.overflow_step-k
overflow_step-k c = omega (arith, c.loop-k-test.true, c.starts-end.ensures, starts_few c.args.closed)

pub loop-k-smaller : goal.loop-k-smaller
loop-k-smaller c = omega (arith, c.loop-k-test.true)

pub loop-k-preserved : goal.loop-k-preserved
loop-k-preserved c = record { map-long = search rules; log-long = search rules; long = search rules; out-long = search rules; trying = λ pos N. trying_more _ _ _ _ _ _ _ _ _ _ _ _ c.requires.fitted c.requires.ready c.requires.among _ N _ _ _ _ _ _ (c.loop-k.invariant.trying pos N) (omega (arith, c.loop-k-test.true, c.starts-end.ensures)) _ c.start_of-start.ensures _ _ _ _ _ c.try_from-t.ensures.map_unchanged c.try_from-t.ensures.only c.try_from-t.ensures.result_after _ c.in-Nothing.is _ c.sat_add-work.ensures }

pub returns : goal.returns
returns c =
    let r = done-last _ _ _ _ _ _ _ _ _ _ _ _ c.requires.fitted c.requires.ready c.requires.among _ c.first-near.ensures _ _ _ _ _ _ (c.loop-k.invariant.trying _ c.first-near.ensures) (omega (arith, c.loop-k-test.false, c.starts-end.ensures)) in
    record { map_unchanged = r.0; only = r.1.0; result_after = r.1.1 }
