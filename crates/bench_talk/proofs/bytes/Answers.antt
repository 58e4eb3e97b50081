-- `bench_talk::bytes` meets its contract. Assumes nothing.
use Rattle.std.proofs.Common.{Result, Ok, Err, OnErr, ◌+◌, ◌≤◌, max, length, subst, arith}
use Rattle.loops.proofs.LoopLaws.{loop-none, loop_more, loop-end}
use Rattle.bench_lines.specs.Reader.{heard_at, heard_of}
use Rattle.bench_talk.specs.Hears.{Hears, Left}
use Rattle.bench_talk.proofs.bytes.Goals as goal

on-err : {T E P : Type 0} (r : Result T E) → P → OnErr r P
on-err (Ok x) p = tt
on-err (Err e) p = p

pub loop-c-init : goal.loop-c-init
loop-c-init g c = (c.requires, λ h H. subst (Hears _ _ _) (loop-none (heard_at c.args.read.now) 0 h) H)

pub returns-in_err-t-clause-left : goal.returns-in_err-t-clause-left
returns-in_err-t-clause-left g c = let l = c.loop-c in
    let read = c.args.read.now in
    λ h H. on-err c.from_residual.result (record {
      count = l.c-index + 1;
      within = omega arith;
      left = subst (Left _ _) (loop_more (heard_at read) 0 l.c-index h (omega arith)) (c.in_err-t.ensures.left _ (l.invariant.1 h H));
    })

pub loop-c-preserved : goal.loop-c-preserved
loop-c-preserved g c = let l = c.loop-c in
    let read = c.args.read.now in (
      c.in_ok-t.ensures.fit,
      λ h H. subst (Hears _ _ _) (loop_more (heard_at read) 0 l.c-index h (omega arith)) (c.in_ok-t.ensures.hears _ (l.invariant.1 h H)),
    )

pub returns-clause-hears : goal.returns-clause-hears
unfolding heard_of
returns-clause-hears g c =
    let read = c.args.read.now in
    let i = c.loop-c.c-index in
    let high : i ≤ max 0 (length read) = omega arith in
    λ h H. subst (Hears _ _ _) (loop-end (heard_at read) 0 i (length read) h (omega arith) (omega arith) high) (c.loop-c.invariant.1 h H)
