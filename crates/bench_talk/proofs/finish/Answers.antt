-- `bench_talk::finish` meets its contract. Assumes nothing.
use Rattle.std.proofs.Common.{IfOk, OnErr}
use Rattle.bench_lines.specs.Reader.{Heard}
use Rattle.bench_talk.specs.Hears.{Hears, Left}
use Rattle.bench_talk.proofs.HearLaws.{hears_end, hears_rest, hears_no_rest}
use Rattle.bench_talk.proofs.finish.Goals as goal

pub returns-then-t-clause-hears : goal.returns-then-t-clause-hears
returns-then-t-clause-hears g c = λ h H. hears_end _ _ _ h H c.if-t.true

pub returns-then-t-2-clause-hears : goal.returns-then-t-2-clause-hears
returns-then-t-2-clause-hears g c =
    let a = c.answered in
    λ h H. hears_rest _ _ _ h H c.if-t.false (λ (k : Heard). IfOk a.result (λ r. Hears r a.new.map a.new.log k)) c.if-t-2.true (a.ensures.hears h H)

pub returns-then-t-2-clause-left : goal.returns-then-t-2-clause-left
returns-then-t-2-clause-left g c =
    let a = c.answered in
    λ h H. hears_rest _ _ _ h H c.if-t.false (λ (k : Heard). OnErr a.result (Left a.new.map a.new.log k)) c.if-t-2.true (a.ensures.left h H)

pub returns-clause-hears : goal.returns-clause-hears
returns-clause-hears g c = λ h H. hears_no_rest _ _ _ h H c.if-t.false c.if-t-2.false
