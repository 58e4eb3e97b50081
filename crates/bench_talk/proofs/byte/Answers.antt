-- `bench_talk::byte` meets its contract. Assumes nothing.
use Rattle.std.proofs.Common.{IfOk, OnErr}
use Rattle.bench_lines.specs.Reader.{Heard}
use Rattle.bench_talk.specs.Hears.{Hears, Left}
use Rattle.bench_talk.proofs.HearLaws.{hears_ended, hears_feed, hears_byte}
use Rattle.bench_talk.proofs.byte.Goals as goal

pub returns-then-t-clause-hears : goal.returns-then-t-clause-hears
returns-then-t-clause-hears g c = λ h H. hears_ended _ _ _ h H _ c.if-t.true

pub returns-then-c-eq10-clause-hears : goal.returns-then-c-eq10-clause-hears
returns-then-c-eq10-clause-hears g c =
    let a = c.answered in
    λ h H. hears_feed _ _ _ h H c.if-t.false (λ (k : Heard). IfOk a.result (λ r. Hears r a.new.map a.new.log k)) _ c.if-c-eq10.true (a.ensures.hears h H)

pub returns-then-c-eq10-clause-left : goal.returns-then-c-eq10-clause-left
returns-then-c-eq10-clause-left g c =
    let a = c.answered in
    λ h H. hears_feed _ _ _ h H c.if-t.false (λ (k : Heard). OnErr a.result (Left a.new.map a.new.log k)) _ c.if-c-eq10.true (a.ensures.left h H)

pub returns-clause-hears : goal.returns-clause-hears
returns-clause-hears g c = λ h H. hears_byte _ _ _ h H c.if-t.false _ _ c.if-c-eq10.false c.step.ensures
