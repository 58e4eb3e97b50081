-- `bench_talk::line` meets its contract. Assumes nothing.
use Rattle.bench_talk.proofs.HearLaws.{hears_line, answer_heard}
use Rattle.std.proofs.Common.{refl}
use Rattle.bench_talk.proofs.line.Goals as goal

pub returns-clause-hears : goal.returns-clause-hears
returns-clause-hears c = λ h H. hears_line _ _ _ h H c.line_end-answer.result _ _ c.line_end-answer.ensures.log_after _ _ _ c.begin.ensures refl c.is_none.ensures

pub returns-clause-answer : goal.returns-clause-answer
returns-clause-answer c = λ h H. answer_heard _ _ _ h H c.line_end-answer.result _ _ c.line_end-answer.ensures.log_after
