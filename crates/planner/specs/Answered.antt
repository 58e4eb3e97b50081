-- Term 3 of a job that is accepted. Definitions only.
use Rattle.std.specs.Prelude.{length, take, Ok, Err}
use Rattle.events.specs.Chunk.{Job as EventJob}
use Rattle.events.specs.Told.{Finished}
use Rattle.setup.specs.Place.{cells_of}
use Rattle.report.specs.Report.{told_of}
use Rattle.report.specs.Zero.{Lent}
use Rattle.plan.specs.Job.{job_in}
use Rattle.plan.specs.Rounds.{End}
use Rattle.planner.specs.Planner.{Job, Answer, setup_for, start_of, limit_of, ground_of, plan_for, used_of, threes}

-- the job as the theory of events has it, from parameters and regions alone
abbrev pub event_job : Job → EventJob
event_job j = job_in (ground_of j) (start_of j) (limit_of j)

-- the plan that a job comes to where so much is lent
abbrev pub plan_in : Job → Lent → End
plan_in j l = plan_for j (threes (length l.rows)) (threes (length l.triples))

-- of what was lent, l, came o. Of an accepted plan: the events of the plan, the report, the first bytes as the map, and rows and triples as they are handed back
-- make a finished plan (events, specs/Told.antt)
abbrev pub AnswerTold : Job → Lent → Lent → Answer → Type 0
AnswerTold j l o (Err n) = Unit {0}
AnswerTold j l o (Ok r) =
    Finished (event_job j) (plan_in j l).events (told_of r) (take (cells_of (setup_for j)) o.bytes) (used_of (cells_of (setup_for j)) (plan_in j l).left.answer (Ok r)).rows o.rows o.triples
