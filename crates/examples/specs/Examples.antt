-- The job of an example, and its answer. Definitions only.
use Rattle.std.specs.Prelude.{ℕ, ◌+◌, ◌%◌, ◌^◌, Bool, true, [], ◌∷◌, replicate}
use Rattle.std.specs.Float.{binary64}
use Rattle.std.specs.Float.Ieee.{mul, eq}
use Rattle.numbers.specs.Circle.{radians_of}
use Rattle.numbers.specs.Small.{half}
use Rattle.geom.specs.Vec.{f0}
use Rattle.setup.specs.Limits.{guard_of}
use Rattle.field.specs.Field.{s0}
use Rattle.entry.specs.Questions.{cell_of}
use Rattle.entry.specs.declared.params.AdaptiveParams.{AdaptiveParams}
use Rattle.report.specs.Zero.{Lent, lent}
use Rattle.report.specs.declared.report.AdaptiveReport.{AdaptiveReport}
use Rattle.planner.specs.Planner.{Job, job, Answer, outcome_of}

-- a pocket of three equal vertices, all of it stock
abbrev pub job_of : AdaptiveParams → Job
job_of p = job p true (replicate 6 f0) (3 ∷ []) (1 ∷ [])

-- what its raster of 25 cells needs, a row and a triple
abbrev pub enough : Lent
enough = lent (replicate 200 0) (replicate 8992 0) (replicate 50 s0) (replicate 8992 f0) (replicate 3 0) (replicate 3 f0)

unfoldable pub answer_to : AdaptiveParams → Answer
answer_to p = (outcome_of (job_of p) enough).answer

-- links, plunges, cuts and helices; added as u64
unfoldable pub chunks_of : AdaptiveReport → ℕ
chunks_of r = ((r.links + r.retracts) % 2 ^ 64 + (r.passes + r.helix_entries) % 2 ^ 64) % 2 ^ 64

-- the guard is half the limit
unfoldable pub guard_half : AdaptiveParams → Bool
guard_half p = let limit = radians_of p.max_engagement_deg in eq (guard_of limit (cell_of p) (mul binary64 p.tool_diameter half)) (mul binary64 limit half)
