-- The job, as the theory of events has it, that a plan over a ground is about. Definitions only.
use Rattle.std.specs.Prelude.{List, ℕ, Float}
use Rattle.events.specs.Chunk.{Job}
use Rattle.passes.specs.Tried.{job_at}
use Rattle.helix.specs.Search.{entry_of}
use Rattle.plan.specs.Parts.{Ground}

-- with the starting stock and the set limit
abbrev pub job_in : Ground → List ℕ → Float → Job
job_in g start limit = job_at g.setup g.wall g.vs g.lens start limit (entry_of g.setup g.wall g.allowed g.reach g.pref)
