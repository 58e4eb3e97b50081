-- A job as the theory of events has it, from what planning fixes: its judges are the tests that the code makes. Definitions only.
use Rattle.std.specs.Prelude.{List, ℕ, Float}
use Rattle.geom.specs.declared.vec2.Vec2.{Vec2}
use Rattle.setup.specs.Place.{allowed_at, free_at, contact_at}
use Rattle.setup.specs.Made.{widened}
use Rattle.setup.specs.declared.Setup.{Setup}
use Rattle.links.specs.Straight.{link_clear}
use Rattle.events.specs.Chunk.{Entry, Job}

abbrev pub job_at : Setup → List Float → List Float → List ℕ → List ℕ → Float → Entry → Job
job_at s wall vs lens start limit entry = record {
  grid = s.grid;
  start = start;
  r = s.r;
  guard = s.guard;
  limit = limit;
  keep_down = s.keep_down;
  allowed = allowed_at s wall vs lens;
  free = free_at s;
  contact = λ (m : List ℕ) (p : Vec2). contact_at s m p (widened s);
  link_clear = link_clear s wall vs lens;
  entry = entry;
}
