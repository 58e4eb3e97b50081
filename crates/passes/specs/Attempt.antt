-- A guide tried: `simulate`, then `undo`, and whether the pass was worth it, as `cut_piece` of adaptive.rs has it. Definitions only.
use Rattle.std.specs.Prelude.{ℕ, Bool, false, cond, List, Float}
use Rattle.std.proofs.Math.Option.{Option, none, some}
use Rattle.geom.specs.declared.vec2.Vec2.{Vec2}
use Rattle.setup.specs.declared.Setup.{Setup}
use Rattle.passes.specs.Simulate.{Pass, simulate_of}
use Rattle.passes.specs.Worth.{spots_from, worth_of}
use Rattle.passes.specs.declared.attempt.Attempt.{Attempt}
use Rattle.passes.specs.declared.attempt.Attempt.TheVariants.{Full, Worth, Nothing}

-- a guide tried: whether the triples of its pass do not fit, whether the pass is to be kept, its points, the cells that it removes, and the work
pub record Attempted : Type 0 where
  pub full : Bool
  pub worth : Bool
  pub points : ℕ
  pub removed : ℕ
  pub work : ℕ

abbrev pub att : Bool → Bool → ℕ → ℕ → ℕ → Attempted
att full worth points removed work = record { full = full; worth = worth; points = points; removed = removed; work = work }

-- the log that undoes the pass and clears it again, its triples, and the rest; the map is as it was
pub record Outcome : Type 0 where
  pub log : List ℕ
  pub out : List Float
  pub attempt : Attempted

abbrev pub oc : List ℕ → List Float → Attempted → Outcome
oc l o a = record { log = l; out = o; attempt = a }

-- what is answered of it: nothing of a pass that is not to be kept but its work
unfoldable pub answer_of : Attempted → Attempt
answer_of a = cond a.full Full (cond a.worth (Worth a.points a.removed a.work) (Nothing a.work))

pub record Answered : Type 0 where
  pub log : List ℕ
  pub out : List Float
  pub answer : Attempt

abbrev pub ans : List ℕ → List Float → Attempt → Answered
ans l o a = record { log = l; out = o; answer = a }

unfoldable pub answered : Outcome → Answered
answered c = ans c.log c.out (answer_of c.attempt)

unfoldable pub judged_by : Float → ℕ → Pass → Outcome
judged_by cell kept p =
    let t = p.trial in
    oc p.log p.out (att t.full (cond t.full false (worth_of cell (spots_from p.out kept t.points) t.removed)) t.points t.removed t.work)

unfoldable pub outcome_of : Setup → (Vec2 → Bool) → List Vec2 → ℕ → List ℕ → List ℕ → List Float → Outcome
outcome_of s allowed pts kept m l o = judged_by s.grid.cell kept (simulate_of s allowed pts kept m l o)

-- a start without a guide that serves is nothing tried
unfoldable pub start_by : Setup → (Vec2 → Bool) → Option (List Vec2) → ℕ → List ℕ → List ℕ → List Float → Outcome
start_by s allowed none kept m l o = oc l o (att false false 0 0 0)
start_by s allowed (some pts) kept m l o = outcome_of s allowed pts kept m l o
