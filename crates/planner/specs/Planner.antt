-- `adaptive_clear` of adaptive.rs, without tool paths and texts: a job and two lengths settle the plan, the report, and what every lent slice holds afterwards.
-- Definitions only.
use Rattle.std.specs.Prelude.{ℕ, ◌*◌, ◌/◌, min, Bool, cond, ◌&&◌, List, length, replicate, eqb, ltb, Float, Result, Ok, Err}
use Rattle.loops.specs.Cells.{ones}
use Rattle.geom.specs.Vec.{f0}
use Rattle.numbers.specs.Circle.{radians_of}
use Rattle.raster.specs.declared.grid.Grid.{Grid}
use Rattle.field.specs.Field.{s0}
use Rattle.setup.specs.Made.{setup_of}
use Rattle.setup.specs.Place.{cells_of}
use Rattle.setup.specs.declared.Setup.{Setup}
use Rattle.cutting.specs.Listing.{number_of as full_number, most_listed}
use Rattle.entry.specs.Regions.{pocket_of}
use Rattle.entry.specs.Questions.{helix_of, job_grid, number_of as question_number, judged_of}
use Rattle.entry.specs.declared.params.AdaptiveParams.{AdaptiveParams}
use Rattle.entry.specs.declared.judge.Lengths.{Lengths}
use Rattle.entry.specs.declared.questions.Question.{Question}
use Rattle.start.specs.Start.{stock_of, walls_in, may_in, reach_of}
use Rattle.report.specs.Report.{report_of}
use Rattle.report.specs.Zero.{Lent, used, cleared_to}
use Rattle.report.specs.declared.clear.Used.{Used}
use Rattle.report.specs.declared.report.Finish.{Finish}
use Rattle.report.specs.declared.report.AdaptiveReport.{AdaptiveReport}
use Rattle.plan.specs.Parts.{Ground, Slices, slices}
use Rattle.plan.specs.Rounds.{End, Ended, plan_of}
use Rattle.planner.specs.declared.outcome.Refusal.{Refusal}
use Rattle.planner.specs.declared.outcome.Refusal.TheVariants.{No, NoRoom, Unentered}

-- ---- a job

-- the parameters, and the pocket and stock regions as they are lent; `whole`: there is no list of stock regions
pub record Job : Type 0 where
  pub params : AdaptiveParams
  pub whole : Bool
  pub vs : List Float
  pub lens : List ℕ
  pub regions : List ℕ

abbrev pub job : AdaptiveParams → Bool → List Float → List ℕ → List ℕ → Job
job p whole vs lens regions = record { params = p; whole = whole; vs = vs; lens = lens; regions = regions }

module _ (j : Job) where
  abbrev pub grid_of : Grid
  grid_of = job_grid j.params j.vs j.lens j.regions

  abbrev pub setup_for : Setup
  setup_for = let p = j.params in setup_of grid_of (pocket_of j.lens j.regions) p.tool_diameter p.stock_to_leave p.max_engagement_deg p.keep_tool_down

  abbrev pub limit_of : Float
  limit_of = radians_of j.params.max_engagement_deg

  abbrev pub start_of : List ℕ
  start_of = stock_of j.whole grid_of j.vs j.lens j.regions

  -- what Planner::new fixes
  unfoldable pub ground_of : Ground
  ground_of = record {
    setup = setup_for;
    wall = walls_in setup_for j.vs j.lens j.regions;
    vs = j.vs;
    lens = j.lens;
    allowed = may_in setup_for j.vs j.lens j.regions;
    reach = reach_of setup_for start_of (may_in setup_for j.vs j.lens j.regions);
    pref = helix_of j.params;
  }

  abbrev zeros : List ℕ
  zeros = replicate (cells_of setup_for) 0

  -- the starting stock, and zeros
  unfoldable pub slices_of : ℕ → ℕ → Slices
  slices_of rows triples = slices start_of zeros zeros zeros (replicate (cells_of setup_for) s0) (replicate (3 * rows) 0) (replicate (3 * triples) f0)

  -- the plan of a job, with so many rows and triples lent
  unfoldable pub plan_for : ℕ → ℕ → End
  plan_for rows triples = plan_of ground_of (slices_of rows triples)

-- ---- its answer

abbrev pub finish : AdaptiveParams → ℕ → ℕ → Bool → Finish
finish p starting given spent = record { top = p.top; bottom = p.bottom; step_down = p.step_down; starting = starting; given_up = given; spent = spent }

-- 18. Is the chunk list non-empty, or the starting stock empty?
unfoldable pub unentered : ℕ → ℕ → Bool
unentered rows starting = eqb rows 0 && ltb 0 starting

-- document 01's number of a refusal
unfoldable pub refusal_number : Refusal → ℕ
refusal_number (No q) = question_number q
refusal_number (NoRoom f) = full_number f
refusal_number Unentered = 18

-- the report of the plan, or why there is none
abbrev pub Answer : Type 0
Answer = Result AdaptiveReport Refusal

-- 16 and 17 as planning met them, 18 by count, else the report
unfoldable pub answer_by : AdaptiveParams → Float → ℕ → List ℕ → List ℕ → List ℕ → List Float → Ended → Answer
answer_by p cell starting reach m rows triples (Ok (q, spent)) =
    cond (unentered q.state.rows starting) (Err Unentered) (Ok (report_of cell (finish p starting q.given spent) q.state m reach rows triples))
answer_by p cell starting reach m rows triples (Err f) = Err (NoRoom f)

-- ---- what is lent, and what it then holds

pub record Outcome : Type 0 where
  pub lent : Lent
  pub answer : Answer

abbrev pub outcome : Lent → Answer → Outcome
outcome l a = record { lent = l; answer = a }

-- what stays of a plan: the map's cells, the listed rows and triples; after a refusal nothing
unfoldable pub used_of : ℕ → Ended → Answer → Used
used_of n e (Err k) = used 0 0 0
used_of n (Err f) (Ok r) = used 0 0 0
used_of n (Ok (q, spent)) (Ok r) = used n q.state.rows q.state.triples

-- planned over the ground g from the slices h, in what is lent
unfoldable pub planned_by : AdaptiveParams → Ground → Slices → Lent → Outcome
planned_by p g h l =
    let e = (plan_of g h).left in
    let k = e.slices in
    let a = answer_by p g.setup.grid.cell (ones h.map) g.reach k.map k.rows k.out e.answer in
    outcome (cleared_to (used_of (cells_of g.setup) e.answer a) k.map k.rows k.out l) a

-- how many rows or triples a slice of n numbers has; a row's numbers are u32, so that no more than that can be named
unfoldable pub threes : ℕ → ℕ
threes n = min (n / 3) most_listed

unfoldable pub planned_of : Job → Lent → Outcome
planned_of j l = planned_by j.params (ground_of j) (slices_of j (threes (length l.rows)) (threes (length l.triples))) l

abbrev pub lengths_of : Lent → Lengths
lengths_of l = record { bytes = length l.bytes; words = length l.words; singles = length l.singles; doubles = length l.doubles }

-- 1 to 15 change nothing
unfoldable pub outcome_by : Job → Lent → Result Grid Question → Outcome
outcome_by j l (Err q) = outcome l (Err (No q))
outcome_by j l (Ok g) = planned_of j l

unfoldable pub outcome_of : Job → Lent → Outcome
outcome_of j l = outcome_by j l (judged_of j.params j.whole j.vs j.lens j.regions (lengths_of l))
