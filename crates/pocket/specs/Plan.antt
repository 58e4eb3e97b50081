-- The planner as C has it: parameters and answer as structs without an enum. Definitions only.
use Rattle.std.specs.Prelude.{ℕ, false, cond, Option, None, Some, Ok, Err, Float}
use Rattle.geom.specs.Vec.{f0}
use Rattle.entry.specs.declared.params.AdaptiveParams.{AdaptiveParams}
use Rattle.report.specs.declared.report.AdaptiveReport.{AdaptiveReport}
use Rattle.report.specs.Zero.{Lent}
use Rattle.planner.specs.Planner.{Answer, refusal_number, Outcome}
use Rattle.pocket.specs.declared.adaptive.PocketSetting.{PocketSetting}
use Rattle.pocket.specs.declared.adaptive.PocketParams.{PocketParams}
use Rattle.pocket.specs.declared.adaptive.PocketAnswer.{PocketAnswer}

unfoldable pub setting_of : PocketSetting → Option Float
setting_of s = cond s.given (Some s.value) None

unfoldable pub params_of : PocketParams → AdaptiveParams
params_of p = record {
  tool_diameter = p.tool_diameter;
  max_engagement_deg = p.max_engagement_deg;
  step_down = p.step_down;
  top = p.top;
  bottom = p.bottom;
  stock_to_leave = p.stock_to_leave;
  safe_z = p.safe_z;
  feed = p.feed;
  plunge_feed = p.plunge_feed;
  link_feed = p.link_feed;
  helix_ramp_deg = p.helix_ramp_deg;
  helix_radius = setting_of p.helix_radius;
  chip_thinning_max = setting_of p.chip_thinning_max;
  resolution = setting_of p.resolution;
  keep_tool_down = p.keep_tool_down;
}

-- what stands for the report of a refusal
unfoldable pub no_report : AdaptiveReport
no_report = record {
  layers = 0;
  passes = 0;
  helix_entries = 0;
  retracts = 0;
  links = 0;
  planned_max_engagement_deg = f0;
  removed_area = f0;
  remaining_reachable_area = f0;
  unreachable_area = f0;
  starting_cells = 0;
  standing_cells = 0;
  helix_given_up = 0;
  spent_budget = false;
  left_reachable = false;
}

abbrev pub answered : ℕ → AdaptiveReport → PocketAnswer
answered n r = record { refused = n; report = r }

-- document 01's number, or 0 and the report
unfoldable pub of_answer : Answer → PocketAnswer
of_answer (Err k) = answered (refusal_number k) no_report
of_answer (Ok r) = answered 0 r

-- what comes back: the six lent slices, and the answer
pub record Told : Type 0 where
  pub lent : Lent
  pub answer : PocketAnswer

abbrev pub told : Lent → PocketAnswer → Told
told l a = record { lent = l; answer = a }

abbrev pub told_of : Outcome → Told
told_of o = told o.lent (of_answer o.answer)
