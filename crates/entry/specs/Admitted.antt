-- What is known of a job whose questions 1 to 15 are all answered yes, as the layers above ask it. Definitions only.
use Rattle.std.specs.Prelude.{◌≡◌, Bool, true, List, ℕ, ◌*◌, Float}
use Rattle.std.specs.Float.{binary64}
use Rattle.std.specs.Float.Ieee.{div, lt, le}
use Rattle.numbers.specs.Small.{f1, f180, f1000, c01}
use Rattle.raster.specs.Grid.{Sides}
use Rattle.raster.specs.declared.grid.Grid.{Grid}
use Rattle.setup.specs.Layout.{Lent}
use Rattle.entry.specs.Regions.{AllHeld}
use Rattle.entry.specs.Questions.{f100, above_zero, absent_or, at_most1000, cell_of, job_grid}
use Rattle.entry.specs.declared.params.AdaptiveParams.{AdaptiveParams}
use Rattle.entry.specs.declared.judge.Lengths.{Lengths}

pub record Admitted (p : AdaptiveParams) (whole : Bool) (vs : List Float) (lens regions : List ℕ) (l : Lengths) (g : Grid) : Type 0 where
  pub is : g ≡ job_grid p vs lens regions
  pub sides : Sides g
  pub held : AllHeld vs lens regions
  pub lent : Lent (g.ny * g.nx) l.bytes l.words l.singles l.doubles
  -- the engagement: 1 to below 180 degrees
  pub low : le f1 p.max_engagement_deg ≡ true
  pub high : lt p.max_engagement_deg f180 ≡ true
  -- the diameter: 0.1 to 100
  pub thick : le c01 p.tool_diameter ≡ true
  pub thin : le p.tool_diameter f100 ≡ true
  -- the cell: a number above 0, at least a thousandth of the diameter
  pub cell : above_zero (cell_of p) ≡ true
  pub coarse : le (div binary64 p.tool_diameter f1000) (cell_of p) ≡ true
  -- the helix radius, where given: above 0, at most 1,000
  pub turning : absent_or above_zero p.helix_radius ≡ true
  pub short : absent_or at_most1000 p.helix_radius ≡ true
