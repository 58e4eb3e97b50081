-- What is known of a job before it is planned: its raster, how contact is measured, the guard below the limit, and how long the maps are that it begins with.
-- Assumes nothing.
use mathlib.Core.Path.{◌≡◌, refl, ap, subst}
use mathlib.Core.Bool.{Bool, true}
use mathlib.Core.List.{List}
use Prim.Native.Nat.{ℕ, ◌*◌, ◌≤◌, ◌^◌}
use native.Mathlib.Omega.{arith}
use lib.ListN.{length, replicate}
use lib.Ieee.{Float, lt}
use Rattle.raster.specs.Grid.{Sides}
use Rattle.raster.specs.declared.grid.Grid.{Grid}
use Rattle.setup.specs.Layout.{Lent}
use Rattle.setup.specs.Made.{setup_of, Measured}
use Rattle.setup.specs.Place.{cells_of}
use Rattle.setup.proofs.MadeLaws.{made_samples, made_guard, made_measured}
use Rattle.events.specs.Events.{zeros, Fit}
use Rattle.entry.specs.Admitted.{Admitted}
use Rattle.entry.specs.Regions.{pocket_of}
use Rattle.entry.specs.declared.params.AdaptiveParams.{AdaptiveParams}
use Rattle.entry.specs.declared.judge.Lengths.{Lengths}
use Rattle.start.proofs.StockLaws.{stock-long}
use Rattle.planner.specs.Planner.{Job, job, grid_of, setup_for, limit_of, start_of, ground_of}
use Rattle.planner.specs.Answered.{event_job}

module _ (p : AdaptiveParams) (whole : Bool) (vs : List Float) (lens regions : List ℕ) where
  abbrev the_job : Job
  the_job = job p whole vs lens regions

  -- ---- of any job

  pub job-grid : (setup_for the_job).grid ≡ grid_of the_job
  unfolding setup_of
  job-grid = refl

  pub job-region : (setup_for the_job).region ≡ pocket_of lens regions
  unfolding setup_of
  job-region = refl

  pub ground_setup : (ground_of the_job).setup ≡ setup_for the_job
  unfolding ground_of
  ground_setup = refl

  pub job-samples : (64 ≤ (setup_for the_job).samples) × ((setup_for the_job).samples ≤ 2048)
  job-samples = made_samples (grid_of the_job) (pocket_of lens regions) p.tool_diameter p.stock_to_leave p.max_engagement_deg p.keep_tool_down

  -- the starting stock is as long as the raster has cells
  pub start-long : length (start_of the_job) ≡ cells_of (setup_for the_job)
  unfolding setup_of
  start-long = stock-long (grid_of the_job) vs lens regions whole

  pub job-zeros : zeros (event_job the_job) ≡ replicate (cells_of (setup_for the_job)) 0
  job-zeros = ap (λ (n : ℕ). replicate n 0) start-long

  -- ---- of one that is admitted

  module _ (l : Lengths) (g : Grid) (A : Admitted p whole vs lens regions l g) where
    -- the set-up is made on the raster that was judged
    pub admitted_setup : setup_of g (pocket_of lens regions) p.tool_diameter p.stock_to_leave p.max_engagement_deg p.keep_tool_down ≡ setup_for the_job
    admitted_setup = ap (λ (q : Grid). setup_of q (pocket_of lens regions) p.tool_diameter p.stock_to_leave p.max_engagement_deg p.keep_tool_down) A.is

    pub admitted_sides : Sides (setup_for the_job).grid
    unfolding setup_of
    admitted_sides = subst Sides A.is A.sides

    pub admitted_lent : Lent (cells_of (setup_for the_job)) l.bytes l.words l.singles l.doubles
    unfolding setup_of
    admitted_lent = subst (λ (q : Grid). Lent (q.ny * q.nx) l.bytes l.words l.singles l.doubles) A.is A.lent

    pub admitted_measured : Measured (setup_for the_job)
    admitted_measured =
        made_measured (grid_of the_job) (pocket_of lens regions) p.tool_diameter p.stock_to_leave p.max_engagement_deg p.keep_tool_down A.low A.high

    pub admitted_guard : lt (setup_for the_job).guard (limit_of the_job) ≡ true
    admitted_guard = made_guard (grid_of the_job) (pocket_of lens regions) p.tool_diameter p.stock_to_leave p.max_engagement_deg p.keep_tool_down A.low A.high

    pub start_small : length (start_of the_job) ≤ 2 ^ 32
    start_small = omega (arith, start-long, admitted_sides.cells)

    pub admitted_fit : Fit (event_job the_job)
    unfolding ground_of
    admitted_fit = record { guard = admitted_guard; small = start_small }
