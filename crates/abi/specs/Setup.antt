-- A Setup of what the tests of a place read.
use Rattle.std.specs.Prelude.{ℕ, true, None, Float}
use Rattle.std.specs.Float.{binary64}
use Rattle.std.specs.Float.Ieee.{of_bits}
use Rattle.numbers.specs.declared.bound.Bound.{Bound}
use Rattle.numbers.proofs.BoundLaws.{bounds-none}
use Rattle.geom.specs.declared.region.Region.{Region}
use Rattle.raster.specs.declared.grid.Grid.{Grid}
use Rattle.setup.specs.declared.Setup.{Setup}

-- a number that no bound was found for
abbrev pub loose : Float → Bound
loose r = record { r = r; below = None; bounds = bounds-none r }

abbrev pub placed : Grid → Region → Float → Bound → ℕ → Setup
placed g region r keep samples = record {
  grid = g;
  region = region;
  r = r;
  r_guard = of_bits binary64 0;
  keep = keep;
  target = of_bits binary64 0;
  guard = of_bits binary64 0;
  samples = samples;
  keep_down = true;
}

-- the answers do not look at the bound
abbrev pub plain : Grid → Region → Float → Float → ℕ → Setup
plain g region r keep samples = placed g region r (loose keep) samples

-- a Setup of what the field reads
abbrev pub sensing : Grid → Float → Float → ℕ → Setup
sensing g r target samples = record {
  grid = g;
  region = record { at = 0; first = 0; loops = 0 };
  r = r;
  r_guard = of_bits binary64 0;
  keep = loose (of_bits binary64 0);
  target = target;
  guard = of_bits binary64 0;
  samples = samples;
  keep_down = true;
}
