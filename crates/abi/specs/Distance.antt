-- A threshold by its numbers. Definitions only.
use Rattle.std.specs.Prelude.{Bool, cond, Float, Some, None}
use Rattle.distance.specs.declared.limits.Threshold.{Threshold}

abbrev pub threshold : Bool → Float → Bool → Float → Threshold
threshold scaled scale strict x = record { scale = cond scaled (Some scale) None; strict = strict; x = x }
