-- `abi::of_distance::distance_limit` meets its contract. Assumes nothing.
use mathlib.Core.Path.{ap, ◌∙◌, sym}
use native.Mathlib.Omega.{arith}
use Rattle.distance.specs.Limits.{passes_of}
use Rattle.distance.specs.declared.limits.Threshold.{Threshold}
use Rattle.abi.proofs.of_distance.distance_limit.Goals as goal

pub returns-in-Some : goal.returns-in-Some
returns-in-Some c = λ _ d h. sym (ap (λ (b : Threshold). passes_of b d) (c.of-l.ensures ∙ c.threshold.ensures)) ∙ (c.of-l.result.told _ c.in-Some.is).squares d h

pub returns-in-None : goal.returns-in-None
returns-in-None c = λ h. absurd (let z : ⊥ = omega arith in z)
