-- `field::band::first_of` meets its contract. Assumes nothing.
use Rattle.std.proofs.Common.{rules, ◌≡◌, ℕ, ◌<◌, get_or, eqb, false}
use Rattle.field.proofs.band.first_of.Goals as goal
use Rattle.field.proofs.band.first_of.Goals.{After-unwrap_or}

-- no mark is before the first
before : (c : After-unwrap_or) → (k : ℕ) → k < c.unwrap_or.result → eqb (get_or c.args.marks.now k 0) 1 ≡ false
before c k h = search rules

pub returns : goal.returns
returns c = (search rules, record { none = λ k a b. before (goal.at.returns c).After-unwrap_or k b })
