-- `filling::centres::rises` meets its contract. Assumes nothing.
use Rattle.std.proofs.Common.{rules, ◌≡◌, ℕ, ◌+◌, ◌<◌, true, length, get_or}
use Rattle.std.specs.Float.{nan}
use Rattle.std.specs.Float.Ieee.{le}
use Rattle.filling.proofs.CentreLaws.{rising-steps}
use Rattle.filling.proofs.centres.rises.Goals as goal
use Rattle.filling.proofs.centres.rises.Goals.{After-all}

-- no column is left of the one before it
told : (c : After-all) → c.all.result ≡ true → (k : ℕ) → k + 1 < length c.args.xs.now → le (get_or c.args.xs.now k nan) (get_or c.args.xs.now (k + 1) nan) ≡ true
told c e k h = search rules

pub returns : goal.returns
returns c = λ e. rising-steps _ (told (goal.at.returns c).After-all e)
