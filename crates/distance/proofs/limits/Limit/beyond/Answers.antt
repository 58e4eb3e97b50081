-- `distance::limits::Limit::beyond` meets its contract. Assumes nothing.
use native.Mathlib.Omega.{arith}
use Rattle.distance.proofs.LimitLaws.{beyond-is}
use Rattle.distance.proofs.limits.Limit.beyond.Goals as goal

pub returns-in-Some : goal.returns-in-Some
returns-in-Some c = beyond-is _ _ c.args.square (c.args.self.told _ c.in-Some.is) c.requires.strict_value (omega arith)
