-- `distance::limits::Limit::of` meets its contract. Assumes nothing.
use mathlib.Core.Path.{◌≡◌, sym, ◌∙◌}
use native.Mathlib.Omega.{arith}
use borrow.Author.Tests.{tests}
use Rattle.std.proofs.Common.{rules, Some}
use Rattle.std.proofs.lemmas.Iterator.{first_from_Range}
use Rattle.distance.specs.Limits.{passes_of, Splits}
use Rattle.distance.proofs.LimitLaws.{limit_at}
use Rattle.distance.proofs.limits.Limit.of.Goals.{then-g-lt33554432+then-is_ordered, else-g-lt33554432}
use Rattle.distance.proofs.limits.Limit.of.Goals as goal

pub invariant_of-result : goal.invariant_of-result
invariant_of-result c = elim c.if-g-lt33554432.branch [
  | then-g-lt33554432+then-is_ordered w ↦ record {
    told = λ n e.
        let first = first_from_Range _ _ _ w.find-below.result (λ m. Splits (passes_of c.args.threshold) m) (λ _. Unit {0}) w.find-below.ensures.ran (λ x q k. search (rules, tests)) (λ x q k. search (rules, tests)) in
        let k : w.find-below.result ≡ Some n = sym w.below-is ∙ e in
        let p = rw k at first in
        limit_at _ (w.is_ordered.ensures w.if-is_ordered.true) n (let s = p.1 in let t = w.if-g-lt33554432.true in omega arith) p.2;
  }
  | else-g-lt33554432 w ↦ record { told = λ n e. cc w.below-is }
]
