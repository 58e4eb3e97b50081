-- `numbers::bound::bound_of` meets its contract. Assumes nothing.
use Rattle.std.proofs.Common.{Bool, not, T, sym, refl, subst}
use Rattle.floats.proofs.OrderLaws.{lt_numbers}
use Rattle.numbers.proofs.BoundLaws.{answers_least, answers_near, answers_huge, answers_none}
use Rattle.numbers.proofs.bound.bound_of.Goals as goal

pub returns-then-k-lt4 : goal.returns-then-k-lt4
returns-then-k-lt4 c =
    let r = answers_least _ _ _ refl c.if-square.true c.if-k-lt4.true c.search.ensures in
    record { is = r.0; decides = r.1 }

pub returns-then-k-lt9214364837600034816 : goal.returns-then-k-lt9214364837600034816
returns-then-k-lt9214364837600034816 c =
    let r = answers_near _ _ _ refl c.if-square.true c.if-k-lt4.false c.if-k-lt9214364837600034816.true c.search-then-k-lt9214364837600034816.ensures in
    record { is = r.0; decides = r.1 }

pub returns-else-k-lt9214364837600034816 : goal.returns-else-k-lt9214364837600034816
returns-else-k-lt9214364837600034816 c =
    let r = answers_huge _ _ _ refl c.if-square.true c.if-k-lt4.false c.if-k-lt9214364837600034816.false refl in
    record { is = r.0; decides = r.1 }

pub returns-else-square : goal.returns-else-square
returns-else-square c =
    let r = answers_none _ _ c.if-square.false refl in
    record { is = r.0; decides = r.1 }
