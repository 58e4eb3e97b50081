-- `field::band::margin` meets its contract. Assumes nothing.
use Prim.Native.Nat.{◌+◌, ◌≤◌}
use native.Mathlib.Omega.{arith}
use native.Mathlib.Nat.{mul-le-mul}
use mathlib.Core.Path.{◌≡◌}
use Rattle.field.proofs.BandLaws.{margin_all, margin_at}
use Rattle.field.proofs.band.margin.Goals as goal

pub overflow_mul-next : goal.overflow_mul-next
overflow_mul-next c = let m = c.loop-m.m in let z : m + 1 ≤ 4096 = omega (arith, c.loop-m-test.true, c.requires) in omega (arith, mul-le-mul z z)

pub returns-then-below-next : goal.returns-then-below-next
returns-then-below-next c = margin_at _ _ _ _ c.in-Some.is (omega arith) c.loop-m-test.true c.if-below-next.true

pub returns-after-loop-m : goal.returns-after-loop-m
returns-after-loop-m c = margin_all _ _ (λ e k. let z : e ≡ c.in-Some.below = cc c.in-Some.is in omega arith)

pub returns-in_default : goal.returns-in_default
returns-in_default c = margin_all _ _ (λ e k. absurd (c.in_default.not-Some e k))
