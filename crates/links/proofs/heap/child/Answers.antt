-- `links::heap::child` meets its contract. Assumes nothing.
use mathlib.Core.Path.{◌≡◌, sym, ◌∙◌}
use Prim.Native.Nat.{◌+◌, ◌*◌}
use native.Mathlib.Omega.{arith}
use Rattle.links.specs.Heap.{before_of, entry_at}
use Rattle.links.proofs.SiftLaws.{lesser-left, lesser-right}
use Rattle.links.proofs.heap.child.Goals as goal
use Rattle.links.proofs.heap.child.Goals.{After-before-then-b-n}

-- what the test of the two children says
compared : (c : After-before-then-b-n) →
    let s = c.args in
    let f = entry_at s.ests.now s.nodes.now in
    c.before-then-b-n.result ≡ before_of (f (2 * s.k + 1 + 1)) (f (2 * s.k + 1))
compared c = rw (← c.read.ensures, ← c.read-then-b-n.ensures) c.before-then-b-n.ensures

pub returns-then-before : goal.returns-then-before
returns-then-before c = lesser-right _ _ _ (omega arith) (sym (compared (goal.at.returns-then-before c).After-before-then-b-n) ∙ c.if-before.true)

pub returns-else-before : goal.returns-else-before
returns-else-before c = lesser-left _ _ _ (omega arith) (λ h. sym (compared (goal.at.returns-else-before c).After-before-then-b-n) ∙ c.if-before.false)

pub returns-else-b-n : goal.returns-else-b-n
returns-else-b-n c = lesser-left _ _ _ (omega arith) (λ h. absurd (let z : ⊥ = omega arith in z))
