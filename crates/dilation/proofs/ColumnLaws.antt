-- The rows to the nearest mark of a column: up to one above, then on either side. Assumes nothing.
use mathlib.Core.Path.{◌≡◌, refl, subst}
use mathlib.Core.List.{List}
use Prim.Native.Nat.{ℕ, ◌+◌, ◌-◌, ◌≤◌, ◌<◌}
use native.Mathlib.Omega.{arith}
use lib.ListN.{get_or}
use lib.Dec.{eqb, ltb}
use borrow.Author.Tests.{ltb-true, ltb-false, eqb-true, eqb-false}
use Rattle.loops.specs.Cells.{number}
use Rattle.loops.proofs.Cases.{by_cases, by_test}
use Rattle.distance.specs.Least.{some, none, gap}
use Rattle.distance.specs.Column.{lost, from_above, from_below}
use Rattle.dilation.specs.Parts.{Marked, Above, Beside}

module _ (m : List ℕ) (nx lo i : ℕ) where
  pub above-none : Above m nx lo lo i lost
  above-none = none (λ y p. let a = p.low in let b = p.high in omega arith) refl

  -- no mark of the rows before j is farther than a column is high
  above_most : (j d : ℕ) → j ≤ 4096 → Above m nx lo j i d → d ≤ lost
  above_most j d h (some x p e l) = omega arith
  above_most j d h (none f e) = omega arith

  module _ (j : ℕ) (J : lo ≤ j) (H : j < 4096) where
    marked : get_or m (number nx i j) 0 ≡ 1 → Above m nx lo (j + 1) i 0
    marked s = some j (record { low = J; high = omega arith; set = s }) (omega arith) (λ y p. omega arith)

    module _ (s : get_or m (number nx i j) 0 ≡ 1 → ⊥) where
      lower : (q : ℕ) → Marked m nx lo (j + 1) i q → Marked m nx lo j i q
      lower q p = by_cases (ltb q j)
          (λ t. record { low = p.low; high = ltb-true q j t; set = p.set })
          (λ t. let z : q ≡ j = omega (arith, ltb-false q j t, p.high) in absurd (s (subst (λ (x : ℕ). get_or m (number nx i x) 0 ≡ 1) z p.set)))

      farther : (d : ℕ) → d < lost → Above m nx lo j i d → Above m nx lo (j + 1) i (d + 1)
      farther d h (some x p e l) =
          some x (record { low = p.low; high = omega (arith, p.high); set = p.set }) (omega (arith, p.high)) (λ y q. let z = lower y q in omega (arith, l y z, z.high))
      farther d h (none f e) = absurd (let z : ⊥ = omega arith in z)

      still_none : (d : ℕ) → lost ≤ d → Above m nx lo j i d → Above m nx lo (j + 1) i lost
      still_none d h (some x p e l) = absurd (let z : ⊥ = omega arith in z)
      still_none d h (none f e) = none (λ y q. f y (lower y q)) refl

    pub above-next : (d : ℕ) → Above m nx lo j i d → Above m nx lo (j + 1) i (from_above (get_or m (number nx i j) 0) 1 d)
    above-next d a =
        by_test (Above m nx lo (j + 1) i) (eqb (get_or m (number nx i j) 0) 1) 0 _
        (λ t. marked (eqb-true _ _ t))
        (λ t. by_test (Above m nx lo (j + 1) i) (ltb d lost) (d + 1) lost
        (λ y. farther (eqb-false _ _ t) d (ltb-true d lost y) a)
        (λ y. still_none (eqb-false _ _ t) d (ltb-false d lost y) a))

  module _ (hi : ℕ) (H : hi ≤ 4096) where
    -- the last row has no other on its far side
    last : (j h : ℕ) → j + 1 ≡ hi → Above m nx lo (j + 1) i h → Beside m nx lo hi i j h
    last j h e (some x p d l) =
        let k = p.high in
        some x (record { low = p.low; high = omega arith; set = p.set }) (omega arith) (λ y q. let z = q.high in omega (arith, l y (record { low = q.low; high = omega arith; set = q.set })))
    last j h e (none f d) = none (λ y q. f y (record { low = q.low; high = omega (arith, q.high); set = q.set })) d

    pub beside_last : (j h r : ℕ) → j + 1 ≡ hi → r ≡ lost → Above m nx lo (j + 1) i h → Beside m nx lo hi i j (from_below h r)
    beside_last j h r e R a =
        by_test (Beside m nx lo hi i j) (ltb r h) (r + 1) h
        (λ t. absurd (let z : ⊥ = omega (arith, ltb-true r h t, above_most (j + 1) h (omega arith) a) in z))
        (λ t. last j h e a)

    module _ (j : ℕ) (J : lo ≤ j) (K : j + 1 < hi) where
      -- the row after it has a nearer one
      over : (h r : ℕ) → r < h → Above m nx lo (j + 1) i h → Beside m nx lo hi i (j + 1) r → Beside m nx lo hi i j (r + 1)
      over h r b a (some x p d l) =
          let up : (y : ℕ) → Marked m nx lo hi i y → y < j + 1 → h ≤ j + 1 - (y + 1) = λ y q s. nearest-up a y (record { low = q.low; high = s; set = q.set }) in
          by_cases (ltb x (j + 1))
          (λ t. absurd (let z : ⊥ = omega (arith, up x p (ltb-true x (j + 1) t), ltb-true x (j + 1) t) in z))
          (λ t. some x p (omega (arith, ltb-false x (j + 1) t))
          (λ y q. by_cases (ltb y (j + 1))
          (λ s. omega (arith, up y q (ltb-true y (j + 1) s), ltb-true y (j + 1) s))
          (λ s. omega (arith, l y q, ltb-false y (j + 1) s))))
        where
          nearest-up : Above m nx lo (j + 1) i h → (y : ℕ) → Marked m nx lo (j + 1) i y → h ≤ j + 1 - (y + 1)
          nearest-up (some u v w g) y q = g y q
          nearest-up (none f e) y q = absurd (f y q)
      over h r b a (none f d) = absurd (let z : ⊥ = omega (arith, above_most (j + 1) h (omega arith) a) in z)

      -- it has none that is nearer
      here : (h r : ℕ) → h ≤ r → Above m nx lo (j + 1) i h → Beside m nx lo hi i (j + 1) r → Beside m nx lo hi i j h
      here h r b (some x p d l) q =
          let k = p.high in
          some x (record { low = p.low; high = omega arith; set = p.set }) (omega arith)
          (λ y u. by_cases (ltb y (j + 1))
          (λ s. omega (arith, l y (record { low = u.low; high = ltb-true y (j + 1) s; set = u.set }), ltb-true y (j + 1) s))
          (λ s. omega (arith, least_beside q y u, ltb-false y (j + 1) s)))
        where
          least_beside : Beside m nx lo hi i (j + 1) r → (y : ℕ) → Marked m nx lo hi i y → r ≤ gap (j + 1) y
          least_beside (some u v w g) y z = g y z
          least_beside (none f e) y z = absurd (f y z)
      here h r b (none f d) (some x p e l) =
          let k = p.high in
          absurd (let z : ⊥ = omega arith in z)
      here h r b (none f d) (none g e) = none g d

      pub beside_next : (h r : ℕ) → Above m nx lo (j + 1) i h → Beside m nx lo hi i (j + 1) r → Beside m nx lo hi i j (from_below h r)
      beside_next h r a b =
          by_test (Beside m nx lo hi i j) (ltb r h) (r + 1) h
          (λ t. over h r (ltb-true r h t) a b)
          (λ t. here h r (ltb-false r h t) a b)
