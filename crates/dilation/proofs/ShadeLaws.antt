-- What flags and words tell of a cell of a window; its rows from the last to the first. Assumes nothing.
use mathlib.Core.Path.{◌≡◌, refl, sym, ap, ◌∙◌, subst}
use mathlib.Core.Bool.{true, false, ◌||◌, true≢false}
use mathlib.Core.List.{List}
use Prim.Native.Nat.{ℕ, ◌+◌, ◌-◌, ◌*◌, ◌%◌, ◌≤◌, ◌<◌}
use native.Mathlib.Omega.{arith}
use native.Mathlib.Nat.{add-mul, mul-le-mul_right}
use lib.ListN.{length, get_or, replicate, get_or-replicate}
use lib.Dec.{eqb, ltb}
use borrow.Author.Tests.{ltb-true, ltb-false}
use Rattle.loops.specs.Cells.{number}
use Rattle.loops.proofs.Cases.{by_cases}
use Rattle.distance.specs.Least.{some, none, far, at, gap, square, apart}
use Rattle.distance.specs.Column.{lost, from_below}
use Rattle.distance.specs.Wrote.{Wrote}
use Rattle.dilation.specs.Window.{most, In, On, Near, Clear, Shade, Told, Shaded}
use Rattle.dilation.specs.Parts.{Above, Beside, Dists, Down, Widths, width_at, Wide, Covers, Covered, word_of, RowTold, Bounded, Shading}
use Rattle.dilation.specs.declared.window.Window.{Window}
use Rattle.dilation.proofs.WidthLaws.{square_mono, width_few, width_zero}
use Rattle.dilation.proofs.ColumnLaws.{beside_last, beside_next}
use Rattle.dilation.proofs.CoverLaws.{covered_none}

-- ---- a flag

module _ (m : List ℕ) (nx : ℕ) (w : Window) (O : On nx w) (j : ℕ) (H : j < w.hi) (dist : List ℕ)
    (D : (i : ℕ) → w.left ≤ i → i < w.right → Beside m nx w.lo w.hi i j (get_or dist (i - w.left) 0)) where
  abbrev column : ℕ → ℕ
  column k = w.left + k

  -- the rows to a mark of the column at place k
  rows : (k : ℕ) → k < w.right - w.left → Beside m nx w.lo w.hi (column k) j (get_or dist k 0)
  rows k h = let e : column k - w.left ≡ k = omega arith in subst (λ (x : ℕ). Beside m nx w.lo w.hi (column k) j (get_or dist x 0)) e (D (column k) (omega arith) (omega arith))

  beside_most : (i d : ℕ) → Beside m nx w.lo w.hi i j d → d ≤ lost
  beside_most i d (some x p e l) = omega (arith, p.high, O.rows)
  beside_most i d (none f e) = omega arith

  wide_is : (e : ℕ) (t : List ℕ) → Bounded e t → length dist ≡ 4096 → Wide (w.right - w.left) dist t
  wide_is e t b l =
      let low : (k : ℕ) → k < w.right - w.left → get_or dist k 0 ≤ lost = λ k h. beside_most (column k) (get_or dist k 0) (rows k h) in
      record {
        long = omega (arith, O.columns);
        told = λ k h. omega (arith, low k h, b.long);
        places = omega (arith, O.columns);
        low = low;
        few = λ k h. width_few e t b.few b.widths (get_or dist k 0) (low k h);
      }

  module _ (e : ℕ) (widths : List ℕ) (W : Widths e widths) where
    module _ (i : ℕ) (L : w.left ≤ i) (R : i < w.right) where
      reached : (k : ℕ) → k < w.right - w.left → (d : ℕ) → gap (i - w.left) k < get_or widths d 0 → Beside m nx w.lo w.hi (column k) j d → Near m nx w i j e
      reached k h d b (some x p q l) =
          let s = p.high in
          let v = p.low in
          let g : gap i (column k) ≡ gap (i - w.left) k = omega arith in
          let c = (W.at d (omega (arith, O.rows))).below (gap (i - w.left) k) b in
          record {
            column = column k;
            row = x;
            inside = record { low = v; high = s; left = omega arith; right = omega arith };
            set = p.set;
            less = subst (λ (y : ℕ). square y + square (gap j x) < e) (sym g) (subst (λ (y : ℕ). square (gap (i - w.left) k) + square y < e) q c);
          }
      reached k h d b (none f q) = absurd (let z : ⊥ = omega (arith, subst (λ (y : ℕ). gap (i - w.left) k < get_or widths y 0) q b, W.none) in z)

      missed : (p q : ℕ) → In w p q → get_or m (number nx p q) 0 ≡ 1 → (d : ℕ) → get_or widths d 0 ≤ gap (i - w.left) (p - w.left) → Beside m nx w.lo w.hi p j d → e ≤ apart (at i j) (at p q)
      missed p q I s d b (some x y z l) =
          let a = I.left in
          let g : gap (i - w.left) (p - w.left) ≡ gap i p = omega arith in
          let u = l q (record { low = I.low; high = I.high; set = s }) in
          let v = y.high in
          let c = (W.at d (omega (arith, O.rows))).above in
          let t : get_or widths d 0 ≤ gap i p = omega arith in
          omega (arith, square_mono (get_or widths d 0) (gap i p) t, square_mono d (gap j q) u)
      missed p q I s d b (none f z) = absurd (f q (record { low = I.low; high = I.high; set = s }))

      module _ (b : ℕ) (C : Covers (width_at dist widths) (w.right - w.left) (i - w.left) b) where
        near-is : eqb b 1 ≡ true → Near m nx w i j e
        near-is h = let c = C.yes h in reached c.place c.place_in (get_or dist c.place 0) c.over (rows c.place c.place_in)

        clear-is : eqb b 1 ≡ false → Clear m nx w i j e
        clear-is h = record {
          least = λ p q I s.
              let a = I.left in
              let r = I.right in
              missed p q I s (get_or dist (p - w.left) 0) (C.no h (p - w.left) (omega arith)) (D p a r);
        }

-- ---- a word

-- one is nearer than a bound that none is nearer than: the bound is the lesser
lesser : (m : List ℕ) (nx : ℕ) (w : Window) (i j a b : ℕ) → Near m nx w i j b → Clear m nx w i j a → a < b
lesser m nx w i j a b n c = omega (arith, n.less, c.least n.column n.row n.inside n.set)

above_zero_lem : (m : List ℕ) (nx : ℕ) (w : Window) (i j b : ℕ) → Near m nx w i j b → 0 < b
above_zero_lem m nx w i j b n = omega (arith, n.less)

module _ (m : List ℕ) (nx : ℕ) (w : Window) (i j near beyond a b o : ℕ) (A : near ≤ most) (B : beyond ≤ most) (E : o ≡ word_of a b near)
    (NY : eqb a 1 ≡ true → Near m nx w i j near) (NN : eqb a 1 ≡ false → Clear m nx w i j near) (FY : eqb b 1 ≡ true → Near m nx w i j beyond) (FN : eqb b 1 ≡ false → Clear m nx w i j beyond) where
  word-deep : eqb b 1 ≡ true → eqb a 1 ≡ true → o ≡ 0
  unfolding word_of
  word-deep h k = E ∙ rw (h, k) refl

  word-between : eqb b 1 ≡ true → eqb a 1 ≡ false → o ≡ near
  unfolding word_of
  word-between h k = E ∙ rw (h, k) refl

  word-beyond : eqb b 1 ≡ false → o ≡ far
  unfolding word_of
  word-beyond h = E ∙ rw h refl

  -- the farther bound is met
  met : o < beyond → eqb b 1 ≡ true
  met h = by_cases (eqb b 1) (λ y. y) (λ y. absurd (let z : ⊥ = omega (arith, word-beyond y) in z))

  shade_is : Shade m nx w near beyond i j o
  shade_is = record {
    within = λ h. FY (met h);
    beyond = λ h. by_cases (eqb b 1)
        (λ y. by_cases (eqb a 1)
        (λ x. absurd (let z : ⊥ = omega (arith, word-deep y x, above_zero_lem m nx w i j beyond (FY y)) in z))
        (λ x. absurd (let z : ⊥ = omega (arith, word-between y x, lesser m nx w i j near beyond (FY y) (NN x)) in z)))
        FN;
    deep = λ h k. by_cases (eqb a 1) NY (λ x. absurd (let z : ⊥ = omega (arith, word-between (met h) x) in z));
    shallow = λ h k. by_cases (eqb a 1) (λ x. absurd (let z : ⊥ = omega (arith, word-deep (met h) x, above_zero_lem m nx w i j near (NY x)) in z)) NN;
    fits = by_cases (eqb b 1)
        (λ y. by_cases (eqb a 1) (λ x. omega (arith, word-deep y x)) (λ x. omega (arith, word-between y x)))
        (λ y. omega (arith, word-beyond y));
  }

-- ---- a row

-- flags that are 0 are those of a bound of 0
pub blank_covered : (n e : ℕ) (dist widths : List ℕ) → Wide n dist widths → Bounded e widths → e ≡ 0 → Covered (width_at dist widths) n (replicate 4096 0)
blank_covered n e dist widths W B z =
    covered_none (width_at dist widths) n (replicate 4096 0) (λ k h. width_zero e widths z B.widths (get_or dist k 0) (W.low k h)) (λ k h. get_or-replicate 4096 k 0 0 (omega (arith, W.places)))

-- ---- the rows

module _ (m : List ℕ) (nx : ℕ) (w : Window) (O : On nx w) where
  dists-none : (dist : List ℕ) → ((k : ℕ) → k < 4096 → get_or dist k 0 ≡ lost) → Dists m nx w w.hi dist
  dists-none dist h = record { at = λ b. absurd (let z : ⊥ = omega arith in z); none = λ _ k b. h k (omega (arith, O.columns)) }

  module _ (j : ℕ) (L : w.lo ≤ j) (H : j < w.hi) where
    dists-next : (u dist dist' : List ℕ) → Down m nx w (j + 1) u → Dists m nx w (j + 1) dist
        → Wrote (λ k. from_below (get_or u (j * nx + w.left + k) 0) (get_or dist k 0)) 0 0 (w.right - w.left) dist dist' → Dists m nx w j dist'
    dists-next u dist dist' d D S = record {
      at = λ _ i p q.
          let k = i - w.left in
          let e : k ≡ 0 + k = omega arith in
          let here : number nx i j ≡ j * nx + w.left + k = omega arith in
          let a : Above m nx w.lo (j + 1) i (get_or u (j * nx + w.left + k) 0) = subst (λ (x : ℕ). Above m nx w.lo (j + 1) i (get_or u x 0)) here (d.cell i j p q L (omega arith)) in
          subst (Beside m nx w.lo w.hi i j) (sym (ap (λ (x : ℕ). get_or dist' x 0) e ∙ S.cell k (omega arith) (omega arith)))
          (by_cases (ltb (j + 1) w.hi)
          (λ y. let z = ltb-true (j + 1) w.hi y in beside_next m nx w.lo i w.hi O.rows j L z _ _ a (D.at z i p q))
          (λ y. let z : j + 1 ≡ w.hi = omega (arith, ltb-false (j + 1) w.hi y) in beside_last m nx w.lo i w.hi O.rows j _ _ z (D.none z k (omega arith)) a));
      none = λ e. absurd (let z : ⊥ = omega arith in z);
    }

    -- the rows before it are as they were
    down-before : (u v : List ℕ) → Down m nx w (j + 1) u → ((k : ℕ) → k < j * nx + w.left → get_or v k 0 ≡ get_or u k 0) → Down m nx w j v
    down-before u v d s = record {
      cell = λ i k p q a b.
          let g : (k + 1) * nx ≤ j * nx = mul-le-mul_right nx (omega arith) in
          subst (Above m nx w.lo (k + 1) i) (sym (s (number nx i k) (omega (arith, g, add-mul k 1 nx, O.wide)))) (d.cell i k p q a (omega arith));
    }

    module _ (step phase near beyond : ℕ) (u dist dist' : List ℕ) (S : Shading m nx w step phase near beyond (j + 1) u dist)
        (T : Wrote (λ k. from_below (get_or u (j * nx + w.left + k) 0) (get_or dist k 0)) 0 0 (w.right - w.left) dist dist') where
      dists_then : Dists m nx w j dist'
      dists_then = dists-next u dist dist' S.rest S.dists T

      pub shading_skip : (v : List ℕ) → v ≡ u → (eqb (j % step) phase || eqb (j + 1) w.hi) ≡ false → Shading m nx w step phase near beyond j v dist'
      shading_skip v e f = record {
        rest = down-before u v S.rest (λ k h. ap (λ (x : List ℕ). get_or x k 0) e);
        dists = dists_then;
        told = λ i k I h t. by_cases (ltb j k)
            (λ y. subst (λ (x : List ℕ). Shade m nx w near beyond i k (get_or x (number nx i k) 0)) (sym e) (S.told i k I (let z = ltb-true j k y in omega arith) t))
            (λ y. let z : k ≡ j = omega (arith, ltb-false j k y) in absurd (true≢false (sym (subst (λ (x : ℕ). Told step phase w x) z t) ∙ f)));
      }

      pub shading_told : (d b v : List ℕ) → Bounded near d → Bounded beyond b
          → RowTold (width_at dist' d) (width_at dist' b) (w.right - w.left) near (j * nx + w.left) u v → Shading m nx w step phase near beyond j v dist'
      shading_told d b v N F R = record {
        rest = down-before u v S.rest (λ k h. R.wrote.left k (omega arith));
        dists = dists_then;
        told = λ i k I h t. by_cases (ltb j k)
            (λ y.
            let z = ltb-true j k y in
            let g : (j + 1) * nx ≤ k * nx = mul-le-mul_right nx (omega arith) in
            let a = I.left in
            let past : j * nx + w.left + (w.right - w.left) ≤ number nx i k = omega (arith, add-mul j 1 nx, O.wide, O.order) in
            subst (Shade m nx w near beyond i k) (sym (R.wrote.right (number nx i k) past (omega arith))) (S.told i k I (omega arith) t))
            (λ y.
            let z : j ≡ k = omega (arith, ltb-false j k y) in
            let a = I.left in
            let c = I.right in
            let D = dists_then.at H in
            let here : j * nx + w.left + (i - w.left) ≡ number nx i j = omega arith in
            let x = i - w.left in
            let X : x < w.right - w.left = omega arith in
            subst (λ (x : ℕ). Shade m nx w near beyond i x (get_or v (number nx i x) 0)) z
            (subst (λ (x : ℕ). Shade m nx w near beyond i j (get_or v x 0)) here
            (shade_is m nx w i j near beyond (get_or R.below x 0) (get_or R.within x 0) _ N.few F.few (R.wrote.cell x (omega arith) X)
            (near-is m nx w O j H dist' D near d N.widths i a c _ (R.belows.at x X))
            (clear-is m nx w O j H dist' D near d N.widths i a c _ (R.belows.at x X))
            (near-is m nx w O j H dist' D beyond b F.widths i a c _ (R.withins.at x X))
            (clear-is m nx w O j H dist' D beyond b F.widths i a c _ (R.withins.at x X)))));
      }

      -- the widths at the row's places
      pub wide_then : (e : ℕ) (t : List ℕ) → Bounded e t → length dist' ≡ 4096 → Wide (w.right - w.left) dist' t
      wide_then e t b l = wide_is m nx w O j H dist' (dists_then.at H) e t b l

  pub shading_none : (step phase near beyond : ℕ) (u dist : List ℕ) → Down m nx w w.hi u → ((k : ℕ) → k < 4096 → get_or dist k 0 ≡ lost) → Shading m nx w step phase near beyond w.hi u dist
  shading_none step phase near beyond u dist d h = record { rest = d; dists = dists-none dist h; told = λ i k I b t. absurd (let x = I.high in let z : ⊥ = omega arith in z) }

  pub shading_end : (step phase near beyond j : ℕ) (s u dist : List ℕ) → Shading m nx w step phase near beyond j u dist → j ≤ w.lo → length u ≡ length s → Shaded m nx w step phase near beyond s u
  shading_end step phase near beyond j s u dist h b l = record { long = l; cell = λ i k I t. let x = I.low in h.told i k I (omega arith) t }
