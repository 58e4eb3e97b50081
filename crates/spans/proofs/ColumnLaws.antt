-- The columns of a span about a point of a column lie in the span about the column's edges of a half-width as great or greater, and have those of one of a half-width
-- as small or smaller. So for all columns with room, from one to the next. Assumes nothing.
use Rattle.std.specs.Prelude.{None, Some, Option, IfSome}
use mathlib.Core.Path.{◌≡◌, refl, sym, subst}
use mathlib.Core.Bool.{true, false}
use Prim.Native.Nat.{ℕ, ◌+◌, ◌-◌, ◌≤◌, ◌<◌, min, max}
use native.Mathlib.Omega.{arith}
use borrow.Author.Tests.{eqb-true, eqb-false}
use lib.Dec.{eqb}
use lib.IntN.{pos}
use lib.Ieee.{Float, fin, binary64, of_bits, add, sub, lt, le, is_nan}
use Rattle.loops.proofs.Cases.{by_cases, by_test}
use Rattle.floats.proofs.OrderLaws.{le_le, le_numbers, le_not_lt, not_lt_le, le_lt}
use Rattle.floats.proofs.AddMono.{add_mono, add_mono_right, sub_mono, sub_anti}
use Rattle.numbers.specs.Order.{is_finite}
use Rattle.numbers.specs.Whole.{floor_of}
use Rattle.numbers.specs.Root.{root_of}
use Rattle.numbers.proofs.RootMono.{root_mono, root_defined}
use Rattle.geom.specs.Vec.{f0}
use Rattle.raster.specs.Grid.{Sides}
use Rattle.raster.specs.Disk.{Span, cell_at, first_from, cols_of}
use Rattle.raster.specs.declared.grid.Grid.{Grid}
use Rattle.raster.proofs.RowLaws.{InRow, first-number, cols_in}
use Rattle.spans.specs.Spans.{LiesIn, Covers}
use Rattle.spans.specs.Ends.{below_of, beyond_of, Tame, span_of, most_of, least_of, about_of, Short, Wider, Narrower, Most, Least, Outer, Inner}
use Rattle.spans.specs.declared.columns.Bounds.{Bounds}
use Rattle.spans.proofs.MonoLaws.{between_finite, zero_number, add_some, sub_some, place_mono, floor_mono, first_mono, Within, cols_mono}
use Rattle.spans.proofs.EdgeLaws.{tame_size}

-- ---- spans in one another

lies_within : (s i a b : ℕ) (p q : Span) → Within p q → LiesIn s i a b q → LiesIn s i a b p
lies_within s i a b None q w h = tt
lies_within s i a b (Some (k, l)) None w h = absurd w
lies_within s i a b (Some (k, l)) (Some (m, n)) w h = let u = w.0 in let v = w.1 in let x = h.0 in let y = h.1 in (omega arith, omega arith)

covers_within : (s i a b : ℕ) (p q : Span) → Within p q → Covers s i a b p → Covers s i a b q
covers_within s i a b None None w h = h
covers_within s i a b None (Some (m, n)) w h = λ l. absurd (let z : ⊥ = omega (arith, h) in z)
covers_within s i a b (Some (k, l)) None w h = absurd w
covers_within s i a b (Some (k, l)) (Some (m, n)) w h = λ z. let u = w.0 in let v = w.1 in let t = h z in let x = t.0 in let y = t.1 in (omega arith, omega arith)

covers_none : (s i : ℕ) (p : Span) → Covers s i 1 0 p
covers_none s i None = omega arith
covers_none s i (Some (k, l)) = λ z. absurd (let y : ⊥ = omega arith in y)

span_mono : (g : Grid) → Tame g → (x0 x1 y0 y1 : Float) → le x0 y0 ≡ true → le y1 x1 ≡ true → Within (span_of g y0 y1) (span_of g x0 x1)
unfolding span_of
span_mono g t x0 x1 y0 y1 h k =
    let o = g.origin.x in
    let c = g.cell in
    let at = place_mono o c t.x_finite (tame_size g t) in
    cols_mono (first_from (cell_at x0 o c)) (floor_of (cell_at x1 o c)) (first_from (cell_at y0 o c)) (floor_of (cell_at y1 o c)) g.nx
    (first_mono (cell_at x0 o c) (cell_at y0 o c) (at x0 y0 h)) (floor_mono (cell_at y1 o c) (cell_at x1 o c) (at y1 x1 k))

-- ---- a greater half-width about a wider place

zero_is : fin false 0 (pos 0) ≡ f0
unfolding of_bits
zero_is = refl

at-root : (x y : Float) → le f0 x ≡ true → le x y ≡ true → (is_nan (root_of x) ≡ false) × (is_nan (root_of y) ≡ false) × (le (root_of x) (root_of y) ≡ true)
at-root x y z h =
    let n = subst (λ (w : Float). le w x ≡ true) (sym zero_is) z in
    (root_defined x n, root_defined y (le_le (fin false 0 (pos 0)) x y n h), root_mono x y n h)

-- a and b lie before and after x, and h is at most k
module _ (a x b h k : Float) (A : is_finite a ≡ true) (X : is_finite x ≡ true) (B : is_finite b ≡ true) (H : is_nan h ≡ false) (K : is_nan k ≡ false) (l : le h k ≡ true) where
  left_out : le a x ≡ true → le (sub binary64 a k) (sub binary64 x h) ≡ true
  left_out u = le_le (sub binary64 a k) (sub binary64 x k) (sub binary64 x h) (sub_mono binary64 a x k u (sub_some a k A K) (sub_some x k X K)) (sub_anti binary64 x h k l (sub_some x h X H) (sub_some x k X K))

  right-out : le x b ≡ true → le (add binary64 x h) (add binary64 b k) ≡ true
  right-out u = le_le (add binary64 x h) (add binary64 x k) (add binary64 b k) (add_mono_right binary64 x h k l (add_some x h X H) (add_some x k X K)) (add_mono binary64 x b k u (add_some x k X K) (add_some b k B K))

module _ (g : Grid) (t : Tame g) (i : ℕ) (I : 0 < i) (N : i < g.nx) (x : Float) where
  abbrev low : Float
  low = below_of g.origin.x g.cell i

  abbrev high : Float
  high = beyond_of g.origin.x g.cell i

  module _ (u : le low x ≡ true) (v : le x high ≡ true) where
    L : is_finite low ≡ true
    L = (t.columns.at i I N).below_finite

    R : is_finite high ≡ true
    R = (t.columns.at i I N).beyond_finite

    X : is_finite x ≡ true
    X = between_finite low x high L R u v

    about_most : (h2 k : Float) → le k h2 ≡ true → Within (about_of g x k) (most_of g (root_of h2) i)
    unfolding about_of most_of
    about_most h2 k l =
        by_test (λ (p : Span). Within p (most_of g (root_of h2) i)) (lt k f0) None (span_of g (sub binary64 x (root_of k)) (add binary64 x (root_of k))) (λ e. tt)
        (λ e.
        let r = at-root k h2 (not_lt_le f0 k zero_number (le_numbers k h2 l).0 e) l in
        span_mono g t _ _ _ _ (left_out low x high (root_of k) (root_of h2) L X R r.0 r.1 r.2 u) (right-out low x high (root_of k) (root_of h2) L X R r.0 r.1 r.2 v))

    about_least : (h2 k : Float) → le f0 h2 ≡ true → le h2 k ≡ true → Within (least_of g (root_of h2) i) (about_of g x k)
    unfolding about_of least_of
    about_least h2 k z l =
        let r = at-root h2 k z l in
        rw (le_not_lt f0 k (le_le f0 h2 k z l))
        (span_mono g t _ _ _ _ (left_out x high high (root_of h2) (root_of k) X R R r.0 r.1 r.2 v) (right-out low low x (root_of h2) (root_of k) L L X r.0 r.1 r.2 u))

-- ---- the bounds of all columns

pub outer_of : (g : Grid) (s : ℕ) (h2 h : Float) (b : Bounds) → h ≡ root_of h2 → Most g s h (g.nx - s) b → Outer g s h2 b
outer_of g s h2 h b e m = record {
  at = λ t S i x k l r u v d.
      lies_within s i b.first b.last (about_of g x k) (most_of g h i) (subst (λ (w : Float). Within (about_of g x k) (most_of g w i)) (sym e) (about_most g t i (omega arith) (omega arith) x u v h2 k d))
      (m.at i l (omega arith));
}

-- where the height is below 0 there is no column
pub outer_below : (g : Grid) (s : ℕ) (h2 : Float) → lt h2 f0 ≡ true → Outer g s h2 (record { first = 1; last = 0 })
unfolding about_of
outer_below g s h2 e = record { at = λ t S i x k l r u v d. rw (le_lt k h2 f0 d e) tt }

pub inner_of : (g : Grid) (s : ℕ) (h2 h : Float) (b : Bounds) → h ≡ root_of h2 → le f0 h2 ≡ true → Least g s h (g.nx - s) b → Inner g s h2 b
inner_of g s h2 h b e z m = record {
  at = λ t S i x k l r u v d.
      covers_within s i b.first b.last (least_of g h i) (about_of g x k) (subst (λ (w : Float). Within (least_of g w i) (about_of g x k)) (sym e) (about_least g t i (omega arith) (omega arith) x u v h2 k z d))
      (m.at i l (omega arith));
}

pub inner-none : (g : Grid) (s : ℕ) (h2 : Float) → Inner g s h2 (record { first = 1; last = 0 })
inner-none g s h2 = record { at = λ t S i x k l r u v d. covers_none s i (about_of g x k) }

-- what holds of a value, if there is one, shows another thing of it
pub if_some : {A : Type 0} {P Q : A → Type 0} (o : Option A) → ((x : A) → P x → Q x) → IfSome o P → IfSome o Q
if_some None f h = tt
if_some (Some x) f h = f x h

-- ---- from column to column

short_in_lem : (nx : ℕ) (p : Span) → nx ≤ 4096 → InRow nx p → Short p
short_in_lem nx None n h = tt
short_in_lem nx (Some (k, l)) n h = let u = h.0 in let v = h.1 in (omega arith, omega arith)

pub short-is : (g : Grid) (x0 x1 : Float) (p : Span) → p ≡ span_of g x0 x1 → Sides g → Short p
unfolding span_of
short-is g x0 x1 p e s =
    let o = g.origin.x in
    let c = g.cell in
    subst Short (sym e)
    (short_in_lem g.nx (cols_of (first_from (cell_at x0 o c)) (floor_of (cell_at x1 o c)) g.nx) s.columns (cols_in (first_from (cell_at x0 o c)) (floor_of (cell_at x1 o c)) g.nx s.wide s.columns (first-number (cell_at x0 o c))))

pub wider-none : (s i : ℕ) (p : Span) (b : Bounds) → p ≡ None → Wider s i p b b
wider-none s i p b e = record { first = omega arith; last = omega arith; has = subst (LiesIn s i b.first b.last) (sym e) tt }

module _ (s i : ℕ) (p : Span) (b : Bounds) (k l : ℕ) (e : p ≡ Some (k, l)) (f m : ℕ) (F : f ≡ k + s - i) (M : m ≡ l + s - i) where
  pub wider-is : (d : Bounds) → d.first ≡ min f b.first → d.last ≡ max b.last m → i ≤ k + s → Wider s i p b d
  wider-is d x y v =
      record { first = omega arith; last = omega arith; has = subst (LiesIn s i d.first d.last) (sym e) (omega arith, omega arith) }

  pub narrower_is : (d : Bounds) → d.first ≡ max b.first f → d.last ≡ min m b.last → i ≤ l + s → Narrower s i p b d
  narrower_is d x y v =
      record { first = omega arith; last = omega arith; in_it = subst (Covers s i d.first d.last) (sym e) (λ z. (omega arith, omega arith)) }

lies-wider : (s i a b c d : ℕ) (p : Span) → c ≤ a → b ≤ d → LiesIn s i a b p → LiesIn s i c d p
lies-wider s i a b c d None u v h = tt
lies-wider s i a b c d (Some (k, l)) u v h = let x = h.0 in let y = h.1 in (omega arith, omega arith)

covers_narrower : (s i a b c d : ℕ) (p : Span) → a ≤ c → d ≤ b → Covers s i a b p → Covers s i c d p
covers_narrower s i a b c d None u v h = omega (arith, h)
covers_narrower s i a b c d (Some (k, l)) u v h = λ z. let t = h (omega arith) in let x = t.0 in let y = t.1 in (omega arith, omega arith)

module _ (g : Grid) (s : ℕ) (h : Float) where
  pub most-none : (b : Bounds) → Most g s h s b
  most-none b = record { at = λ i u v. absurd (let z : ⊥ = omega arith in z) }

  pub most_more : (e : ℕ) (b d : Bounds) (p : Span) → p ≡ most_of g h e → Most g s h e b → Wider s e p b d → Most g s h (e + 1) d
  most_more e b d p q m w = record {
    at = λ i u v.
        by_cases (eqb i e)
        (λ t. subst (λ (n : ℕ). LiesIn s n d.first d.last (most_of g h n)) (sym (eqb-true i e t)) (subst (LiesIn s e d.first d.last) q w.has))
        (λ t. let f = eqb-false i e t in lies-wider s i b.first b.last d.first d.last (most_of g h i) w.first w.last (m.at i u (omega arith)));
  }

  pub most-end : (e k : ℕ) (b : Bounds) → e ≤ k → Most g s h k b → Most g s h e b
  most-end e k b l m = record { at = λ i u v. m.at i u (omega arith) }

  pub least-none : (b : Bounds) → Least g s h s b
  least-none b = record { at = λ i u v. absurd (let z : ⊥ = omega arith in z) }

  pub least_more : (e : ℕ) (b d : Bounds) (p : Span) → p ≡ least_of g h e → Least g s h e b → Narrower s e p b d → Least g s h (e + 1) d
  least_more e b d p q m w = record {
    at = λ i u v.
        by_cases (eqb i e)
        (λ t. subst (λ (n : ℕ). Covers s n d.first d.last (least_of g h n)) (sym (eqb-true i e t)) (subst (Covers s e d.first d.last) q w.in_it))
        (λ t. let f = eqb-false i e t in covers_narrower s i b.first b.last d.first d.last (least_of g h i) w.first w.last (m.at i u (omega arith)));
  }

  pub least-end : (e k : ℕ) (b : Bounds) → e ≤ k → Least g s h k b → Least g s h e b
  least-end e k b l m = record { at = λ i u v. m.at i u (omega arith) }

-- the spans by the values of the code
module _ (g : Grid) (h : Float) where
  pub most-is : (i : ℕ) (a b : Float) (p : Span) → a ≡ below_of g.origin.x g.cell i → b ≡ beyond_of g.origin.x g.cell i → p ≡ span_of g (sub binary64 a h) (add binary64 b h) → p ≡ most_of g h i
  unfolding most_of
  most-is i a b p u v e = rw (← u, ← v) e

  pub least-is : (i : ℕ) (a b : Float) (p : Span) → a ≡ beyond_of g.origin.x g.cell i → b ≡ below_of g.origin.x g.cell i → p ≡ span_of g (sub binary64 a h) (add binary64 b h) → p ≡ least_of g h i
  unfolding least_of
  least-is i a b p u v e = rw (← u, ← v) e
