-- Samples that lie alike around every centre are judged by the table as by the definition. Assumes nothing.
use Rattle.std.specs.Prelude.{Some}
use mathlib.Core.Path.{◌≡◌, refl, sym, ap, ◌∙◌, subst}
use mathlib.Core.Bool.{true, false, not, cond, ◌&&◌}
use mathlib.Core.List.{List}
use Prim.Native.Nat.{ℕ, ◌+◌, ◌-◌, ◌*◌, ◌≤◌, ◌<◌, ◌^◌, min}
use native.Mathlib.Omega.{arith}
use native.Mathlib.Nat.{add-mul}
use lib.ListN.{length, get_or, set, length-set}
use lib.Seq.{get_or-set_same, get_or-set_other}
use lib.Dec.{T, eqb, ltb}
use lib.Ieee.{Float, nan, binary64, is_nan, to_unsigned, of_bits, to_bits, add, sub, div, le}
use borrow.Author.Tests.{ltb-true, ltb-false, eqb-true, eqb-false}
use Rattle.loops.proofs.Cases.{by_cases, both}
use Rattle.numbers.proofs.BoundLaws.{bits_number, bits_back}
use Rattle.geom.specs.Vec.{f0, v2, sum, scaled}
use Rattle.geom.specs.declared.vec2.Vec2.{Vec2}
use Rattle.raster.specs.Grid.{Sides, center_of, cell_of, stock_at}
use Rattle.raster.specs.Contact.{direction_at, rim_at, Rim}
use Rattle.raster.specs.declared.grid.Grid.{Grid}
use Rattle.raster.proofs.ContactLaws.{vec_eq}
use Rattle.raster.proofs.GridLaws.{low_index, found_at, on-grid-at, number-below, stock-some, few-cells}
use Rattle.rims.specs.Offsets.{middle_of, place_of, FixedAt, Fixed, reach_of, Roomy, Lies, Entry, entry_at, AllTold, Entered, Rims}

-- ---- along one axis

module _ (o cell : Float) (n : ℕ) (x : Float) where
  abbrev at : Float
  at = div binary64 (sub binary64 x o) cell

  -- a cell that is one of n is no less than 0, and it is the place cut to a whole number
  place-told : place_of o cell n x < n → (le f0 at ≡ true) × (place_of o cell n x ≡ to_unsigned 32 at)
  unfolding place_of
  place-told h =
      by_cases (le f0 at) (λ t. (t, let e : cond (le f0 at) (min (to_unsigned 32 at) n) n ≡ min (to_unsigned 32 at) n = rw t in omega arith))
      (λ t. absurd (let e : cond (le f0 at) (min (to_unsigned 32 at) n) n ≡ n = rw t in let z : ⊥ = omega arith in z))

  pub place-yes : (i : ℕ) → le f0 at ≡ true → i ≡ to_unsigned 32 at → i < n → i ≡ place_of o cell n x
  unfolding place_of
  place-yes i t e h = let d : cond (le f0 at) (min (to_unsigned 32 at) n) n ≡ min (to_unsigned 32 at) n = rw t in omega arith

  pub place-past : (i : ℕ) → le f0 at ≡ true → i ≡ to_unsigned 32 at → n ≤ i → n ≡ place_of o cell n x
  unfolding place_of
  place-past i t e h = let d : cond (le f0 at) (min (to_unsigned 32 at) n) n ≡ min (to_unsigned 32 at) n = rw t in omega arith

  pub place_none : le f0 at ≡ false → n ≡ place_of o cell n x
  unfolding place_of
  place_none t = rw t

  pub place-most : (i : ℕ) → i ≡ place_of o cell n x → i ≤ n
  unfolding place_of
  place-most i e =
      by_cases (le f0 at) (λ t. let d : cond (le f0 at) (min (to_unsigned 32 at) n) n ≡ min (to_unsigned 32 at) n = rw t in omega arith)
      (λ t. let d : cond (le f0 at) (min (to_unsigned 32 at) n) n ≡ n = rw t in omega arith)

module _ (o cell : Float) (n s : ℕ) (v : Float) (a : ℕ) where
  -- it is so of the cells before i
  abbrev pub FixedTo : ℕ → Type 0
  FixedTo i = (s ≤ i) × ((q : ℕ) → s ≤ q → q < i → FixedAt o cell n s v a q)

  pub fixed_none : FixedTo s
  fixed_none = (omega arith, λ q h k. absurd (let z : ⊥ = omega arith in z))

  pub fixed_more : (i p : ℕ) (x m : Float) → FixedTo i → m ≡ middle_of o cell i → x ≡ add binary64 m v → p ≡ place_of o cell n x → p < n → p + s ≡ i + a → FixedTo (i + 1)
  fixed_more i p x m F M X P h e =
      let place : p ≡ place_of o cell n (add binary64 (middle_of o cell i) v) = P ∙ ap (place_of o cell n) (X ∙ ap (λ (z : Float). add binary64 z v) M) in (
        omega (arith, F.0),
        λ q b d. by_cases (ltb q i) (λ t. F.1 q b (ltb-true q i t))
            (λ t. let z : i ≡ q = omega (arith, ltb-false q i t) in subst (FixedAt o cell n s v a) z (omega (arith, place), omega (arith, place))),
      )

  pub fixed_end : (i : ℕ) → n - s ≤ i → FixedTo i → Fixed o cell n s v a
  fixed_end i h F q b d = F.1 q b (omega arith)

  pub fixed_few : n < s → Fixed o cell n s v a
  fixed_few h q b d = absurd (let z : ⊥ = omega arith in z)

-- ---- the cells around a centre

module _ (g : Grid) (S : Sides g) (p : Vec2) where
  abbrev across : ℕ
  across = place_of g.origin.x g.cell g.nx p.x

  abbrev along : ℕ
  along = place_of g.origin.y g.cell g.ny p.y

  -- a column and a row that are on the grid are the cell's
  cell-placed : across < g.nx → along < g.ny → Some (across, along) ≡ cell_of g p
  cell-placed h k =
      let x = place-told g.origin.x g.cell g.nx p.x h in
      let y = place-told g.origin.y g.cell g.ny p.y k in
      found_at g p (omega (arith, S.columns)) (omega (arith, S.rows)) x.0 y.0 across along (low_index _ across g.nx S.columns x.1 h) h
      (low_index _ along g.ny S.rows y.1 k) k

module _ (g : Grid) (S : Sides g) (r : Float) (s : ℕ) (u : Vec2) (a c : ℕ) where
  lies-is : Fixed g.origin.x g.cell g.nx s (scaled u r).x a → Fixed g.origin.y g.cell g.ny s (scaled u r).y c → Lies g r s u (c * g.nx + a)
  unfolding middle_of rim_at center_of sum scaled
  lies-is F H = record {
    column = a;
    row = c;
    is = refl;
    at = λ i j R.
        let x = F i R.left R.right in
        let y = H j R.below R.above in
        let p = rim_at (center_of g i j) r u in
        sym (cell-placed g S p x.0 y.0)
        ∙ ap (λ (z : ℕ). Some (z, along g S p)) (let e : across g S p ≡ i - s + a = omega (arith, x.1, R.left) in e)
        ∙ ap (λ (z : ℕ). Some (i - s + a, z)) (let e : along g S p ≡ j - s + c = omega (arith, y.1, R.below) in e);
  }

-- a number that the table can hold
pub entry-few : (g : Grid) → Sides g → (a c : ℕ) → a ≤ g.nx → c ≤ g.ny → c * g.nx + a + 1 < 2 ^ 32
entry-few g S a c A C = omega (arith, S.columns, few-cells c g.nx (omega (arith, S.rows)) S.columns)

-- the table's number of a direction
module _ (g : Grid) (S : Sides g) (r : Float) (s : ℕ) (u v : Vec2) (is : v ≡ scaled u r) where
  pub entry-is : (a c : ℕ) → Fixed g.origin.x g.cell g.nx s v.x a → Fixed g.origin.y g.cell g.ny s v.y c → Entry g r s u (c * g.nx + a + 1)
  entry-is a c F H e d =
      subst (Lies g r s u) (let z : c * g.nx + a ≡ e = omega arith in z)
      (lies-is g S r s u a c (subst (λ (z : Vec2). Fixed g.origin.x g.cell g.nx s z.x a) is F) (subst (λ (z : Vec2). Fixed g.origin.y g.cell g.ny s z.y c) is H))

pub entry-none : (g : Grid) (r : Float) (s : ℕ) (u : Vec2) → (0 < 2 ^ 32) × Entry g r s u 0
entry-none g r s u = (omega arith, λ e d. absurd (let z : ⊥ = omega arith in z))

pub roomy-is : (g : Grid) (s i j : ℕ) → s ≤ i → s ≤ j → ltb s (g.nx - i) && ltb s (g.ny - j) ≡ true → Roomy g s i j
roomy-is g s i j a b t =
    let w = both (ltb s (g.nx - i)) (ltb s (g.ny - j)) t in
    record { left = a; right = omega (arith, ltb-true s (g.nx - i) w.0); below = b; above = omega (arith, ltb-true s (g.ny - j) w.1) }

-- ---- stock by the table

module _ (g : Grid) (m : List ℕ) (r : Float) (s : ℕ) (u : Vec2) (e i j : ℕ) (L : Lies g r s u e) (R : Roomy g s i j) where
  -- the number of the sample's cell
  lies-number : (j - s) * g.nx + (i - s) + e ≡ (j - s + L.row) * g.nx + (i - s + L.column)
  lies-number = let d = add-mul (j - s) L.row g.nx in omega (arith, L.is)

  lies-inside : (j - s) * g.nx + (i - s) + e < g.ny * g.nx
  lies-inside =
      let w = on-grid-at g _ _ _ _ refl (L.at i j R) in
      omega (arith, lies-number, number-below g.nx g.ny _ _ (g.ny * g.nx) w.0 w.1 (omega arith))

  lies-stock : eqb (get_or m ((j - s) * g.nx + (i - s) + e) 0) 1 ≡ stock_at g m (rim_at (center_of g i j) r u)
  lies-stock = stock-some g m _ _ _ _ _ refl (L.at i j R) lies-number

-- an entry that is not 0 tells where sample k lies
module _ (g : Grid) (m : List ℕ) (r : Float) (n : ℕ) (w : List Float) (T : Rims g r n w) (s i j : ℕ) (S : s ≡ reach_of g r) (R : Roomy g s i j) (k x : ℕ) (K : k < n) (X : entry_at w k ≡ x + 1) where
  told : Lies g r s (direction_at n k) x
  told = subst (λ (z : ℕ). Lies g r z (direction_at n k) x) (sym S) (T.entered.lies k K x X)

  pub told-inside : (j - s) * g.nx + (i - s) + x < g.ny * g.nx
  told-inside = lies-inside g m r s (direction_at n k) x i j told R

  pub told-stock : eqb (get_or m ((j - s) * g.nx + (i - s) + x) 0) 1 ≡ stock_at g m (rim_at (center_of g i j) r (direction_at n k))
  told-stock = lies-stock g m r s (direction_at n k) x i j told R

-- ---- the table is filled

-- the first k entries stand behind the directions
pub record Begun (g : Grid) (r : Float) (n l k : ℕ) (w : List Float) : Type 0 where
  pub long : length w ≡ l
  pub rim : Rim n w
  pub number : (i : ℕ) → i < k → T (not (is_nan (get_or w (4096 + i) nan)))
  pub lies : (i : ℕ) → i < k → Entry g r (reach_of g r) (direction_at n i) (entry_at w i)

module _ (g : Grid) (r : Float) (n l : ℕ) (few : n ≤ 2048) (room : 6144 ≤ l) where
  pub begun-none : (w : List Float) → length w ≡ l → Rim n w → Begun g r n l 0 w
  begun-none w e h = record { long = e; rim = h; number = λ i b. absurd (let z : ⊥ = omega arith in z); lies = λ i b. absurd (let z : ⊥ = omega arith in z) }

  module _ (k : ℕ) (w : List Float) (x : ℕ) (b : k < n) (c : x < 2 ^ 32) (E : Entry g r (reach_of g r) (direction_at n k) x) (B : Begun g r n l k w) where
    abbrev more : List Float
    more = set w (4096 + k) (of_bits binary64 x)

    -- what holds of the entries before and of the new one holds of all
    with-last : (P : ℕ → Float → Type 0) → ((i : ℕ) → i < k → P i (get_or w (4096 + i) nan)) → P k (of_bits binary64 x) → (i : ℕ) → i < k + 1 → P i (get_or more (4096 + i) nan)
    with-last P h p i d = by_cases (ltb i k)
        (λ t. subst (P i) (sym (get_or-set_other w (4096 + k) (4096 + i) (of_bits binary64 x) nan (omega (arith, ltb-true i k t)))) (h i (ltb-true i k t)))
        (λ t.
        let z : k ≡ i = omega (arith, ltb-false i k t) in
        subst (λ (q : ℕ). P q (get_or more (4096 + q) nan)) z (subst (P k) (sym (get_or-set_same w (4096 + k) (of_bits binary64 x) nan (omega (arith, B.long)))) p))

    begun_more : Begun g r n l (k + 1) more
    begun_more = record {
      long = length-set w (4096 + k) (of_bits binary64 x) ∙ B.long;
      rim = record {
        long = omega (arith, length-set w (4096 + k) (of_bits binary64 x), B.rim.long);
        x = λ i h. get_or-set_other w (4096 + k) (2 * i) (of_bits binary64 x) nan (omega arith) ∙ B.rim.x i h;
        y = λ i h. get_or-set_other w (4096 + k) (2 * i + 1) (of_bits binary64 x) nan (omega arith) ∙ B.rim.y i h;
      };
      number = with-last (λ (i : ℕ) (v : Float). T (not (is_nan v))) B.number (bits_number x (omega arith));
      lies = with-last (λ (i : ℕ) (v : Float). Entry g r (reach_of g r) (direction_at n i) (to_bits binary64 v)) B.lies (subst (Entry g r (reach_of g r) (direction_at n k)) (sym (bits_back x (omega arith))) E);
    }

  pub begun-next : (k : ℕ) (w : List Float) (x s : ℕ) → k < n → s ≡ reach_of g r → (x < 2 ^ 32) × Entry g r s (v2 (get_or w (2 * k) nan) (get_or w (2 * k + 1) nan)) x → Begun g r n l k w
      → Begun g r n l (k + 1) (set w (4096 + k) (of_bits binary64 x))
  begun-next k w x s b e E B =
      begun_more k w x b E.0
      (subst (λ (u : Vec2). Entry g r (reach_of g r) u x) (vec_eq (get_or w (2 * k) nan) (get_or w (2 * k + 1) nan) (direction_at n k) (B.rim.x k b) (B.rim.y k b))
      (subst (λ (z : ℕ). Entry g r z (v2 (get_or w (2 * k) nan) (get_or w (2 * k + 1) nan)) x) e E.1))
      B

  pub begun-end : (k : ℕ) (w : List Float) → n ≤ k → Begun g r n l k w → Entered g r n w
  begun-end k w h B = record { long = omega (arith, B.long); few = few; rim = B.rim; number = λ i b. B.number i (omega arith); lies = λ i b. B.lies i (omega arith) }

-- ---- whether it serves

pub told_none : (w : List Float) → AllTold 0 w
told_none w = record { at = λ i b. absurd (let z : ⊥ = omega arith in z) }

pub told_more : (k : ℕ) (w : List Float) → AllTold k w → (entry_at w k ≡ 0 → ⊥) → AllTold (k + 1) w
told_more k w h e = record {
  at = λ i b. by_cases (ltb i k)
      (λ t. h.at i (ltb-true i k t))
      (λ t. let z : k ≡ i = omega (arith, ltb-false i k t) in subst (λ (q : ℕ). 0 < entry_at w q) z (by_cases (eqb (entry_at w k) 0) (λ y. absurd (e (eqb-true _ _ y))) (λ y. above_zero_lem (eqb-false _ _ y))));
}
  where
    above_zero_lem : {x : ℕ} → (x ≡ 0 → ⊥) → 0 < x
    above_zero_lem {x} f = by_cases (ltb 0 x) (ltb-true 0 x) (λ y. absurd (f (let z : x ≡ 0 = omega (arith, ltb-false 0 x y) in z)))

module _ (g : Grid) (r : Float) (n : ℕ) (w : List Float) (E : Entered g r n w) where
  pub rims-told : AllTold n w → Rims g r n w
  rims-told A = record { entered = E; all = λ _. A }

  -- the first sample is told to have no cell
  pub rims-off : Rims g r n (set w 4096 (of_bits binary64 0))
  rims-off =
      let v = set w 4096 (of_bits binary64 0) in
      let l : length v ≡ length w = length-set w 4096 (of_bits binary64 0) in
      let first : get_or v 4096 nan ≡ of_bits binary64 0 = get_or-set_same w 4096 (of_bits binary64 0) nan (omega (arith, E.long)) in
      let other : (k : ℕ) → (k ≡ 4096 → ⊥) → get_or v k nan ≡ get_or w k nan = λ k d. get_or-set_other w 4096 k (of_bits binary64 0) nan d in
      let zero : entry_at v 0 ≡ 0 = ap (to_bits binary64) first ∙ bits_back 0 (omega arith) in
      record {
        entered = record {
          long = omega (arith, E.long);
          few = E.few;
          rim = record {
            long = omega (arith, E.rim.long);
            x = λ i h. other (2 * i) (λ e. let z = E.few in omega arith) ∙ E.rim.x i h;
            y = λ i h. other (2 * i + 1) (λ e. let z = E.few in omega arith) ∙ E.rim.y i h;
          };
          number = λ k b. by_cases (eqb k 0)
              (λ t. subst (λ (q : ℕ). T (not (is_nan (get_or v (4096 + q) nan)))) (sym (eqb-true k 0 t)) (subst (λ (q : Float). T (not (is_nan q))) (sym first) (bits_number 0 (omega arith))))
              (λ t. subst (λ (q : Float). T (not (is_nan q))) (sym (other (4096 + k) (λ e. eqb-false k 0 t (omega arith)))) (E.number k b));
          lies = λ k b. by_cases (eqb k 0)
              (λ t e x. absurd (let z : ⊥ = omega (arith, ap (entry_at v) (eqb-true k 0 t)) in z))
              (λ t. subst (λ (q : Float). Entry g r (reach_of g r) (direction_at n k) (to_bits binary64 q)) (sym (other (4096 + k) (λ e. eqb-false k 0 t (omega arith)))) (E.lies k b));
        };
        all = λ b. absurd (let z : ⊥ = omega arith in z);
      }
