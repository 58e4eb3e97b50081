-- The edges of a cell speak for all its points; the table's entries tell where samples lie. Assumes nothing.
use Rattle.std.specs.Prelude.{Some}
use mathlib.Core.Path.{◌≡◌, sym, ◌∙◌, ap, subst}
use mathlib.Core.Bool.{true, false, not, ◌&&◌}
use mathlib.Core.List.{List}
use Prim.Native.Nat.{ℕ, ◌+◌, ◌-◌, ◌*◌, ◌/◌, ◌%◌, ◌^◌, ◌≤◌, ◌<◌}
use native.Mathlib.Omega.{arith}
use lib.ListN.{length, get_or, set, length-set}
use lib.Seq.{get_or-set_same, get_or-set_other}
use lib.Dec.{T, ltb, eqb}
use lib.Ieee.{Float, nan, binary64, is_nan, of_bits, to_bits, add, sub, div, lt, le}
use borrow.Author.Tests.{ltb-true, ltb-false, eqb-true, eqb-false}
use Rattle.loops.proofs.Cases.{by_cases, both}
use Rattle.floats.proofs.AddMono.{add_mono}
use Rattle.floats.proofs.NanLaws.{add_numbers}
use Rattle.floats.proofs.OrderLaws.{le_le, le_lt, le_numbers}
use Rattle.numbers.specs.Order.{is_finite}
use Rattle.numbers.specs.Cast.{float}
use Rattle.numbers.proofs.BoundLaws.{bits_number, bits_back}
use Rattle.geom.specs.Vec.{v2, sum, scaled}
use Rattle.geom.specs.declared.vec2.Vec2.{Vec2}
use Rattle.raster.specs.Grid.{Sides, cell_of}
use Rattle.raster.specs.Contact.{direction_at, rim_at, Rim}
use Rattle.raster.specs.declared.grid.Grid.{Grid}
use Rattle.raster.proofs.ContactLaws.{vec_eq}
use Rattle.spans.specs.Spans.{Placed}
use Rattle.spans.specs.Ends.{below_of, beyond_of, Edged, Tame}
use Rattle.spans.proofs.MonoLaws.{Size, between_finite, add_some, share_mono}
use Rattle.spans.proofs.EdgeLaws.{share_from, tame_size, column_edged, row_edged, column-between, row-between}
use Rattle.rims.specs.Offsets.{reach_of, Roomy, Entered, Rims}
use Rattle.rims.specs.Offsets as Offsets
use Rattle.spans.specs.Spans.{word}
use Rattle.rims.specs.Boxes.{Apart, Started, Two, EdgesIn, EdgesTo, Near, Entry, EntriesTo, Numbers, BlocksTo, Boxed}
use Rattle.rims.proofs.FirstLaws.{firsts_same, firsts_after, apart_none, apart-set, apart_more, apart-wider, with-last}
use Rattle.rims.proofs.BlockLaws.{blocks-same}

-- ---- along one axis

module _ (o cell : Float) (O : is_finite o ≡ true) (S : Size cell) (n : ℕ) (v : Float) (i k : ℕ) (E : Edged o cell i) (H : EdgesIn o cell n v i k) (x : Float) (lo : le (below_of o cell i) x ≡ true) (hi : le x (beyond_of o cell i) ≡ true) where
  abbrev a : Float
  a = below_of o cell i

  abbrev b : Float
  b = beyond_of o cell i

  -- what the edges were moved by is a number
  move : is_nan v ≡ false
  move = (add_numbers binary64 a v (share_from (add binary64 a v) o cell (le_numbers (float k) (div binary64 (sub binary64 (add binary64 a v) o) cell) H.low).1)).1

  finite : is_finite x ≡ true
  finite = between_finite a x b E.below_finite E.beyond_finite lo hi

  moved : (p q : Float) → is_finite p ≡ true → is_finite q ≡ true → le p q ≡ true
      → le (div binary64 (sub binary64 (add binary64 p v) o) cell) (div binary64 (sub binary64 (add binary64 q v) o) cell) ≡ true
  moved p q P Q h = share_mono o cell O S (add binary64 p v) (add binary64 q v) (add_mono binary64 p q v h (add_some p v P move) (add_some q v Q move))

  two_of : Two n k (div binary64 (sub binary64 (add binary64 x v) o) cell)
  two_of = record {
    low = le_le (float k) _ _ H.low (moved a x E.below_finite finite lo);
    high = le_lt _ _ (float (k + 2)) (moved x b finite E.beyond_finite hi) H.high;
    on = H.on;
  }

module _ (o cell : Float) (n s : ℕ) (v : Float) (a : ℕ) where
  pub edges_none : EdgesTo o cell n s v a s
  edges_none = record { at = λ i b d. absurd (let z : ⊥ = omega arith in z) }

  pub edges_more : (e : ℕ) → EdgesTo o cell n s v a e → EdgesIn o cell n v e (e - s + a) → EdgesTo o cell n s v a (e + 1)
  edges_more e H E = record {
    at = λ i b d. by_cases (ltb i e) (λ t. H.at i b (ltb-true i e t))
        (λ t. let z : e ≡ i = omega (arith, ltb-false i e t) in subst (λ (q : ℕ). EdgesIn o cell n v q (q - s + a)) z E);
  }

  pub edges-end : (e k : ℕ) → e ≤ k → EdgesTo o cell n s v a k → EdgesTo o cell n s v a e
  edges-end e k h H = record { at = λ i b d. H.at i b (omega arith) }

pub edges-is : (o cell : Float) (n : ℕ) (v : Float) (i k : ℕ) (x y p q : Float) → x ≡ float k → y ≡ float (k + 2) → p ≡ below_of o cell i → q ≡ beyond_of o cell i
    → ltb (k + 1) n && (le x (div binary64 (sub binary64 (add binary64 p v) o) cell) && lt (div binary64 (sub binary64 (add binary64 q v) o) cell) y) ≡ true → EdgesIn o cell n v i k
edges-is o cell n v i k x y p q X Y P Q t =
    let w = both (ltb (k + 1) n) _ t in
    let u = both (le x (div binary64 (sub binary64 (add binary64 p v) o) cell)) _ w.1 in
    record { low = rw (← X, ← P) u.0; high = rw (← Y, ← Q) u.1; on = ltb-true (k + 1) n w.0 }

-- ---- around a point

module _ (g : Grid) (sides : Sides g) (t : Tame g) (r : Float) (s : ℕ) (S : 0 < s) (u : Vec2) (a c : ℕ) where
  placed : (p : Vec2) (i j : ℕ) → cell_of g p ≡ Some (i, j) → Roomy g s i j → Placed g s p i j
  placed p i j e R = record { at = e; left = R.left; right = R.right; below = R.below; above = R.above }

  near-is : EdgesTo g.origin.x g.cell g.nx s (scaled u r).x a (g.nx - s) → EdgesTo g.origin.y g.cell g.ny s (scaled u r).y c (g.ny - s) → Near g r s u a c
  unfolding rim_at sum
  near-is X Y = record {
    column = λ p i j e R.
        let h = placed p i j e R in
        let b = column-between g sides t s S p i j h in
        let k = R.right in
        two_of g.origin.x g.cell t.x_finite (tame_size g t) g.nx (scaled u r).x i (i - s + a) (column_edged g sides t s S p i j h) (X.at i R.left (omega arith)) p.x b.0 b.1;
    row = λ p i j e R.
        let h = placed p i j e R in
        let b = row-between g sides t s S p i j h in
        let k = R.above in
        two_of g.origin.y g.cell t.y_finite (tame_size g t) g.ny (scaled u r).y j (j - s + c) (row_edged g sides t s S p i j h) (Y.at j R.below (omega arith)) p.y b.0 b.1;
  }

-- ---- an entry

module _ (g : Grid) (sides : Sides g) (t : Tame g) (r : Float) (s : ℕ) (S : 0 < s) (u v : Vec2) (is : v ≡ scaled u r) (a c : ℕ) (A : a < 4096) (C : c < 4096) where
  pub entry-is : EdgesTo g.origin.x g.cell g.nx s v.x a (g.nx - s) → EdgesTo g.origin.y g.cell g.ny s v.y c (g.ny - s) → Entry g r s u (c * 4096 + a + 1)
  entry-is X Y = record {
    near = λ e d.
        let p : a ≡ e % 4096 = omega arith in
        let q : c ≡ e / 4096 = omega arith in
        subst (λ (z : ℕ). Near g r s u z (e / 4096)) p
        (subst (λ (z : ℕ). Near g r s u a z) q
        (near-is g sides t r s S u a c (subst (λ (z : Vec2). EdgesTo g.origin.x g.cell g.nx s z.x a (g.nx - s)) is X)
        (subst (λ (z : Vec2). EdgesTo g.origin.y g.cell g.ny s z.y c (g.ny - s)) is Y)));
  }

pub entry-none : (g : Grid) (r : Float) (s : ℕ) (u : Vec2) → (0 < 2 ^ 32) × Entry g r s u 0
entry-none g r s u = (omega arith, record { near = λ e d. absurd (let z : ⊥ = omega arith in z) })

-- ---- the table

module _ (g : Grid) (r : Float) (n at s : ℕ) where
  pub entries_none : (w : List Float) → EntriesTo g r n at s 0 w
  entries_none w = record { number = λ i b. absurd (let z : ⊥ = omega arith in z); entry = λ i b. absurd (let z : ⊥ = omega arith in z) }

  entries_more : (k : ℕ) (w : List Float) (x : ℕ) → at + 1 + k < length w → x < 2 ^ 32 → Entry g r s (direction_at n k) x → EntriesTo g r n at s k w → EntriesTo g r n at s (k + 1) (set w (at + 1 + k) (of_bits binary64 x))
  entries_more k w x l few E H = record {
    number = with-last (at + 1) k w (of_bits binary64 x) l (λ (i : ℕ) (v : Float). T (not (is_nan v))) H.number (bits_number x (omega arith));
    entry = with-last (at + 1) k w (of_bits binary64 x) l (λ (i : ℕ) (v : Float). Entry g r s (direction_at n i) (to_bits binary64 v)) H.entry
        (subst (Entry g r s (direction_at n k)) (sym (bits_back x (omega arith))) E);
  }

  -- what is written elsewhere does not matter
  entries-same : (k : ℕ) (w v : List Float) → ((i : ℕ) → i < k → get_or v (at + 1 + i) nan ≡ get_or w (at + 1 + i) nan) → EntriesTo g r n at s k w → EntriesTo g r n at s k v
  entries-same k w v same E = record {
    number = λ i b. subst (λ (z : Float). T (not (is_nan z))) (sym (same i b)) (E.number i b);
    entry = λ i b. subst (λ (z : Float). Entry g r s (direction_at n i) (to_bits binary64 z)) (sym (same i b)) (E.entry i b);
  }

  pub entries-end : (k : ℕ) (w : List Float) → n ≤ k → EntriesTo g r n at s k w → EntriesTo g r n at s n w
  entries-end k w h E = record { number = λ i b. E.number i (omega arith); entry = λ i b. E.entry i (omega arith) }

-- entries are numbers
pub entries-numbers : (g : Grid) (r : Float) (n at s : ℕ) (w : List Float) → EntriesTo g r n at s n w → Numbers (at + 1) (at + 1 + n) w
entries-numbers g r n at s w E = record {
  at = λ k l h. subst (λ (i : ℕ). T (not (is_nan (get_or w i nan)))) (let z : at + 1 + (k - (at + 1)) ≡ k = omega arith in z) (E.number (k - (at + 1)) (omega arith));
}

pub rim-apart : (n a e : ℕ) (w v : List Float) → 2 * n ≤ a → Apart a e w v → Rim n w → Rim n v
rim-apart n a e w v h A R = record {
  long = omega (arith, A.long, R.long);
  x = λ k b. A.before (2 * k) (omega arith) ∙ R.x k b;
  y = λ k b. A.before (2 * k + 1) (omega arith) ∙ R.y k b;
}

-- one more entry, of the direction that stands in the table
pub entries_next : (g : Grid) (r : Float) (n at s k : ℕ) (w₀ w : List Float) (x : ℕ) → at + 1 + k < length w → 2 * n ≤ at + 1 → k < n → Rim n w₀ → Apart (at + 1) (at + 2049) w₀ w
    → (x < 2 ^ 32) × Entry g r s (v2 (get_or w (2 * k) nan) (get_or w (2 * k + 1) nan)) x → EntriesTo g r n at s k w → EntriesTo g r n at s (k + 1) (set w (at + 1 + k) (of_bits binary64 x))
entries_next g r n at s k w₀ w x l h b R A E H =
    let M = rim-apart n (at + 1) (at + 2049) w₀ w h A R in
    entries_more g r n at s k w x l E.0
    (subst (λ (u : Vec2). Entry g r s u x) (vec_eq (get_or w (2 * k) nan) (get_or w (2 * k + 1) nan) (direction_at n k) (M.x k b) (M.y k b)) E.1) H

-- ---- the table of a radius

abbrev nought : Float
nought = of_bits binary64 0

-- the entries, then the blocks behind them
pub then_blocks : (g : Grid) (r : Float) (n at s : ℕ) (w v u : List Float) → n ≤ 2048 → Apart (at + 1) (at + 2049) w v × EntriesTo g r n at s n v → Apart (at + 2049) (at + 2304) v u → Apart (at + 1) (at + 2304) w u × EntriesTo g r n at s n u
then_blocks g r n at s w v u h E A = (
  apart_more (at + 1) (at + 2304) w v u (apart-wider (at + 1) (at + 2049) (at + 1) (at + 2304) w v (omega arith) (omega arith) E.0) (apart-wider (at + 2049) (at + 2304) (at + 1) (at + 2304) v u (omega arith) (omega arith) A),
  entries-same g r n at s n v u (λ i b. A.before (at + 1 + i) (omega arith)) E.1,
)

module _ (g : Grid) (r : Float) (n at : ℕ) (w : List Float) where
  -- a slice that is too short for tables
  pub boxed_short : length w < 17152 → Apart at (at + 2304) w w × Boxed g r n at w
  boxed_short h = (apart_none at (at + 2304) w, record { told = λ l. absurd (let z : ⊥ = omega arith in z) })

  module _ (l : at < length w) where
    pub head_apart : Apart at (at + 2304) w (set w at nought)
    head_apart = apart-set at (at + 2304) w w at nought (omega arith) (omega arith) (apart_none at (at + 2304) w)

    head_none : get_or (set w at nought) at nan ≡ nought
    head_none = get_or-set_same w at nought nan l

    pub boxed_no : Apart at (at + 2304) w (set w at nought) × Boxed g r n at (set w at nought)
    boxed_no = (
      head_apart,
      record {
        told = λ h. record {
          number = subst (λ (z : Float). T (not (is_nan z))) (sym head_none) (bits_number 0 (omega arith));
          firsts = λ k. absurd (let e = ap (to_bits binary64) head_none ∙ bits_back 0 (omega arith) in let z : ⊥ = omega arith in z);
          entries = λ s k. absurd (let e = ap (to_bits binary64) head_none ∙ bits_back 0 (omega arith) in let z : ⊥ = omega arith in z);
          blocks = λ k. absurd (let e = ap (to_bits binary64) head_none ∙ bits_back 0 (omega arith) in let z : ⊥ = omega arith in z);
        };
      },
    )

    module _ (S : Sides g) (far : 12289 ≤ at) (few : n ≤ 2048) (long : 17152 ≤ length w) (F : Started g w) where
      -- the word before the first numbers is as it was
      flag_same : get_or (set w at nought) 8192 nan ≡ get_or w 8192 nan
      flag_same = get_or-set_other w at 8192 nought nan (omega arith)

      pub flag-number : T (not (is_nan (get_or (set w at nought) 8192 nan)))
      flag-number = subst (λ (z : Float). T (not (is_nan z))) (sym flag_same) (F.told long).number

      module _ (s : ℕ) (small : s ≤ 2 ^ 32) (v : List Float) (A : Apart (at + 1) (at + 2304) (set w at nought) v) (E : EntriesTo g r n at s n v) (B : BlocksTo n at 255 v) (on : word (set w at nought) 8192 ≡ 0 → ⊥) where
        abbrev done : List Float
        done = set v at (of_bits binary64 (s + 1))

        boxed_long : length v ≡ length w
        boxed_long = A.long ∙ length-set w at nought

        apart : Apart at (at + 2304) w done
        apart =
            apart-set at (at + 2304) w v at (of_bits binary64 (s + 1)) (omega arith) (omega arith)
            (apart_more at (at + 2304) w (set w at nought) v head_apart (apart-wider (at + 1) (at + 2304) at (at + 2304) (set w at nought) v (omega arith) (omega arith) A))

        head : get_or done at nan ≡ of_bits binary64 (s + 1)
        head = get_or-set_same v at (of_bits binary64 (s + 1)) nan (omega (arith, boxed_long))

        head_word : word done at ≡ s + 1
        head_word = ap (to_bits binary64) head ∙ bits_back (s + 1) (omega arith)

        flag : 0 < word w 8192
        flag = let e : word (set w at nought) 8192 ≡ word w 8192 = ap (to_bits binary64) flag_same in by_cases (eqb (word w 8192) 0) (λ t. absurd (on (e ∙ eqb-true (word w 8192) 0 t))) (λ t. let d = eqb-false (word w 8192) 0 t in omega arith)

        pub boxed_yes : Apart at (at + 2304) w done × Boxed g r n at done
        boxed_yes = (
          apart,
          record {
            told = λ h. record {
              number = subst (λ (z : Float). T (not (is_nan z))) (sym head) (bits_number (s + 1) (omega arith));
              firsts = λ k. (
                firsts_after g.cell g.nx at (at + 2304) w done S.columns far apart ((F.told long).columns flag),
                firsts_after g.cell g.ny at (at + 2304) w done S.rows far apart ((F.told long).rows flag),
              );
              entries = λ t k.
                  let e : s ≡ t = omega (arith, head_word) in
                  subst (λ (z : ℕ). EntriesTo g r n at z n done) e (entries-same g r n at s n v done (λ i b. get_or-set_other v at (at + 1 + i) (of_bits binary64 (s + 1)) nan (omega arith)) E);
              blocks = λ k. blocks-same n at few 255 v done (omega arith) (λ i b d. get_or-set_other v at i (of_bits binary64 (s + 1)) nan (omega arith)) B;
            };
          },
        )

-- what is written elsewhere does not matter
module _ (g : Grid) (S : Sides g) (r : Float) (n at : ℕ) (few : n ≤ 2048) (w v : List Float) (long : length v ≡ length w) (firsts : (k : ℕ) → 8193 ≤ k → k < 12289 → get_or v k nan ≡ get_or w k nan) (table : (k : ℕ) → at ≤ k → k < at + 2304 → get_or v k nan ≡ get_or w k nan) where
  boxed_same : Boxed g r n at w → Boxed g r n at v
  boxed_same B = record {
    told = λ l.
        let t = B.told (omega arith) in
        let head : get_or w at nan ≡ get_or v at nan = sym (table at (omega arith) (omega arith)) in
        let same : word w at ≡ word v at = ap (to_bits binary64) head in
        record {
          number = subst (λ (z : Float). T (not (is_nan z))) head t.number;
          firsts = λ k.
              let f = t.firsts (omega arith) in
              (firsts_same g.cell g.nx w v S.columns firsts f.0, firsts_same g.cell g.ny w v S.rows firsts f.1);
          entries = λ s k. entries-same g r n at s n w v (λ i b. table (at + 1 + i) (omega arith) (omega arith)) (t.entries s (same ∙ k));
          blocks = λ k. blocks-same n at few 255 w v (omega arith) (λ i b d. table i (omega arith) d) (t.blocks (omega arith));
        };
  }

module _ (g : Grid) (S : Sides g) (r : Float) (n at a e : ℕ) (few : n ≤ 2048) (w v : List Float) (A : Apart a e w v) where
  boxed_after : 12289 ≤ a → at + 2304 ≤ a → Boxed g r n at w → Boxed g r n at v
  boxed_after h k = boxed_same g S r n at few w v A.long (λ i b d. A.before i (omega arith)) (λ i b d. A.before i (omega arith))

  pub boxed_before : e ≤ 8193 → e ≤ at → Boxed g r n at w → Boxed g r n at v
  boxed_before h k = boxed_same g S r n at few w v A.long (λ i b d. A.after i (omega arith)) (λ i b d. A.after i (omega arith))

  -- the table of offsets stands before
  entered-apart : 6144 ≤ a → Entered g r n w → Entered g r n v
  entered-apart h E = record {
    long = omega (arith, A.long, E.long);
    few = E.few;
    rim = rim-apart n a e w v (omega arith) A E.rim;
    number = λ k b. subst (λ (z : Float). T (not (is_nan z))) (sym (A.before (4096 + k) (omega arith))) (E.number k b);
    lies = λ k b. subst (λ (z : Float). Offsets.Entry g r (reach_of g r) (direction_at n k) (to_bits binary64 z)) (sym (A.before (4096 + k) (omega arith))) (E.lies k b);
  }

  pub rims-apart : 6144 ≤ a → Rims g r n w → Rims g r n v
  rims-apart h R = record {
    entered = entered-apart h R.entered;
    all = λ b.
        let same : (k : ℕ) → k < 2048 → Offsets.entry_at w k ≡ Offsets.entry_at v k = λ k l. ap (to_bits binary64) (sym (A.before (4096 + k) (omega arith))) in
        let t = R.all (omega (arith, same 0 (omega arith))) in
        record { at = λ i d. let f = R.entered.few in omega (arith, t.at i d, same i (omega arith)) };
  }

pub reach-some : (g : Grid) (r : Float) (s : ℕ) → s ≡ reach_of g r → 0 < s
unfolding reach_of
reach-some g r s e = omega arith

-- ---- two tables

module _ (n : ℕ) (few : n ≤ 2048) (w u v : List Float) (A : Apart 8192 12289 w u) (B : Apart 12544 14848 u v) where
  pub second_rim : Rim n w → Rim n v
  second_rim R = rim-apart n 12544 14848 u v (omega arith) B (rim-apart n 8192 12289 w u (omega arith) A R)

  pub all_boxed : (g : Grid) → Sides g → (r t : Float) (z : List Float) → Boxed g r n 12544 v → Apart 14848 17152 v z → Boxed g t n 14848 z
      → Apart 8192 17152 w z × Boxed g r n 12544 z × Boxed g t n 14848 z
  all_boxed g S r t z X C Y = (
    apart_more 8192 17152 w v z
        (apart_more 8192 17152 w u v (apart-wider 8192 12289 8192 17152 w u (omega arith) (omega arith) A) (apart-wider 12544 14848 8192 17152 u v (omega arith) (omega arith) B))
        (apart-wider 14848 17152 8192 17152 v z (omega arith) (omega arith) C),
    boxed_after g S r n 12544 14848 17152 few v z C (omega arith) (omega arith) X,
    Y,
  )
