-- What the parts of the work promise one another; the promise of `shade` rests on Window.antt alone. Definitions only.
use Rattle.std.specs.Prelude.{ℕ, ◌+◌, ◌-◌, ◌≤◌, ◌<◌, ◌≡◌, true, false, cond, List, length, get_or, eqb}
use Rattle.loops.specs.Cells.{number}
use Rattle.distance.specs.Least.{Least, far, gap, square}
use Rattle.distance.specs.Column.{lost}
use Rattle.distance.specs.Wrote.{Wrote}
use Rattle.dilation.specs.Window.{most, In, Shade, Told}
use Rattle.dilation.specs.declared.window.Window.{Window}

-- ---- a column

-- row q of column i is marked, one of the rows from lo on below hi
pub record Marked (m : List ℕ) (nx lo hi i q : ℕ) : Type 0 where
  pub low : lo ≤ q
  pub high : q < hi
  pub set : get_or m (number nx i q) 0 ≡ 1

-- the rows from row j - 1 up to the nearest mark of the rows before j
abbrev pub Above : List ℕ → ℕ → ℕ → ℕ → ℕ → ℕ → Type 0
Above m nx lo j i d = Least lost (Marked m nx lo j i) (λ q. j - (q + 1)) d

-- the rows from row j to the nearest mark on either side
abbrev pub Beside : List ℕ → ℕ → ℕ → ℕ → ℕ → ℕ → ℕ → Type 0
Beside m nx lo hi i j d = Least lost (Marked m nx lo hi i) (gap j) d

-- run has the rows from the row before j up to a mark, for each column of the window
pub record Runs (m : List ℕ) (nx : ℕ) (w : Window) (j : ℕ) (run : List ℕ) : Type 0 where
  pub at : (i : ℕ) → w.left ≤ i → i < w.right → Above m nx w.lo j i (get_or run (i - w.left) 0)

-- dist has those from row j to a mark on either side; behind the last row it has none
pub record Dists (m : List ℕ) (nx : ℕ) (w : Window) (j : ℕ) (dist : List ℕ) : Type 0 where
  pub at : j < w.hi → (i : ℕ) → w.left ≤ i → i < w.right → Beside m nx w.lo w.hi i j (get_or dist (i - w.left) 0)
  pub none : j ≡ w.hi → (k : ℕ) → k < w.right - w.left → get_or dist k 0 ≡ lost

-- the words of the window's rows before e hold the rows up to a mark
pub record Down (m : List ℕ) (nx : ℕ) (w : Window) (e : ℕ) (u : List ℕ) : Type 0 where
  pub cell : (i j : ℕ) → w.left ≤ i → i < w.right → w.lo ≤ j → j < e → Above m nx w.lo (j + 1) i (get_or u (number nx i j) 0)

-- ---- widths

-- w is the first number whose square, and that of d, are together e or more
pub record Width (e d w : ℕ) : Type 0 where
  pub below : (k : ℕ) → k < w → square k + square d < e
  pub above : e ≤ square w + square d

-- t has the widths of the numbers below n
pub record WidthsTo (e n : ℕ) (t : List ℕ) : Type 0 where
  pub at : (d : ℕ) → d < n → Width e d (get_or t d 0)

-- those of all rows that a mark can be away, and 0 where there is none
pub record Widths (e : ℕ) (t : List ℕ) : Type 0 where
  pub at : (d : ℕ) → d < lost → Width e d (get_or t d 0)
  pub none : get_or t lost 0 ≡ 0

-- ---- a row

-- the width at place k of a row
abbrev pub width_at : List ℕ → List ℕ → ℕ → ℕ
width_at dist widths k = get_or widths (get_or dist k 0) 0

-- n places have a width, of some thousands at most
pub record Wide (n : ℕ) (dist widths : List ℕ) : Type 0 where
  pub long : n ≤ length dist
  pub told : (k : ℕ) → k < n → get_or dist k 0 < length widths
  pub places : n ≤ 4096
  pub low : (k : ℕ) → k < n → get_or dist k 0 ≤ lost
  pub few : (k : ℕ) → k < n → width_at dist widths k ≤ 8192

-- one of the places before t reaches up to r, f k being how many places k reaches
pub record Reaches (f : ℕ → ℕ) (t r : ℕ) : Type 0 where
  pub place : ℕ
  pub place_in : place < t
  pub is : r ≡ place + f place

-- as far as they all do
pub record Reach (f : ℕ → ℕ) (t r : ℕ) : Type 0 where
  pub all : (k : ℕ) → k < t → k + f k ≤ r
  pub from : 0 < r → Reaches f t r

-- one of n places reaches place i
pub record Within (f : ℕ → ℕ) (n i : ℕ) : Type 0 where
  pub place : ℕ
  pub place_in : place < n
  pub over : gap i place < f place

-- a flag that is 1 has a place that reaches it; one that is not has none
pub record Covers (f : ℕ → ℕ) (n i b : ℕ) : Type 0 where
  pub yes : eqb b 1 ≡ true → Within f n i
  pub no : eqb b 1 ≡ false → (k : ℕ) → k < n → f k ≤ gap i k

-- the same of the places up to it alone
pub record CoversLeft (f : ℕ → ℕ) (n i b : ℕ) : Type 0 where
  pub yes : eqb b 1 ≡ true → Within f n i
  pub no : eqb b 1 ≡ false → (k : ℕ) → k ≤ i → f k ≤ gap i k

-- the flags of a row
pub record Covered (f : ℕ → ℕ) (n : ℕ) (t : List ℕ) : Type 0 where
  pub at : (i : ℕ) → i < n → Covers f n i (get_or t i 0)

pub record CoveredLeft (f : ℕ → ℕ) (n e : ℕ) (t : List ℕ) : Type 0 where
  pub at : (i : ℕ) → i < e → CoversLeft f n i (get_or t i 0)

-- of the last k in full
pub record CoveredRight (f : ℕ → ℕ) (n k : ℕ) (t : List ℕ) : Type 0 where
  pub done : (i : ℕ) → i < n → n ≤ i + k → Covers f n i (get_or t i 0)
  pub rest : (i : ℕ) → i + k < n → CoversLeft f n i (get_or t i 0)

-- what stands for a square
unfoldable pub word_of : ℕ → ℕ → ℕ → ℕ
word_of deep beyond e = cond (eqb beyond 1) (cond (eqb deep 1) 0 e) far

-- u becomes v: the n places from base on hold the words of a row, by its flags of both bounds
pub record RowTold (f g : ℕ → ℕ) (n e base : ℕ) (u v : List ℕ) : Type 0 where
  pub below : List ℕ
  pub within : List ℕ
  pub belows : Covered f n below
  pub withins : Covered g n within
  pub wrote : Wrote (λ k. word_of (get_or below k 0) (get_or within k 0) e) base 0 n u v

-- the widths of a bound that is told by squares of cells
pub record Bounded (e : ℕ) (t : List ℕ) : Type 0 where
  pub few : e ≤ most
  pub long : 4097 ≤ length t
  pub widths : Widths e t

-- the rows from j on are told, those before it hold the rows up to a mark
pub record Shading (m : List ℕ) (nx : ℕ) (w : Window) (step phase near beyond j : ℕ) (u dist : List ℕ) : Type 0 where
  pub rest : Down m nx w j u
  pub dists : Dists m nx w j dist
  pub told : (i k : ℕ) → In w i k → j ≤ k → Told step phase w k → Shade m nx w near beyond i k (get_or u (number nx i k) 0)
