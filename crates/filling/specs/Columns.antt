-- How the code finds a region's cells, row by row: a column is in a loop where an odd number of the loop's edges cross the row to the right of its centre, and the
-- columns to the left of a crossing are the first k. What the inner functions promise one another; the planner's promises rest on Fill.antt alone. Definitions only.
use Rattle.std.specs.Prelude.{ℕ, ◌+◌, ◌≤◌, ◌<◌, ◌≡◌, Bool, true, false, not, cond, ◌&&◌, ◌||◌, List, length, get_or, set, eqb, leb, ltb, Float, Option, None, Some, IfSome}
use Rattle.std.specs.Bool.{beq}
use Rattle.std.specs.Float.{nan, binary64}
use Rattle.std.specs.Float.Ieee.{add, lt}
use Rattle.loops.specs.Loop.{loop}
use Rattle.geom.specs.Vec.{v2}
use Rattle.geom.specs.Region.{vertex_of, straddles_of, before, edge_at, point_in_loop, in_island}
use Rattle.geom.specs.declared.region.Region.{Region}
use Rattle.raster.specs.Grid.{offset}
use Rattle.raster.specs.declared.grid.Grid.{Grid}
use Rattle.filling.specs.declared.crossings.Pair.{Pair}
use Rattle.filling.specs.declared.columns.Columns.{Columns}
use Rattle.filling.specs.declared.columns.Columns.TheVariants.{Run, Many}

-- ---- columns by their centres

-- the x of column i's centres
unfoldable pub column_x : Grid → ℕ → Float
column_x g i = add binary64 g.origin.x (offset g i)

-- xs has the x of every column
pub record Centred (g : Grid) (xs : List Float) : Type 0 where
  pub long : length xs ≡ g.nx
  pub at : (i : ℕ) → i < g.nx → get_or xs i nan ≡ column_x g i

-- columns before one that is left of x are left of it too
pub record Rising (xs : List Float) : Type 0 where
  pub at : (i k : ℕ) (x : Float) → i ≤ k → k < length xs → lt (get_or xs k nan) x ≡ true → lt (get_or xs i nan) x ≡ true

-- column k, if there is one, is not left of x
pub record Past (xs : List Float) (x : Float) (k : ℕ) : Type 0 where
  pub most : k ≤ length xs
  pub past : k < length xs → lt (get_or xs k nan) x ≡ false

-- columns from a on below e are left of x
pub record Skipped (xs : List Float) (x : Float) (a e : ℕ) : Type 0 where
  pub at : (i : ℕ) → a ≤ i → i < e → lt (get_or xs i nan) x ≡ true

-- the columns left of x are the first k
pub record Before (xs : List Float) (x : Float) (k : ℕ) : Type 0 where
  pub most : k ≤ length xs
  pub at : (i : ℕ) → i < length xs → lt (get_or xs i nan) x ≡ ltb i k

-- ---- the edges of a loop that cross a row

-- edge i goes from vertex i to the vertex before it
abbrev pub crosses : List Float → ℕ → ℕ → Float → ℕ → Bool
crosses vs at n y i = straddles_of (vertex_of vs (at + i)) (vertex_of vs (at + before n i)) y

-- e is the first edge from `from` on that crosses the row y, n where none does
pub record NextCrossing (vs : List Float) (at n : ℕ) (y : Float) (from e : ℕ) : Type 0 where
  pub low : from ≤ e
  pub high : e ≤ n
  pub idle : (i : ℕ) → from ≤ i → i < e → crosses vs at n y i ≡ false
  pub cross : e < n → crosses vs at n y e ≡ true

-- the edges that are left begin at the next one, n where there is none
abbrev pub left_from : ℕ → Option ℕ → ℕ
left_from n None = n
left_from n (Some i) = i

-- columns from a on below b
unfoldable pub in_run : ℕ → ℕ → ℕ → Bool
in_run a b i = leb a i && ltb i b

abbrev pub turned_if : Bool → Bool → Bool
turned_if b s = cond b (not s) s

-- the edges from i on below the pair's next one turn the answers of the columns a to b, and of no other; the next one crosses the row, if there is one
pub record Paired (xs vs : List Float) (at n : ℕ) (y : Float) (i : ℕ) (p : Pair) : Type 0 where
  pub run : p.a ≤ p.b
  pub most : p.b ≤ length xs
  pub on : i < left_from n p.next
  pub next-on : IfSome p.next (λ j. j < n)
  pub is : (c : ℕ) (s : Bool) → c < length xs → loop (edge_at vs at n (v2 (get_or xs c nan) y)) i (left_from n p.next) s ≡ turned_if (in_run p.a p.b c) s
  pub cross : left_from n p.next < n → crosses vs at n y (left_from n p.next) ≡ true

abbrev pub pair : ℕ → ℕ → Option ℕ → Pair
pair a b next = record { a = a; b = b; next = next }

unfoldable pub ordered_of : ℕ → ℕ → Option ℕ → Pair
ordered_of k l next = cond (ltb k l) (pair k l next) (pair l k next)

-- ---- which columns: bytes, and runs

-- byte i, below n, is 1 exactly where f holds
pub record Shows (n : ℕ) (f : ℕ → Bool) (l : List ℕ) : Type 0 where
  pub at : (i : ℕ) → i < n → eqb (get_or l i 0) 1 ≡ f i

abbrev pub nowhere : ℕ → Bool
nowhere i = false

-- f holds from a on below b
pub record Runs (n : ℕ) (f : ℕ → Bool) (a b : ℕ) : Type 0 where
  pub run : a ≤ b
  pub most : b ≤ n
  pub at : (i : ℕ) → i < n → f i ≡ in_run a b i

-- the columns where f holds: a run, and no byte is 1; or the bytes
abbrev pub Has : ℕ → (ℕ → Bool) → Columns → List ℕ → Type 0
Has n f (Run a b) row = Runs n f a b × Shows n nowhere row
Has n f Many row = Shows n f row

-- a run lies within n columns
abbrev pub InRow : ℕ → Columns → Type 0
InRow n (Run a b) = (a ≤ b) × (b ≤ n)
InRow n Many = Unit

-- the bytes l after those from a on below b were turned round
pub record Turned (a b : ℕ) (l t : List ℕ) : Type 0 where
  pub long : length t ≡ length l
  pub at : (i : ℕ) → i < length l → eqb (get_or t i 0) 1 ≡ turned_if (in_run a b i) (eqb (get_or l i 0) 1)

-- byte base + i becomes v
abbrev pub paint_at : ℕ → ℕ → ℕ → List ℕ → List ℕ
paint_at base v i m = set m (base + i) v

-- byte base + i becomes 1, unless column i is covered
abbrev pub free_at : ℕ → List ℕ → ℕ → List ℕ → List ℕ
free_at base cover i m = cond (eqb (get_or cover i 0) 1) m (set m (base + i) 1)

-- byte base + i becomes 1 where byte i of the row is
abbrev pub shown_at : ℕ → List ℕ → ℕ → List ℕ → List ℕ
shown_at base row i m = cond (eqb (get_or row i 0) 1) (set m (base + i) 1) m

-- the columns below n where the bytes of l are 1 (or are not, where `one` says so) are covered too, and no byte of l is 1 then
pub record Covered (n : ℕ) (one : Bool) (l m l' m' : List ℕ) : Type 0 where
  pub row-long : length l' ≡ length l
  pub cover-long : length m' ≡ length m
  pub row : Shows n nowhere l'
  pub cover : (i : ℕ) → i < n → eqb (get_or m' i 0) 1 ≡ (beq (eqb (get_or l i 0) 1) one || eqb (get_or m i 0) 1)

-- f holds in no column below n
pub record Nowhere (n : ℕ) (f : ℕ → Bool) : Type 0 where
  pub at : (i : ℕ) → i < n → f i ≡ false

-- the columns below n where f holds are covered too, and no byte of the row is 1; where `some` is false, f holds nowhere
pub record Joined (n : ℕ) (f : ℕ → Bool) (some : Bool) (l m m' : List ℕ) : Type 0 where
  pub row : Shows n nowhere l
  pub cover : (i : ℕ) → i < n → eqb (get_or m' i 0) 1 ≡ (f i || eqb (get_or m i 0) 1)
  pub none : some ≡ false → Nowhere n f

-- the islands' columns are covered: those where h holds
pub record Islands (n : ℕ) (h : ℕ → Bool) (some : Bool) (l m : List ℕ) : Type 0 where
  pub row : Shows n nowhere l
  pub cover : Shows n h m
  pub none : some ≡ false → Nowhere n h

-- of the row that begins at base the columns where f holds and h does not are set, and the bytes are without a 1 again
abbrev pub set_where : ℕ → (ℕ → Bool) → (ℕ → Bool) → ℕ → List ℕ → List ℕ
set_where base f h i m = cond (f i && not (h i)) (set m (base + i) 1) m

pub record Put (n base : ℕ) (c : Columns) (some : Bool) (l k m l' k' m' : List ℕ) : Type 0 where
  pub is : (f h : ℕ → Bool) → Has n f c l → Shows n h k → (some ≡ false → Nowhere n h) → m' ≡ loop (set_where base f h) 0 n m
  pub row : (f : ℕ → Bool) → Has n f c l → Shows n nowhere l'
  pub cover : (h : ℕ → Bool) → Shows n h k → (some ≡ false → Nowhere n h) → Shows n nowhere k'

-- the bytes of a row's scratch: n of them, none 1
pub record Blank (n : ℕ) (l : List ℕ) : Type 0 where
  pub long : n ≤ length l
  pub shows : Shows n nowhere l

-- whether column c of the row y is in an island
abbrev pub on_island : List Float → List Float → List ℕ → Region → Float → ℕ → Bool
on_island xs vs lens region y c = in_island vs lens region (v2 (get_or xs c nan) y)

-- whether column c of the row y is in a loop
abbrev pub in_loop : List Float → List Float → ℕ → ℕ → Float → ℕ → Bool
in_loop xs vs at n y c = point_in_loop vs at n (v2 (get_or xs c nan) y)
