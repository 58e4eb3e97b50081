-- The hits of the rims around 32 cells side by side, summed up sample by sample. Definitions only.
use Rattle.std.specs.Prelude.{ℕ, ◌+◌, ◌≤◌, ◌<◌, ◌≡◌, cond, List, length, get_or, eqb, Float}
use Rattle.loops.specs.Loop.{loop}
use Rattle.raster.specs.Grid.{center_of}
use Rattle.raster.specs.Contact.{hit_at, hits_of}
use Rattle.raster.specs.declared.grid.Grid.{Grid}

-- count c of v, one more where cell a + c is stock
abbrev pub one_more : List ℕ → ℕ → List ℕ → ℕ → ℕ
one_more m a v c = cond (eqb (get_or m (a + c) 0) 1) (get_or v c 0 + 1) (get_or v c 0)

-- the first k cells from number a on are added to the counts v, the others are as they were
pub record Added (m : List ℕ) (a k : ℕ) (v v' : List ℕ) : Type 0 where
  pub long : length v' ≡ length v
  pub at : (c : ℕ) → c < k → get_or v' c 0 ≡ one_more m a v c
  pub rest : (c : ℕ) → k ≤ c → get_or v' c 0 ≡ get_or v c 0

-- 32 counts, each with room for one more
pub record Countable (v : List ℕ) : Type 0 where
  pub long : length v ≡ 32
  pub few : (c : ℕ) → c < 32 → get_or v c 0 < 65535

-- the counts are the hits of the first k samples of the rims around the 32 cells from (i, j) on
pub record Summed (g : Grid) (m : List ℕ) (r : Float) (n i j k : ℕ) (v : List ℕ) : Type 0 where
  pub long : length v ≡ 32
  pub at : (c : ℕ) → c < 32 → get_or v c 0 ≡ loop (hit_at g m (center_of g (i + c) j) r n) 0 k 0

-- they are those of all n samples
pub record HitsAlong (g : Grid) (m : List ℕ) (r : Float) (n i j : ℕ) (v : List ℕ) : Type 0 where
  pub at : (c : ℕ) → c < 32 → get_or v c 0 ≡ hits_of g m (center_of g (i + c) j) r n
