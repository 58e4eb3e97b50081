-- The row pass: the lower envelope of parabolas. Parabola p of a row is (x - p)² + d², with d the rows to the nearest mark of column p.
-- Its key is h p = p² + d², or `far` where column p has no mark. At x it stands at h p + x² - 2xp, so that two parabolas compare by h p + 2xq and h q + 2xp.
use Rattle.std.specs.Prelude.{◌≡◌, List, cond, ℕ, ◌+◌, ◌-◌, ◌*◌, ◌≤◌, ◌<◌, get_or, ltb}
use Rattle.distance.specs.Least.{Least, far, Mark, at, apart}
use Rattle.distance.specs.Column.{lost, Columns}

-- the key of column p, d rows from its nearest mark
abbrev pub key_of : ℕ → ℕ → ℕ
key_of p d = cond (ltb d lost) (d * d + p * p) far

-- h has the keys of the row whose first cell is base
pub record KeysOf (s : List ℕ) (base nx : ℕ) (h : ℕ → ℕ) : Type 0 where
  pub key : (p : ℕ) → p < nx → h p ≡ key_of p (get_or s (base + p) 0)

abbrev pub row_keys : List ℕ → ℕ → ℕ → ℕ
row_keys s base p = key_of p (get_or s (base + p) 0)

-- at x, parabola p is no higher than q; q is lower than p
abbrev pub Under : (ℕ → ℕ) → ℕ → ℕ → ℕ → Type 0
Under h x p q = h p + 2 * (x * q) ≤ h q + 2 * (x * p)

abbrev pub Over : (ℕ → ℕ) → ℕ → ℕ → ℕ → Type 0
Over h x p q = h q + 2 * (x * p) < h p + 2 * (x * q)

-- p is a parabola of the row's first q
pub record Real (h : ℕ → ℕ) (q p : ℕ) : Type 0 where
  pub one : p < q
  pub key : h p < far

-- of the first q parabolas, p is a lowest at x
pub record Lowest (h : ℕ → ℕ) (q x p : ℕ) : Type 0 where
  pub real : Real h q p
  pub least : (r : ℕ) → Real h q r → Under h x p r

-- keys small enough for the arithmetic, and parabolas not below 0
pub record Keyed (h : ℕ → ℕ) (nx : ℕ) : Type 0 where
  pub wide : nx ≤ 4096
  pub small : (p : ℕ) → Real h nx p → h p ≤ 33538050
  pub root : (p : ℕ) → Real h nx p → p * p ≤ h p

-- the height of parabola p at x, from its key
abbrev pub height_of : ℕ → ℕ → ℕ → ℕ
height_of p key x = (key + x * x) - 2 * (x * p)

abbrev pub height : (ℕ → ℕ) → ℕ → ℕ → ℕ
height h x p = height_of p (h p) x

-- ---- the stack

-- x lies in the region of the kth of n: from where it begins, up to where the next one begins
pub record Owns (from : ℕ → ℕ) (n x k : ℕ) : Type 0 where
  pub one : k < n
  pub begin : from k ≤ x
  pub end : k + 1 < n → x < from (k + 1)

abbrev pub Rises : (ℕ → ℕ) → ℕ → Type 0
Rises from n = (k l : ℕ) → k < l → l < n → from k < from l

-- n parabolas: `at k` is the kth, and it is a lowest of the first q in its region, which begins at `from k`
pub record Env (h at from : ℕ → ℕ) (nx q n : ℕ) : Type 0 where
  pub few : n ≤ q
  pub first : 0 < n → from 0 ≡ 0
  pub rise : Rises from n
  pub inside : (k : ℕ) → k < n → from k < nx
  pub empty : n ≡ 0 → (r : ℕ) → Real h q r → ⊥
  pub low : (k x : ℕ) → Owns from n x k → x < nx → Lowest h q x (at k)

-- the stack stands at place s, three numbers for each parabola: its column, its key, and where it begins
abbrev pub column : List ℕ → ℕ → ℕ → ℕ
column w s k = get_or w (s + 3 * k) 0

abbrev pub key_at : List ℕ → ℕ → ℕ → ℕ
key_at w s k = get_or w (s + 3 * k + 1) 0

abbrev pub begins : List ℕ → ℕ → ℕ → ℕ
begins w s k = get_or w (s + 3 * k + 2) 0

pub record Stack (h : ℕ → ℕ) (w : List ℕ) (s nx q n : ℕ) : Type 0 where
  pub env : Env h (column w s) (begins w s) nx q n
  pub keys : (k : ℕ) → k < n → key_at w s k ≡ h (column w s k)

-- a stack's numbers are small enough for the arithmetic
pub record Entry (w : List ℕ) (s nx q k : ℕ) : Type 0 where
  pub before : column w s k < q
  pub small : key_at w s k ≤ 33538050
  pub root : column w s k * column w s k ≤ key_at w s k
  pub inside : begins w s k < nx

pub record Sound (w : List ℕ) (s nx q n : ℕ) : Type 0 where
  pub wide : nx ≤ 4096
  pub few : n ≤ q
  pub row : q ≤ nx
  pub entry : (k : ℕ) → k < n → Entry w s nx q k

-- of n stacked parabolas those from r on are beaten by q, of the given key, where they begin, and the one below is not
pub record Popped (w : List ℕ) (s q key n r : ℕ) : Type 0 where
  pub fewer : r ≤ n
  pub gone : (k : ℕ) → r ≤ k → k < n → key + 2 * (begins w s k * column w s k) < key_at w s k + 2 * (begins w s k * q)
  pub stays : 0 < r → key_at w s (r - 1) + 2 * (begins w s (r - 1) * q) ≤ key + 2 * (begins w s (r - 1) * column w s (r - 1))

-- a parabola is put on top of r others
pub record Top (w : List ℕ) (s r q key x : ℕ) (t : List ℕ) : Type 0 where
  pub column-is : column t s r ≡ q
  pub key-is : key_at t s r ≡ key
  pub begins-is : begins t s r ≡ x
  pub kept : (c : ℕ) → c < s + 3 * r → get_or t c 0 ≡ get_or w c 0
  pub rest : (c : ℕ) → s + 3 * r + 3 ≤ c → get_or t c 0 ≡ get_or w c 0

-- what stands outside the scratch is kept
pub record Rest (s nx : ℕ) (w t : List ℕ) : Type 0 where
  pub left : (c : ℕ) → c < s → get_or t c 0 ≡ get_or w c 0
  pub right : (c : ℕ) → s + 3 * nx ≤ c → get_or t c 0 ≡ get_or w c 0

-- parabola q, of the given key, is taken in, whatever the row's keys are
abbrev pub Taken : ℕ → ℕ → ℕ → ℕ → ℕ → ℕ → List ℕ → List ℕ → Type 0
Taken s nx q key n e w t = (h : ℕ → ℕ) → Keyed h nx → h q ≡ key → Stack h w s nx q n → Stack h t s nx (q + 1) e

-- ---- the row

-- the cells of the row from x on hold the envelope's heights; the rest is kept
pub record Row (h : ℕ → ℕ) (nx base e : ℕ) (w t : List ℕ) : Type 0 where
  pub cell : (x : ℕ) → e ≤ x → x < nx → Least far (Real h nx) (height h x) (get_or t (base + x) 0)
  pub left : (c : ℕ) → c < base → get_or t c 0 ≡ get_or w c 0
  pub right : (c : ℕ) → base + nx ≤ c → get_or t c 0 ≡ get_or w c 0

-- whatever the keys that the stack was made from
abbrev pub Filled : ℕ → ℕ → ℕ → ℕ → ℕ → List ℕ → List ℕ → Type 0
Filled s nx n base e w t = (h : ℕ → ℕ) → Keyed h nx → Stack h w s nx nx n → Row h nx base e w t

-- the row from base on, of rows to a mark in w, holds least squared distances in t
pub record RowOf (nx base s : ℕ) (w t : List ℕ) : Type 0 where
  pub cell : (x : ℕ) → x < nx → Least far (Real (row_keys w base) nx) (height (row_keys w base) x) (get_or t (base + x) 0)
  pub left : (c : ℕ) → c < base → get_or t c 0 ≡ get_or w c 0
  pub mid : (c : ℕ) → base + nx ≤ c → c < s → get_or t c 0 ≡ get_or w c 0
  pub right : (c : ℕ) → s + 3 * nx ≤ c → get_or t c 0 ≡ get_or w c 0

-- the rows before row e hold least squared distances, the others are as they were
pub record RowsOf (nx ny s e : ℕ) (w t : List ℕ) : Type 0 where
  pub cell : (mark : ℕ) (m : List ℕ) → Columns mark m nx ny w → (i j : ℕ) → i < nx → j < e → Least far (Mark mark m nx ny) (apart (at i j)) (get_or t (j * nx + i) 0)
  pub mid : (c : ℕ) → e * nx ≤ c → c < s → get_or t c 0 ≡ get_or w c 0
  pub right : (c : ℕ) → s + 3 * nx ≤ c → get_or t c 0 ≡ get_or w c 0
