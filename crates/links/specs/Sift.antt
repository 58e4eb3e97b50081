-- How an entry finds its place in the heap: a hole moves up from the end, or down from the root, until the entry fits in. Definitions only.
use Rattle.std.specs.Prelude.{◌≡◌, Bool, false, List, ℕ, ◌+◌, ◌≤◌, ◌<◌, max, Float}
use Rattle.links.specs.declared.heap.Entry.{Entry}
use Rattle.links.specs.Heap.{before_of, one, count_to, parent, Ordered, entry_at, SameLong}

-- The hole has come up from n to k, and e goes into it or higher: what stood at k is counted twice, and but for place n, while the hole is there, all are in order.
pub record Rising (f₀ f : ℕ → Entry) (n : ℕ) (e : Entry) (k : ℕ) : Type 0 where
  pub high : k ≤ n
  pub all : (p : Entry → Bool) → count_to p f (n + 1) ≡ count_to p f₀ n + one p (f k)
  pub order : (i : ℕ) → 0 < i → i ≤ n → i + k < n + n → before_of (f i) (f (parent i)) ≡ false
  pub under : (i : ℕ) → 0 < i → i ≤ n → parent i ≡ k → before_of (f i) e ≡ false

pub record Risen (ests : List Float) (nodes : List ℕ) (n : ℕ) (e : Entry) (ests' : List Float) (nodes' : List ℕ) (k : ℕ) : Type 0 where
  pub kept : SameLong ests nodes ests' nodes'
  pub rising : Rising (entry_at ests nodes) (entry_at ests' nodes') n e k
  pub stops : 0 < k → before_of e (entry_at ests' nodes' (parent k)) ≡ false

-- The hole has come down from 0 to k among the first n, and e, which stood at n, goes into it or lower: all are in order, and what stood at k is counted twice.
pub record Sinking (f₀ f : ℕ → Entry) (n : ℕ) (e : Entry) (k : ℕ) : Type 0 where
  pub high : k < max n 1
  pub all : (p : Entry → Bool) → count_to p f n + one p e + one p (f₀ 0) ≡ count_to p f₀ (n + 1) + one p (f k)
  pub ordered : Ordered f n
  pub over : 0 < k → before_of e (f (parent k)) ≡ false

-- c is the child of k, among the first n, that no other one comes before
pub record Lesser (f : ℕ → Entry) (n k c : ℕ) : Type 0 where
  pub low : 0 < c
  pub high : c < n
  pub child : parent c ≡ k
  pub least : (i : ℕ) → 0 < i → i < n → parent i ≡ k → before_of (f i) (f c) ≡ false

pub record Sunk (ests : List Float) (nodes : List ℕ) (n : ℕ) (e : Entry) (ests' : List Float) (nodes' : List ℕ) (k : ℕ) : Type 0 where
  pub kept : SameLong ests nodes ests' nodes'
  pub sinking : Sinking (entry_at ests nodes) (entry_at ests' nodes') n e k
  pub stops : (i : ℕ) → 0 < i → i < n → parent i ≡ k → before_of (entry_at ests' nodes' i) e ≡ false
