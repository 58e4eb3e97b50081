-- The open entries of the link search, a list in order: the least estimate first and, on equal estimates, the lower node (document 01's rule for ties).
-- `insert` adds an entry in its place; the first is the next to be taken. `Holds` says when a binary heap in two slices holds such a list. Definitions only.
use Rattle.std.specs.Prelude.{◌≡◌, Bool, true, false, cond, List, [], ◌∷◌, ℕ, zero, suc, ◌+◌, ◌-◌, ◌/◌, ◌≤◌, ◌<◌, ltb, length, get_or, Float}
use Rattle.std.specs.Float.{nan}
use Rattle.numbers.specs.Order.{total_of}
use Rattle.std.specs.declared.cmp.Ordering.{Ordering}
use Rattle.std.specs.declared.cmp.Ordering.TheVariants.{Less, Equal, Greater}
use Rattle.links.specs.declared.heap.Entry.{Entry}
use Rattle.links.specs.Node.{node_in}

-- by how two estimates compare, and on equal ones by how the nodes do
unfoldable pub settled : Ordering → Bool → Bool
settled Less t = true
settled Equal t = t
settled Greater t = false

-- a comes before b
unfoldable pub before_of : Entry → Entry → Bool
before_of a b = settled (total_of a.est b.est) (ltb a.node.0 b.node.0)

unfoldable pub insert : Entry → List Entry → List Entry
insert e [] = e ∷ []
insert e (a ∷ l) = cond (before_of a e) (a ∷ insert e l) (e ∷ a ∷ l)

-- 1 where the entry passes the test, and how many of a list do
abbrev pub one : (Entry → Bool) → Entry → ℕ
one p e = cond (p e) 1 0

unfoldable pub count : (Entry → Bool) → List Entry → ℕ
count p [] = 0
count p (e ∷ l) = one p e + count p l

-- how many of the first n do
unfoldable pub count_to : (Entry → Bool) → (ℕ → Entry) → ℕ → ℕ
count_to p f zero = 0
count_to p f (suc n) = one p (f n) + count_to p f n

-- none of the later entries comes before an earlier one
pub data Sorted : List Entry → Type 0 where
  none : Sorted []
  first : {e : Entry} {l : List Entry} → count (λ (a : Entry). before_of a e) l ≡ 0 → Sorted l → Sorted (e ∷ l)

-- ---- the list in slices

unfoldable pub entry_at : List Float → List ℕ → ℕ → Entry
entry_at ests nodes i = record { est = get_or ests i nan; node = node_in nodes i }

abbrev pub parent : ℕ → ℕ
parent i = (i - 1) / 2

-- the first n entries as a heap: none comes before its parent
pub record Ordered (f : ℕ → Entry) (n : ℕ) : Type 0 where
  pub order : (i : ℕ) → 0 < i → i < n → before_of (f i) (f (parent i)) ≡ false

-- both slices have n places
pub record Lent (ests : List Float) (nodes : List ℕ) (n : ℕ) : Type 0 where
  pub in_ests : n ≤ length ests
  pub in_nodes : n ≤ length nodes

-- the list of the first n entries, inserted one by one
unfoldable pub listed : (ℕ → Entry) → ℕ → List Entry
listed f zero = []
listed f (suc n) = insert (f n) (listed f n)

-- The first n places hold the entries of l, in another order: whatever is counted, there are as many. What lies beyond them is free.
pub record Holds (l : List Entry) (ests : List Float) (nodes : List ℕ) (n : ℕ) : Type 0 where
  pub sorted : Sorted l
  pub lent : Lent ests nodes n
  pub ordered : Ordered (entry_at ests nodes) n
  pub same : (p : Entry → Bool) → count_to p (entry_at ests nodes) n ≡ count p l

-- both slices keep their lengths
pub record SameLong (ests : List Float) (nodes : List ℕ) (ests' : List Float) (nodes' : List ℕ) : Type 0 where
  pub ests_long : length ests' ≡ length ests
  pub nodes-long : length nodes' ≡ length nodes

-- what `push` leaves of n entries
pub record Pushed (ests : List Float) (nodes : List ℕ) (n : ℕ) (e : Entry) (ests' : List Float) (nodes' : List ℕ) : Type 0 where
  pub kept : SameLong ests nodes ests' nodes'
  pub holds : (l : List Entry) → Holds l ests nodes n → Holds (insert e l) ests' nodes' (n + 1)

-- what `pop` leaves of n entries, having taken r
pub record Popped (ests : List Float) (nodes : List ℕ) (n : ℕ) (r : Entry) (ests' : List Float) (nodes' : List ℕ) : Type 0 where
  pub kept : SameLong ests nodes ests' nodes'
  pub taken : (e : Entry) (l : List Entry) → Holds (e ∷ l) ests nodes n → r ≡ e
  pub holds : (e : Entry) (l : List Entry) → Holds (e ∷ l) ests nodes n → Holds l ests' nodes' (n - 1)
