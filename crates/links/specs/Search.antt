-- The search for a way over the lattice, as `link_path` of adaptive.rs does it (A* with 8 neighbours): `cost` is the Rust's `g`, `before` its `from`. Definitions only.
use Rattle.std.specs.Prelude.{◌≡◌, Bool, true, false, ◌||◌, cond, List, [], ◌∷◌, ℕ, ◌+◌, ◌*◌, ◌≤◌, ◌<◌, eqb, ltb, leb, length, get_or, set, take, replicate, Float, Option, Some, None}
use Rattle.std.specs.Float.{nan, binary64}
use Rattle.std.specs.Float.Ieee.{of_bits, add, lt}
use Rattle.loops.specs.Loop.{loop, Run, on, out, turn}
use Rattle.loops.specs.Regions.{within}
use Rattle.loops.specs.Frame.{Only}
use Rattle.geom.specs.Vec.{f0, distance_of}
use Rattle.setup.specs.Layout.{before_from, segments_from}
use Rattle.links.specs.declared.NodeNo.{NodeNo}
use Rattle.links.specs.declared.heap.Entry.{Entry}
use Rattle.links.specs.declared.lattice.Lattice.{Lattice}
use Rattle.links.specs.declared.search.Sought.{Sought}
use Rattle.links.specs.declared.search.Turn.{Turn}
use Rattle.links.specs.declared.search.Turn.TheVariants.{On, Out}
use Rattle.links.specs.Heap.{insert, count, entry_at, listed, Ordered}
use Rattle.links.specs.Lattice.{nodes, centre_of, node_free, beside_of}

-- the open entries are in order, the next to be taken first
pub record Search : Type 0 where
  pub cost : List Float
  pub before : List ℕ
  pub queue : List Entry

abbrev pub st : List Float → List ℕ → List Entry → Search
st c b q = record { cost = c; before = b; queue = q }

-- infinity
abbrev pub top : Float
top = of_bits binary64 0x7ff0_0000_0000_0000

-- no node is before this one
abbrev pub no_node : ℕ
no_node = 4294967295

abbrev pub entry : Float → NodeNo → Entry
entry est v = record { est = est; node = v }

-- the start costs 0, and is open
unfoldable pub started : Lattice → Search
started l =
    st (set (replicate (nodes l) top) l.start.0 f0) (replicate (nodes l) no_node) (insert (entry (distance_of (centre_of l l.start) l.end) l.start) [])

-- e is open too
unfoldable pub opened : Entry → Search → Search
opened e s = st s.cost s.before (insert e s.queue)

-- e is open too, before all others
unfoldable pub reopened : Entry → Search → Search
reopened e s = st s.cost s.before (e ∷ s.queue)

-- e's node costs `cand` by way of v, and is open
unfoldable pub improved : NodeNo → Float → Entry → Search → Search
improved v cand e s = st (set s.cost e.node.0 cand) (set s.before e.node.0 v.0) (insert e s.queue)

-- what t costs by way of v
unfoldable pub candidate : Lattice → NodeNo → NodeNo → List Float → Float
candidate l v t cost = add binary64 (get_or cost v.0 nan) (distance_of (centre_of l v) (centre_of l t))

-- the way over v, offered to its neighbour t
unfoldable pub offer_of : Lattice → NodeNo → NodeNo → Search → Search
offer_of l v t s =
    let cand = candidate l v t s.cost in
    cond (lt cand (get_or s.cost t.0 nan)) (improved v cand (entry (add binary64 cand (distance_of (centre_of l t) l.end)) t) s) s

-- the goal, and a node that is free
unfoldable pub reachable : Lattice → List ℕ → List ℕ → NodeNo → Bool
reachable l allowed squares t = eqb t.0 l.goal.0 || node_free l allowed squares t

unfoldable pub visit_at : Lattice → List ℕ → List ℕ → NodeNo → Option NodeNo → Search → Search
visit_at l allowed squares v None s = s
visit_at l allowed squares v (Some t) s = cond (reachable l allowed squares t) (offer_of l v t s) s

unfoldable pub visit_of : Lattice → List ℕ → List ℕ → NodeNo → ℕ → Search → Search
visit_of l allowed squares v d s = visit_at l allowed squares v (beside_of l v d) s

unfoldable pub expand_of : Lattice → List ℕ → List ℕ → NodeNo → Search → Search
expand_of l allowed squares v s = loop (visit_of l allowed squares v) 0 8 s

-- the answer, and the nodes before each
pub record Outcome : Type 0 where
  pub sought : Sought
  pub before : List ℕ

abbrev pub outcome : Bool → ℕ → List ℕ → Outcome
outcome found expanded before = record { sought = record { found = found; expanded = expanded }; before = before }

-- with i nodes expanded and these entries open: the next is the goal, or there is none, or it is one too many, or it is expanded
unfoldable pub seek_next : Lattice → List ℕ → List ℕ → ℕ → Search → List Entry → Run Search Outcome
seek_next l allowed squares i s [] = out (outcome false i s.before)
seek_next l allowed squares i s (e ∷ r) =
    cond (eqb e.node.0 l.goal.0) (out (outcome true i s.before))
    (cond (ltb (nodes l) (i + 1)) (out (outcome false (i + 1) s.before)) (on (expand_of l allowed squares e.node (st s.cost s.before r))))

unfoldable pub seek_step : Lattice → List ℕ → List ℕ → ℕ → Search → Run Search Outcome
seek_step l allowed squares i s = seek_next l allowed squares i s s.queue

unfoldable pub ended : Run Search Outcome → Outcome
ended (on s) = outcome false 0 s.before
ended (out o) = o

-- every turn but the last expands a node, and no more than the lattice has
unfoldable pub seek_of : Lattice → List ℕ → List ℕ → Outcome
seek_of l allowed squares = ended (loop (turn (seek_step l allowed squares)) 0 (nodes l + 1) (on (started l)))

-- ---- the state in slices: n costs and n nodes before, each followed by 9 n places of the heap, m of them in use

unfoldable pub search_in : ℕ → ℕ → List ℕ → List Float → Search
search_in n m words costs = st (take n costs) (take n words) (listed (entry_at (within n (10 * n) costs) (within n (10 * n) words)) m)

pub record Ready (n m : ℕ) (words : List ℕ) (costs : List Float) : Type 0 where
  pub in_words : 10 * n ≤ length words
  pub in_costs : 10 * n ≤ length costs
  pub high : m ≤ 9 * n
  pub ordered : Ordered (entry_at (within n (10 * n) costs) (within n (10 * n) words)) m

-- both slices keep their lengths, and r entries are in use
pub record Grown (n r : ℕ) (words : List ℕ) (costs : List Float) (words' : List ℕ) (costs' : List Float) : Type 0 where
  pub words_long : length words' ≡ length words
  pub costs_long : length costs' ≡ length costs
  pub ready : Ready n r words' costs'

-- ---- the u32 of the search: the squares of the distance to stock, the transform's scratch, then the nodes before and the heap's nodes, 15 for each cell

abbrev pub cells : Lattice → ℕ
cells l = l.grid.ny * l.grid.nx

abbrev pub squares_in : Lattice → List ℕ → List ℕ
squares_in l u = within 0 (cells l) u

abbrev pub words_in : Lattice → List ℕ → List ℕ
words_in l u = within (before_from (cells l)) (segments_from (cells l)) u

pub record Searching (l : Lattice) (m : ℕ) (u : List ℕ) (costs : List Float) : Type 0 where
  pub long : 15 * cells l ≤ length u
  pub ready : Ready (nodes l) m (words_in l u) costs

-- of u only the search's part is changed, and r entries are in use
pub record Visited (l : Lattice) (r : ℕ) (u : List ℕ) (costs : List Float) (u' : List ℕ) (costs' : List Float) : Type 0 where
  pub only : Only (5 * cells l) (15 * cells l) u u'
  pub costs_long : length costs' ≡ length costs
  pub searching : Searching l r u' costs'

-- every node before another is one of n
pub record Befores (n : ℕ) (before : List ℕ) : Type 0 where
  pub known : (k : ℕ) → k < n → (get_or before k 0 ≡ no_node → ⊥) → get_or before k 0 < n

-- and so is every open entry's node
pub record Sound (n : ℕ) (s : Search) : Type 0 where
  pub opens : count (λ (e : Entry). leb n e.node.0) s.queue ≡ 0
  pub befores : Befores n s.before

-- the answer with the nodes before, and what a turn answers
abbrev pub outcome_in : Lattice → Sought → List ℕ → Outcome
outcome_in l o u = record { sought = o; before = take (nodes l) (words_in l u) }

abbrev pub turn_in : Lattice → Turn → List ℕ → List Float → Run Search Outcome
turn_in l (On r) u costs = on (search_in (nodes l) r (words_in l u) costs)
turn_in l (Out o) u costs = out (outcome_in l o u)

-- a turn of number i keeps room for the next
abbrev pub Room : Lattice → ℕ → Turn → List ℕ → List Float → Type 0
Room l i (On r) u costs = Searching l r u costs × (r ≤ 8 * (i + 1) + 1)
Room l i (Out o) u costs = Unit {0}

pub record Turned (l : Lattice) (i : ℕ) (t : Turn) (u : List ℕ) (costs : List Float) (u' : List ℕ) (costs' : List Float) : Type 0 where
  pub only : Only (5 * cells l) (15 * cells l) u u'
  pub costs_long : length costs' ≡ length costs
  pub room : Room l i t u' costs'
