-- `flood_abandon` of adaptive.rs: a cell and the open cells connected with it are given up. Definitions only.
use Rattle.std.specs.Prelude.{ℕ, zero, suc, ◌+◌, ◌-◌, ◌*◌, ◌/◌, ◌%◌, cond, List, [], ◌∷◌, get_or, set, ltb}
use Rattle.loops.specs.Loop.{loop, Run, on, out, turn}
use Rattle.raster.specs.declared.grid.Grid.{Grid}
use Rattle.flood.specs.Place.{open_at}

-- the cells that are to be visited, the next one first, and the cells given up
pub record Flood : Type 0 where
  pub stack : List ℕ
  pub gone : List ℕ

abbrev pub fl : List ℕ → List ℕ → Flood
fl stack gone = record { stack = stack; gone = gone }

-- the cells beside cell k, where they exist: left, down, right, up
unfoldable pub around_of : Grid → ℕ → List ℕ → List ℕ
around_of g k l =
    let left = cond (ltb 0 (k % g.nx)) ((k - 1) ∷ l) l in
    let down = cond (ltb 0 (k / g.nx)) ((k - g.nx) ∷ left) left in
    let right = cond (ltb (k % g.nx + 1) g.nx) ((k + 1) ∷ down) down in
    cond (ltb (k / g.nx + 1) g.ny) ((k + g.nx) ∷ right) right

-- each turn pops a cell; each cell that is given up pushes four at most
abbrev pub flood_turns : Grid → ℕ
flood_turns g = 4 * (g.ny * g.nx) + 2

-- the loop left, or its turns used up, which never happens (proofs/FloodLaws.antt `flood_ends`)
unfoldable pub flooded : Run Flood (List ℕ) → List ℕ
flooded (on s) = s.gone
flooded (out gone) = gone

module _ (g : Grid) (map reach : List ℕ) where
  -- cell k is popped
  unfoldable pub visit_of : ℕ → List ℕ → List ℕ → Flood
  visit_of k rest gone = cond (open_at map reach gone k) (fl (around_of g k rest) (set gone k 1)) (fl rest gone)

  unfoldable pub pop_of : List ℕ → List ℕ → Run Flood (List ℕ)
  pop_of [] gone = out gone
  pop_of (k ∷ rest) gone = on (visit_of k rest gone)

  unfoldable pub flood_step : ℕ → Flood → Run Flood (List ℕ)
  flood_step i s = pop_of s.stack s.gone

  -- from cell k on
  unfoldable pub flood_of : ℕ → List ℕ → List ℕ
  flood_of k gone = flooded (loop (turn flood_step) 0 (flood_turns g) (on (fl (k ∷ []) gone)))

-- ---- the stack in a slice: its first n numbers, the last on top

unfoldable pub stack_of : ℕ → List ℕ → List ℕ
stack_of zero s = []
stack_of (suc n) s = get_or s n 0 ∷ stack_of n s
