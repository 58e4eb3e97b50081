-- What a loop wrote: the places from a to e after `start` hold f of their number, the others are as they were.
use Rattle.std.specs.Prelude.{◌≡◌, List, ℕ, ◌+◌, ◌≤◌, ◌<◌, get_or}

pub record Wrote (f : ℕ → ℕ) (start a e : ℕ) (s t : List ℕ) : Type 0 where
  pub cell : (x : ℕ) → a ≤ x → x < e → get_or t (start + x) 0 ≡ f x
  pub left : (c : ℕ) → c < start + a → get_or t c 0 ≡ get_or s c 0
  pub right : (c : ℕ) → start + e ≤ c → start + a ≤ c → get_or t c 0 ≡ get_or s c 0
