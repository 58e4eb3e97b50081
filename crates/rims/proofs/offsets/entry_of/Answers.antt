-- `rims::offsets::entry_of` meets its contract. Assumes nothing.
use Prim.Native.Nat.{◌+◌, ◌*◌, ◌<◌, ◌^◌}
use native.Mathlib.Omega.{arith}
use Rattle.rims.proofs.OffsetLaws.{place-most, entry-few, entry-is, entry-none}
use Rattle.rims.proofs.offsets.entry_of.Goals as goal
use Rattle.rims.proofs.offsets.entry_of.Goals.{Then-is_fixed-2}

-- the number is small
few : (c : Then-is_fixed-2) → c.place_of-c.result * c.args.g.nx + c.place_of-a.result + 1 < 2 ^ 32
few c = entry-few c.args.g c.requires.sides _ _ (place-most _ _ _ _ _ c.place_of-a.ensures) (place-most _ _ _ _ _ c.place_of-c.ensures)

pub is_fixed-requires : goal.is_fixed-requires
is_fixed-requires c = let p = c.requires in record { n_bound = p.sides.columns; s_bound = p.s_bound; a_bound = omega (arith, p.sides.columns, place-most _ _ _ _ c.place_of-a.result c.place_of-a.ensures) }

pub is_fixed-requires-then-is_fixed : goal.is_fixed-requires-then-is_fixed
is_fixed-requires-then-is_fixed c = let p = c.requires in record { n_bound = p.sides.rows; s_bound = p.s_bound; a_bound = omega (arith, p.sides.rows, place-most _ _ _ _ c.place_of-c.result c.place_of-c.ensures) }

pub overflow_mul-result : goal.overflow_mul-result
overflow_mul-result c = omega (arith, few (goal.at.overflow_mul-result c).Then-is_fixed-2)

pub overflow_add-result : goal.overflow_add-result
overflow_add-result c = omega (arith, few (goal.at.overflow_add-result c).Then-is_fixed-2)

pub overflow_add-result-then-is_fixed-2 : goal.overflow_add-result-then-is_fixed-2
overflow_add-result-then-is_fixed-2 c = omega (arith, few (goal.at.overflow_add-result-then-is_fixed-2 c).Then-is_fixed-2)

pub returns-then-is_fixed-2 : goal.returns-then-is_fixed-2
returns-then-is_fixed-2 c = (
  few (goal.at.returns-then-is_fixed-2 c).Then-is_fixed-2,
  entry-is _ c.requires.sides _ _ _ _ c.scale-v.ensures _ _ (c.is_fixed.ensures c.if-is_fixed.true)
      (c.is_fixed-then-is_fixed.ensures c.if-is_fixed-2.true),
)
