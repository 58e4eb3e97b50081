-- `entry::questions::Question::number` meets its contract: the variants are numbered in order. Assumes nothing.
use mathlib.Core.Path.{◌≡◌, refl}
use Prim.Native.Nat.{◌+◌}
use denote.Enum.Declared.{tag_of}
use Rattle.entry.specs.Questions.{number_of}
use Rattle.entry.specs.contracts.questions.Question.{the_type}
use Rattle.entry.specs.declared.questions.Question.TheVariants.{Diameter, Engagement, StepDown, Depth, Leave, Safe, Feeds, Ramp, Helix, Thinning, Resolution, Ranges, Shapes, Raster, Lent}
use Rattle.entry.proofs.questions.Question.number.Goals as goal

pub returns : goal.returns
unfolding number_of
returns c = elim c.args.self as (λ q. tag_of the_type q + 1 ≡ number_of q) [ Diameter ↦ refl | Engagement ↦ refl | StepDown ↦ refl | Depth ↦ refl | Leave ↦ refl | Safe ↦ refl | Feeds ↦ refl | Ramp ↦ refl | Helix ↦ refl | Thinning ↦ refl | Resolution ↦ refl | Ranges ↦ refl | Shapes ↦ refl | Raster ↦ refl | Lent ↦ refl ]
