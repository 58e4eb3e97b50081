-- `vectors_maps::contact::judged` meets its contract. Assumes nothing.
use Rattle.std.proofs.Common.{refl, arith}
use Rattle.vectors_maps.proofs.MapLaws.{few, over_made, rim-room}
use Rattle.raster.proofs.ContactLaws.{rim-same}
use Rattle.vectors_maps.proofs.AnswerLaws.{contact_agrees}
use Rattle.vectors_maps.proofs.contact.judged.Goals as goal

pub overflow_mul-ny : goal.overflow_mul-ny
overflow_mul-ny c = omega (arith, few _ _ c.requires)

pub make-requires : goal.make-requires
make-requires c = omega (arith, few _ _ c.requires)

pub fill_rim-requires : goal.fill_rim-requires
fill_rim-requires c = rim-room _ _ c.samples_of.ensures c.if-asked-gt64.false

pub rim_contact-t-requires : goal.rim_contact-t-requires
rim_contact-t-requires c = record { over = over_made _ _ _ _ _ _ _ _ _ c.requires c.grid-g.ensures c.make.ensures refl; rim = rim-same c.samples_of.ensures c.fill_rim.ensures.1 }

pub returns : goal.returns
returns c = λ h. contact_agrees c.args.s.now _ _ _ _ _ _ _ _ _ c.make.ensures c.grid-g.ensures c.point.ensures c.float.ensures c.rim_contact-t.ensures c.angle_of.ensures c.pattern.ensures h
