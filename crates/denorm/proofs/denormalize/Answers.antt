use Rattle.denorm.proofs.Writes.{denormalise_none, denormalise_done}
use Rattle.denorm.proofs.denormalize.Goals as goal

pub returns-then-not-fits : goal.returns-then-not-fits
returns-then-not-fits c = denormalise_none _ _ c.args.list.now c.args.out.now _ c.fits.ensures c.if-not-fits.true

pub returns : goal.returns
returns c = denormalise_done _ _ c.args.list.now c.args.out.now _ _ _ c.fits.ensures c.if-not-fits.false c.write.ensures
