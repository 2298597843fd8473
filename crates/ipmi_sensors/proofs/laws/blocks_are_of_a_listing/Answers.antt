use Rattle.ipmi_sensors.proofs.BlockLemmas.{blocks_of_listing}
use Rattle.ipmi_sensors.proofs.laws.blocks_are_of_a_listing.Goals as goal

pub returns : goal.returns
returns g c = blocks_of_listing (g.F.Format.texts c.args._format.now)
