use Rattle.std.proofs.Common.{◌∙◌, arith}
use Rattle.ipmi_sensors.proofs.BlockLemmas.{block_cut, block_more, first_blocks}
use Rattle.ipmi_sensors.proofs.sensors.print_sensors.Goals as goal

pub returns-in-Err-clause-prints : goal.returns-in-Err-clause-prints
returns-in-Err-clause-prints g c =
    first_blocks (g.F.Format.texts c.args.format.now) c.args.name.now c.args.found.now c.deref-sensor-items.result.now (c.deref-sensor-items.ensures.value ∙ c.found.view_is) c.sensors.sensor-index
    c.sensors-test.true c.sensor-item.result c.sensor-item.is c.sensors.invariant.1

pub returns-in-Err-write_piece-clause-prints : goal.returns-in-Err-write_piece-clause-prints
returns-in-Err-write_piece-clause-prints g c =
    block_cut (g.F.Format.texts c.args.format.now) c.args.name.now c.args.found.now c.deref-sensor-items.result.now (c.deref-sensor-items.ensures.value ∙ c.found.view_is) c.sensors.sensor-index
    c.sensors-test.true c.sensor-item.result c.sensor-item.is c.sensors.invariant.1 c.deref.result.now (rw c.deref.ensures.value c.in-Ok.ensures) _ c.in-Err-write_piece.failure c.in-Err-write_piece.ensures.piece

pub sensors-preserved : goal.sensors-preserved
sensors-preserved g c = (
  omega (arith, c.in-Ok-write_piece.ensures.faults, c.sensors.invariant.0),
  block_more (g.F.Format.texts c.args.format.now) c.args.name.now c.args.found.now c.deref-sensor-items.result.now (c.deref-sensor-items.ensures.value ∙ c.found.view_is) c.sensors.sensor-index
      c.sensors-test.true c.sensor-item.result c.sensor-item.is c.sensors.invariant.1 _ c.in-Ok.ensures (rw c.deref.ensures.value at c.in-Ok-write_piece.ensures.piece),
)
