use Rattle.std.proofs.Common.{arith, length-take}
use Rattle.ipmi_commands.proofs.mark.has_frame.Goals as goal

pub slice_bounds-eq-end-3 : goal.slice_bounds-eq-end-3
slice_bounds-eq-end-3 c = omega (arith, length-take 18 c.args.text.now, c.requires)
