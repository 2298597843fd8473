use Rattle.std.proofs.Common.{arith, sym, ◌∙◌}
use Rattle.ipmi_capture.proofs.MarkLemmas.{names_all, names_below, names_more, names_none, none_there, row_there}
use Rattle.ipmi_capture.proofs.named.Named.of.Goals as goal

pub records-init : goal.records-init
records-init c =
    rw (c.in_ok-vec.ensures.items_if_clones_equal (λ y same. same), c.in_ok-vec-2.ensures.items_if_clones_equal (λ y same. same)) (names_none c.args.image.now.sdr c.from.result c.from-2.result)

pub overflow_add-place : goal.overflow_add-place
overflow_add-place c = omega (arith, c.in-Some.ensures.few)

pub records-smaller : goal.records-smaller
records-smaller c =
    let row = row_there _ c.in-Some.bytes.now c.in-Some.ensures.bytes in
    omega (arith, names_below c.args.image.now.sdr c.records.place row.0 row.1)

pub records-preserved : goal.records-preserved
records-preserved c =
    let row = row_there _ c.in-Some.bytes.now c.in-Some.ensures.bytes in
    rw (c.add.ensures.sensors, c.add.ensures.devices)
    (names_more c.records.invariant row.0 row.1 row.2 c.add.ensures.fits c.add.ensures.fits_device
    (sym c.records.named.sensors.ok.0 ∙ c.records.named.sensor_places) (sym c.records.named.devices.ok.0 ∙ c.records.named.device_places))

pub returns : goal.returns
returns c = names_all c.records.invariant (none_there _ c.in_default.ensures.bytes)
