use Rattle.std.proofs.Common.{◌≡◌, ◌==◌, false, length, refl, sym}
use Rattle.ipmi_image.proofs.SnapshotLemmas.{fails_without}
use Rattle.ipmi_image.proofs.snapshot_controller.SnapshotController.refusal.Goals as goal

pub returns-clause-counts : goal.returns-clause-counts
returns-clause-counts c =
    let told = c.in_ok-code.ensures in
    let failed = c.fail.ensures in
    let lacking : (length c.args.self.now.lacks.items == 0) ≡ false = rw (sym c.as_slice.ensures.value) told.lacking in
    rw (lacking, failed.code) (failed.counted, failed.failure, failed.no_store, fails_without c.args.ahead _ _ _ _ c.in_ok-code.code _ _ told.refuses failed.counts, refl)
