use Rattle.std.proofs.Common.{rules, sym, ◌∙◌, true≢false}
use Rattle.ipmi_image.proofs.SnapshotLemmas.{part_fails_any}
use Rattle.ipmi_image.proofs.snapshot_controller.SnapshotControllerController.part.Goals as goal

pub returns-in-Some-clause-honest : goal.returns-in-Some-clause-honest
returns-in-Some-clause-honest c = λ honest.
    let failed = c.in-Some.ensures.counts in
    record {
      change = search rules;
      gives = rw (sym c.reads_ahead-ahead.ensures) (part_fails_any _ _ _ _ _ _ _ failed.3);
      keeps = search rules;
      beside = search rules;
      plain = λ plain. absurd (true≢false (sym plain ∙ failed.4));
    }
