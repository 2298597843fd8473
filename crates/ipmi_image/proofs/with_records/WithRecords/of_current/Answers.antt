use Rattle.std.proofs.Common.{◌∙◌, ap, subst, sym}
use Rattle.ipmi_image.specs.Prelude.{InfoTellsRecords}
use Rattle.ipmi_image.proofs.WithLemmas.{current_in_store}
use Rattle.ipmi_image.proofs.with_records.WithRecords.of_current.Goals as goal

pub returns-then-are_current-clause-same : goal.returns-then-are_current-clause-same
returns-then-are_current-clause-same g c = λ honest tells.
    let read = c.are_current.ensures.reads in
    let is = current_in_store _ read.0 c.args.tries _ _ (sym read.3 ∙ c.if-are_current.true) (read.2 honest).is in
    c.new.ensures.same (subst (λ machine. InfoTellsRecords c.args.image (g.C.Controller.seen machine).store) c.new.ensures.machine tells) is
    ∙ ap (λ machine. (g.C.Controller.seen machine).store) (sym c.new.ensures.machine)
