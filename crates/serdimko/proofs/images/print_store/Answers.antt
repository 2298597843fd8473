use Rattle.std.proofs.Common.{sym, ◌∙◌, inr}
use Rattle.serdimko.proofs.images.print_store.Goals as goal

pub returns : goal.returns
returns g c =
    let new = c.new-ctl.ensures in
    rw c.in-Print.is (
    inr (
      c.new-ctl.result,
      c.print_query-result.new.ctl,
      c.as_slice.result,
      c.as_slice.ensures.value ∙ c.in-Ok.ensures.items ∙ c.lacks.ensures,
      new.honest,
      new.plain,
      new.store,
      new.lacks,
      c.keeps_its_store-2.ensures ∙ sym c.keeps_its_store.ensures,
      rw c.lacking-report.ensures at c.print_query-result.ensures,
    ))
