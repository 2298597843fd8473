use Rattle.std.proofs.Common.{refl}
use Rattle.ipmi_image.specs.Below.{row_of_record}
use Rattle.ipmi_image.proofs.BuildLemmas.{chained-snoc, HaveNext-snoc}
use Rattle.ipmi_image.proofs.builder.put_record.Goals as goal

pub returns-in-Ok-clause-next : goal.returns-in-Ok-clause-next
returns-in-Ok-clause-next c =
    rw c.in-Ok.ensures.put.1 (HaveNext-snoc c.args.rows.now (row_of_record c.args.lent.now) c.requires.next)

pub returns-in-Ok-clause-put : goal.returns-in-Ok-clause-put
returns-in-Ok-clause-put c = (
  rw c.in-Ok.ensures.put.0 refl,
  rw c.in-Ok.ensures.put.1 (chained-snoc c.args.rows.now (row_of_record c.args.lent.now) c.requires.next),
)
