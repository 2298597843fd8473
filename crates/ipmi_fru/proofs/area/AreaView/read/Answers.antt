use Rattle.std.proofs.Common.{rules}
use Rattle.ipmi_fru.proofs.AreaLemmas.{past_end, is_area}
use Rattle.ipmi_fru.proofs.area.AreaView.read.Goals as goal

pub returns-then-not-are_spelt-clause-err : goal.returns-then-not-are_spelt-clause-err
returns-then-not-are_spelt-clause-err c = past_end c.args.kind c.args.offset c.args.bytes.now c.in_ok-area.area.now c.field_part.result.now (search rules) (search rules) (search rules) (search rules)

pub returns-clause-ok : goal.returns-clause-ok
returns-clause-ok c = is_area c.args.kind c.args.offset c.args.bytes.now c.in_ok-area.area.now c.field_part.result.now (search rules) (search rules) (search rules) (search rules)
