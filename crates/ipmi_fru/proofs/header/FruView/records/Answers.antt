use Rattle.std.proofs.Common.{rules}
use Rattle.ipmi_fru.specs.Prelude.{items_left}
use Rattle.ipmi_fru.proofs.RecordLemmas.{some_items, no_items}
use Rattle.ipmi_fru.proofs.header.FruView.records.Goals as goal

pub returns-in-Some : goal.returns-in-Some
returns-in-Some c = some_items c.args.self.now c.bytes_from.result.now (items_left c.new.result) c.in-Some.offset (search rules) (search rules) (search rules)

pub returns-in-None : goal.returns-in-None
returns-in-None c = no_items c.args.self.now (items_left c.new-in-None.result) (search rules) (search rules)
