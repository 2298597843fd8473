use Rattle.ipmi_records.specs.Prelude.{printed_name}
use Rattle.ipmi_check.specs.Name.{name_or_id}
use Rattle.ipmi_check.proofs.PerformanceLemmas.{datum_made}
use Rattle.ipmi_check.proofs.performance.push_datum.Goals as goal

pub returns : goal.returns
returns c =
    datum_made (name_or_id c.args.id (printed_name c.args.view.now)) c.args.full.now c.args.value.0 _ _ _ _ _ _ _ c.in_ok-push_label_part.ensures
    c.in_ok-push_number.ensures c.in_ok-extend_from_slice.ensures.items c.in_ok-push_range_between.ensures c.in_ok-extend_from_slice-2.ensures.items
    c.in_ok-push_range_between-2.ensures
