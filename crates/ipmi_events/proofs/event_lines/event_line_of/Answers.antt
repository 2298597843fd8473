use Rattle.ipmi_events.proofs.LineLemmas.{only_part}
use Rattle.ipmi_events.proofs.event_lines.event_line_of.Goals as goal

pub push_columns-requires : goal.push_columns-requires
push_columns-requires c =
    rw (c.deref.ensures, ← c.full_of.ensures) (only_part _ _ _ c.in_ok-details.ensures.bytes c.in_ok-push_details.ensures)

pub returns : goal.returns
returns c = only_part _ _ _ c.in_ok-line.ensures.bytes c.in_ok-push_columns.ensures
