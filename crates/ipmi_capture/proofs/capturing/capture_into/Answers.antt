use Rattle.std.proofs.Common.{List, ◌++◌, ap, sym, ◌∙◌}
use Rattle.std.proofs.lemmas.List.Elements.{All-nil}
use Rattle.ipmi_capture.specs.Left.{IsStateOf, PlainLeaves}
use Rattle.ipmi_capture.specs.declared.left.Left.{Left}
use Rattle.ipmi_capture.proofs.AccountedLemmas.{all_accounted}
use Rattle.ipmi_capture.proofs.CaptureLemmas.{assemble, captures_parts, left_out, stays_on}
use Rattle.ipmi_capture.proofs.MeanwhileLemmas.{told_of_store}
use Rattle.ipmi_capture.proofs.WhileLemmas.{assemble_while, begins_adds, parts_while}
use Rattle.ipmi_bus.specs.Seen.{stays_trans}
use Rattle.ipmi_capture.proofs.capturing.capture_into.Goals as goal

pub returns-in_err-named-clause-stays : goal.returns-in_err-named-clause-stays
returns-in_err-named-clause-stays g c =
    stays_on (stays_on (stays_on c.note_info.ensures.stays c.note_shelf.ensures.stays) c.note_info-2.ensures.stays) c.note_shelf-2.ensures.stays

pub returns-in_err-capture_readings-clause-stays : goal.returns-in_err-capture_readings-clause-stays
returns-in_err-capture_readings-clause-stays g c =
    stays_on (stays_on (stays_on (stays_on c.note_info.ensures.stays c.note_shelf.ensures.stays) c.note_info-2.ensures.stays) c.note_shelf-2.ensures.stays) c.capture_readings.ensures.stays

pub returns-in_err-capture_inventories-clause-stays : goal.returns-in_err-capture_inventories-clause-stays
returns-in_err-capture_inventories-clause-stays g c =
    stays_on (stays_on (stays_on (stays_on (stays_on c.note_info.ensures.stays c.note_shelf.ensures.stays) c.note_info-2.ensures.stays) c.note_shelf-2.ensures.stays) c.capture_readings.ensures.stays) c.capture_inventories.ensures.stays

pub returns-clause-stays : goal.returns-clause-stays
returns-clause-stays g c =
    stays_on (stays_on (stays_on (stays_on (stays_on c.note_info.ensures.stays c.note_shelf.ensures.stays) c.note_info-2.ensures.stays) c.note_shelf-2.ensures.stays) c.capture_readings.ensures.stays) c.capture_inventories.ensures.stays

pub returns-clause-honest : goal.returns-clause-honest
returns-clause-honest g c = λ h same.
    let all = captures_parts c.note_info.new.image c.note_shelf.new.image c.note_info-2.new.image c.note_shelf-2.new.image c.capture_readings.new.image c.capture_inventories.new.image
    c.in_ok-named.named.sensors.items c.in_ok-named.named.devices.items
    c.note_info.ensures.stays c.note_shelf.ensures.stays c.note_info-2.ensures.stays c.note_shelf-2.ensures.stays c.capture_readings.ensures.stays c.capture_inventories.ensures.stays
    c.in_ok-note_info.ensures.honest c.in_ok-note_shelf.ensures.honest c.in_ok-note_info-2.ensures.honest c.in_ok-note_shelf-2.ensures.honest c.in_ok-capture_readings.ensures.honest
    c.in_ok-capture_inventories.ensures.honest h in
    λ is_image. assemble _ _ c.args.image.now c.note_info.new.image c.note_shelf.new.image c.note_info-2.new.image c.note_shelf-2.new.image c.capture_readings.new.image
    c.capture_inventories.new.image c.note_info.ensures.beside c.note_shelf.ensures.beside c.note_info-2.ensures.beside c.note_shelf-2.ensures.beside c.capture_readings.ensures.beside
    c.capture_inventories.ensures.beside is_image h.store c.in_ok-named.named.sensors.items c.in_ok-named.named.devices.items c.in_ok-named.ensures (all.fact same)

pub returns-clause-meanwhile : goal.returns-clause-meanwhile
returns-clause-meanwhile g c = λ h.
    let parts = parts_while _ c.note_info.new.image c.note_shelf.new.image c.note_info-2.new.image c.note_shelf-2.new.image c.capture_readings.new.image c.capture_inventories.new.image
    c.in_ok-named.named.sensors.items c.in_ok-named.named.devices.items
    c.note_info.ensures.stays c.note_shelf.ensures.stays c.note_info-2.ensures.stays c.note_shelf-2.ensures.stays c.capture_readings.ensures.stays c.capture_inventories.ensures.stays
    (begins_adds c.in_ok-note_shelf.ensures.lacks) (begins_adds c.in_ok-note_info-2.ensures.lacks) (begins_adds c.in_ok-note_shelf-2.ensures.lacks)
    (begins_adds c.in_ok-capture_readings.ensures.lacks) (begins_adds c.in_ok-capture_inventories.ensures.lacks)
    c.in_ok-note_info.ensures.meanwhile c.in_ok-note_shelf.ensures.meanwhile c.in_ok-note_info-2.ensures.meanwhile c.in_ok-note_shelf-2.ensures.meanwhile c.in_ok-capture_readings.ensures.meanwhile
    c.in_ok-capture_inventories.ensures.meanwhile h in
    λ is_image. assemble_while _ _ _ c.args.image.now c.note_info.new.image c.note_shelf.new.image c.note_info-2.new.image c.note_shelf-2.new.image c.capture_readings.new.image
    c.capture_inventories.new.image c.note_info.ensures.beside c.note_shelf.ensures.beside c.note_info-2.ensures.beside c.note_shelf-2.ensures.beside c.capture_readings.ensures.beside
    c.capture_inventories.ensures.beside is_image h c.in_ok-named.named.sensors.items c.in_ok-named.named.devices.items c.in_ok-named.ensures parts

pub returns-clause-counts : goal.returns-clause-counts
returns-clause-counts g c = λ h.
    let all = captures_parts c.note_info.new.image c.note_shelf.new.image c.note_info-2.new.image c.note_shelf-2.new.image c.capture_readings.new.image c.capture_inventories.new.image
    c.in_ok-named.named.sensors.items c.in_ok-named.named.devices.items
    c.note_info.ensures.stays c.note_shelf.ensures.stays c.note_info-2.ensures.stays c.note_shelf-2.ensures.stays c.capture_readings.ensures.stays c.capture_inventories.ensures.stays
    c.in_ok-note_info.ensures.honest c.in_ok-note_shelf.ensures.honest c.in_ok-note_info-2.ensures.honest c.in_ok-note_shelf-2.ensures.honest c.in_ok-capture_readings.ensures.honest
    c.in_ok-capture_inventories.ensures.honest h in
    rw (sym (all.grows ∙ ap (λ (l : List Left). l ++ all.more) c.requires.none)) at all.counts

pub returns-clause-told_while : goal.returns-clause-told_while
returns-clause-told_while g c = λ h.
    let all = captures_parts c.note_info.new.image c.note_shelf.new.image c.note_info-2.new.image c.note_shelf-2.new.image c.capture_readings.new.image c.capture_inventories.new.image
    c.in_ok-named.named.sensors.items c.in_ok-named.named.devices.items
    c.note_info.ensures.stays c.note_shelf.ensures.stays c.note_info-2.ensures.stays c.note_shelf-2.ensures.stays c.capture_readings.ensures.stays c.capture_inventories.ensures.stays
    c.in_ok-note_info.ensures.honest c.in_ok-note_shelf.ensures.honest c.in_ok-note_info-2.ensures.honest c.in_ok-note_shelf-2.ensures.honest c.in_ok-capture_readings.ensures.honest
    c.in_ok-capture_inventories.ensures.honest h in
    rw (sym (all.grows ∙ ap (λ (l : List Left). l ++ all.more) c.requires.none)) at all.told

pub returns-clause-told : goal.returns-clause-told
returns-clause-told g c = λ h same.
    let stays = stays_on (stays_on (stays_on (stays_on (stays_on c.note_info.ensures.stays c.note_shelf.ensures.stays) c.note_info-2.ensures.stays) c.note_shelf-2.ensures.stays) c.capture_readings.ensures.stays) c.capture_inventories.ensures.stays in
    told_of_store _ _ (stays h) same _ (returns-clause-told_while g c h)

pub returns-clause-plain : goal.returns-clause-plain
returns-clause-plain g c = λ plain.
    let all = captures_parts c.note_info.new.image c.note_shelf.new.image c.note_info-2.new.image c.note_shelf-2.new.image c.capture_readings.new.image c.capture_inventories.new.image
    c.in_ok-named.named.sensors.items c.in_ok-named.named.devices.items
    c.note_info.ensures.stays c.note_shelf.ensures.stays c.note_info-2.ensures.stays c.note_shelf-2.ensures.stays c.capture_readings.ensures.stays c.capture_inventories.ensures.stays
    c.in_ok-note_info.ensures.honest c.in_ok-note_shelf.ensures.honest c.in_ok-note_info-2.ensures.honest c.in_ok-note_shelf-2.ensures.honest c.in_ok-capture_readings.ensures.honest
    c.in_ok-capture_inventories.ensures.honest plain.honest in
    all.plain plain.said (rw c.requires.none (All-nil (PlainLeaves _)))

pub returns-clause-lacks : goal.returns-clause-lacks
returns-clause-lacks g c =
    left_out c.capture_inventories.new.image c.note_info.new.image c.note_shelf.new.image c.note_info-2.new.image c.note_shelf-2.new.image c.capture_readings.new.image
    c.note_shelf.ensures.beside c.note_info-2.ensures.beside c.note_shelf-2.ensures.beside c.capture_readings.ensures.beside c.capture_inventories.ensures.beside c.requires.none
    c.in_ok-note_info.ensures.lacks c.in_ok-note_shelf.ensures.lacks c.in_ok-note_info-2.ensures.lacks c.in_ok-note_shelf-2.ensures.lacks
    c.in_ok-capture_readings.ensures.lacks c.in_ok-capture_inventories.ensures.lacks

pub returns-clause-accounted : goal.returns-clause-accounted
returns-clause-accounted g c =
    all_accounted (IsStateOf g.C.Controller.seen) _ c.note_info.new.image c.note_shelf.new.image c.note_info-2.new.image c.note_shelf-2.new.image c.capture_readings.new.image c.capture_inventories.new.image
    c.in_ok-named.named.sensors.items c.in_ok-named.named.devices.items
    c.note_shelf.ensures.beside c.note_info-2.ensures.beside c.note_shelf-2.ensures.beside c.capture_readings.ensures.beside c.capture_inventories.ensures.beside c.in_ok-named.ensures
    (begins_adds c.in_ok-note_shelf.ensures.lacks) (begins_adds c.in_ok-note_info-2.ensures.lacks) (begins_adds c.in_ok-note_shelf-2.ensures.lacks)
    (begins_adds c.in_ok-capture_readings.ensures.lacks) (begins_adds c.in_ok-capture_inventories.ensures.lacks)
    c.in_ok-note_info.ensures.accounted c.in_ok-note_shelf.ensures.accounted c.in_ok-note_info-2.ensures.accounted c.in_ok-note_shelf-2.ensures.accounted
    c.in_ok-capture_readings.ensures.accounted c.in_ok-capture_inventories.ensures.accounted

pub returns-in_err-note_shelf-clause-stays : goal.returns-in_err-note_shelf-clause-stays
returns-in_err-note_shelf-clause-stays g c = λ h. let a0 = c.note_info.ensures.stays h in let a1 = stays_trans _ _ _ a0 (c.note_shelf.ensures.stays a0.honest) in a1

pub returns-in_err-note_info-2-clause-stays : goal.returns-in_err-note_info-2-clause-stays
returns-in_err-note_info-2-clause-stays g c = λ h. let a0 = c.note_info.ensures.stays h in let a1 = stays_trans _ _ _ a0 (c.note_shelf.ensures.stays a0.honest) in let a2 = stays_trans _ _ _ a1 (c.note_info-2.ensures.stays a1.honest) in a2

pub returns-in_err-note_shelf-2-clause-stays : goal.returns-in_err-note_shelf-2-clause-stays
returns-in_err-note_shelf-2-clause-stays g c = λ h. let a0 = c.note_info.ensures.stays h in let a1 = stays_trans _ _ _ a0 (c.note_shelf.ensures.stays a0.honest) in let a2 = stays_trans _ _ _ a1 (c.note_info-2.ensures.stays a1.honest) in let a3 = stays_trans _ _ _ a2 (c.note_shelf-2.ensures.stays a2.honest) in a3
