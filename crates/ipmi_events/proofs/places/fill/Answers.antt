use Rattle.std.proofs.Common.{arith}
use Rattle.std.proofs.lemmas.List.{take_all}
use Rattle.ipmi_events.proofs.PlacesLemmas.{get_or-filled}
use Rattle.ipmi_events.proofs.places.fill.Goals as goal

pub returns-in_ok-resize-clause-same : goal.returns-in_ok-resize-clause-same
returns-in_ok-resize-clause-same c = λ number.
    let page = c.args.page.now.items in
    rw (c.in_ok-resize.ensures.items, take_all 256 page (omega (arith, c.if-len-lt-PAGE_PLACES.true, c.len.ensures, c.args.page.now.ok.0))) (get_or-filled page _ number c.args.none)
