use Rattle.std.proofs.Common.{sym, ◌∙◌}
use Rattle.std.proofs.lemmas.List.{length-map}
use Rattle.ipmi_image.proofs.PlacesLemmas.{same_page, filled_page}
use Rattle.ipmi_image.proofs.places.Places.reserve.Goals as goal

pub returns-in_err-fill-clause-same : goal.returns-in_err-fill-clause-same
returns-in_err-fill-clause-same c = λ other.
    let within = rw (sym c.self.view_is, length-map, c.page_at-page.ensures) at c.in_ok-reach.ensures.room in
    rw c.page_at-page.ensures (same_page (λ page. page.items) c.self.inside.pages.items c.args.key c.index_mut.result.now c.fill.new.page within (rw c.page_at-page.ensures at c.index_mut.ensures.value) c.fill.ensures.same other) ∙ rw (sym c.self.view_is) at (c.reach.ensures.same other)

pub returns-clause-same : goal.returns-clause-same
returns-clause-same c = λ other.
    let within = rw (sym c.self.view_is, length-map, c.page_at-page.ensures) at c.in_ok-reach.ensures.room in
    rw c.page_at-page.ensures (same_page (λ page. page.items) c.self.inside.pages.items c.args.key c.index_mut.result.now c.fill.new.page within (rw c.page_at-page.ensures at c.index_mut.ensures.value) c.fill.ensures.same other) ∙ rw (sym c.self.view_is) at (c.reach.ensures.same other)

pub returns-clause-room : goal.returns-clause-room
returns-clause-room c =
    let within = rw (sym c.self.view_is, length-map, c.page_at-page.ensures) at c.in_ok-reach.ensures.room in
    rw c.page_at-page.ensures (filled_page (λ page. page.items) c.self.inside.pages.items c.args.key c.index_mut.result.now c.fill.new.page within (rw c.page_at-page.ensures at c.index_mut.ensures.value) c.in_ok-fill.ensures.room)
