use Rattle.std.proofs.Common.{◌&&◌, nat_le, nat_lt, sym}
use Rattle.std.proofs.lemmas.List.{length-map}
use Rattle.std.proofs.lemmas.Result.{on_ok_weaker}
use Rattle.ipmi_events.proofs.PlacesLemmas.{place_in-noted}
use Rattle.ipmi_events.proofs.places.Places.note.Goals as goal

pub returns : goal.returns
returns c = on_ok_weaker c.note_numbers.result (λ is other number.
    let within = rw (sym c.self.view_is, length-map) at c.in_ok-reach.ensures.room in
    let same = rw (sym c.self.view_is) at (c.reach.ensures.same other number c.args.none) in
    rw same at (place_in-noted (λ page. page.items) c.self.inside.pages.items c.args.row c.index_mut.result.now c.note_numbers.new.page (λ n. nat_le c.args.first n && nat_lt n c.args.end) c.args.place c.args.none within c.index_mut.ensures.value is other number)) c.note_numbers.ensures
