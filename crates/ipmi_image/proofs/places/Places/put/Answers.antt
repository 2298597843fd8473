use Rattle.std.proofs.Common.{refl, sym}
use Rattle.std.proofs.lemmas.List.{length-map}
use Rattle.ipmi_image.proofs.PlacesLemmas.{put_place}
use Rattle.ipmi_image.proofs.places.Places.put.Goals as goal

pub returns : goal.returns
returns c = λ other.
    let pages = c.self.inside.pages.items in
    let room = rw (sym c.self.view_is) at c.requires.room in
    rw (c.page_at.ensures, c.slot_at.ensures, sym c.self.view_is) (put_place (λ page. page.items) pages c.args.key c.index_mut.result.now _ (rw length-map at room.0) (rw c.page_at.ensures at c.index_mut.ensures.value) c.args.place refl room c.requires.place other)
