use Rattle.std.proofs.Common.{◌≡◌, ◌++◌, ◌∷◌, [], ap, sym, subst, ◌∙◌, map, arith}
use Rattle.std.proofs.lemmas.List.{map-append}
use Rattle.ipmi_image.specs.Below.{AreBytes}
use Rattle.ipmi_image.specs.Prelude.{AreInventories, kept_inventory}
use Rattle.ipmi_image.proofs.BuildLemmas.{AreInventories-new}
use Rattle.ipmi_image.proofs.builder.put_inventory.Goals as goal

pub returns-in-Ok-clause-keeps : goal.returns-in-Ok-clause-keeps
returns-in-Ok-clause-keeps c =
    let items = c.args.inventories.now in
    let new : map kept_inventory c.push.new.self ≡ map kept_inventory items ++ record { id = c.args.id; bytes = c.args.bytes.items } ∷ [] = ap (map kept_inventory) c.in-Ok.ensures.put.1 ∙ map-append kept_inventory items _ in
    let bytes : AreBytes c.args.bytes.items = subst AreBytes c.deref.ensures.value c.are_bytes.ensures in
    subst AreInventories (sym new) (AreInventories-new items c.args.id c.args.bytes.items c.requires.id (omega (arith, c.requires.fits, c.args.bytes.ok.0)) bytes c.in-Ok.ensures.put.0 c.requires.all)
