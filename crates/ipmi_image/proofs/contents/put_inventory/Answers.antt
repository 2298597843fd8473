use Rattle.std.proofs.Common.{◌≡◌, ◌<◌, ap, sym, subst, ◌∙◌, arith, ℕ, None, Some, map}
use Rattle.std.proofs.lemmas.List.{map-append}
use Rattle.std.proofs.lemmas.List.Elements.{All-from_get_or}
use Rattle.ipmi_image.specs.Below.{AreBytes}
use Rattle.ipmi_image.specs.Prelude.{StoredInventory, place_of, kept_inventory, with_bytes, AreInventories}
use Rattle.ipmi_image.proofs.TableLemmas.{place_below, with_bytes_new}
use Rattle.ipmi_image.proofs.StoreLemmas.{AreInventories-more}
use Rattle.ipmi_image.proofs.contents.put_inventory.Goals as goal

abbrev key : StoredInventory → ℕ
key inventory = inventory.id

pub append-requires : goal.append-requires
append-requires c =
    let at : place_of key c.args.id c.args.inventories.now ≡ Some c.in-Some-place.place = rw (sym c.from.ensures) (sym c.in-Some-place.ensures) in
    rw at at (place_below key c.args.id c.args.inventories.now)

pub returns-in_ok-append-in-Some-place : goal.returns-in_ok-append-in-Some-place
returns-in_ok-append-in-Some-place c =
    let bytes : AreBytes c.args.bytes.now = All-from_get_or (λ b. b < 256) _ 0 (λ k lt. omega (arith, c.type_inv.bytes k)) in
    let new = c.in_ok-append-in-Some-place.ensures c.args.id (rw (sym c.from.ensures) (sym c.in-Some-place.ensures)) in
    record {
      keeps = subst AreInventories (sym new) (AreInventories-more _ c.args.id _ (sym c.in_default.ensures) (omega (arith, c.ranges.id)) bytes c.requires);
      put = (sym c.in_default.ensures, new);
    }

pub returns-in_ok-push-in-None : goal.returns-in_ok-push-in-None
returns-in_ok-push-in-None c =
    let items = c.args.inventories.now in
    let none : place_of key c.args.id items ≡ None = rw (sym c.from.ensures) (sym c.in-None.ensures) in
    let bytes : AreBytes c.args.bytes.now = All-from_get_or (λ b. b < 256) _ 0 (λ k lt. omega (arith, c.type_inv.bytes k)) in
    let new : map kept_inventory c.push.new.self
    ≡ with_bytes c.args.id c.args.bytes.now (map kept_inventory items) =
    ap (map kept_inventory) c.in_ok-push-in-None.ensures.put.1
    ∙ map-append kept_inventory items _ ∙ rw (c.in_ok-bytes-in-None.ensures.items_if_clones_equal (λ x y e. e)) (sym (with_bytes_new items c.args.id c.args.bytes.now none)) in
    record {
      keeps = subst AreInventories (sym new) (AreInventories-more _ c.args.id _ (sym c.in_default.ensures) (omega (arith, c.ranges.id)) bytes c.requires);
      put = (sym c.in_default.ensures, new);
    }
