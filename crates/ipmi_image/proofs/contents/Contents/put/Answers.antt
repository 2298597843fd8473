use Rattle.ipmi_image.proofs.StoreLemmas.{sdr-put, sel-put, bytes-put, sensor-put, sdr_info-put, sel_info-put, end-put}
use Rattle.ipmi_image.proofs.contents.Contents.put.Goals as goal

pub returns-in-Sdr-clause-lines : goal.returns-in-Sdr-clause-lines
returns-in-Sdr-clause-lines c =
    λ before holds. rw (c.in-Row.is, c.in-Sdr.is) (sdr-put c.args.self.now before holds
    (record { id = c.in-Row.id; next = c.in-Row.next; bytes = c.args.bytes.now }) c.put_row.new.rows
    c.put_row.result c.put_row.ensures.put)

pub returns-in-Sel-clause-lines : goal.returns-in-Sel-clause-lines
returns-in-Sel-clause-lines c =
    λ before holds. rw (c.in-Row.is, c.in-Sel.is) (sel-put c.args.self.now before holds (record { id = c.in-Row.id; next = c.in-Row.next; bytes = c.args.bytes.now })
    c.put_row-in-Sel.new.rows c.put_row-in-Sel.result c.put_row-in-Sel.ensures.put)

pub returns-in-Inventory-clause-lines : goal.returns-in-Inventory-clause-lines
returns-in-Inventory-clause-lines c =
    λ before holds. rw c.in-Inventory.is (bytes-put c.args.self.now before holds c.in-Inventory.id c.args.bytes.now
    c.put_inventory.new.inventories c.put_inventory.result c.put_inventory.ensures.put)

pub returns-in-Reading-clause-lines : goal.returns-in-Reading-clause-lines
returns-in-Reading-clause-lines c =
    λ before holds. rw c.in-Reading.is (sensor-put c.args.self.now before holds c.in-Reading.lun c.in-Reading.number c.args.bytes.now
    c.put_reading.new.sensors c.put_reading.result c.put_reading.ensures.put)

pub returns-in-Sdr-shelf-clause-lines : goal.returns-in-Sdr-shelf-clause-lines
returns-in-Sdr-shelf-clause-lines c =
    λ before holds. rw (c.in-Info.is, c.in-Sdr-shelf.is) (sdr_info-put c.args.self.now before holds c.args.bytes.now c.put_info.new.info
    c.put_info.result c.put_info.ensures.put)

pub returns-in-Sel-shelf-clause-lines : goal.returns-in-Sel-shelf-clause-lines
returns-in-Sel-shelf-clause-lines c =
    λ before holds. rw (c.in-Info.is, c.in-Sel-shelf.is) (sel_info-put c.args.self.now before holds c.args.bytes.now c.put_info-in-Sel-shelf.new.info
    c.put_info-in-Sel-shelf.result c.put_info-in-Sel-shelf.ensures.put)

pub returns-in-End-clause-lines : goal.returns-in-End-clause-lines
returns-in-End-clause-lines c = λ before holds. rw c.in-End.is (end-put c.args.self.now before holds)
