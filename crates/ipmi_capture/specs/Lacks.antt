-- What an image notes of the items that were left out.
use Rattle.std.specs.Prelude.{Option, None, Some, List, filter_map, if◌then◌else◌}
use Rattle.ipmi_image.specs.Controllers.{is_refusal}
use Rattle.ipmi_image.specs.Snapshot.{Saved}
use Rattle.ipmi_image.specs.declared.lack.Item.{Item}
use Rattle.ipmi_image.specs.declared.lack.Lack.{Lack}
use Rattle.ipmi_capture.specs.Below.{Code, Cycle, Ended, FruEnded, GaveUp, Malformed, Missing, not_present, Refused, Shelf, Stalled, Store}
use Rattle.ipmi_capture.specs.declared.left.Left.{Left}
use Rattle.ipmi_capture.specs.declared.left.Unread.{Unread}

-- C0h, the node is busy; CEh, the response could not be provided
abbrev pub busy : Code
busy = record { 0 = 0xC0 }

abbrev pub not_provided : Code
not_provided = record { 0 = 0xCE }

-- the code of a refusal; CEh in place of one that asks for fewer bytes
abbrev pub refusing : Code → Code
refusing code = if is_refusal code.0 then code else not_provided

abbrev pub unread_code : Unread → Code
unread_code (Unread.Refused code) = refusing code
unread_code Unread.GaveUp = busy

abbrev pub fru_code : FruEnded → Code
fru_code (FruEnded.Refused code) = refusing code
fru_code FruEnded.GaveUp = busy
fru_code _ = not_provided

abbrev pub lacking : Item → Code → Option Lack
lacking item code = Some (record { item = item; code = code })

-- the records from one id on; after a cycle there are none
abbrev pub lack_of_records : Shelf → Ended → Option Lack
lack_of_records shelf (Cycle n) = None
lack_of_records shelf (Missing n) = lacking (Item.Record shelf n) not_present
lack_of_records shelf (GaveUp n) = lacking (Item.Record shelf n) busy
lack_of_records shelf (Refused n code) = lacking (Item.Record shelf n) (refusing code)
lack_of_records shelf (Stalled n) = lacking (Item.Record shelf n) not_provided
lack_of_records shelf (Malformed n) = lacking (Item.Record shelf n) not_provided

-- an empty inventory is not noted
abbrev pub lack_of : Left → Option Lack
lack_of (Left.Records shelf ended) = lack_of_records shelf ended
lack_of (Left.Info shelf unread) = lacking (Item.Info shelf) (unread_code unread)
lack_of (Left.Reading lun number unread) = lacking (Item.Reading lun number) (unread_code unread)
lack_of (Left.Size id code) = lacking (Item.Size id) (refusing code)
lack_of (Left.Empty id) = None
lack_of (Left.CutOff id) = lacking (Item.Inventory id) not_provided
lack_of (Left.Inventory id ended) = lacking (Item.Inventory id) (fru_code ended)

-- what is saved of the image of a capture
abbrev pub saved_of : Store → List Left → Saved
saved_of image left = record { store = image; lacks = filter_map lack_of left }
