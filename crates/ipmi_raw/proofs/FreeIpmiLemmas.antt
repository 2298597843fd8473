-- Texts that FreeIPMI does not print for any reply to a request.
use Rattle.std.proofs.Common.{◌≡◌, ◌≢◌, ℕ, ◌<◌, ◌++◌, List, sym, ◌∙◌, arith, codes}
use Rattle.std.proofs.lemmas.List.{append_cancel_left}
use Rattle.ipmi_bus.specs.declared.controller.Shelf.{Shelf}
use Rattle.ipmi_bus.specs.declared.controller.Shelf.TheVariants.{Sdr, Sel}
use Rattle.ipmi_raw.specs.declared.reply.Reply.{Reply}
use Rattle.ipmi_raw.specs.declared.reply.Reply.TheVariants.{Data, Refused, Silent}
use Rattle.ipmi_raw.specs.declared.request.Request.{Request}
use Rattle.ipmi_raw.specs.declared.request.Request.TheVariants.{DeviceId, Reserve, Get, Info, InventorySize, ReadInventory, Reading}
use Rattle.ipmi_raw.specs.declared.tool.Tool.TheVariants.{FreeIpmi}
use Rattle.ipmi_raw.specs.Words.{word, words_from, AreData}
use Rattle.ipmi_raw.specs.Request.{for_shelf, command_of}
use Rattle.ipmi_raw.specs.FreeIpmi.{IsReplyText, IsSilence}

for_shelf_lt : (shelf : Shelf) (sdr sel : ℕ) → sdr < 256 → sel < 256 → for_shelf shelf sdr sel < 256
for_shelf_lt Sdr sdr sel lt lt2 = lt
for_shelf_lt Sel sdr sel lt lt2 = lt2

pub command_lt : (request : Request) → command_of request < 256
command_lt (Reserve shelf) = for_shelf_lt shelf 0x22 0x42 (omega arith) (omega arith)
command_lt (Get part) = for_shelf_lt part.shelf 0x23 0x43 (omega arith) (omega arith)
command_lt (Info shelf) = for_shelf_lt shelf 0x20 0x40 (omega arith) (omega arith)
command_lt (InventorySize id) = omega arith
command_lt (ReadInventory part) = omega arith
command_lt (Reading lun number) = omega arith
command_lt DeviceId = omega arith

-- a text that begins like a reply, but does not continue with a code and bytes
pub no_reply : (request : Request) (text rest : List ℕ) → ¬ IsSilence text
    → text ≡ codes "rcvd:" ++ rest
    → ((code : ℕ) (bytes : List ℕ) → code < 256 → AreData bytes
    → rest ≢ word FreeIpmi (command_of request) ++ (word FreeIpmi code ++ words_from FreeIpmi 0 bytes))
    → (reply : Reply) → ¬ IsReplyText request reply text
no_reply request text rest not_silent begins none (Data bytes) is =
    none 0 bytes (omega arith) is.0
    (append_cancel_left (codes "rcvd:") rest (word FreeIpmi (command_of request) ++ (word FreeIpmi 0 ++ words_from FreeIpmi 0 bytes)) (sym begins ∙ is.1))
no_reply request text rest not_silent begins none (Refused code) is =
    none code is.2.0 is.1 is.2.1
    (append_cancel_left (codes "rcvd:") rest (word FreeIpmi (command_of request) ++ (word FreeIpmi code ++ words_from FreeIpmi 0 is.2.0)) (sym begins ∙ is.2.2))
no_reply request text rest not_silent begins none Silent is = not_silent is
