-- The bytes of a request's message, and the request read from them.
use Rattle.std.proofs.Common.{◌≡◌, ◌<◌, ◌≤◌, ◌==◌, ◌&&◌, nat_le, if◌then◌else◌, ℕ, ◌%◌, ◌/◌, Bool, true, false, List, [], ◌∷◌, ◌++◌, length, sym, ap, ◌∙◌, codes, arith}
use Rattle.std.proofs.lemmas.List.{append_cancel_left}
use Rattle.std.proofs.lemmas.List.Elements.{All-nil, All-cons}
use Rattle.ipmi_text.specs.Bytes.{AreBytes}
use Rattle.ipmi_bus.specs.declared.controller.Shelf.{Shelf}
use Rattle.ipmi_bus.specs.declared.controller.Shelf.TheVariants.{Sdr, Sel}
use Rattle.ipmi_raw.specs.declared.request.Request.{Request}
use Rattle.ipmi_raw.specs.declared.request.Request.TheVariants.{DeviceId, Reserve, Get, Info, InventorySize, ReadInventory, Reading}
use Rattle.ipmi_raw.specs.declared.tool.Tool.TheVariants.{Ipmitool, FreeIpmi}
use Rattle.ipmi_raw.specs.Peer.{request_text}
use Rattle.ipmi_raw.specs.Words.{bytes_after, two_digits}
use Rattle.ipmi_raw.proofs.WordLemmas.{same_word}
use Rattle.ipmi_raw.specs.Request.{for_shelf, command_of, count_asked, IsRequest, lun_of, message_of, two_bytes}

none : AreBytes []
none = All-nil (λ (x : ℕ). x < 256)

and : (byte : ℕ) (bytes : List ℕ) → byte < 256 → AreBytes bytes → AreBytes (byte ∷ bytes)
and byte bytes lt are = All-cons (λ (x : ℕ). x < 256) byte bytes lt are

two : (n : ℕ) (bytes : List ℕ) → n < 65536 → AreBytes bytes → AreBytes ((n % 256) ∷ (n / 256) ∷ bytes)
two n bytes lt are = and (n % 256) ((n / 256) ∷ bytes) (omega arith) (and (n / 256) bytes (omega arith) are)

either_lt : (first : Bool) (a b : ℕ) → a < 256 → b < 256 → (if first then a else b) < 256
either_lt true a b lt lt2 = lt
either_lt false a b lt lt2 = lt2

for_shelf_lt : (shelf : Shelf) (sdr sel : ℕ) → sdr < 256 → sel < 256 → for_shelf shelf sdr sel < 256
for_shelf_lt Sdr sdr sel lt lt2 = lt
for_shelf_lt Sel sdr sel lt lt2 = lt2

pub message_are_bytes : (sent : Request) → IsRequest sent → AreBytes (message_of sent)
message_are_bytes (Reserve shelf) is =
    and 0x0A (for_shelf shelf 0x22 0x42 ∷ []) (omega arith)
    (and (for_shelf shelf 0x22 0x42) [] (for_shelf_lt shelf 0x22 0x42 (omega arith) (omega arith)) none)
message_are_bytes (Get part) is =
    let most : count_asked part < 256 =
    for_shelf_lt part.shelf part.count (if (part.offset == 0) && nat_le 16 part.count then 0xFF else part.count) (omega (arith, is.4))
    (either_lt ((part.offset == 0) && nat_le 16 part.count) 0xFF part.count (omega arith) (omega (arith, is.4))) in
    let rest : AreBytes (two_bytes part.reservation ++ two_bytes part.id ++ part.offset ∷ count_asked part ∷ []) =
    two part.reservation (two_bytes part.id ++ part.offset ∷ count_asked part ∷ []) is.0
    (two part.id (part.offset ∷ count_asked part ∷ []) is.1
    (and part.offset (count_asked part ∷ []) is.2 (and (count_asked part) [] most none))) in
    and 0x0A (command_of (Get part) ∷ two_bytes part.reservation ++ two_bytes part.id ++ part.offset ∷ count_asked part ∷ []) (omega arith)
    (and (command_of (Get part)) (two_bytes part.reservation ++ two_bytes part.id ++ part.offset ∷ count_asked part ∷ [])
    (for_shelf_lt part.shelf 0x23 0x43 (omega arith) (omega arith)) rest)
message_are_bytes (Info shelf) is =
    and 0x0A (for_shelf shelf 0x20 0x40 ∷ []) (omega arith)
    (and (for_shelf shelf 0x20 0x40) [] (for_shelf_lt shelf 0x20 0x40 (omega arith) (omega arith)) none)
message_are_bytes (InventorySize id) is =
    and 0x0A (0x10 ∷ id ∷ []) (omega arith) (and 0x10 (id ∷ []) (omega arith) (and id [] is none))
message_are_bytes (ReadInventory part) is =
    and 0x0A (0x11 ∷ part.id ∷ two_bytes part.offset ++ part.count ∷ []) (omega arith)
    (and 0x11 (part.id ∷ two_bytes part.offset ++ part.count ∷ []) (omega arith)
    (and part.id (two_bytes part.offset ++ part.count ∷ []) is.0
    (two part.offset (part.count ∷ []) is.1 (and part.count [] (omega (arith, is.3)) none))))
message_are_bytes DeviceId is = and 0x06 (0x01 ∷ []) (omega arith) (and 0x01 [] (omega arith) none)
message_are_bytes (Reading lun number) is =
    and 0x04 (0x2D ∷ number ∷ []) (omega arith) (and 0x2D (number ∷ []) (omega arith) (and number [] is.1 none))

pub message_fits : (sent : Request) → length (message_of sent) ≤ 8
message_fits DeviceId = omega arith
message_fits (Reserve shelf) = omega arith
message_fits (Get part) = omega arith
message_fits (Info shelf) = omega arith
message_fits (InventorySize id) = omega arith
message_fits (ReadInventory part) = omega arith
message_fits (Reading lun number) = omega arith

pub lun_lt : (sent : Request) → IsRequest sent → lun_of sent < 256
lun_lt DeviceId is = omega arith
lun_lt (Reserve shelf) is = omega arith
lun_lt (Get part) is = omega arith
lun_lt (Info shelf) is = omega arith
lun_lt (InventorySize id) is = omega arith
lun_lt (ReadInventory part) is = omega arith
lun_lt (Reading lun number) is = is.0

-- ---- reading the text of a request

pub rest_of_ipmitool : (sent : Request) (text rest : List ℕ) → request_text Ipmitool sent ≡ text → text ≡ codes "raw" ++ rest
    → rest ≡ bytes_after Ipmitool (codes " 0x") (message_of sent) ++ codes "\necho .\n"
rest_of_ipmitool sent text rest e begins =
    append_cancel_left (codes "raw") rest (bytes_after Ipmitool (codes " 0x") (message_of sent) ++ codes "\necho .\n") (sym begins ∙ sym e)

pub text_of_freeipmi : (sent : Request) (text : List ℕ) → request_text FreeIpmi sent ≡ text
    → text ≡ two_digits FreeIpmi (lun_of sent) ++ (bytes_after FreeIpmi (codes " ") (message_of sent) ++ codes "\n")
text_of_freeipmi sent text e = sym e

pub rest_of_freeipmi : (sent : Request) (text rest : List ℕ) (lun : ℕ) → IsRequest sent → request_text FreeIpmi sent ≡ text → lun < 256
    → text ≡ two_digits FreeIpmi lun ++ rest → rest ≡ bytes_after FreeIpmi (codes " ") (message_of sent) ++ codes "\n"
rest_of_freeipmi sent text rest lun is e lt begins =
    let left = bytes_after FreeIpmi (codes " ") (message_of sent) ++ codes "\n" in
    (same_word FreeIpmi lun (lun_of sent) rest left lt (lun_lt sent is)
    (ap (λ (xs : List ℕ). 32 ∷ xs) (sym begins ∙ text_of_freeipmi sent text e))).1
