-- The extension codes in event data 2 and 3 (IPMI v2.0, table 42-3).
use Rattle.std.specs.Prelude.{ℕ, ◌/◌, ◌%◌, ◌==◌, ◌&&◌, nat_le, Bool, if◌then◌else◌, List, [], ◌∷◌, ◌++◌, codes, decimal, map, Option, Some, None, unwrap_or}
use Rattle.ipmi_text.specs.Hex.{hex_byte}
use Rattle.ipmi_events.specs.declared.event_data.Byte.{Byte}
use Rattle.ipmi_events.specs.declared.event_data.EventData.{EventData}
use Rattle.ipmi_events.specs.declared.extensions.Bits.{Bits}
use Rattle.ipmi_events.specs.declared.extensions.Field.{Field}
use Rattle.ipmi_events.specs.declared.extensions.Form.{Form}
use Rattle.ipmi_events.specs.Specific.{acpi_states, fru_state}
use Rattle.ipmi_events.specs.Table.{reserved, words_at}

-- configuration errors of a power supply
abbrev pub power_supply_errors : List (List ℕ)
power_supply_errors =
    codes "Vendor mismatch" ∷
    codes "Revision mismatch" ∷
    codes "Processor missing" ∷
    codes "Power Supply rating mismatch" ∷
    codes "Voltage rating mismatch" ∷ []

-- system firmware errors
abbrev pub firmware_errors : List (List ℕ)
firmware_errors =
    codes "Unspecified" ∷
    codes "No system memory is physically installed in the system" ∷
    codes "No usable system memory" ∷
    codes "Unrecoverable hard-disk/ATAPI/IDE device failure" ∷
    codes "Unrecoverable system-board failure" ∷
    codes "Unrecoverable diskette subsystem failure" ∷
    codes "Unrecoverable hard-disk controller failure" ∷
    codes "Unrecoverable PS/2 or USB keyboard failure" ∷
    codes "Removable boot media not found" ∷
    codes "Unrecoverable video controller failure" ∷
    codes "No video device detected" ∷
    codes "Firmware (BIOS) ROM corruption detected" ∷
    codes "CPU voltage mismatch" ∷
    codes "CPU speed matching failure" ∷ []

-- system firmware progress codes
abbrev pub firmware_stages : List (List ℕ)
firmware_stages =
    codes "Unspecified" ∷
    codes "Memory initialization" ∷
    codes "Hard-disk initialization" ∷
    codes "Secondary processor(s) initialization" ∷
    codes "User authentication" ∷
    codes "User-initiated system setup" ∷
    codes "USB resource configuration" ∷
    codes "PCI resource configuration" ∷
    codes "Option ROM initialization" ∷
    codes "Video initialization" ∷
    codes "Cache initialization" ∷
    codes "SM Bus initialization" ∷
    codes "Keyboard controller initialization" ∷
    codes "Embedded controller/management controller initialization" ∷
    codes "Docking station attachment" ∷
    codes "Enabling docking station" ∷
    codes "Docking station ejection" ∷
    codes "Disabling docking station" ∷
    codes "Calling operating system wake-up vector" ∷
    codes "Starting operating system boot process" ∷
    codes "Baseboard or motherboard initialization" ∷
    reserved ∷
    codes "Floppy initialization" ∷
    codes "Keyboard test" ∷
    codes "Pointing device test" ∷
    codes "Primary processor initialization" ∷ []

-- event directions
abbrev pub directions : List (List ℕ)
directions =
    codes "deassertion" ∷
    codes "assertion" ∷ []

-- kinds of processor numbers
abbrev pub processor_numbers : List (List ℕ)
processor_numbers =
    codes "Entity Instance number" ∷
    codes "Vendor-specific processor number" ∷ []

-- actions on the auxiliary log
abbrev pub log_entry_actions : List (List ℕ)
log_entry_actions =
    codes "entry added" ∷
    codes "entry added because event did not map to standard IPMI event" ∷
    codes "entry added along with one or more corresponding SEL entries" ∷
    codes "log cleared" ∷
    codes "log disabled" ∷
    codes "log enabled" ∷ []

-- auxiliary logs
abbrev pub log_types : List (List ℕ)
log_types =
    codes "MCA Log" ∷
    codes "OEM 1" ∷
    codes "OEM 2" ∷ []

-- the position of an event in a pair of events
abbrev pub of_pair : List (List ℕ)
of_pair =
    codes "first of pair" ∷
    codes "second of pair" ∷ []

-- time stamp clocks
abbrev pub clocks : List (List ℕ)
clocks =
    codes "SEL Timestamp Clock updated" ∷
    codes "SDR Timestamp Clock updated" ∷ []

-- power states when another state was requested, or unknown
abbrev pub acpi_states_or_unknown : List (List ℕ)
acpi_states_or_unknown = acpi_states ++ (codes "unknown" ∷ [])

-- causes of a restart, as in Get System Restart Cause (section 28.11)
abbrev pub restart_causes : List (List ℕ)
restart_causes =
    codes "unknown" ∷
    codes "Chassis Control command" ∷
    codes "reset via pushbutton" ∷
    codes "power-up via power pushbutton" ∷
    codes "Watchdog expiration" ∷
    codes "OEM" ∷
    codes "automatic power-up: always restore" ∷
    codes "automatic power-up: restore previous power state" ∷
    codes "reset via PEF" ∷
    codes "power-cycle via PEF" ∷
    codes "soft reset" ∷
    codes "power-up via RTC wakeup" ∷ []

-- kinds of slots and connectors
abbrev pub slot_types : List (List ℕ)
slot_types =
    codes "PCI" ∷
    codes "Drive Array" ∷
    codes "External Peripheral Connector" ∷
    codes "Docking" ∷
    codes "other standard internal expansion slot" ∷
    codes "slot associated with entity specified by Entity ID for sensor" ∷
    codes "AdvancedTCA" ∷
    codes "DIMM/memory device" ∷
    codes "FAN" ∷
    codes "PCI Express" ∷
    codes "SCSI (parallel)" ∷
    codes "SATA / SAS" ∷
    codes "USB" ∷ []

-- interrupts of the watchdog timer
abbrev pub watchdog_interrupts : List (List ℕ)
watchdog_interrupts =
    codes "none" ∷
    codes "SMI" ∷
    codes "NMI" ∷
    codes "Messaging Interrupt" ∷
    reserved ∷
    reserved ∷
    reserved ∷
    reserved ∷
    reserved ∷
    reserved ∷
    reserved ∷
    reserved ∷
    reserved ∷
    reserved ∷
    reserved ∷
    codes "unspecified" ∷ []

-- uses of the watchdog timer
abbrev pub watchdog_uses : List (List ℕ)
watchdog_uses =
    reserved ∷
    codes "BIOS FRB2" ∷
    codes "BIOS/POST" ∷
    codes "OS Load" ∷
    codes "SMS/OS" ∷
    codes "OEM" ∷
    reserved ∷
    reserved ∷
    reserved ∷
    reserved ∷
    reserved ∷
    reserved ∷
    reserved ∷
    reserved ∷
    reserved ∷
    codes "unspecified" ∷ []

-- whether a FRU device is logical
abbrev pub logical_devices : List (List ℕ)
logical_devices =
    codes "not a logical FRU device" ∷
    codes "logical FRU device" ∷ []

-- user ids that do not identify a user
abbrev pub unspecified_user : List (List ℕ)
unspecified_user = codes "unspecified" ∷ []

-- why a session was deactivated
abbrev pub session_ends : List (List ℕ)
session_ends =
    codes "Session deactivated by unspecified cause" ∷
    codes "Session deactivated by Close Session command" ∷
    codes "Session deactivated by timeout" ∷
    codes "Session deactivated by configuration change" ∷ []

-- version changes
abbrev pub version_changes : List (List ℕ)
version_changes =
    codes "unspecified" ∷
    codes "management controller device ID" ∷
    codes "management controller firmware revision" ∷
    codes "management controller device revision" ∷
    codes "management controller manufacturer ID" ∷
    codes "management controller IPMI version" ∷
    codes "management controller auxiliary firmware ID" ∷
    codes "management controller firmware boot block" ∷
    codes "other management controller firmware" ∷
    codes "system firmware (EFI / BIOS) change" ∷
    codes "SMBIOS change" ∷
    codes "operating system change" ∷
    codes "operating system loader change" ∷
    codes "service or diagnostic partition change" ∷
    codes "management software agent change" ∷
    codes "management software application change" ∷
    codes "management software middleware change" ∷
    codes "programmable hardware change" ∷
    codes "board/FRU module change" ∷
    codes "board/FRU component change" ∷
    codes "board/FRU replaced with equivalent version" ∷
    codes "board/FRU replaced with newer version" ∷
    codes "board/FRU replaced with older version" ∷
    codes "board/FRU hardware configuration change" ∷ []

-- causes of a FRU state change
abbrev pub fru_state_causes : List (List ℕ)
fru_state_causes =
    codes "Normal State Change" ∷
    codes "Change Commanded by software external to FRU" ∷
    codes "State Change due to operator changing a Handle latch" ∷
    codes "State Change due to operator pressing the hot swap push button" ∷
    codes "State Change due to FRU programmatic action" ∷
    codes "Communication Lost" ∷
    codes "Communication Lost due to local failure" ∷
    codes "State Change due to unexpected extraction" ∷
    codes "State Change due to operator intervention/update" ∷
    codes "Unable to compute IPMB address" ∷
    codes "Unexpected Deactivation" ∷
    reserved ∷
    reserved ∷
    reserved ∷
    reserved ∷
    codes "State Change, Cause Unknown" ∷ []

-- ---- fields

-- a field: bits of a byte for some offsets of a sensor type, printed after a label
pub record ExtensionField : Type 0 where
  pub sensor_type : ℕ
  pub first_offset : ℕ
  pub last_offset : ℕ
  pub bits : Bits
  pub label : List ℕ
  pub form : Form
  pub words : List (List ℕ)
  pub code_label : List ℕ

-- what a field of the program's tables says
abbrev pub said_by : Field → ExtensionField
said_by f = record {
  sensor_type = f.sensor_type;
  first_offset = f.first_offset;
  last_offset = f.last_offset;
  bits = f.bits;
  label = f.label.now;
  form = f.form;
  words = map (λ s. s.now) f.words.now;
  code_label = f.code_label.now;
}

-- a field with a label for a code without words
abbrev pub coded_field : ℕ → ℕ → ℕ → Bits → List ℕ → Form → List (List ℕ) → List ℕ
    → ExtensionField
coded_field type first last bits label form words code_label = record {
  sensor_type = type;
  first_offset = first;
  last_offset = last;
  bits = bits;
  label = label;
  form = form;
  words = words;
  code_label = code_label;
}

abbrev pub field : ℕ → ℕ → ℕ → Bits → List ℕ → Form → List (List ℕ)
    → ExtensionField
field type first last bits label form words = coded_field type first last bits label form words []

-- The fields of event data 2, by sensor type, first and last offset, and bits. Where two codes are
-- in one byte, each has a label, so that a reserved one is in hex beside the other. Offsets 04h to 07h
-- of type 23h are reserved. If the previous state is unknown, bits 3:0 of type 2Ch are the event's
-- own offset.
abbrev pub fields_of_second : List ExtensionField
fields_of_second =
    field 0x05 0x04 0x04 Bits.All (codes "network controller ") Form.Decimal [] ∷
    field 0x0f 0x00 0x00 Bits.All [] Form.Words firmware_errors ∷
    field 0x0f 0x01 0x02 Bits.All [] Form.Words firmware_stages ∷
    field 0x10 0x00 0x00 Bits.All (codes "memory module ") Form.Decimal [] ∷
    field 0x10 0x01 0x01 Bits.All (codes "event type ") Form.Hex [] ∷
    field 0x10 0x06 0x06 Bits.All (codes "processor ") Form.Decimal [] ∷
    coded_field 0x12 0x03 0x03 Bits.From7To4 [] Form.Words log_entry_actions (codes "log entry action ") ∷
    coded_field 0x12 0x03 0x03 Bits.From3To0 [] Form.Words log_types (codes "log type ") ∷
    field 0x12 0x04 0x04 Bits.Bit5 (codes "Diagnostic Interrupt (NMI)") Form.Flag [] ∷
    field 0x12 0x04 0x04 Bits.Bit4 (codes "OEM action") Form.Flag [] ∷
    field 0x12 0x04 0x04 Bits.Bit3 (codes "power cycle") Form.Flag [] ∷
    field 0x12 0x04 0x04 Bits.Bit2 (codes "reset") Form.Flag [] ∷
    field 0x12 0x04 0x04 Bits.Bit1 (codes "power off") Form.Flag [] ∷
    field 0x12 0x04 0x04 Bits.Bit0 (codes "Alert") Form.Flag [] ∷
    field 0x12 0x05 0x05 Bits.Bit7 [] Form.Words of_pair ∷
    coded_field 0x12 0x05 0x05 Bits.From3To0 [] Form.Words clocks (codes "clock type ") ∷
    field 0x19 0x00 0x00 Bits.All (codes "requested ") Form.Words acpi_states ∷
    field 0x1d 0x07 0x07 Bits.From3To0 (codes "cause ") Form.Words restart_causes ∷
    field 0x21 0x00 0x09 Bits.From6To0 [] Form.Words slot_types ∷
    coded_field 0x23 0x00 0x08 Bits.From7To4 (codes "interrupt type ") Form.Words watchdog_interrupts (codes "interrupt type ") ∷
    coded_field 0x23 0x00 0x08 Bits.From3To0 (codes "timer use ") Form.Words watchdog_uses (codes "timer use ") ∷
    field 0x28 0x00 0x00 Bits.All (codes "sensor ") Form.Hex [] ∷
    field 0x28 0x04 0x04 Bits.All (codes "sensor ") Form.Hex [] ∷
    field 0x28 0x05 0x05 Bits.Bit7 [] Form.Words logical_devices ∷
    field 0x28 0x05 0x05 Bits.From4To3 (codes "LUN ") Form.Decimal [] ∷
    field 0x28 0x05 0x05 Bits.From2To0 (codes "private bus ") Form.Decimal [] ∷
    field 0x2a 0x00 0x03 Bits.From5To0 (codes "user ") Form.Decimal unspecified_user ∷
    field 0x2b 0x00 0x07 Bits.All [] Form.Words version_changes ∷
    coded_field 0x2c 0x00 0x07 Bits.From7To4 [] Form.Words fru_state_causes (codes "cause ") ∷
    coded_field 0x2c 0x00 0x07 Bits.From3To0 (codes "was ") Form.Words fru_state (codes "was state ") ∷ []

-- The fields of event data 3, by sensor type, first and last offset, and bits. If bit 5 is set for
-- offset 01h of type 10h, bits 4:0 have no meaning, but they are still printed.
abbrev pub fields_of_third : List ExtensionField
fields_of_third =
    field 0x08 0x06 0x06 Bits.From3To0 [] Form.Words power_supply_errors ∷
    field 0x0c 0x00 0x0a Bits.All (codes "memory module ") Form.Decimal [] ∷
    field 0x10 0x01 0x01 Bits.Bit5 (codes "all events of the type") Form.Flag [] ∷
    field 0x10 0x01 0x01 Bits.Bit4 [] Form.Words directions ∷
    field 0x10 0x01 0x01 Bits.From3To0 (codes "offset ") Form.Decimal [] ∷
    field 0x10 0x05 0x05 Bits.All (codes "SEL filled, percent ") Form.Decimal [] ∷
    field 0x10 0x06 0x06 Bits.Bit7 [] Form.Words processor_numbers ∷
    field 0x19 0x00 0x00 Bits.All (codes "at the time ") Form.Words acpi_states_or_unknown ∷
    field 0x1d 0x07 0x07 Bits.All (codes "channel ") Form.Decimal [] ∷
    field 0x21 0x00 0x09 Bits.All (codes "slot ") Form.Decimal [] ∷
    field 0x28 0x05 0x05 Bits.All (codes "FRU device ID or address ") Form.Hex [] ∷
    field 0x2a 0x01 0x01 Bits.From5To4 [] Form.Words session_ends ∷
    field 0x2a 0x00 0x03 Bits.From3To0 (codes "channel ") Form.Decimal [] ∷ []

unfoldable pub fields_of : Byte → List ExtensionField
fields_of Byte.Two = fields_of_second
fields_of Byte.Three = fields_of_third

-- ---- the text of a field

-- the number in bits of a byte
abbrev pub bits_of : Bits → ℕ → ℕ
bits_of Bits.All byte = byte
bits_of Bits.Bit7 byte = byte / 128
bits_of Bits.From7To4 byte = byte / 16
bits_of Bits.From6To0 byte = byte % 128
bits_of Bits.From5To0 byte = byte % 64
bits_of Bits.From5To4 byte = byte / 16 % 4
bits_of Bits.From4To3 byte = byte / 8 % 4
bits_of Bits.From3To0 byte = byte % 16
bits_of Bits.From2To0 byte = byte % 8
bits_of Bits.Bit5 byte = byte / 32 % 2
bits_of Bits.Bit4 byte = byte / 16 % 2
bits_of Bits.Bit3 byte = byte / 8 % 2
bits_of Bits.Bit2 byte = byte / 4 % 2
bits_of Bits.Bit1 byte = byte / 2 % 2
bits_of Bits.Bit0 byte = byte % 2

abbrev pub value_in : ExtensionField → ℕ → ℕ
value_in field byte = bits_of field.bits byte

-- whether the event has the field, by its sensor type and offset
abbrev pub is_of : ExtensionField → EventData → Bool
is_of field event =
    field.sensor_type == event.sensor_type && (nat_le field.first_offset event.offset
    && nat_le event.offset field.last_offset)

-- words for the value; a flag adds nothing to its label, and has no text if its bit is 0; a number
-- without words in the table is in decimal
abbrev pub text_in_form : Form → List (List ℕ) → ℕ → Option (List ℕ)
text_in_form Form.Words words value = words_at words value
text_in_form Form.Flag words value = if value == 0 then None else Some []
text_in_form Form.Decimal words value = Some (unwrap_or (words_at words value) (decimal value))
text_in_form Form.Hex words value = Some (codes "0x" ++ hex_byte value)

-- a code without words in hex after its label, if there is one
abbrev pub code_parts : List ℕ → ℕ → List (List ℕ)
code_parts [] value = []
code_parts (character ∷ label) value =
    ((character ∷ label) ++ (codes "0x" ++ hex_byte value)) ∷ []

-- the words after their label
abbrev pub words_or_code : ExtensionField → ℕ → Option (List ℕ) → List (List ℕ)
words_or_code field value None = code_parts field.code_label value
words_or_code field value (Some words) = (field.label ++ words) ∷ []

-- the text of a field of a byte, if the event has that field
unfoldable pub field_parts : ExtensionField → EventData → ℕ → List (List ℕ)
field_parts field event byte =
    if is_of field event
    then words_or_code field (value_in field byte) (text_in_form field.form field.words (value_in field byte))
    else []

-- the texts of the fields of a byte, in order
unfoldable pub fields_text : List ExtensionField → EventData → ℕ → List (List ℕ)
fields_text [] event byte = []
fields_text (field ∷ fields) event byte =
    field_parts field event byte ++ fields_text fields event byte
