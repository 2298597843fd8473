-- The words of sensor-specific events (IPMI v2.0, table 42-3), without most of the remarks in brackets.
use Rattle.std.specs.Prelude.{ℕ, List, [], ◌∷◌, ◌++◌, codes, Option}
use Rattle.ipmi_events.specs.Table.{reserved, table_from_one, words_at}

-- sensor type 05h: Physical Security (Chassis Intrusion)
abbrev pub physical_security : List (List ℕ)
physical_security =
    codes "General Chassis Intrusion" ∷
    codes "Drive Bay intrusion" ∷
    codes "I/O Card area intrusion" ∷
    codes "Processor area intrusion" ∷
    codes "LAN Leash Lost (system is unplugged from LAN)" ∷
    codes "Unauthorized dock" ∷
    codes "FAN area intrusion" ∷ []

-- sensor type 06h: Platform Security Violation Attempt
abbrev pub platform_security : List (List ℕ)
platform_security =
    codes "Secure Mode (Front Panel Lockout) Violation attempt" ∷
    codes "Pre-boot Password Violation - user password" ∷
    codes "Pre-boot Password Violation attempt - setup password" ∷
    codes "Pre-boot Password Violation - network boot password" ∷
    codes "Other pre-boot Password Violation" ∷
    codes "Out-of-band Access Password Violation" ∷ []

-- sensor type 07h: Processor
abbrev pub processor : List (List ℕ)
processor =
    codes "IERR" ∷
    codes "Thermal Trip" ∷
    codes "FRB1/BIST failure" ∷
    codes "FRB2/Hang in POST failure" ∷
    codes "FRB3/Processor Startup/Initialization failure" ∷
    codes "Configuration Error" ∷
    codes "SM BIOS Uncorrectable CPU-complex Error" ∷
    codes "Processor Presence detected" ∷
    codes "Processor disabled" ∷
    codes "Terminator Presence Detected" ∷
    codes "Processor Automatically Throttled" ∷
    codes "Machine Check Exception (Uncorrectable)" ∷
    codes "Correctable Machine Check Error" ∷ []

-- sensor type 08h: Power Supply
abbrev pub power_supply : List (List ℕ)
power_supply =
    codes "Presence detected" ∷
    codes "Power Supply Failure detected" ∷
    codes "Predictive Failure" ∷
    codes "Power Supply input lost (AC/DC)" ∷
    codes "Power Supply input lost or out-of-range" ∷
    codes "Power Supply input out-of-range, but present" ∷
    codes "Configuration error" ∷
    codes "Power Supply Inactive" ∷ []

-- sensor type 09h: Power Unit
abbrev pub power_unit : List (List ℕ)
power_unit =
    codes "Power Off / Power Down" ∷
    codes "Power Cycle" ∷
    codes "240VA Power Down" ∷
    codes "Interlock Power Down" ∷
    codes "AC lost / Power input lost" ∷
    codes "Soft Power Control Failure" ∷
    codes "Power Unit Failure detected" ∷
    codes "Predictive Failure" ∷ []

-- sensor type 0Ch: Memory
abbrev pub memory : List (List ℕ)
memory =
    codes "Correctable ECC / other correctable memory error" ∷
    codes "Uncorrectable ECC / other uncorrectable memory error" ∷
    codes "Parity" ∷
    codes "Memory Scrub Failed" ∷
    codes "Memory Device Disabled" ∷
    codes "Correctable ECC / other correctable memory error logging limit reached" ∷
    codes "Presence detected" ∷
    codes "Configuration error" ∷
    codes "Spare" ∷
    codes "Memory Automatically Throttled" ∷
    codes "Critical Overtemperature" ∷ []

-- sensor type 0Dh: Drive Slot (Drive Bay)
abbrev pub drive_slot : List (List ℕ)
drive_slot =
    codes "Drive Presence" ∷
    codes "Drive Fault" ∷
    codes "Predictive Failure" ∷
    codes "Hot Spare" ∷
    codes "Consistency Check / Parity Check in progress" ∷
    codes "In Critical Array" ∷
    codes "In Failed Array" ∷
    codes "Rebuild/Remap in progress" ∷
    codes "Rebuild/Remap Aborted" ∷ []

-- sensor type 0Fh: System Firmware Progress
abbrev pub firmware_progress : List (List ℕ)
firmware_progress =
    codes "System Firmware Error" ∷
    codes "System Firmware Hang" ∷
    codes "System Firmware Progress" ∷ []

-- sensor type 10h: Event Logging Disabled
abbrev pub event_logging_disabled : List (List ℕ)
event_logging_disabled =
    codes "Correctable Memory Error Logging Disabled" ∷
    codes "Event Type Logging Disabled" ∷
    codes "Log Area Reset/Cleared" ∷
    codes "All Event Logging Disabled" ∷
    codes "SEL Full" ∷
    codes "SEL Almost Full" ∷
    codes "Correctable Machine Check Error Logging Disabled" ∷ []

-- sensor type 11h: Watchdog 1
abbrev pub watchdog_1 : List (List ℕ)
watchdog_1 =
    codes "BIOS Watchdog Reset" ∷
    codes "OS Watchdog Reset" ∷
    codes "OS Watchdog Shut Down" ∷
    codes "OS Watchdog Power Down" ∷
    codes "OS Watchdog Power Cycle" ∷
    codes "OS Watchdog NMI / Diagnostic Interrupt" ∷
    codes "OS Watchdog Expired, status only" ∷
    codes "OS Watchdog pre-timeout Interrupt, non-NMI" ∷ []

-- sensor type 12h: System Event
abbrev pub system_event : List (List ℕ)
system_event =
    codes "System Reconfigured" ∷
    codes "OEM System Boot Event" ∷
    codes "Undetermined system hardware failure" ∷
    codes "Entry added to Auxiliary Log" ∷
    codes "PEF Action" ∷
    codes "Timestamp Clock Synch" ∷ []

-- sensor type 13h: Critical Interrupt
abbrev pub critical_interrupt : List (List ℕ)
critical_interrupt =
    codes "Front Panel NMI / Diagnostic Interrupt" ∷
    codes "Bus Timeout" ∷
    codes "I/O channel check NMI" ∷
    codes "Software NMI" ∷
    codes "PCI PERR" ∷
    codes "PCI SERR" ∷
    codes "EISA Fail Safe Timeout" ∷
    codes "Bus Correctable Error" ∷
    codes "Bus Uncorrectable Error" ∷
    codes "Fatal NMI" ∷
    codes "Bus Fatal Error" ∷
    codes "Bus Degraded" ∷ []

-- sensor type 14h: Button / Switch
abbrev pub button : List (List ℕ)
button =
    codes "Power Button pressed" ∷
    codes "Sleep Button pressed" ∷
    codes "Reset Button pressed" ∷
    codes "FRU latch open" ∷
    codes "FRU service request button" ∷ []

-- sensor type 19h: Chip Set
abbrev pub chip_set : List (List ℕ)
chip_set =
    codes "Soft Power Control Failure" ∷
    codes "Thermal Trip" ∷ []

-- sensor type 1Bh: Cable / Interconnect
abbrev pub cable : List (List ℕ)
cable =
    codes "Cable/Interconnect is connected" ∷
    codes "Configuration Error - Incorrect cable connected / Incorrect interconnection" ∷ []

-- sensor type 1Dh: System Boot / Restart Initiated
abbrev pub boot_initiated : List (List ℕ)
boot_initiated =
    codes "Initiated by power up" ∷
    codes "Initiated by hard reset" ∷
    codes "Initiated by warm reset" ∷
    codes "User requested PXE boot" ∷
    codes "Automatic boot to diagnostic" ∷
    codes "OS / run-time software initiated hard reset" ∷
    codes "OS / run-time software initiated warm reset" ∷
    codes "System Restart" ∷ []

-- sensor type 1Eh: Boot Error
abbrev pub boot_error : List (List ℕ)
boot_error =
    codes "No bootable media" ∷
    codes "Non-bootable diskette left in drive" ∷
    codes "PXE Server not found" ∷
    codes "Invalid boot sector" ∷
    codes "Timeout waiting for user selection of boot source" ∷ []

-- sensor type 1Fh: Base OS Boot / Installation Status
abbrev pub os_boot : List (List ℕ)
os_boot =
    codes "A: boot completed" ∷
    codes "C: boot completed" ∷
    codes "PXE boot completed" ∷
    codes "Diagnostic boot completed" ∷
    codes "CD-ROM boot completed" ∷
    codes "ROM boot completed" ∷
    codes "boot completed - boot device not specified" ∷
    codes "Base OS/Hypervisor Installation started" ∷
    codes "Base OS/Hypervisor Installation completed" ∷
    codes "Base OS/Hypervisor Installation aborted" ∷
    codes "Base OS/Hypervisor Installation failed" ∷ []

-- sensor type 20h: OS Stop / Shutdown
abbrev pub os_stop : List (List ℕ)
os_stop =
    codes "Critical stop during OS load / initialization" ∷
    codes "Run-time Critical Stop" ∷
    codes "OS Graceful Stop" ∷
    codes "OS Graceful Shutdown" ∷
    codes "Soft Shutdown initiated by PEF" ∷
    codes "Agent Not Responding" ∷ []

-- sensor type 21h: Slot / Connector
abbrev pub slot : List (List ℕ)
slot =
    codes "Fault Status asserted" ∷
    codes "Identify Status asserted" ∷
    codes "Slot / Connector Device installed/attached" ∷
    codes "Slot / Connector Ready for Device Installation" ∷
    codes "Slot / Connector Ready for Device Removal" ∷
    codes "Slot Power is Off" ∷
    codes "Slot / Connector Device Removal Request" ∷
    codes "Interlock asserted" ∷
    codes "Slot is Disabled" ∷
    codes "Slot holds spare device" ∷ []

-- System ACPI power states
abbrev pub acpi_states : List (List ℕ)
acpi_states =
    codes "S0 / G0 working" ∷
    codes "S1 sleeping with system h/w & processor context maintained" ∷
    codes "S2 sleeping, processor context lost" ∷
    codes "S3 sleeping, processor & h/w context lost, memory retained" ∷
    codes "S4 non-volatile sleep / suspend-to disk" ∷
    codes "S5 / G2 soft-off" ∷
    codes "S4 / S5 soft-off, particular S4 / S5 state cannot be determined" ∷
    codes "G3 / Mechanical Off" ∷
    codes "Sleeping in an S1, S2, or S3 state" ∷
    codes "G1 sleeping" ∷
    codes "S5 entered by override" ∷
    codes "Legacy ON state" ∷
    codes "Legacy OFF state" ∷ []

-- sensor type 22h: System ACPI Power State
abbrev pub acpi_power_state : List (List ℕ)
acpi_power_state = acpi_states ++ (reserved ∷ codes "Unknown" ∷ [])

-- sensor type 23h: Watchdog 2
abbrev pub watchdog_2 : List (List ℕ)
watchdog_2 =
    codes "Timer expired, status only" ∷
    codes "Hard Reset" ∷
    codes "Power Down" ∷
    codes "Power Cycle" ∷
    reserved ∷
    reserved ∷
    reserved ∷
    reserved ∷
    codes "Timer interrupt" ∷ []

-- sensor type 24h: Platform Alert
abbrev pub platform_alert : List (List ℕ)
platform_alert =
    codes "platform generated page" ∷
    codes "platform generated LAN alert" ∷
    codes "Platform Event Trap generated" ∷
    codes "platform generated SNMP trap, OEM format" ∷ []

-- sensor type 25h: Entity Presence
abbrev pub entity_presence : List (List ℕ)
entity_presence =
    codes "Entity Present" ∷
    codes "Entity Absent" ∷
    codes "Entity Disabled" ∷ []

-- sensor type 27h: LAN
abbrev pub lan : List (List ℕ)
lan =
    codes "LAN Heartbeat Lost" ∷
    codes "LAN Heartbeat" ∷ []

-- sensor type 28h: Management Subsystem Health
abbrev pub subsystem_health : List (List ℕ)
subsystem_health =
    codes "sensor access degraded or unavailable" ∷
    codes "controller access degraded or unavailable" ∷
    codes "management controller off-line" ∷
    codes "management controller unavailable" ∷
    codes "Sensor failure" ∷
    codes "FRU failure" ∷ []

-- sensor type 29h: Battery
abbrev pub battery : List (List ℕ)
battery =
    codes "battery low (predictive failure)" ∷
    codes "battery failed" ∷
    codes "battery presence detected" ∷ []

-- sensor type 2Ah: Session Audit
abbrev pub session_audit : List (List ℕ)
session_audit =
    codes "Session Activated" ∷
    codes "Session Deactivated" ∷
    codes "Invalid Username or Password" ∷
    codes "Invalid password disable" ∷ []

-- sensor type 2Bh: Version Change
abbrev pub version_change : List (List ℕ)
version_change =
    codes "Hardware change detected" ∷
    codes "Firmware or software change detected" ∷
    codes "Hardware incompatibility detected" ∷
    codes "Firmware or software incompatibility detected" ∷
    codes "Entity is of an invalid or unsupported hardware version" ∷
    codes "Entity contains an invalid or unsupported firmware or software version" ∷
    codes "Hardware Change detected was successful" ∷
    codes "Software or F/W Change detected was successful" ∷ []

-- sensor type 2Ch: FRU State
abbrev pub fru_state : List (List ℕ)
fru_state =
    codes "FRU Not Installed" ∷
    codes "FRU Inactive" ∷
    codes "FRU Activation Requested" ∷
    codes "FRU Activation In Progress" ∷
    codes "FRU Active" ∷
    codes "FRU Deactivation Requested" ∷
    codes "FRU Deactivation In Progress" ∷
    codes "FRU Communication Lost" ∷ []

-- starting at sensor type 01h; [] for a type without sensor-specific offsets
abbrev pub specific_tables : List (List (List ℕ))
specific_tables =
    [] ∷
    [] ∷
    [] ∷
    [] ∷
    physical_security ∷
    platform_security ∷
    processor ∷
    power_supply ∷
    power_unit ∷
    [] ∷
    [] ∷
    memory ∷
    drive_slot ∷
    [] ∷
    firmware_progress ∷
    event_logging_disabled ∷
    watchdog_1 ∷
    system_event ∷
    critical_interrupt ∷
    button ∷
    [] ∷
    [] ∷
    [] ∷
    [] ∷
    chip_set ∷
    [] ∷
    cable ∷
    [] ∷
    boot_initiated ∷
    boot_error ∷
    os_boot ∷
    os_stop ∷
    slot ∷
    acpi_power_state ∷
    watchdog_2 ∷
    platform_alert ∷
    entity_presence ∷
    [] ∷
    lan ∷
    subsystem_health ∷
    battery ∷
    session_audit ∷
    version_change ∷
    fru_state ∷ []

unfoldable pub specific_words : ℕ → ℕ → Option (List ℕ)
specific_words sensor_type offset = words_at (table_from_one specific_tables sensor_type) offset
