-- The classes of completion codes: what they mean for a retrieval.
use Rattle.std.specs.Prelude.{ℕ, ◌==◌, ◌||◌, if◌then◌else◌}
use Rattle.ipmi_bus.specs.Types.{Busy, Cancelled, CodeClass, NotPresent, Refusal, SmallerPart}

abbrev pub class_of : ℕ → CodeClass
class_of code =
    if code == 0xC5 then Cancelled
    else if (code == 0xC0) || ((code == 0xC3) || (code == 0x81)) then Busy
    else if (code == 0xC7) || ((code == 0xC8) || (code == 0xCA)) then SmallerPart
    else if code == 0xCB then NotPresent
    else Refusal
