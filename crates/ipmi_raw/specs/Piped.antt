-- The streams for the requests to a logical unit.
use Rattle.std.specs.Prelude.{ℕ, ◌≡◌, ◌==◌, if◌then◌else◌, codes, Option, None, Some, MatchResult, Result, Ok, Err, IsErr, List, [], ◌++◌, unwrap_or}
use Rattle.std.specs.Io.KnownBytes.{Consumes}
use Rattle.std.specs.declared.io.traits.Write.{Ghosts}
use Rattle.ipmi_output.specs.Writer.{taken_of, writer_of}
use Rattle.ipmi_output.specs.declared.sink.Written.{Written}
use Rattle.ipmi_raw.specs.declared.peer.Lost.{Lost}
use Rattle.ipmi_raw.specs.declared.piped.Units.{Units}
use Rattle.ipmi_raw.specs.declared.streams.Streams.{Streams}
use Rattle.ipmi_raw.specs.declared.tool.Tool.{Tool}
use Rattle.ipmi_raw.specs.declared.tool.Tool.TheVariants.{Ipmitool, FreeIpmi}
use Rattle.ipmi_raw.specs.Heard.{given_of, reader_of}
use Rattle.ipmi_raw.specs.declared.heard.Heard.{Heard}
use Rattle.ipmi_raw.specs.Streams.{HandsOver}

-- the unit whose streams carry a request: each ipmitool sends all its requests to one unit, whereas a request to `ipmi-raw` names
-- its unit
abbrev pub unit_of : Tool → ℕ → ℕ
unit_of Ipmitool lun = lun
unit_of FreeIpmi lun = 0

-- no unit has streams
abbrev pub no_units : {R W : Type 0} → Units R W
no_units = record { zero = None; one = None; two = None; three = None }

-- the streams of a unit, if they are open
abbrev pub streams_of : {R W : Type 0} → ℕ → Units R W → Option (Streams R W)
streams_of unit units =
    if unit == 0 then units.zero else if unit == 1 then units.one else if unit == 2 then units.two
    else if unit == 3 then units.three else None

-- replaces the streams of a unit
abbrev pub with_streams : {R W : Type 0} → ℕ → Option (Streams R W) → Units R W → Units R W
with_streams unit streams units =
    if unit == 0 then record units { zero = streams } else if unit == 1 then record units { one = streams }
    else if unit == 2 then record units { two = streams } else if unit == 3 then record units { three = streams } else units

-- the streams of a tool, which keep all that its output gave and all that its input was handed
abbrev pub Kept : (R W : Type 0) → Ghosts W → Type 0
Kept R W write = Streams (Heard R) (Written W write)

-- the type of `remaining`: the bytes still to be read from a stream, if they are known
abbrev pub Known : Type 0 → Type 0
Known S = S → Option (List ℕ)

-- The tool is handed the request, as `HandsOver` says, and nothing else. The reply consists of the bytes that its output gave.
pub record IsExchange {R W : Type 0} {write : Ghosts W} (remaining : Known R) (request : List ℕ) (came : Result (Unit {0}) Lost)
    (reply : List ℕ) (old new : Kept R W write) : Type 0 where
  pub sent : HandsOver came request (taken_of old.requests) (taken_of new.requests)
  pub given : given_of new.replies ≡ given_of old.replies ++ reply
  pub read : Consumes (remaining (reader_of old.replies)) (remaining (reader_of new.replies)) reply

-- ---- streams that are opened

-- the type of an opener's `opens`: what is known of an opening for a unit, which gives a tool's output and input, or fails
abbrev pub Openings : Type 0 → Type 0 → Type 0 → Type 1
Openings O R W = O → O → ℕ → Option (R × W) → Type 0

-- The streams of a unit just as they were opened. The tool was handed nothing yet: its input has taken only what the writer held
-- when it was opened. Its output gave nothing yet.
pub record IsOpened {O R W : Type 0} {write : Ghosts W} (opens : Openings O R W) (unit : ℕ) (old new : O)
    (opened : Kept R W write) : Type 0 where
  pub are_opened : opens old new unit (Some (reader_of opened.replies, writer_of opened.requests))
  pub none_given : given_of opened.replies ≡ []
  pub none_sent : taken_of opened.requests ≡ unwrap_or (write.contents (writer_of opened.requests)) []

-- ipmitool is first sent a request that makes it open its session: Get Device ID (IPMI v2.0, section 20.1)
abbrev pub first_text : Tool → List ℕ
first_text Ipmitool = codes "raw 0x06 0x01\necho .\n"
first_text FreeIpmi = []

abbrev pub IsFirst : {R W : Type 0} {write : Ghosts W} → Known R → Tool → Result (Unit {0}) Lost → List ℕ
    → Kept R W write → Kept R W write → Type 0
IsFirst remaining Ipmitool came reply old new = IsExchange remaining (first_text Ipmitool) came reply old new
IsFirst remaining FreeIpmi came reply old new = (came ≡ Ok tt) × (reply ≡ []) × (new ≡ old)

-- the streams for a request, or the connection is lost: then those that lost it, or none if the opening failed
abbrev pub Ready : Type 0 → Type 0
Ready S = Result S (Option S)

-- the streams opened for a unit, after the first request over them
abbrev pub AreOpened : {O R W : Type 0} {write : Ghosts W} → Openings O R W → Known R → Tool → ℕ → Ready (Kept R W write)
    → List ℕ → O → O → Type 0
AreOpened {R = R} {W = W} {write = write} opens remaining tool unit (Ok streams) reply old new =
    (opened : Kept R W write) × IsOpened opens unit old new opened
    × IsFirst remaining tool (Ok tt) reply opened streams
AreOpened {R = R} {W = W} {write = write} opens remaining tool unit (Err (Some streams)) reply old new =
    (opened : Kept R W write) × IsOpened opens unit old new opened
    × ((lost : Lost) × IsFirst remaining tool (Err lost) reply opened streams)
AreOpened opens remaining tool unit (Err None) reply old new = opens old new unit None × (reply ≡ [])

-- the streams for a request: those of the unit that are open; if there are none, some are opened
abbrev pub AreReady : {O R W : Type 0} {write : Ghosts W} → Openings O R W → Known R → Tool → ℕ
    → Option (Kept R W write) → Ready (Kept R W write) → List ℕ → O → O → Type 0
AreReady opens remaining tool unit (Some streams) ready reply old new = (ready ≡ Ok streams) × (new ≡ old)
AreReady opens remaining tool unit None ready reply old new = AreOpened opens remaining tool unit ready reply old new

-- An exchange over the streams of this unit, which stay open, even if the connection is lost over them. If it is lost when they are
-- opened, the request is not sent, and the reply is what came then. The streams of other units are unchanged, so their tools are
-- handed nothing.
pub record IsOverUnit {O R W : Type 0} {write : Ghosts W} (opens : Openings O R W) (remaining : Known R) (tool : Tool) (unit : ℕ)
    (request : List ℕ) (came : Result (Unit {0}) Lost) (reply : List ℕ) (opener opener' : O)
    (old new : Units (Heard R) (Written W write)) : Type 0 where
  pub now : Option (Kept R W write)
  pub others : new ≡ with_streams unit now old
  pub ready : Ready (Kept R W write)
  pub first : List ℕ
  pub are_ready : AreReady opens remaining tool unit (streams_of unit old) ready first opener opener'
  pub over : MatchResult ready
      (λ before. (after : Kept R W write) × (now ≡ Some after) × IsExchange remaining request came reply before after)
      (λ lost. (now ≡ lost) × IsErr came × (reply ≡ first))
