-- All that tools are handed: requests, as texts.
use Rattle.std.specs.Prelude.{ℕ, ◌≡◌, ◌==◌, ◌&&◌, All, Bool, true, false, flat_map, List, ◌++◌, Option, None, Some}
use Rattle.std.specs.declared.io.traits.Write.{Ghosts}
use Rattle.ipmi_output.specs.Writer.{taken_of}
use Rattle.ipmi_output.specs.declared.sink.Written.{Written}
use Rattle.ipmi_raw.specs.declared.heard.Heard.{Heard}
use Rattle.ipmi_raw.specs.declared.piped.Units.{Units}
use Rattle.ipmi_raw.specs.declared.request.Request.{Request}
use Rattle.ipmi_raw.specs.declared.tool.Tool.{Tool}
use Rattle.ipmi_raw.specs.Peer.{request_text}
use Rattle.ipmi_raw.specs.Piped.{first_text, IsOpened, Kept, Openings, streams_of, unit_of}
use Rattle.ipmi_raw.specs.Request.{lun_of}

-- The texts of requests to this unit, one after another. ipmitool is handed Get Device ID before them.
pub record AreRequests (tool : Tool) (unit : ℕ) (text : List ℕ) : Type 0 where
  pub requests : List Request
  pub to_unit : All (λ request. unit_of tool (lun_of request) ≡ unit) requests
  pub text_is : text ≡ first_text tool ++ flat_map (request_text tool) requests

-- such texts, the last of which may be cut off
abbrev pub BreakOff : Tool → ℕ → List ℕ → Type 0
BreakOff tool unit text = (rest : List ℕ) × AreRequests tool unit (text ++ rest)

abbrev pub AreRequestsUnlessCut : Bool → Tool → ℕ → List ℕ → Type 0
AreRequestsUnlessCut false tool unit text = AreRequests tool unit text
AreRequestsUnlessCut true tool unit text = BreakOff tool unit text

-- the tool's input took this text, and nothing else, after what it held when it was opened
pub record IsHanded {O R W : Type 0} {write : Ghosts W} (opens : Openings O R W) (unit : ℕ) (text : List ℕ)
    (streams : Kept R W write) : Type 0 where
  pub opener : O
  pub opener' : O
  pub opened : Kept R W write
  pub is_opened : IsOpened opens unit opener opener' opened
  pub taken : taken_of streams.requests ≡ taken_of opened.requests ++ text

-- what the tool of these streams was handed, if they are open
abbrev pub WasHanded : {O R W : Type 0} {write : Ghosts W} → Openings O R W → ℕ → (List ℕ → Type 0) → Option (Kept R W write) → Type 0
WasHanded opens unit IsText None = Unit {0}
WasHanded opens unit IsText (Some streams) = (text : List ℕ) × IsHanded opens unit text streams × IsText text

-- The tool of each unit was handed requests to this unit, and nothing else. If the connection is lost, the text of at most one unit,
-- `cut`, may end within a request.
abbrev pub OnlyRequests : {O R W : Type 0} {write : Ghosts W} → Openings O R W → Tool → Bool → Units (Heard R) (Written W write) → Type 0
OnlyRequests opens tool is_lost units = (cut : ℕ) × ((unit : ℕ)
    → WasHanded opens unit (AreRequestsUnlessCut (is_lost && (unit == cut)) tool unit) (streams_of unit units))
