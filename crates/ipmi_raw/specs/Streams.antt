-- What is handed to a tool's input, and the end of a reply in its output.
use Rattle.std.specs.Prelude.{ℕ, ◌≡◌, ◌<◌, ◌⊎◌, ◌++◌, List, codes, length, take, Result, Ok, Err}
use Rattle.ipmi_output.specs.Sink.{TakesPart}
use Rattle.ipmi_raw.specs.declared.peer.Lost.{Lost}
use Rattle.ipmi_raw.specs.declared.tool.Tool.{Tool}
use Rattle.ipmi_raw.specs.declared.tool.Tool.TheVariants.{Ipmitool, FreeIpmi}

-- The bytes handed to the tool's input, before and after a request: then also the request and nothing else. If the connection is
-- lost, a first part of the request and nothing else; the part may be all of it or none.
abbrev pub HandsOver : Result (Unit {0}) Lost → List ℕ → List ℕ → List ℕ → Type 0
HandsOver (Ok done) request old new = new ≡ old ++ request
HandsOver (Err lost) request old new = TakesPart old new request

-- ipmitool has printed its mark on a line of its own; FreeIPMI's `ipmi-raw` has printed a line
abbrev pub IsEnded : Tool → List ℕ → Type 0
IsEnded Ipmitool text = (text ≡ codes ". \n") ⊎ ((front : List ℕ) × (text ≡ front ++ codes "\n. \n"))
IsEnded FreeIpmi text = (front : List ℕ) × (text ≡ front ++ codes "\n")

-- the reply had not ended before the last of these bytes
abbrev pub IsNotEndedWithin : Tool → List ℕ → Type 0
IsNotEndedWithin tool text = (n : ℕ) → n < length text → ¬ IsEnded tool (take n text)
