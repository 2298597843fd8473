-- The output and the exit status of a capture.
use Rattle.std.specs.Prelude.{◌≡◌, ◌⊎◌, ◌≤◌, ◌+◌, ◌++◌, [], ◌∷◌, ℕ, All, Bool, true, false, codes, is_none, IsTrue, List, map, MatchOption, Option, option_map}
use Rattle.std.specs.List.{list_all}
use Rattle.ipmi_bus.specs.Seen.{AsksAtMost, IsHonest, IsPlain, Seen, StaysHonest}
use Rattle.ipmi_bus.specs.Store.{Store}
use Rattle.ipmi_capture.specs.Accounted.{BothEndOrTurn, IsAccountedFor}
use Rattle.ipmi_capture.specs.Capture.{IsCaptureBut, IsCaptureOf}
use Rattle.ipmi_capture.specs.Left.{AreCounted, IsLeftOut, IsTrueOf, leaves_nothing, leaves_whole, left_text, PlainLeaves}
use Rattle.ipmi_capture.specs.Phases.{most_calls}
use Rattle.ipmi_capture.specs.declared.left.Left.{Left}
use Rattle.ipmi_capture.specs.Lacks.{saved_of}
use Rattle.ipmi_image.specs.Snapshot.{saved_text_of}
use Rattle.ipmi_output.specs.Failure.{escaped_name, failure_text, line_text}
use Rattle.ipmi_output.specs.Received.{Received, ReceivesText}
use Rattle.ipmi_output.specs.declared.failure.Failure.{Failure}
use Rattle.ipmi_output.specs.Sink.{TakesPart}
use Rattle.serdimko.specs.declared.capture.Target.{Target}
use Rattle.ipmi_raw.specs.LastWords.{lost_text}
use Rattle.serdimko.specs.Live.{name_of}
use Rattle.serdimko.specs.Out.{Out}
use Rattle.serdimko.specs.RunError.{named_text, no_reply_text}

-- the name of the file
abbrev pub file_in : Target → Option (List ℕ)
file_in target = option_map (λ word. word.now) target.file

abbrev pub status_of_image : Bool → ℕ
status_of_image true = 0
status_of_image false = 1

-- after a write fault: 141 if a write met an output that its reader had closed; else a message says that a write failed
abbrev pub EndsUnwritten : Bool → Received → Received → ℕ → Type 0
EndsUnwritten true said said' status = (status ≡ 141) × (said' ≡ said)
EndsUnwritten false said said' status = (status ≡ 4) × ReceivesText said said' (line_text (failure_text Failure.WriteFault))

-- the text was written to the output; or a part of it, before a fault
abbrev pub PrintsText : Bool → List ℕ → Out → Out → Received → Received → ℕ → Type 0
PrintsText is_whole text old new said said' status =
    ((new.taken ≡ old.taken ++ text) × (new.held ≡ []) × (status ≡ status_of_image is_whole) × (said' ≡ said))
    ⊎ (TakesPart old.taken new.taken text × (new.faults ≡ old.faults + 1)
    × EndsUnwritten new.closed said said' status)

-- the image is not written: it is not whole, and may not replace a whole one
abbrev pub KeepsFile : Bool → Bool → List ℕ → Received → Received → ℕ → Type 0
KeepsFile is_whole may_replace name said said' status =
    (is_whole ≡ false) × (may_replace ≡ false) × (status ≡ 1)
    × ReceivesText said said' (line_text (escaped_name name ++ codes " stays as it is, since this image is not whole: --partial replaces it"))

-- the status and the message of writing an image to the file with this name; what the file holds before and then is not described
abbrev pub WritesText : Bool → Bool → List ℕ → Received → Received → ℕ → Type 0
WritesText is_whole may_replace name said said' status =
    ((status ≡ status_of_image is_whole) × (said' ≡ said))
    ⊎ (((status ≡ 4) × ReceivesText said said' (line_text (codes "cannot write " ++ escaped_name name)))
    ⊎ KeepsFile is_whole may_replace name said said' status)

-- to a file with this name, if there is one
abbrev pub SavesText : Option (List ℕ) → Bool → Bool → List ℕ → Out → Out → Received → Received → ℕ → Type 0
SavesText file may_replace is_whole text old new said said' status =
    MatchOption file (PrintsText is_whole text old new said said' status)
    (λ name. (new ≡ old) × WritesText is_whole may_replace name said said' status)

-- messages, one after another
abbrev pub SaysLines : List (List ℕ) → Received → Received → Type 0
SaysLines [] said said' = said' ≡ said
SaysLines (text ∷ texts) said said'' = (said' : Received) × ReceivesText said said' (line_text text) × SaysLines texts said' said''

-- the line about an item that was left out, after the name of the host, unless that is unknown
abbrev pub said_left : Bool → List ℕ → Left → List ℕ
said_left is_unknown name left = named_text is_unknown name (left_text left)

-- each item left out is said, and the image is saved with notes of them
abbrev pub SavesImage : Option (List ℕ) → Option (List ℕ) → Bool → Store → List Left → Out → Out → Received → Received → ℕ → Type 0
SavesImage host file may_replace image left old new said said'' status =
    (said' : Received) × SaysLines (map (said_left (is_none host) (name_of host)) left) said said'
    × SavesText file may_replace (list_all leaves_whole left) (saved_text_of (saved_of image left)) old new said' said'' status

-- nothing is saved, and a message has this last output of the tool on a line
abbrev pub SaysLost : Option (List ℕ) → List ℕ → Out → Out → Received → Received → ℕ → Type 0
SaysLost host text old new said said' status =
    (new ≡ old) × (status ≡ 1)
    × ReceivesText said said' (line_text (no_reply_text (name_of host) (lost_text text)))

-- The controller was captured, as the contract of `capture` says, and the image was saved, unless the connection was lost.
-- `IsState` says of which states is known that the controller was in them.
pub record Captures (IsState : Seen → Type 0) (part tries : ℕ) (seen seen' : Seen) (lost host file : Option (List ℕ)) (may_replace : Bool) (old new : Out) (said said' : Received)
    (status : ℕ) : Type 0 where
  pub image : Store
  pub left : List Left
  pub calls : seen'.calls ≤ seen.calls + most_calls tries
  pub asked : AsksAtMost part seen seen'
  pub lacks : All (IsLeftOut image) left
  pub accounted : IsAccountedFor IsState left image
  pub ends : IsTrue (list_all leaves_whole left) → BothEndOrTurn IsState left image
  pub stays : IsHonest seen → StaysHonest seen seen'
  pub counts : IsHonest seen → AreCounted IsState tries left seen seen'
  pub but : IsHonest seen → seen'.stores_added ≡ seen.stores_added → IsCaptureBut left image seen.store
  pub all : IsHonest seen → seen'.stores_added ≡ seen.stores_added → IsTrue (list_all leaves_nothing left)
      → IsCaptureOf image seen.store
  pub told : IsHonest seen → seen'.stores_added ≡ seen.stores_added → All (IsTrueOf seen.store) left
  pub plain : IsPlain seen → All (PlainLeaves seen.store) left
  pub saves : MatchOption lost (SavesImage host file may_replace image left old new said said' status) (λ text. SaysLost host text old new said said' status)
