-- What is printed of each image.
use Rattle.std.specs.Prelude.{◌≡◌, ◌⊎◌, ◌+◌, ◌==◌, ℕ, Bool, true, false, List, [], ◌∷◌, ◌++◌, bytes_eq, codes, length, map, nat_lt, Option, None, Some, Result, Ok, Err, Vec, if◌then◌else◌}
use Rattle.std.specs.Borrow.{Bor}
use Rattle.std.specs.declared.alloc.Global.{Global}
use Rattle.ipmi_bus.specs.Seen.{IsHonest}
use Rattle.ipmi_commands.specs.Prelude.{IsSaving}
use Rattle.ipmi_commands.specs.declared.limits.RequestLimits.{RequestLimits}
use Rattle.ipmi_json.specs.declared.object.Label.{Label}
use Rattle.ipmi_image.specs.Cause.{cause_of}
use Rattle.ipmi_image.specs.Snapshot.{Saved, saved_of_image, snapshot_lacks, snapshot_seen}
use Rattle.ipmi_image.specs.declared.snapshot_controller.SnapshotController.{SnapshotController}
use Rattle.ipmi_image.specs.declared.cause.FaultCause.{FaultCause}
use Rattle.ipmi_image.specs.declared.image.ImageFault.{ImageFault}
use Rattle.ipmi_image.specs.declared.lack.Lack.{Lack}
use Rattle.ipmi_output.specs.Failure.{escaped_name, line_text}
use Rattle.ipmi_output.specs.Received.{Received}
use Rattle.ipmi_output.specs.Sink.{TakesPart}
use Rattle.ipmi_output.specs.declared.failure.Failure.{Failure}
use Rattle.ipmi_program.specs.Input.{input_name}
use Rattle.ipmi_program.specs.declared.input.InputFault.{InputFault}
use Rattle.ipmi_program.specs.Labels.{key_value, labels_of}
use Rattle.serdimko.specs.declared.images.ImageQuery.{ImageQuery}
use Rattle.serdimko.specs.declared.outcome.Outcome.{Outcome}
use Rattle.serdimko.specs.declared.report.Report.{Report}
use Rattle.serdimko.specs.declared.report.Settings.{Settings}
use Rattle.serdimko.specs.declared.run_error.RunError.{RunError}
use Rattle.serdimko.specs.Columns.{PrintsColumns, Then}
use Rattle.serdimko.specs.Out.{Out, state}
use Rattle.serdimko.specs.Printing.{Each, EndsIn, Reports, RunsThenEnds}
use Rattle.serdimko.specs.Query.{PrintsQuery}
use Rattle.serdimko.specs.RunError.{faults_of_error, no_image, output_error, Tells, unread}
use Rattle.ipmi_program.specs.Wording.{wording_of}
use Rattle.serdimko.specs.Settings.{is_headed, IsQuery, texts_of}

-- ---- one image

-- no run: only the error is reported, and the line at the end of objects is printed
pub record Fails (report : Report) (error : RunError) (old new : Out) (said said' : Received) (result : Outcome) : Type 0 where
  pub last : Option RunError
  pub ends : EndsIn report 0 old new (Some error) last
  pub counts : new.faults + faults_of_error (Some error) ≡ old.faults + faults_of_error last
  pub reports : Reports report last said said' result

-- the image is rewritten
pub record Rewrites (report : Report) (saved : Saved) (old new : Out) (said said' : Received) (result : Outcome) : Type 0 where
  pub last : Option RunError
  pub runs : RunsThenEnds report (λ before after ending. IsSaving saved before after ending) (Ok None) old new last
  pub reports : Reports report last said said' result

-- the numbers of the query are in their ranges
abbrev pub IsImageQuery : ImageQuery → Type 0
IsImageQuery (ImageQuery.Print query) = IsQuery query.now
IsImageQuery ImageQuery.Rewrite = Unit {0}

-- the same report of an image that lacks these
abbrev pub lacking : Bor (List Lack) → Report → Report
lacking lacks report = record report { format = record report.format { lacks = lacks } }

-- The query runs over a controller that holds the image, whose answers are those of `SnapshotController`: it is honest, its store stays,
-- and if nothing is lacking it is plain. Readings that are lacking are printed as not captured; memory for the list of them may run out.
-- Or the image is rewritten.
abbrev pub PrintsStore : RequestLimits → ImageQuery → Report → Saved → Out → Out → Received → Received → Outcome → Type 0
PrintsStore limits (ImageQuery.Print query) report saved old new said said' result =
    Fails report (RunError.Failed Failure.OutOfMemory) old new said said' result
    ⊎ ((c c' : SnapshotController) × (lacks : Bor (List Lack)) × (lacks.now ≡ saved.lacks) × IsHonest (snapshot_seen c) × ((snapshot_seen c).plain ≡ (length saved.lacks == 0))
    × ((snapshot_seen c).store ≡ saved.store) × (snapshot_lacks c ≡ saved.lacks)
    × ((snapshot_seen c').stores_added ≡ (snapshot_seen c).stores_added)
    × PrintsQuery limits query.now (lacking lacks report) (state (snapshot_seen c) None old) (state (snapshot_seen c') None new)
    said said' result)
PrintsStore limits ImageQuery.Rewrite report saved old new said said' result = Rewrites report saved old new said said' result

-- the fault of the bytes, and the rule that they break; or memory ran out
abbrev pub IsFaultOf : List ℕ → ImageFault → Option FaultCause → Type 0
IsFaultOf bytes fault cause =
    (fault ≡ ImageFault.Memory) ⊎ ((saved_of_image bytes ≡ Err fault) × (cause ≡ cause_of bytes fault))

-- the input was read, and it is an image with this content
abbrev pub IsImageOf : Result (Vec ℕ Global) InputFault → Saved → Type 0
IsImageOf (Err fault) saved = ⊥
IsImageOf (Ok image) saved = saved_of_image image.items ≡ Ok saved

-- why it is no image: it was not read, or it has a fault
abbrev pub IsErrorOf : Result (Vec ℕ Global) InputFault → RunError → Type 0
IsErrorOf (Err fault) error = error ≡ unread fault
IsErrorOf (Ok image) error =
    (fault : ImageFault) × (cause : Option FaultCause) × IsFaultOf image.items fault cause × (error ≡ no_image fault cause)

abbrev pub PrintsInput : RequestLimits → ImageQuery → Report → Result (Vec ℕ Global) InputFault → Out → Out → Received → Received
    → Outcome → Type 0
PrintsInput limits query report input old new said said' result =
    ((saved : Saved) × IsImageOf input saved × PrintsStore limits query report saved old new said said' result)
    ⊎ ((error : RunError) × IsErrorOf input error × Fails report error old new said said' result)

-- ---- its name and its labels

-- what is reported of an input with this name; objects have the labels of these texts, and those of one of several images its name
pub record IsReport (settings : Settings) (image : Option (List ℕ)) (name : List ℕ) (is_only_input : Bool) (report : Report) : Type 0 where
  pub labels : Bor (List Label)
  pub labels_are : map key_value labels.now ≡ labels_of image (texts_of settings.format)
  pub wording : report.format.format ≡ wording_of settings.format labels
  pub nothing_lacks : report.format.lacks.now ≡ []
  pub strict : report.strict ≡ settings.strict
  pub name_is : report.name.now ≡ name
  pub input : report.is_only_input ≡ is_only_input

abbrev pub header : List ℕ → List ℕ
header name = line_text (codes "== " ++ escaped_name name)

-- the label with the name of one of several images
abbrev pub image_label : Bool → List ℕ → Option (List ℕ)
image_label true name = None
image_label false name = Some name

-- memory for the labels ran out, or the input is printed
abbrev pub PrintsNamed : Settings → ImageQuery → Option (List ℕ) → Bool → Out → Out → Received → Received → Outcome → Type 0
PrintsNamed settings query file is_only_input old new said said' result =
    ((new ≡ old) × Tells (input_name file) is_only_input (Some (RunError.Failed Failure.OutOfMemory)) said said' result)
    ⊎ ((report : Report) × (input : Result (Vec ℕ Global) InputFault)
    × IsReport settings (image_label is_only_input (input_name file)) (input_name file) is_only_input report
    × PrintsInput settings.limits query report input old new said said' result)

-- after its name, if that could be printed
abbrev pub PrintsFile : Bool → Settings → ImageQuery → Option (List ℕ) → Bool → Out → Out → Received → Received → Outcome → Type 0
PrintsFile false settings query file is_only_input old new said said' result =
    PrintsNamed settings query file is_only_input old new said said' result
PrintsFile true settings query file is_only_input old new said said' result =
    ((now : Out) × (now.taken ≡ old.taken ++ header (input_name file)) × (now.held ≡ [])
    × PrintsNamed settings query file is_only_input now new said said' result)
    ⊎ (TakesPart old.taken new.taken (header (input_name file)) × (new.faults ≡ old.faults + 1)
    × Tells (input_name file) is_only_input (Some (output_error new.closed)) said said' result)

-- the file, or standard input for `-`
abbrev pub file_of : Option (List ℕ) → Option (List ℕ)
file_of None = None
file_of (Some name) = if bytes_eq name (codes "-") then None else Some name

abbrev pub PrintsImage : Settings → ImageQuery → Bool → Option (List ℕ) → Out → Out → Received → Received → Outcome → Type 0
PrintsImage settings query is_only_input image old new said said' result =
    PrintsFile (is_headed settings.format is_only_input) settings query (file_of image) is_only_input old new said said' result

-- ---- all images

-- the next image follows if more can be printed
abbrev pub PrintsOne : Settings → ImageQuery → Bool → List ℕ → Out → Out → Received → Received → Outcome → Bool → Type 0
PrintsOne settings query is_only_input image old new said said' result follows =
    PrintsImage settings query is_only_input (Some image) old new said said' result × (follows ≡ result.is_output_open)

-- standard input if none is named
abbrev pub PrintsEach : Settings → ImageQuery → List (List ℕ) → Out → Out → Received → Received → Outcome → Type 0
PrintsEach settings query [] old new said said' result = PrintsImage settings query true None old new said said' result
PrintsEach settings query (image ∷ images) old new said said' result =
    Each (PrintsOne settings query (length (image ∷ images) == 1)) (image ∷ images) old new said said' result

abbrev pub PrintsFirst : Settings → ImageQuery → Bool → Out → Out → Option RunError → Type 0
PrintsFirst settings (ImageQuery.Print query) is_only_input old new last =
    PrintsColumns settings.format query.now (image_label is_only_input []) old new last
PrintsFirst settings ImageQuery.Rewrite is_only_input old new last = (new ≡ old) × (last ≡ None)

-- the names of columns, if the output is CSV, and the images
abbrev pub PrintsImages : Settings → ImageQuery → List (List ℕ) → Out → Out → Received → Received → Outcome → Type 0
PrintsImages settings query images old new said said' result =
    (now : Out) × (last : Option RunError) × PrintsFirst settings query (nat_lt (length images) 2) old now last
    × Then last (PrintsEach settings query images now new said said' result)
    (λ error. (new ≡ now) × Tells [] true (Some error) said said' result)
