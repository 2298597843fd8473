-- The contract of a run: over any controller, over an honest one, and in pages; and of writing a whole image.
use Rattle.std.specs.Prelude.{◌≡◌, ◌⊎◌, ℕ, ◌+◌, ◌*◌, ◌<◌, ◌≤◌, ◌-◌, IsTrue, false, Option, None, Some, Result, Ok, Err, List, [], length}
use Rattle.ipmi_commands.specs.Below.{Count, device_name, image_text_of, Ended, FruEnded, LastCallSays, LastFailed, LastFruCallSays, NoneCame, NotPresent, RefusesRecord, RefusesValue, Seen, Shelf, start_of, Place, First, Sdr, Sel, Row, Store, Done, OnGrowing, WasLog, info_of, inventory_of, Keeps, WalkEnd, IsHonest, Received, ReceivesText, Ending, Failure, said_of, status_of}
use Rattle.ipmi_image.specs.Snapshot.{Saved, saved_text_of}
use Rattle.ipmi_commands.specs.declared.limits.Tries.{Tries}
use Rattle.ipmi_commands.specs.declared.job.EntryText.{EntryText}
use Rattle.ipmi_commands.specs.declared.job.Form.{Form}
use Rattle.ipmi_commands.specs.declared.job.Job.{Job}
use Rattle.ipmi_commands.specs.declared.job.Listing.{Listing}
use Rattle.ipmi_commands.specs.declared.job.NameLookup.{NameLookup}
use Rattle.ipmi_selection.specs.declared.detail.Detail.{Detail}
use Rattle.ipmi_commands.specs.Format.{Texts}
use Rattle.ipmi_commands.specs.declared.read_error.ReadError.{ReadError}
use Rattle.ipmi_commands.specs.Allowed.{cause_of, ending_of, EndsFor, IsAllowed, Change}
use Rattle.ipmi_commands.specs.Calls.{calls_for_devices, calls_for_point, inventory_call_bound, walk_call_bound, most_on_walk}
use Rattle.ipmi_commands.specs.Job.{named_entries, shelf_of, listing}
use Rattle.ipmi_commands.specs.Meanwhile.{IsTextWhile, OnGrowingListing}
use Rattle.ipmi_commands.specs.Output.{and_then, IsCut, Output, piece_of}
use Rattle.ipmi_commands.specs.Pages.{ArePages, IsOneListing, pages_made}
use Rattle.ipmi_commands.specs.Plan.{OnWalk, AtInventory, Plan, after_names, bytes_of_rows, first_rows, kept_plan, last_rows, listing_plan, last_plan, inventory_plan, inventories_plan, info_plan}
use Rattle.ipmi_commands.specs.Tail.{OnGrowingTail, OnTail, TracesTail}
use Rattle.ipmi_commands.specs.Texts.{is_faulty_device, IsPieceOver}
use Rattle.ipmi_commands.specs.Traced.{Traces, TracesLast}

-- ---- over any controller

-- the largest number of calls for an info and two walks of the log
abbrev pub most_on_tail : Tries → ℕ
most_on_tail tries = tries.count + 1 + (most_on_walk Form.Skipped tries + most_on_walk Form.Skipped tries)

-- the largest number of calls for what is listed with names, after the walk that reads them; an
-- inventory has at most 65,535 bytes, and at most 65,536 records locate a device besides device 0
abbrev pub most_named : NameLookup → Tries → ℕ
most_named (NameLookup.Events selection (Count.Tail n) from) tries = most_on_tail tries
most_named (NameLookup.Events selection count from) tries = most_on_walk Form.Skipped tries
most_named NameLookup.Devices tries = 65537 * inventory_call_bound tries 65535

-- the largest number of calls of a job
abbrev pub most_calls : Job → Tries → ℕ
most_calls (Job.Records l) tries = most_on_walk l.form tries
most_calls (Job.Last entries n from) tries =
    most_on_walk Form.Skipped tries + most_on_walk Form.Skipped tries
most_calls (Job.LastKept entries n from) tries = most_on_walk Form.Skipped tries
most_calls (Job.Tail entries n) tries = most_on_tail tries
most_calls (Job.NameLookup named) tries =
    most_on_walk Form.Bytes tries + most_named named tries
most_calls (Job.Info shelf) tries = tries.count + 1
most_calls (Job.Inventory detail id name) tries = inventory_call_bound tries 65535
most_calls (Job.AllInventories name) tries =
    inventory_call_bound tries 65535 + most_on_walk Form.Device tries

-- an entry of the log has a fixed length, so only a sensor data record can be malformed
abbrev pub MayEndOn : Shelf → Ended → Type 0
MayEndOn Sel (Ended.Malformed n) = ⊥
MayEndOn shelf ended = Unit {0}

-- The possible ends of a listing. A failure at a record or an inventory agrees with the last call.
-- A failure at an inventory is possible only if devices are listed, and a missing name only if the
-- listing searches for it. A failure due to an info, the command line or an image is impossible.
abbrev pub EndsListing : Form → Seen → Ending → Type 0
EndsListing form seen (Ok done) = Unit {0}
EndsListing form seen (Err (Failure.Ended ended)) =
    LastCallSays RefusesRecord ended seen × MayEndOn (shelf_of form) ended
EndsListing form seen (Err (Failure.Inventory id ended)) =
    (form ≡ Form.Device) × LastFruCallSays ended seen
EndsListing form seen (Err (Failure.NoName name)) =
    form ≡ Form.Block name
EndsListing form seen (Err Failure.WriteFault) = Unit {0}
EndsListing form seen (Err Failure.OutOfMemory) = Unit {0}
EndsListing form seen _ = ⊥

-- The possible ends of a listing after the walk that reads names. If that walk did not end with
-- `Done`, names of sensors may be missing. It is also the walk of the locators: if no record had the
-- next id, the last call was for an inventory.
abbrev pub EndsNamed : NameLookup → Seen → Ending → Type 0
EndsNamed (NameLookup.Events selection count from) seen (Err (Failure.NamesCycle n)) = Unit {0}
EndsNamed (NameLookup.Events selection count from) seen (Err (Failure.NamesMissing n)) = Unit {0}
EndsNamed (NameLookup.Events selection count from) seen ending = EndsListing Form.Bytes seen ending
EndsNamed NameLookup.Devices seen (Err (Failure.Ended (Ended.Missing n))) = Unit {0}
EndsNamed NameLookup.Devices seen ending = EndsListing Form.Device seen ending

-- the result of writing an item
abbrev pub WritesPiece : Output → Output → Output → Ending → Type 0
WritesPiece piece old new (Ok done) = new ≡ and_then old piece
WritesPiece piece old new (Err Failure.WriteFault) = (0 < length piece.bytes) × IsCut old new piece
WritesPiece piece old new (Err failure) = ⊥

-- a reading or an info was given up or refused, or out of memory
abbrev pub LacksValue : ReadError → Seen → Type 0
LacksValue (ReadError.Ended (Ended.GaveUp n)) seen =
    LastCallSays RefusesValue (Ended.GaveUp n) seen
LacksValue (ReadError.Ended (Ended.Refused n code)) seen =
    LastCallSays RefusesValue (Ended.Refused n code) seen
LacksValue ReadError.Memory seen = Unit {0}
LacksValue _ seen = ⊥

-- the possible ends for an info: the last call says that there is none, or why it was not read
abbrev pub EndsInfo : Seen → Ending → Type 0
EndsInfo seen (Ok done) = Unit {0}
EndsInfo seen (Err Failure.NoInfo) = LastFailed (λ class. class ≡ NotPresent) seen
EndsInfo seen (Err (Failure.Ended ended)) = LacksValue (ReadError.Ended ended) seen
EndsInfo seen (Err Failure.WriteFault) = Unit {0}
EndsInfo seen (Err Failure.OutOfMemory) = Unit {0}
EndsInfo seen _ = ⊥

-- if there is none, the last call says so
abbrev pub NoneIsTrue : {T : Type 0} → Option T → Seen → Type 0
NoneIsTrue (Some found) seen = Unit {0}
NoneIsTrue None seen = LastFailed (λ class. class ≡ NotPresent) seen

-- a text of a device with any inventory, and what is counted for it; if there is no inventory, the last
-- call says so
pub record ShowsInventory (x : Texts) (detail : Detail) (id : ℕ) (name : Option (List ℕ)) (seen : Seen)
    (text : Output) : Type 0 where
  pub inventory : Option (List ℕ)
  pub is_text : x.IsDevice detail id name inventory text.bytes
  pub counted : text ≡ piece_of text.bytes (is_faulty_device x detail inventory)
  pub none : NoneIsTrue inventory seen

-- such a text was written, or a part of it
pub record WritesInventory (x : Texts) (detail : Detail) (id : ℕ) (name : Option (List ℕ)) (c : Change)
    (ending : Ending) : Type 0 where
  pub text : Output
  pub shows : ShowsInventory x detail id name c.seen' text
  pub writes : WritesPiece text c.old c.new ending

-- the possible ends for an inventory: its text was written, or the last call says why it was not read
abbrev pub EndsInventory : Texts → Detail → ℕ → Option (List ℕ) → Change → Ending → Type 0
EndsInventory x detail id name c (Err (Failure.Inventory device ended)) =
    LastFruCallSays ended c.seen' × (c.new ≡ c.old)
EndsInventory x detail id name c (Err Failure.OutOfMemory) = c.new ≡ c.old
EndsInventory x detail id name c ending = WritesInventory x detail id name c ending

-- the possible ends of a run
abbrev pub MayEnd : Texts → Job → Change → Ending → Type 0
MayEnd x (Job.Records l) c ending = EndsListing l.form c.seen' ending
MayEnd x (Job.Last entries n from) c ending = EndsListing (Form.Entry entries) c.seen' ending
MayEnd x (Job.LastKept entries n from) c ending = EndsListing (Form.Entry entries) c.seen' ending
MayEnd x (Job.Tail entries n) c ending = EndsListing (Form.Entry entries) c.seen' ending
MayEnd x (Job.NameLookup named) c ending = EndsNamed named c.seen' ending
MayEnd x (Job.Info shelf) c ending = EndsInfo c.seen' ending
MayEnd x (Job.Inventory detail id name) c ending = EndsInventory x detail id name c ending
MayEnd x (Job.AllInventories name) c ending = EndsListing Form.Device c.seen' ending

-- ---- over an honest controller

-- the last calls up to this state: none of them brought bytes, and more than `tries` of them met a trouble
pub record TroublesInARow (IsState : Seen → Type 0) (tries : ℕ) (seen : Seen) : Type 0 where
  pub first : Seen
  pub calls : ℕ
  pub none : NoneCame IsState calls first seen
  pub troubles : first.troubles + tries < seen.troubles

-- where each part of an inventory has tries, it is given up only after more troubles than that, with no bytes between them
abbrev pub RetriesParts : Tries → (Seen → Type 0) → Seen → Ending → Type 0
RetriesParts tries IsState seen (Err (Failure.Inventory id FruEnded.GaveUp)) =
    IsTrue tries.for_each_part → TroublesInARow IsState tries.count seen
RetriesParts tries IsState seen ending = Unit {0}

-- the last entries are listed on a second walk, if there are any
abbrev pub second_walk_bound : ℕ → List Row → ℕ
second_walk_bound bound [] = 0
second_walk_bound bound _ = bound

abbrev pub last_call_bound : ℕ → Store → Tries → List Row → WalkEnd → ℕ
last_call_bound n store tries walk end =
    walk_call_bound Form.Skipped store tries walk
    + second_walk_bound (walk_call_bound Form.Skipped store tries walk) (last_rows n walk end)

abbrev pub OnListing : Listing → Tries → Store → (Plan → ℕ → Type 0) → Type 0
OnListing l tries store Holds =
    OnWalk (shelf_of l.form) l.start store (λ walk end. Holds (listing_plan l walk end)
    (walk_call_bound l.form store tries (first_rows l.form l.most walk)))

abbrev pub OnLast : EntryText → ℕ → Option ℕ → Tries → Store → (Plan → ℕ → Type 0) → Type 0
OnLast entries n from tries store Holds =
    OnWalk Sel (start_of from) store (λ walk end.
    Holds (last_plan entries n (start_of from) walk end) (last_call_bound n store tries walk end))

-- the same along one walk, which keeps these entries in memory
abbrev pub OnLastKept : EntryText → ℕ → Option ℕ → Tries → Store → (Plan → ℕ → Type 0) → Type 0
OnLastKept entries n from tries store Holds =
    OnWalk Sel (start_of from) store (λ walk end.
    Holds (kept_plan entries n (start_of from) walk end) (walk_call_bound Form.Skipped store tries walk))

-- the entries that `count` selects, each as such a text; the last ones are kept in memory
abbrev pub OnEntries : EntryText → Count → Option ℕ → Tries → Store → (Plan → ℕ → Type 0) → Type 0
OnEntries entries Count.All from tries store Holds =
    OnListing (listing (Form.Entry entries) (start_of from) None) tries store Holds
OnEntries entries (Count.First n) from tries store Holds =
    OnListing (listing (Form.Entry entries) (start_of from) (Some n)) tries store Holds
OnEntries entries (Count.Last n) from tries store Holds = OnLastKept entries n from tries store Holds
OnEntries entries (Count.Tail n) from tries store Holds = OnTail entries n tries store Holds

-- what is listed with the names in the sensor data records on this walk; devices are
-- those that these records locate
abbrev pub OnNamed : List Row → WalkEnd → NameLookup → Tries → Store → (Plan → ℕ → Type 0) → Type 0
OnNamed records end (NameLookup.Events selection count from) tries store Holds =
    OnEntries (named_entries selection (bytes_of_rows records)) count from tries store Holds
OnNamed records end NameLookup.Devices tries store Holds =
    Holds (inventories_plan (device_name 0 (bytes_of_rows records)) records end)
    (calls_for_point tries store (AtInventory 0) + calls_for_devices tries store records)

-- `Holds` for the job's plan over a store and the largest number of its calls, for each walk from
-- the start that has an end; `tries` affects only the number of calls
abbrev pub FollowsPlan : Job → Tries → Store → (Plan → ℕ → Type 0) → Type 0
FollowsPlan (Job.Records l) tries store Holds = OnListing l tries store Holds
FollowsPlan (Job.Last entries n from) tries store Holds = OnLast entries n from tries store Holds
FollowsPlan (Job.LastKept entries n from) tries store Holds = OnLastKept entries n from tries store Holds
FollowsPlan (Job.Tail entries n) tries store Holds = OnTail entries n tries store Holds
FollowsPlan (Job.NameLookup named) tries store Holds =
    OnWalk Sdr First store (λ records end. OnNamed records end named tries store
    (λ plan calls. Holds (after_names records end plan)
    (walk_call_bound Form.Bytes store tries records + calls)))
FollowsPlan (Job.Info shelf) tries store Holds =
    Holds (info_plan shelf (info_of shelf store)) (tries.count + 1)
FollowsPlan (Job.Inventory detail id name) tries store Holds =
    Holds (inventory_plan detail id name) (calls_for_point tries store (AtInventory id))
FollowsPlan (Job.AllInventories name) tries store Holds =
    OnWalk Sdr First store (λ walk end. Holds (inventories_plan name walk end)
    (calls_for_point tries store (AtInventory 0)
    + walk_call_bound Form.Device store tries walk))

-- the output agrees with the plan and with how the run ended, and the number of calls is within the
-- bound
abbrev pub Prints : Texts → Job → Tries → Change → Ending → Type 0
Prints x job tries c ending =
    FollowsPlan job tries c.seen.store (λ plan calls.
    IsAllowed (IsPieceOver x c.seen.store) plan c.old c.new ending
    × (c.seen'.calls ≤ c.seen.calls + calls))

-- ---- over an honest controller, where records are only appended

-- the last n entries of the log as it was when they were counted, and those appended since
abbrev pub OnGrowingLast : EntryText → ℕ → Option ℕ → Seen → Seen → (Plan → Type 0) → Type 0
OnGrowingLast entries n from s s' Holds = OnGrowing Sel (start_of from) s s' (λ counted.
    (log : List Row) × WasLog Sel (start_of from) s s' counted log
    × Holds (last_plan entries (length log - (length counted - n)) (start_of from) log Done))

-- the last n entries of the log as it was meanwhile, along one walk
abbrev pub OnGrowingLastKept : EntryText → ℕ → Option ℕ → Seen → Seen → (Plan → Type 0) → Type 0
OnGrowingLastKept entries n from s s' Holds =
    OnGrowing Sel (start_of from) s s' (λ log. Holds (kept_plan entries n (start_of from) log Done))

abbrev pub OnGrowingEntries : EntryText → Count → Option ℕ → Seen → Seen → (Plan → Type 0) → Type 0
OnGrowingEntries entries Count.All from s s' Holds =
    OnGrowingListing (listing (Form.Entry entries) (start_of from) None) s s' Holds
OnGrowingEntries entries (Count.First n) from s s' Holds =
    OnGrowingListing (listing (Form.Entry entries) (start_of from) (Some n)) s s' Holds
OnGrowingEntries entries (Count.Last n) from s s' Holds = OnGrowingLastKept entries n from s s' Holds
OnGrowingEntries entries (Count.Tail n) from s s' Holds = OnGrowingTail entries n s s' Holds

abbrev pub OnGrowingNamed : List Row → NameLookup → Seen → Seen → (Plan → Type 0) → Type 0
OnGrowingNamed records (NameLookup.Events selection count from) s s' Holds =
    OnGrowingEntries (named_entries selection (bytes_of_rows records)) count from s s' Holds
OnGrowingNamed records NameLookup.Devices s s' Holds = Keeps (λ store. store.inventories) s s'
    → Holds (inventories_plan (device_name 0 (bytes_of_rows records)) records Done)

-- `Holds` for the job's plan over the records as they were meanwhile: all that were there when the
-- run began, in order, and perhaps some that were appended. An info is as it was when the run ended;
-- an inventory must not change.
abbrev pub OnGrowingPlan : Job → Seen → Seen → (Plan → Type 0) → Type 0
OnGrowingPlan (Job.Records l) s s' Holds = OnGrowingListing l s s' Holds
OnGrowingPlan (Job.Last entries n from) s s' Holds = OnGrowingLast entries n from s s' Holds
OnGrowingPlan (Job.LastKept entries n from) s s' Holds = OnGrowingLastKept entries n from s s' Holds
OnGrowingPlan (Job.Tail entries n) s s' Holds = OnGrowingTail entries n s s' Holds
OnGrowingPlan (Job.NameLookup named) s s' Holds = OnGrowing Sdr First s s' (λ records.
    OnGrowingNamed records named s s'
    (λ plan. Holds (after_names records Done plan)))
OnGrowingPlan (Job.Info shelf) s s' Holds =
    Holds (info_plan shelf (info_of shelf s'.store))
OnGrowingPlan (Job.Inventory detail id name) s s' Holds =
    Keeps (inventory_of id) s s' → Holds (inventory_plan detail id name)
OnGrowingPlan (Job.AllInventories name) s s' Holds =
    Keeps (λ store. store.inventories) s s'
    → OnGrowing Sdr First s s' (λ log. Holds (inventories_plan name log Done))

-- the output agrees with that plan and with how the run ended; each text is over a store that the
-- controller held meanwhile, each perhaps over another one
abbrev pub PrintsWhile : Texts → Job → Change → Ending → Type 0
PrintsWhile x job c ending = OnGrowingPlan job c.seen c.seen'
    (λ plan. IsAllowed (IsTextWhile x c.seen c.seen') plan c.old c.new ending)

-- a job that is one listing, or a walk that keeps the last entries; nothing is promised of other jobs
abbrev pub TracesJob : Texts → Job → Change → Ending → Type 0
TracesJob x (Job.Records l) c ending = (result : Result Place Failure) × (ending ≡ ending_of result)
    × Traces x l.form l.start l.most c result
TracesJob x (Job.LastKept entries n from) c ending = TracesLast x entries n (start_of from) c ending
TracesJob x (Job.Tail entries n) c ending = TracesTail x entries n c ending
TracesJob x job c ending = Unit {0}

-- ---- a run

-- A run. Over any controller: the largest number of calls, and the possible ends. Over an honest
-- one: why it ended; its output, if records are only appended (`grows`), and exactly, with the number
-- of calls, if no store was added (`prints`); whatever its store does, the records that a listing's
-- cursor returned and their texts (`traces`). If the controller is not honest, this says nothing about
-- the output, except of one inventory (`ends`).
pub record Runs (x : Texts) (job : Job) (tries : Tries) (c : Change) (ending : Ending) : Type 0 where
  pub calls : c.seen'.calls ≤ c.seen.calls + most_calls job tries
  pub ends : MayEnd x job c ending
  pub why : IsHonest c.seen → EndsFor tries (IsTrue c.seen.plain) c.seen c.seen' (cause_of ending)
  pub prints : IsHonest c.seen → c.seen'.stores_added ≡ c.seen.stores_added
      → Prints x job tries c ending
  pub grows : IsHonest c.seen → PrintsWhile x job c ending
  pub traces : IsHonest c.seen → TracesJob x job c ending

-- the run of a command over a controller: `image rewrite`, which has no job, makes no call, prints nothing
-- and fails
abbrev pub RunsCommand : Texts → Option Job → Tries → Change → Ending → Type 0
RunsCommand x (Some job) tries c ending = Runs x job tries c ending
RunsCommand x None tries c ending =
    (ending ≡ Err Failure.Usage) × (c.seen' ≡ c.seen) × (c.new ≡ c.old)

-- Like `Runs`, for a listing in pages of these sizes. Each page is itself a listing from its place,
-- with its size as the limit. Along a walk that does not end with a cycle, the pages together print
-- what one listing may print.
pub record RunsInPages (x : Texts) (form : Form) (start : Place) (tries : Tries) (sizes : List ℕ) (c : Change)
    (ending : Ending) : Type 0 where
  pub calls : c.seen'.calls ≤ c.seen.calls + pages_made sizes * most_on_walk form tries
  pub ends : EndsListing form c.seen' ending
  pub why : IsHonest c.seen → EndsFor tries (IsTrue c.seen.plain) c.seen c.seen' (cause_of ending)
  pub pages : IsHonest c.seen → ArePages x form tries start sizes c ending
  pub prints : IsHonest c.seen → c.seen'.stores_added ≡ c.seen.stores_added
      → IsOneListing x form start tries sizes c ending

-- ---- the text of a whole image

-- the text is written; if out of memory, nothing is written
abbrev pub WritesText : List ℕ → Output → Output → Ending → Type 0
WritesText text old new ending =
    ((new ≡ old) × (ending ≡ Err Failure.OutOfMemory)) ⊎ WritesPiece (piece_of text false) old new ending

-- that is the canonical text of an image
abbrev pub IsRewriting : Store → Output → Output → Ending → Type 0
IsRewriting store old new ending = WritesText (image_text_of store) old new ending

-- that is the text of a snapshot
abbrev pub IsSaving : Saved → Output → Output → Ending → Type 0
IsSaving saved old new ending = WritesText (saved_text_of saved) old new ending

-- ---- the status and the message

-- the status and the message are those of an ending for which `Holds` is true
pub record Says (said said' : Received) (status : ℕ) (Holds : Ending → Type 0) : Type 0 where
  pub ending : Ending
  pub holds : Holds ending
  pub status_is : status ≡ status_of ending
  pub message : ReceivesText said said' (said_of ending)
