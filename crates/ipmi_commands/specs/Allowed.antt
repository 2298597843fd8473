-- The possible outputs of a run by how it ended, and what the controller counted. Everywhere, `old`
-- and `new` are the contents of the output before and after, and `s` and `s'`, or `seen` and
-- `seen'`, are the states of the controller that contracts see before and after.
use Rattle.std.specs.Prelude.{◌≡◌, ℕ, ◌+◌, ◌<◌, ◌≤◌, Result, Ok, Err, List, [], ◌∷◌, ◌++◌, length, ◌⊎◌}
use Rattle.ipmi_commands.specs.Below.{Ended, FruEnded, ImageFault, inventory_of, Keeps, Seen, StaysHonest, Ending, Failure}
use Rattle.ipmi_commands.specs.declared.limits.Tries.{Tries}
use Rattle.ipmi_commands.specs.Output.{and_then, IsCut, no_output, Output}
use Rattle.ipmi_commands.specs.Texts.{Subject}
use Rattle.ipmi_commands.specs.Plan.{ReadPoint, AtRecord, AtInventory, Item, Plan, next_points}

-- ---- texts, given a relation between a subject and its texts

-- a text of the first item, followed by texts of the rest
pub record TextsJoined (IsFirst IsRest : Output → Type 0) (text : Output) : Type 0 where
  pub first : Output
  pub rest : Output
  pub is_first : IsFirst first
  pub is_rest : IsRest rest
  pub joined : text ≡ and_then first rest

-- texts of the items, concatenated in order
abbrev pub AreTexts : (Subject → Output → Type 0) → List Item → Output → Type 0
AreTexts IsText [] text = text ≡ no_output
AreTexts IsText (item ∷ items) text =
    TextsJoined (λ first. IsText item.subject first) (λ rest. AreTexts IsText items rest) text

-- texts of the items were printed
pub record Printed (IsText : Subject → Output → Type 0) (items : List Item)
    (old new : Output) : Type 0 where
  pub text : Output
  pub are : AreTexts IsText items text
  pub new_is : new ≡ and_then old text

-- ---- how a run ended

-- the ending of a result, without its value
abbrev pub ending_of : {T : Type 0} → Result T Failure → Ending
ending_of (Ok value) = Ok tt
ending_of (Err failure) = Err failure

-- `AtEnd`: the end of the plan, which is a success, or a failure due to the store or the command.
-- `GaveUp` and `Refused`: at this point, and with this code. `NoMemory`: out of memory. `NoOutput`:
-- the output accepted no more bytes. `Dishonest`: the controller gave an answer that no honest one
-- gives.
pub data Cause : Type 0 where
  AtEnd : Cause
  GaveUp : ReadPoint → Cause
  Refused : ReadPoint → ℕ → Cause
  NoMemory : Cause
  NoOutput : Cause
  Dishonest : Cause

abbrev pub cause_of : Ending → Cause
cause_of (Err (Failure.Ended (Ended.GaveUp n))) = GaveUp (AtRecord n)
cause_of (Err (Failure.Ended (Ended.Refused n code))) = Refused (AtRecord n) code.0
cause_of (Err (Failure.Inventory id FruEnded.GaveUp)) = GaveUp (AtInventory id)
cause_of (Err (Failure.Inventory id (FruEnded.Refused code))) = Refused (AtInventory id) code.0
cause_of (Err (Failure.Inventory id FruEnded.Memory)) = NoMemory
cause_of (Err Failure.OutOfMemory) = NoMemory
cause_of (Err (Failure.Image ImageFault.Memory)) = NoMemory
cause_of (Err Failure.WriteFault) = NoOutput
cause_of (Err (Failure.Ended (Ended.Stalled n))) = Dishonest
cause_of (Err (Failure.Ended (Ended.Malformed n))) = Dishonest
cause_of (Err (Failure.Inventory id FruEnded.Stalled)) = Dishonest
cause_of (Err (Failure.Inventory id FruEnded.Words)) = Dishonest
cause_of _ = AtEnd

-- ---- what is in the output

abbrev pub IsAmong : List ReadPoint → ReadPoint → Type 0
IsAmong [] point = ⊥
IsAmong (first ∷ points) point = (point ≡ first) ⊎ IsAmong points point

-- texts of the first items were printed, and nothing else
pub record HasFirstItems (IsText : Subject → Output → Type 0) (plan : Plan)
    (old new : Output) : Type 0 where
  pub done : List Item
  pub rest : List Item
  pub items_are : plan.items ≡ done ++ rest
  pub printed : Printed IsText done old new

-- texts of the first items were printed, and the run stopped at a point of the next item, or of the
-- end
pub record StopsAt (point : ReadPoint) (IsText : Subject → Output → Type 0) (plan : Plan)
    (old new : Output) : Type 0 where
  pub first : HasFirstItems IsText plan old new
  pub there : IsAmong (next_points first.rest plan.end_points) point

-- texts of the first items were printed, then a prefix of a nonempty text of the next item; the
-- prefix may be empty or the whole text
pub record HasCutItem (IsText : Subject → Output → Type 0) (plan : Plan)
    (old new : Output) : Type 0 where
  pub whole : Output
  pub first : HasFirstItems IsText plan old whole
  pub item : Item
  pub later : List Item
  pub next : first.rest ≡ item ∷ later
  pub text : Output
  pub is_text : IsText item.subject text
  pub some : 0 < length text.bytes
  pub part : IsCut whole new text

-- all items were printed, and the run ends as the plan does
abbrev pub PrintsAll : (Subject → Output → Type 0) → Plan → Output → Output → Ending → Type 0
PrintsAll IsText plan old new ending = Printed IsText plan.items old new × (ending ≡ plan.end)

-- the possible outputs for each cause
abbrev pub Leaves : (Subject → Output → Type 0) → Plan → Output → Output → Ending → Cause → Type 0
Leaves IsText plan old new ending AtEnd = PrintsAll IsText plan old new ending
Leaves IsText plan old new ending (GaveUp point) = StopsAt point IsText plan old new
Leaves IsText plan old new ending (Refused point code) = StopsAt point IsText plan old new
Leaves IsText plan old new ending NoMemory = HasFirstItems IsText plan old new
Leaves IsText plan old new ending NoOutput = HasCutItem IsText plan old new
Leaves IsText plan old new ending Dishonest = ⊥

abbrev pub IsAllowed : (Subject → Output → Type 0) → Plan → Output → Output → Ending → Type 0
IsAllowed IsText plan old new ending = Leaves IsText plan old new ending (cause_of ending)

-- ---- what the controller counted

-- giving up takes more than `tries` troubles since something was last finished; at an inventory that
-- changed, at least one: a shorter inventory may have been finished in between
abbrev pub HasFreshTroubles : Tries → Seen → Seen → ReadPoint → Type 0
HasFreshTroubles tries s s' (AtRecord n) = tries.count < s'.fresh_troubles
HasFreshTroubles tries s s' (AtInventory id) =
    (0 < s'.fresh_troubles) × (Keeps (inventory_of id) s s' → tries.count < s'.fresh_troubles)

-- `GaveUp`: no refusal, and more than `tries` troubles, both in this run and since something was
-- last finished. `Refused`: one refusal, with this code. `Dishonest`: impossible. Otherwise no
-- refusal.
abbrev pub CountsSo : Tries → Seen → Seen → Cause → Type 0
CountsSo tries s s' (GaveUp point) =
    (s'.refusals ≡ s.refusals) × (s.troubles + tries.count < s'.troubles)
    × HasFreshTroubles tries s s' point
CountsSo tries s s' (Refused point code) = (s'.refusals ≡ s.refusals + 1) × (s'.last_code ≡ code)
CountsSo tries s s' Dishonest = ⊥
CountsSo tries s s' _ = s'.refusals ≡ s.refusals

-- the run neither gave up nor was refused; a plain controller, which cancels nothing and is never
-- busy, causes neither
abbrev pub IsFine : Cause → Type 0
IsFine (GaveUp point) = ⊥
IsFine (Refused point code) = ⊥
IsFine _ = Unit {0}

-- why a run over an honest controller ended: the controller stays honest, and its counts agree with
-- this cause
pub record EndsFor (tries : Tries) (IsPlain : Type 0) (s s' : Seen) (cause : Cause) : Type 0 where
  pub stays : StaysHonest s s'
  pub grows : s.troubles ≤ s'.troubles
  pub counts : CountsSo tries s s' cause
  pub plain : IsPlain → IsFine cause

-- ---- before and after

-- the state of the controller that contracts see, and the contents of the output
pub record Change : Type 0 where
  pub seen : Seen
  pub seen' : Seen
  pub old : Output
  pub new : Output

abbrev pub change : Seen → Seen → Output → Output → Change
change seen seen' old new = record { seen = seen; seen' = seen'; old = old; new = new }
