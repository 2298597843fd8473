-- Laws of plans. They follow from the definitions of plans.
use Rattle.std.specs.Prelude.{◌≡◌, ◌≢◌, ℕ, true, List, [], ◌∷◌}
use Rattle.ipmi_commands.specs.Below.{AreBytes, Done, EndsBy, First, has_id, Id, IsLog, IsWalk, Row, rows_of, Sel, Store, IsStore, Ending, WalkEnd}
use Rattle.ipmi_commands.specs.declared.limits.Tries.{Tries}
use Rattle.ipmi_commands.specs.declared.job.Job.{Job}
use Rattle.ipmi_commands.specs.Allowed.{AreTexts, PrintsAll}
use Rattle.ipmi_commands.specs.Output.{Output}
use Rattle.ipmi_commands.specs.Plan.{Item, last_rows}
use Rattle.ipmi_commands.specs.Run.{FollowsPlan}
use Rattle.ipmi_selection.specs.Selection.{chosen, SelectedEntries}
use Rattle.ipmi_commands.specs.Tail.{has_last}
use Rattle.ipmi_commands.specs.Texts.{Subject, OfRow, OfInfo, IsPieceOver}
use Rattle.ipmi_commands.specs.Format.{Texts}

-- the numbers in a subject are bytes, as in a well-formed store
abbrev pub IsOfBytes : Subject → Type 0
IsOfBytes (OfRow form row) = AreBytes row.bytes
IsOfBytes (OfInfo shelf info) = AreBytes info
IsOfBytes _ = Unit {0}

abbrev pub AreOfBytes : List Item → Type 0
AreOfBytes [] = Unit {0}
AreOfBytes (item ∷ items) = IsOfBytes item.subject × AreOfBytes items

-- over a well-formed store, each list of items has a text, so each plan can be printed
abbrev pub ItemsHaveAText : Texts → Type 0
ItemsHaveAText x = (store : Store) (items : List Item) → IsStore store → (text : Output) × AreTexts (IsPieceOver x store) items text

-- over a store, a list of items has at most one text
abbrev pub ItemsHaveOneText : Texts → Type 0
ItemsHaveOneText x = (store : Store) (items : List Item) (a b : Output) → AreOfBytes items
    → AreTexts (IsPieceOver x store) items a → AreTexts (IsPieceOver x store) items b → a ≡ b

-- if the log from the first entry ends with FFFFh and has an entry with this id, a walk from it that has n entries or more that pass
-- the filters has the last n of the log
abbrev pub TailsAreOfTheLog : Type 0
TailsAreOfTheLog = (store : Store) (selection : SelectedEntries) (n id : ℕ) (log walk : List Row) (end : WalkEnd) → IsStore store → IsLog Sel First store log
    → has_id log id ≡ true → id ≢ 0 → IsWalk (rows_of Sel store) (Id id) walk → EndsBy (rows_of Sel store) (Id id) walk end
    → has_last n (chosen selection walk) end ≡ true → last_rows n (chosen selection walk) end ≡ last_rows n (chosen selection log) Done

-- over a well-formed store, a finished run has only one possible output and one possible end,
-- whatever its tries
abbrev pub FinishedRunsAreOne : Texts → Type 0
FinishedRunsAreOne x = (job : Job) (tries tries' : Tries) (store : Store) (old a b : Output) (e f : Ending) → IsStore store
    → FollowsPlan job tries store (λ plan calls. PrintsAll (IsPieceOver x store) plan old a e)
    → FollowsPlan job tries' store (λ plan calls. PrintsAll (IsPieceOver x store) plan old b f)
    → (a ≡ b) × (e ≡ f)
