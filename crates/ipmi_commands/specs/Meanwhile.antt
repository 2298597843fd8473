-- What may be printed while a controller's store changes: readings at any time, and records that are
-- appended.
use Rattle.std.specs.Prelude.{List, [], ◌∷◌}
use Rattle.ipmi_commands.specs.Below.{Done, inventory_of, Keeps, OnGrowing, Seen, Store, WasHeld}
use Rattle.ipmi_commands.specs.declared.job.Form.{Form}
use Rattle.ipmi_commands.specs.declared.job.Listing.{Listing}
use Rattle.ipmi_commands.specs.Job.{shelf_of}
use Rattle.ipmi_commands.specs.Plan.{listing_plan, Plan, ReadPoint, AtRecord, AtInventory}
use Rattle.ipmi_commands.specs.Output.{Output}
use Rattle.ipmi_commands.specs.Texts.{IsPieceOver, Subject}
use Rattle.ipmi_commands.specs.Format.{Texts}

-- a text of the subject over a store that the controller held meanwhile; each text may be over another
-- one
pub record IsTextWhile (x : Texts) (s s' : Seen) (subject : Subject) (text : Output) : Type 0 where
  pub store : Store
  pub held : WasHeld s s' store
  pub is : IsPieceOver x store subject text

-- the inventories at these points did not change from the first state to the second
abbrev pub KeepsAt : List ReadPoint → Seen → Seen → Type 0
KeepsAt [] s s' = Unit {0}
KeepsAt (AtRecord n ∷ points) s s' = KeepsAt points s s'
KeepsAt (AtInventory id ∷ points) s s' = Keeps (inventory_of id) s s' × KeepsAt points s s'

-- if inventories are printed in this form, none changed
abbrev pub KeepsFor : Form → Seen → Seen → Type 0
KeepsFor Form.Device s s' = Keeps (λ store. store.inventories) s s'
KeepsFor form s s' = Unit {0}

-- ---- records that are appended

-- if records were only appended: `Holds` for the plan of a listing over the records as they were meanwhile
abbrev pub OnGrowingListing : Listing → Seen → Seen → (Plan → Type 0) → Type 0
OnGrowingListing l s s' Holds = KeepsFor l.form s s'
    → OnGrowing (shelf_of l.form) l.start s s' (λ log. Holds (listing_plan l log Done))
