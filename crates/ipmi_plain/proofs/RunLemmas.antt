-- A run over an image, and rewriting an image.
use Rattle.std.proofs.Common.{◌≡◌, ◌⊎◌, inl, inr, ℕ, ◌+◌, arith, IsTrue, Option, None, Some, Result, Ok, Err, List, [], refl, subst, sym, ap₂, ◌∙◌}
use Rattle.ipmi_bus.specs.Seen.{IsHonest, Seen}
use Rattle.ipmi_bus.specs.Shelf.{Row}
use Rattle.ipmi_bus.specs.Store.{Store}
use Rattle.ipmi_bus.specs.Walk.{WalkEnd}
use Rattle.ipmi_image.specs.declared.image.ImageFault.{ImageFault}
use Rattle.ipmi_command_line.specs.Command.{CommandState}
use Rattle.ipmi_command_line.specs.declared.task.Count.{Count}
use Rattle.ipmi_command_line.specs.declared.task.Task.{Task}
use Rattle.ipmi_output.specs.Failure.{Ending, failure_of_image}
use Rattle.ipmi_output.specs.declared.failure.Failure.{Failure}
use Rattle.ipmi_commands.specs.Prelude.{after_names, bytes_of_rows, change, named_entries, for_inventory, IsAllowed, IsPieceOver, job_of, no_output, OnBytes, OnNamed, FollowsPlan, pieces_of, faults_of, Plan, printed, Runs, RunsCommand, walk_call_bound}
use Rattle.ipmi_commands.specs.declared.job.Job.{Job}
use Rattle.ipmi_commands.specs.declared.job.Form.{Form}
use Rattle.ipmi_commands.specs.declared.job.NameLookup.{NameLookup}
use Rattle.ipmi_plain.specs.Answers.{AnswersJob, job_of_command, RunsOver}
use Rattle.ipmi_plain.specs.Plain.{plain_texts}
use Rattle.ipmi_commands.specs.Output.{Output}
use Rattle.ipmi_commands.specs.declared.summary.Summary.{Summary}
use Rattle.ipmi_commands.specs.declared.limits.Tries.{Tries}
use Rattle.ipmi_commands.proofs.NamedLemmas.{named_all}
use Rattle.ipmi_commands.proofs.ItemLemmas.{no_items}
use Rattle.ipmi_commands.proofs.TailLemmas.{tail_all, tail_map}
use Rattle.ipmi_commands.specs.Format.{Texts}

-- ---- a command, in codes

-- the job that was made of the command's task
pub of_command : (command : CommandState) {task : Task} {from : Option ℕ} {found : Option Job}
    → task ≡ command.task → from ≡ command.from → found ≡ job_of plain_texts.has_names task from
    → job_of_command command ≡ found
of_command command task_is from_is found_is = sym (found_is ∙ ap₂ (job_of plain_texts.has_names) task_is from_is)

module _ (x : Texts) (command : CommandState) (found : Option Job) (is : job_of_command command ≡ found) (begun : Summary)
    (none : printed [] begun ≡ no_output) (old new : List ℕ) (now : Summary) (ending : Ending) where
  -- what was done by a run that begins with an empty summary
  on_command : (Holds : Option Job → Output → Output → Type 0) → Holds found (printed old begun) (printed new now)
      → OnBytes old new (λ a b. Holds (job_of_command command) a b)
  on_command Holds holds = (
    pieces_of now,
    faults_of now,
    subst (λ o. Holds (job_of_command command) (record { bytes = old; pieces = o.pieces; faults = o.faults }) (printed new now)) none
        (subst (λ job. Holds job (printed old begun) (printed new now)) (sym is) holds),
  )

  pub command_runs : (s s' : Seen) → RunsCommand x found (for_inventory command.tries) (change s s' (printed old begun) (printed new now)) ending
      → OnBytes old new (λ a b. RunsCommand x (job_of_command command) (for_inventory command.tries) (change s s' a b) ending)
  command_runs s s' runs = on_command (λ job a b. RunsCommand x job (for_inventory command.tries) (change s s' a b) ending) runs

  pub command_answers : (store : Store) → RunsOver x found store (printed old begun) (printed new now) ending
      → OnBytes old new (λ a b. RunsOver x (job_of_command command) store a b ending)
  command_answers store runs = on_command (λ job a b. RunsOver x job store a b ending) runs

-- ---- a run over an image

-- a fact about the plan that does not depend on the tries
named_kept : (Holds : Plan → Type 0) (records : List Row) (end : WalkEnd) (named : NameLookup) (tries : Tries)
    (store : Store) (More : Plan → ℕ → Type 0)
    → ((plan : Plan) (calls : ℕ) → More plan calls → Holds plan)
    → OnNamed records end named tries store More
    → OnNamed records end named (for_inventory 0) store (λ plan calls. Holds plan)
named_kept Holds records end (NameLookup.Events detail Count.All from) tries store More keep on = λ walk e w ends. keep _ _ (on walk e w ends)
named_kept Holds records end (NameLookup.Events detail (Count.First n) from) tries store More keep on = λ walk e w ends. keep _ _ (on walk e w ends)
named_kept Holds records end (NameLookup.Events detail (Count.Last n) from) tries store More keep on = λ walk e w ends. keep _ _ (on walk e w ends)
named_kept Holds records end (NameLookup.Events detail (Count.Tail n) from) tries store More keep on =
    tail_map (named_entries detail (bytes_of_rows records)) n tries (for_inventory 0) store More (λ plan calls. Holds plan) (λ plan calls more. keep plan (calls tries) more) on
named_kept Holds records end NameLookup.Devices tries store More keep on = keep _ _ on

plan_kept : (Holds : Plan → Type 0) (job : Job) (tries : Tries) (store : Store) (More : Plan → ℕ → Type 0)
    → ((plan : Plan) (calls : ℕ) → More plan calls → Holds plan)
    → FollowsPlan job tries store More → FollowsPlan job (for_inventory 0) store (λ plan calls. Holds plan)
plan_kept Holds (Job.Records l) tries store More keep on = λ walk end w ends. keep _ _ (on walk end w ends)
plan_kept Holds (Job.Last entries n from) tries store More keep on = λ walk end w ends. keep _ _ (on walk end w ends)
plan_kept Holds (Job.LastKept entries n from) tries store More keep on = λ walk end w ends. keep _ _ (on walk end w ends)
plan_kept Holds (Job.Tail entries n) tries store More keep on =
    tail_map entries n tries (for_inventory 0) store More (λ plan calls. Holds plan) (λ plan calls more. keep plan (calls tries) more) on
plan_kept Holds (Job.NameLookup named) tries store More keep on = λ records end w ends.
    named_kept (λ plan. Holds (after_names records end plan)) records end named tries store
    (λ plan calls. More (after_names records end plan) (walk_call_bound Form.Bytes store tries records + calls))
    (λ plan calls more. keep _ _ more) (on records end w ends)
plan_kept Holds (Job.AllInventories name) tries store More keep on = λ walk end w ends. keep _ _ (on walk end w ends)
plan_kept Holds _ tries store More keep on = keep _ _ on

-- a run over a plain controller with the store of the image
pub over_image : (x : Texts) → (job : Job) (tries : Tries) (store : Store) (s s' : Seen) (old new : Output)
    (ending : Ending) → IsHonest s → IsTrue s.plain → s.store ≡ store
    → Runs x job tries (change s s' old new) ending
    → RunsOver x (Some job) store old new ending
over_image x job tries store s s' old new ending honest plain is runs =
    let ends = runs.why honest in
    rw (← is) (
      plan_kept (λ plan. IsAllowed (IsPieceOver x s.store) plan old new ending) job tries s.store _ (λ plan calls both. both.0) (runs.prints honest (ends.stays.plain_store plain)),
      ends.plain plain,
    )

-- ---- an image that was not read

plan_all : (Holds : Plan → Type 0) (job : Job) (store : Store) → ((plan : Plan) → Holds plan)
    → FollowsPlan job (for_inventory 0) store (λ plan calls. Holds plan)
plan_all Holds (Job.Records l) store holds = λ walk end w ends. holds _
plan_all Holds (Job.Last entries n from) store holds = λ walk end w ends. holds _
plan_all Holds (Job.LastKept entries n from) store holds = λ walk end w ends. holds _
plan_all Holds (Job.Tail entries n) store holds = tail_all entries n (for_inventory 0) store (λ plan calls. Holds plan) (λ points plan calls some. holds _)
plan_all Holds (Job.NameLookup named) store holds = λ records end w ends.
    named_all records end (for_inventory 0) store (λ plan calls. Holds (after_names records end plan)) named (λ plan calls. holds _)
plan_all Holds (Job.AllInventories name) store holds = λ walk end w ends. holds _
plan_all Holds _ store holds = holds _

-- each job may be out of memory
without_memory : (x : Texts) → (job : Option Job) (store : Store) (text : Output)
    → RunsOver x job store text text (Err Failure.OutOfMemory)
without_memory x None store text = inl (refl, refl)
without_memory x (Some job) store text =
    (plan_all (λ plan. IsAllowed (IsPieceOver x store) plan text text (Err Failure.OutOfMemory)) job store (λ plan. no_items (IsPieceOver x store) plan text text refl), tt)

answers_memory : (job : Option Job) (image : Result Store ImageFault) (text : Output)
    → AnswersJob job image text text (Err Failure.OutOfMemory)
answers_memory job (Ok store) text = without_memory plain_texts job store text
answers_memory job (Err fault) text = (refl, inr refl)

failed_read : (fault : ImageFault) (ending : Ending) → ending ≡ Err (failure_of_image fault)
    → (ending ≡ Err (Failure.Image fault)) ⊎ (ending ≡ Err Failure.OutOfMemory)
failed_read fault ending is = grind arith

pub unread : (job : Option Job) (image : Result Store ImageFault) (fault : ImageFault) (text : Output)
    → (fault ≡ ImageFault.Memory) ⊎ (image ≡ Err fault)
    → AnswersJob job image text text (Err (failure_of_image fault))
unread job image fault text (inl memory) =
    subst (λ f. AnswersJob job image text text (Err (failure_of_image f))) (sym memory) (answers_memory job image text)
unread job image fault text (inr is) =
    subst (λ i. AnswersJob job i text text (Err (failure_of_image fault))) (sym is) (refl, failed_read fault (Err (failure_of_image fault)) refl)
