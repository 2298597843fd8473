-- Re-exports the definitions of this crate that its code and proofs use. Declares nothing.
pub use Rattle.ipmi_commands.specs.Allowed.{AreTexts, AtEnd, Cause, cause_of, Change, change, CountsSo, Dishonest, ending_of, EndsFor, GaveUp, HasCutItem, HasFirstItems, HasFreshTroubles, IsAllowed, IsAmong, IsFine, Leaves, NoMemory, NoOutput, Printed, PrintsAll, Refused, StopsAt, TextsJoined}
pub use Rattle.ipmi_commands.specs.Asking.{InfoSays, LacksInventory, ShowsDevice, ShowsLocator, ShowsRow, PieceErrorIsTrue, AsksAt, bytes_of, IsCountedDevice, row_has_fault, row_piece, shown, cause_of_unread, failure_of, Finds, FindsIt, FindsLocator, FindsNone, is_absent, IsInfoText, ReadsFor, unread_inventory}
pub use Rattle.ipmi_commands.specs.Calls.{calls_for_devices, calls_for_point, calls_for_points, calls_for, for_each_part, for_inventory, inventory_call_bound, read_call_bound, most_after, most_for_one, most_on_walk, walk_call_bound}
pub use Rattle.ipmi_commands.specs.Format.{IsTextOfRecord, Texts, TextsAreOne, TextsExist}
pub use Rattle.ipmi_commands.specs.Job.{choosing, devices_job, entries_job, events_job, IsFrom, IsJob, IsNamed, IsPlace, job_of, keeping_last, listing, listing_in, lists_all, named_entries, searches, shelf_of}
pub use Rattle.ipmi_commands.specs.Laws.{AreOfBytes, FinishedRunsAreOne, ItemsHaveAText, IsOfBytes, ItemsHaveOneText, TailsAreOfTheLog}
pub use Rattle.ipmi_commands.specs.Listing.{CallsAlong, Counted, CountsEntries, end_of, IsOnWalk, is_reached, KeepsListing, ListingCalls, Lists, ListsAfter, ListsAll, ListsAlong, ListsHonestly, OnEachWalk, ReachesEnd, WritesRecords, WritesWhole}
pub use Rattle.ipmi_commands.specs.Meanwhile.{IsTextWhile, KeepsAt, KeepsFor, OnGrowingListing}
pub use Rattle.ipmi_commands.specs.Output.{and_then, count_if, IsCut, no_output, OnBytes, Output, piece_of}
pub use Rattle.ipmi_commands.specs.PagedRun.{entries_with, PagesAfter, ReadsThenPages, RunsNamedInPages, RunsPaged}
pub use Rattle.ipmi_commands.specs.Pages.{ArePages, GoesOn, IsFresh, IsOneListing, IsOneListingAfter, IsOpen, IsPage, first_cursor, PageAlong, pages_made, PageThen}
pub use Rattle.ipmi_commands.specs.Plan.{after_names, AtInventory, AtRecord, counted, counts, device_points, end_after_names, points_at_walk_end, end_points_of_last, first_end, first_rows, info_plan, inventories_plan, inventory_item, inventory_plan, Item, kept_items, kept_plan, last_items, last_plan, last_rows, listed_points, listing_plan, locator_points, named_points, next_points, OnWalk, Plan, reading_points, row_items, rows_end, some_has_name, ReadPoint, points_because_of, points_of_rows, points_before, points_of_walk, text_plan, up_to, view_has_name, with_first_points, bytes_of_rows}
pub use Rattle.ipmi_commands.specs.Printed.{faults_of, pieces_of, printed}
pub use Rattle.ipmi_commands.specs.Run.{EndsNamed, EndsListing, IsRewriting, IsSaving, LacksValue, last_call_bound, MayEnd, most_calls, most_named, most_on_tail, NoneIsTrue, OnGrowingEntries, OnGrowingLast, OnGrowingLastKept, OnGrowingNamed, OnGrowingPlan, OnListing, OnLast, OnLastKept, OnEntries, OnNamed, FollowsPlan, Prints, PrintsWhile, RetriesParts, Runs, RunsCommand, RunsInPages, Says, second_walk_bound, ShowsInventory, TracesJob, TroublesInARow, WritesPiece, WritesText}
pub use Rattle.ipmi_commands.specs.Tail.{after_points, has_last, id_in_run, IsTailStart, is_tail, OnGrowingTail, OnTail, OnTailFrom, OnTried, OnWhole, tail_from, TracesTail}
pub use Rattle.ipmi_commands.specs.Texts.{IfChosen, IsBlockOfName, IsDevicePiece, IsListed, IsListedEntry, IsLocatorPiece, IsRecordText, IsRowText, IsTextOver, IsPieceOver, is_faulty, is_faulty_device, is_faulty_locator, is_faulty_row, is_faulty_there, OfInfo, OfInventory, OfRow, reading_by, reading_for, Subject}
pub use Rattle.ipmi_commands.specs.Traced.{AreWithin, EndsPrinting, HasNoCursor, IsStopAmong, IsWithin, PrintsAfter, Traces, TracesFrom, TracesLast, TracesListing}
pub use Rattle.ipmi_commands.specs.declared.job.EntryText.{EntryText}
pub use Rattle.ipmi_commands.specs.declared.job.Form.{Form}
pub use Rattle.ipmi_commands.specs.declared.job.Job.{Job}
pub use Rattle.ipmi_commands.specs.declared.job.Listing.{Listing}
pub use Rattle.ipmi_commands.specs.declared.job.NameLookup.{NameLookup}
pub use Rattle.ipmi_commands.specs.declared.limits.Tries.{Tries}
pub use Rattle.ipmi_commands.specs.declared.read_error.ReadError.{ReadError}
