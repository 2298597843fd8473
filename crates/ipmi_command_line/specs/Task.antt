-- Properties of each task.
use Rattle.std.specs.Prelude.{Bool, true, false}
use Rattle.ipmi_command_line.specs.declared.task.Count.{Count}
use Rattle.ipmi_command_line.specs.declared.task.Task.{Task}

-- the task takes an id to start from
abbrev pub takes_from : Task → Bool
takes_from Task.Hex = true
takes_from (Task.List kind) = true
takes_from (Task.Elist kind) = true
takes_from (Task.Get name) = true
takes_from (Task.SelList (Count.Tail n)) = false
takes_from (Task.SelList entries) = true
takes_from _ = false

-- the task lists all records of a shelf, so it can be done in pages
abbrev pub is_listing : Task → Bool
is_listing Task.Hex = true
is_listing (Task.List kind) = true
is_listing (Task.Elist kind) = true
is_listing (Task.SelList Count.All) = true
is_listing _ = false
