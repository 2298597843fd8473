use Rattle.ipmi_commands.proofs.AskLemmas.{passed}
use Rattle.ipmi_commands.proofs.ListingLemmas.{fresh_room}
use Rattle.ipmi_sensors.proofs.SensorLemmas.{search_by_cursor, search_without_memory}
use Rattle.ipmi_sensors.proofs.sensors.find_sensors.Goals as goal

pub find_after-requires-clause-room : goal.find_after-requires-clause-room
find_after-requires-clause-room g c = fresh_room c.in_ok-cursor.ensures

pub returns-clause-searches : goal.returns-clause-searches
returns-clause-searches g c = λ h.
    rw (← c.tries.ensures) (search_by_cursor c.in_ok-cursor.ensures h (c.find_after.ensures.honest h))

pub returns-in_err-cursor-clause-searches : goal.returns-in_err-cursor-clause-searches
returns-in_err-cursor-clause-searches g c = λ h. rw (passed _ _ c.from_residual.ensures.1) (search_without_memory h)
