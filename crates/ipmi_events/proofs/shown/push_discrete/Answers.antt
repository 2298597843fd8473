use Rattle.std.proofs.Common.{rules}
use Rattle.ipmi_events.proofs.shown.push_discrete.Goals as goal

pub returns-in-OtherOwner : goal.returns-in-OtherOwner
returns-in-OtherOwner c = rw (← c.shown_of.ensures, c.in-OtherOwner.is) (search rules)

pub returns-in-NoReading : goal.returns-in-NoReading
returns-in-NoReading c = rw (← c.shown_of.ensures, c.in-NoReading.is) (search rules)

pub returns-in-Value : goal.returns-in-Value
returns-in-Value c = rw (← c.shown_of.ensures, c.in-Value.is, ← c.states_in.ensures) c.push_states.ensures
