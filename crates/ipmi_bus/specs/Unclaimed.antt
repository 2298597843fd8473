-- The state that contracts see of a controller that only counts its calls and keeps their failures.
use Rattle.std.specs.Prelude.{false, None, []}
use Rattle.ipmi_bus.specs.Counts.{Counts}
use Rattle.ipmi_bus.specs.Seen.{Seen}

-- it does not claim to be honest, so nothing is known about its answers
abbrev pub calls_only : Counts → Seen
calls_only counts = record {
  store = record {
    sdr = [];
    sel = [];
    inventories = [];
    readings = [];
    sdr_info = None;
    sel_info = None;
  };
  earlier = [];
  honest = false;
  plain = false;
  sdr_reservation = None;
  sel_reservation = None;
  calls = counts.calls;
  most_asked = counts.most_asked;
  last_asked = counts.last_asked;
  last_failure = counts.last_failure;
  troubles = 0;
  fresh_troubles = 0;
  refusals = 0;
  last_code = 0;
  stores_added = 0;
}
