use Rattle.std.proofs.Common.{◌≡◌, rules, subst, tests}
use Rattle.std.specs.Result.{IfOk}
use Rattle.std.proofs.lemmas.Iterator.{items_from_collect, YieldsList-from_slice}
use Rattle.std.proofs.lemmas.Iterator.Consumers.{YieldsList-from_filter_map}
use Rattle.clap.specs.Words.{found_of, rows_of}
use Rattle.ipmi_command_line.proofs.CommandLemmas.{filter_map-map}
use Rattle.ipmi_command_line.specs.Options.{form_in, option_state}
use Rattle.ipmi_command_line.proofs.request.forms_among.Goals as goal

pub returns : goal.returns
returns c =
    subst (λ forms. IfOk c.collect.result (λ made. made.items ≡ forms)) (filter_map-map (form_in (rows_of (found_of c.args.matches.now))) option_state c.args.table.now)
    (items_from_collect _ c.collect.ensures.ran (YieldsList-from_filter_map _ _ (YieldsList-from_slice c.args.table.now cc) c.filter_map.ensures.closure (λ x r q k. search (rules, tests))))
