use Rattle.std.proofs.Common.{ap}
use Rattle.ipmi_commands.proofs.PagesLaw.{paged}
use Rattle.ipmi_commands.proofs.PartLemmas.{pages_spare}
use Rattle.ipmi_commands.specs.Below.{IsStateOf}
use Rattle.ipmi_commands.specs.Prelude.{listing_in}
use Rattle.ipmi_commands.proofs.perform.execute_pages.Goals as goal

pub returns-in-Records-clause-runs : goal.returns-in-Records-clause-runs
returns-in-Records-clause-runs g c =
    paged (g.F.Format.texts c.args.format.now) c.the_tail_is_a_walk.ensures c.args.job c.args.limits.tries c.args.pages.now _ _ _ _ c.list_pages.result c.in-Records.listing c.requires.listing
    (ap listing_in c.in-Records.is) c.list_pages.ensures.calls c.list_pages.ensures.ends c.list_pages.ensures.honest

pub returns-in-NameLookup-Events-clause-parts : goal.returns-in-NameLookup-Events-clause-parts
returns-in-NameLookup-Events-clause-parts g c = λ h.
    pages_spare (g.F.Format.texts c.args.format.now) c.args.limits.tries (IsStateOf g.C.Controller.seen) c.list_named_pages.ensures.runs
