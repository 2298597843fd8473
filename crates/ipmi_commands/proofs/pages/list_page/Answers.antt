use Rattle.std.proofs.Common.{◌≡◌, false, sym, ◌∙◌, arith}
use Rattle.ipmi_commands.proofs.CallLemmas.{at_limit}
use Rattle.ipmi_commands.proofs.PageLemmas.{page_at_end, page_of_cycle, page_of_none}
use Rattle.ipmi_commands.proofs.PartLemmas.{end_spares}
use Rattle.ipmi_commands.specs.Below.{IsStateOf}
use Rattle.ipmi_commands.proofs.pages.list_page.Goals as goal

pub returns-then-is_reached-clause-honest : goal.returns-then-is_reached-clause-honest
returns-then-is_reached-clause-honest g c = λ h.
    rw (at_limit c.args.most 0 (sym c.is_reached.ensures ∙ c.if-is_reached.true), c.end.ensures) (page_of_none (g.F.Format.texts c.args.format.now) _ _ _ _ _ h)

pub returns-in-Id-eq0-clause-honest : goal.returns-in-Id-eq0-clause-honest
returns-in-Id-eq0-clause-honest g c = λ h.
    let zero : c.in-Id-eq0.field-0 ≡ 0 = grind (arith, c.in-Id-eq0.field-0-test) in
    rw (c.in-Id-eq0.is, zero) (page_of_cycle (g.F.Format.texts c.args.format.now) _ _ _ _ _ h (λ none. grind (arith, at_limit c.args.most 0, c.is_reached.ensures, c.if-is_reached.false, none)))

pub returns-in-End-clause-honest : goal.returns-in-End-clause-honest
returns-in-End-clause-honest g c = λ h. rw (c.in-End.is, c.end-in-End.ensures, c.in-End.is) (page_at_end (g.F.Format.texts c.args.format.now) _ _ _ _ _ h)

pub returns-then-is_reached-clause-parts : goal.returns-then-is_reached-clause-parts
returns-then-is_reached-clause-parts g c = λ h. rw c.end.ensures (end_spares c.args.limits.tries (IsStateOf g.C.Controller.seen) _ c.args.form.now false c.args.place)

pub returns-in-End-clause-parts : goal.returns-in-End-clause-parts
returns-in-End-clause-parts g c = λ h. rw c.end-in-End.ensures (end_spares c.args.limits.tries (IsStateOf g.C.Controller.seen) _ c.args.form.now false c.args.place)
