use Rattle.std.proofs.Common.{◌∙◌, arith}
use Rattle.ipmi_command_line.proofs.NumberedLemmas.{no_tasks, some_tasks, tasks_of_words_are}
use Rattle.ipmi_command_line.proofs.numbered.tasks_of_words.Goals as goal

pub returns-then-not-are_numbers-clause-value : goal.returns-then-not-are_numbers-clause-value
returns-then-not-are_numbers-clause-value c = no_tasks c.args.kind c.args.words.now (grind (arith, c.are_numbers.ensures, c.if-not-are_numbers.true))

pub returns-clause-value : goal.returns-clause-value
returns-clause-value c = some_tasks c.args.kind c.args.words.now _ (grind (arith, c.are_numbers.ensures, c.if-not-are_numbers.false))
    (c.new.ensures ∙ c.in_ok-tasks_among.ensures)

pub returns-clause-range : goal.returns-clause-range
returns-clause-range c = tasks_of_words_are c.args.kind c.args.words.now _ (c.new.ensures ∙ c.in_ok-tasks_among.ensures)
