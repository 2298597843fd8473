use Rattle.clap.specs.Words.{found_of, rows_of}
use Rattle.ipmi_command_line.proofs.CommandLemmas.{not_one_name}
use Rattle.ipmi_command_line.proofs.request.records_named.Goals as goal

pub returns-then-words-ne3-clause-value : goal.returns-then-words-ne3-clause-value
returns-then-words-ne3-clause-value c = rw (not_one_name c.args.words.now (rows_of (found_of c.args.matches.now)) c.if-words-ne3.true) c.named_of.ensures.value
