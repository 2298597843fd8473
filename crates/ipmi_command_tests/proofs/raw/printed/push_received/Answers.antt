use Rattle.std.proofs.Common.{length, ap, arith}
use Rattle.ipmi_command_tests.proofs.raw.printed.push_received.Goals as goal

pub push_words-requires : goal.push_words-requires
push_words-requires c =
    omega (arith, c.push.ensures.len, c.push_word.ensures.len, c.push_word-2.ensures.len, ap length c.requires.empty, c.requires.few)
