-- The words are the arguments before this one.
use Rattle.std.proofs.Common.{◌≡◌, map, string_bytes, take}
use Rattle.ipmi_program.proofs.input.words_of.Given as goal

abbrev pub invariant-loop-argument : goal.invariant-loop-argument
invariant-loop-argument l = l.words ≡ map (λ argument. string_bytes argument) (take l.argument-index l.arguments)
