use Rattle.std.proofs.Common.{◌≡◌, ◌++◌, drop, map, string_bytes}
use Rattle.json.specs.Json.{string}
use Rattle.json.specs.Tree.{items_tokens}
use Rattle.ipmi_json.specs.Object.{items_in}
use Rattle.ipmi_json.proofs.object.write_texts.Given as goal

abbrev pub invariant-loop-text : goal.invariant-loop-text
invariant-loop-text l = record {
  writes : l.out.tokens ++ items_tokens (items_in (map string (map (λ text. string_bytes text) (drop l.text-index l.list)))) ≡ l.initial.out.tokens ++ items_tokens (items_in (map string (map (λ text. string_bytes text) l.list)));
  before : l.out.before ≡ l.initial.out.before;
}
