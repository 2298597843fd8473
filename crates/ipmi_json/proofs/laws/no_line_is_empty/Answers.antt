use Rattle.ipmi_json.proofs.LineLawLemmas.{some_line, some_object}
use Rattle.ipmi_json.proofs.laws.no_line_is_empty.Goals as goal

pub returns : goal.returns
returns c = record {
  object = some_object;
  sdr_record = λ id view reading labels text h. some_line _ text h.is_line;
  entry = λ id view records labels text h. some_line _ text h.is_line;
  info = λ name bytes labels text h. some_line _ text h.is_line;
  device = λ id name inventory labels text h. some_line _ text h.is_line;
}
