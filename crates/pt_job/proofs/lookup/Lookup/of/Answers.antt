use Rattle.std.proofs.Common.{bytes_eq, map, List, ap, ◌∙◌}
use Rattle.std.specs.List.{position}
use Rattle.pt_document.specs.declared.job.Input.{Input}
use Rattle.pt_document.specs.Document.{InputTree}
use Rattle.pt_document.specs.View.{input_view}
use Rattle.pt_job.specs.Names.{Name, texts}
use Rattle.pt_job.proofs.lookup.Lookup.of.Goals as goal

pub returns-clause-looks : goal.returns-clause-looks
returns-clause-looks c = record {
  lacking = c.may_lack.ensures;
  timed = c.is_timed.ensures;
  ports = λ name. c.in_ok-name_places.ensures name ∙ ap (position (bytes_eq name.now)) (ap (λ (ns : List Name). texts ns) c.deref-2.ensures.value ∙ c.in_ok-ports.ensures);
  inputs = λ name. c.in_ok-name_places-2.ensures name ∙ ap (position (bytes_eq name.now)) (ap (λ (ns : List Name). texts ns) c.deref-3.ensures.value ∙ c.in_ok-inputs.ensures ∙ ap (λ (is : List Input). map (λ (i : InputTree). i.port) (map input_view is)) c.deref.ensures.value);
}
