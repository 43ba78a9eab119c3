use Rattle.std.proofs.Common.{◌≡◌, map, take}
use Rattle.pt_survey.specs.Survey.{ports_view}
use Rattle.pt_links.specs.Resolve.{outside_text}
use Rattle.pt_links.proofs.resolve.outside_texts.Given as goal

abbrev pub invariant-loop-port : goal.invariant-loop-port
invariant-loop-port l = l.texts.items ≡ map outside_text (ports_view (take l.port-index l.ports))
