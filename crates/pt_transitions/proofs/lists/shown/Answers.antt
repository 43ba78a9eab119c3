use Rattle.std.proofs.Common.{List, ℕ, Option, map, ap, ◌∙◌}
use Rattle.pt_meaning.specs.Modal.{at_port}
use Rattle.pt_guards.proofs.ListLaws.{shown-map, whole}
use Rattle.pt_transitions.proofs.lists.shown.Goals as goal

pub returns : goal.returns
returns c = c.loop-port.invariant ∙ ap (λ (ps : List (Option ℕ)). map (λ p. at_port p c.args.outputs.now) ps) (whole c.args.ports.now c.loop-port.port-index c.loop-port-test.false) ∙ shown-map c.args.ports.now c.args.outputs.now
