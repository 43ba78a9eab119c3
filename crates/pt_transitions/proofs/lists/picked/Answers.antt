use Rattle.std.proofs.Common.{List, ℕ, map, ap, ◌∙◌}
use Rattle.pt_meaning.specs.Streams.{at}
use Rattle.pt_guards.proofs.ListLaws.{picked-map, whole}
use Rattle.pt_transitions.proofs.lists.picked.Goals as goal

pub returns : goal.returns
returns c = c.loop-port.invariant ∙ ap (λ (ps : List ℕ). map (λ p. at c.args.inputs.now p) ps) (whole c.args.ports.now c.loop-port.port-index c.loop-port-test.false) ∙ picked-map c.args.ports.now c.args.inputs.now
