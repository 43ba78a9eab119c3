use Rattle.std.proofs.Common.{◌≡◌, ◌∙◌, List, arith}
use Rattle.std.proofs.lemmas.Result.{IfOk-weaker}
use Rattle.pt_value.specs.declared.token.Token.{Token}
use Rattle.pt_meaning.specs.Streams.{at}
use Rattle.pt_guards.proofs.NameLaws.{at-past}
use Rattle.pt_transitions.proofs.lists.copy_at.Goals as goal

pub returns-then-port-places : goal.returns-then-port-places
returns-then-port-places c = c.new.ensures ∙ at-past c.args.lists.now c.args.port (omega (arith, c.if-port-places.true, c.places.ensures))

pub returns : goal.returns
returns c = IfOk-weaker c.copy_of.result (λ (t : List Token). t ≡ c.list.result.now) (λ (t : List Token). t ≡ at c.args.lists.now c.args.port) (λ t same. same ∙ c.list.ensures) c.copy_of.ensures
