use Rattle.std.proofs.Common.{List, ap, ◌∙◌, arith}
use Rattle.pt_value.specs.declared.token.Token.{Token}
use Rattle.pt_meaning.specs.Transitions.{last_of}
use Rattle.pt_guards.proofs.NameLaws.{at-past}
use Rattle.pt_guards.proofs.names.last_at.Goals as goal

pub returns-then-port-places : goal.returns-then-port-places
returns-then-port-places c = c.last.ensures ∙ ap (λ (xs : List Token). last_of xs) c.list.ensures

pub returns-else-port-places : goal.returns-else-port-places
returns-else-port-places c = ap (λ (xs : List Token). last_of xs) (at-past c.args.lists.now c.args.port (omega (arith, c.if-port-places.false, c.places.ensures)))
