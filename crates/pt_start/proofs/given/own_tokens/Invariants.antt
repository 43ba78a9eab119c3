use Rattle.std.proofs.Common.{◌≡◌, ◌++◌, drop}
use Rattle.pt_document.specs.View.{properties_view}
use Rattle.pt_start.specs.Started.{own_tokens}
use Rattle.pt_start.proofs.given.own_tokens.Given as goal

abbrev pub invariant-loop-number : goal.invariant-loop-number
invariant-loop-number l = l.tokens.items ++ own_tokens (properties_view (drop l.number l.properties)) (drop l.number l.values) ≡ own_tokens (properties_view l.properties) l.values
