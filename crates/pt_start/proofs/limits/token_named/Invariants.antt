use Rattle.std.proofs.Common.{◌≡◌, drop}
use Rattle.pt_document.specs.View.{properties_view}
use Rattle.pt_start.specs.Places.{token_named}
use Rattle.pt_start.proofs.limits.token_named.Given as goal

abbrev pub invariant-loop-number : goal.invariant-loop-number
invariant-loop-number l = token_named (properties_view (drop l.number l.properties)) (drop l.number l.values) l.name ≡ token_named (properties_view l.properties) l.values l.name
