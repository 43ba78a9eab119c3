use Rattle.std.proofs.Common.{◌≡◌, ℕ, ◌++◌, List, drop}
use Rattle.pt_value.specs.declared.token.Token.{Token}
use Rattle.pt_document.specs.View.{properties_view}
use Rattle.pt_start.specs.Started.{given_tokens}
use Rattle.pt_start.specs.Frames.{Hold}
use Rattle.pt_start.proofs.frames.names_given.Given as goal

abbrev pub invariant-loop-number : goal.invariant-loop-number
invariant-loop-number l = (ps : List (List ℕ × Token)) × Hold l.names ps × (ps ++ given_tokens (properties_view (drop l.number l.properties)) (drop l.number l.values) ≡ given_tokens (properties_view l.properties) l.values)
