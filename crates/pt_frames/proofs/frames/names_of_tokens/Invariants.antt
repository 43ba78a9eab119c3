use Rattle.std.proofs.Common.{◌≡◌, ℕ, List, map, drop}
use Rattle.pt_document.specs.View.{properties_view}
use Rattle.pt_scopes.specs.Names.{held}
use Rattle.pt_inequalities.specs.Frames.{with_given, no_names, some_value}
use Rattle.pt_frames.proofs.frames.names_of_tokens.Given as goal

abbrev pub invariant-loop-index : goal.invariant-loop-index
invariant-loop-index l = (name : List ℕ) → with_given (held l.names) (properties_view (drop l.index l.properties)) (map some_value (drop l.index l.tokens)) name ≡ with_given no_names (properties_view l.properties) (map some_value l.tokens) name
