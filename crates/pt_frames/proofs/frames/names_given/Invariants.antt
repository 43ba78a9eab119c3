use Rattle.std.proofs.Common.{◌≡◌, ℕ, List, map, drop}
use Rattle.pt_document.specs.View.{properties_view}
use Rattle.pt_scopes.specs.Names.{held}
use Rattle.pt_inequalities.specs.Frames.{with_given, no_names, values_held}
use Rattle.pt_frames.proofs.frames.names_given.Given as goal

abbrev pub invariant-loop-index : goal.invariant-loop-index
invariant-loop-index l = (name : List ℕ) → with_given (held l.names) (properties_view (drop l.index l.properties)) (map values_held (drop l.index l.values)) name ≡ with_given no_names (properties_view l.properties) (map values_held l.values) name
