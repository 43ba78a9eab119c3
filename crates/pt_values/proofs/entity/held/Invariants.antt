use Rattle.std.proofs.Common.{◌≡◌, ◌++◌, map}
use Rattle.std.specs.Vec.Iter.{into_iter_items}
use Rattle.pt_value.specs.Token.{value_of}
use Rattle.pt_scopes.specs.Given.{Token, held_view}
use Rattle.pt_values.proofs.entity.held.Given as goal

abbrev pub invariant-loop-token : goal.invariant-loop-token
invariant-loop-token l =
    (goal.iterator-loop-token).can_next l.token-iterator ×
    (goal.iterator-loop-token).is_finite l.token-iterator ×
    (map held_view l.values.items ++ map Token (map value_of (into_iter_items l.token-iterator)) ≡ map Token (map value_of l.fn.tokens.items))
