use Rattle.std.proofs.Common.{◌≡◌, ℕ, true, take}
use Rattle.std.specs.List.{position}
use Rattle.std.specs.Map.{lookup}
use Rattle.pt_survey.specs.Survey.{ports_view}
use Rattle.pt_net.specs.Wires.{names_inside}
use Rattle.pt_links.specs.Resolve.{Name, pair_eq, is_marked}
use Rattle.pt_links.proofs.resolve.marked_places.Given as goal

abbrev pub invariant-loop-number : goal.invariant-loop-number
invariant-loop-number l = (c : ℕ) (text : Name) → is_marked l.marks c ≡ true → lookup (pair_eq (c, text)) l.pairs.items ≡ position (names_inside c text.now) (ports_view (take l.number l.ports))
