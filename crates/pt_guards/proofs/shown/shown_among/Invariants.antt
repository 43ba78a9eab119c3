use Rattle.std.proofs.Common.{◌≡◌, ◌≤◌, ◌||◌, List, ℕ, drop, length, map}
use Rattle.std.specs.HashSet.{contains_text}
use Rattle.pt_types.specs.Entry.{typed_entry}
use Rattle.pt_formula.specs.Formula.{names, is_among}
use Rattle.pt_chart.specs.Names.{shown_among}
use Rattle.pt_guards.proofs.shown.shown_among.Given as goal

abbrev pub invariant-loop-left : goal.invariant-loop-left
invariant-loop-left l = record {
  taken : (name : List ℕ) → contains_text l.taken name ≡ (is_among name (names (map typed_entry (drop l.left l.variables))) || contains_text l.initial.taken name);
  within : l.left ≤ length l.variables;
  counted : length l.shown.items ≡ length l.variables;
  shown : drop l.left l.shown.items ≡ shown_among (contains_text l.initial.taken) (map typed_entry (drop l.left l.variables));
}

abbrev pub decreases-loop-left : goal.decreases-loop-left
decreases-loop-left l = l.left
