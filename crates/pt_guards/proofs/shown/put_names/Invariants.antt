use Rattle.std.proofs.Common.{◌≡◌, ◌||◌, List, ℕ, drop, map}
use Rattle.std.specs.HashSet.{contains_text}
use Rattle.pt_types.specs.Entry.{typed_entry}
use Rattle.pt_formula.specs.Formula.{names, is_among}
use Rattle.pt_guards.proofs.shown.put_names.Given as goal

abbrev pub invariant-loop-name : goal.invariant-loop-name
invariant-loop-name l = (name : List ℕ) → (is_among name (names (map typed_entry (drop l.name-index l.entries))) || contains_text l.taken name) ≡ (is_among name (names (map typed_entry l.entries)) || contains_text l.initial.taken name)
