use Rattle.std.proofs.Common.{◌≡◌, drop, map}
use Rattle.pt_types.specs.Entry.{typed_entry}
use Rattle.pt_formula.specs.Formula.{are_of}
use Rattle.pt_lib_flow.proofs.expression.are_of.Given as goal

abbrev pub invariant-loop-place : goal.invariant-loop-place
invariant-loop-place l = are_of (map typed_entry (drop l.place l.entries)) (drop l.place l.inputs) ≡ are_of (map typed_entry l.entries) l.inputs
