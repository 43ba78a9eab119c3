use Rattle.std.proofs.Common.{◌≡◌, length, map}
use Rattle.pt_datatypes.specs.Rules.{IsReached}
use Rattle.pt_types.specs.Ty.{type_of}
use Rattle.pt_types.proofs.Solutions.{Round}
use Rattle.pt_types.proofs.rules.raise_all.Given as goal

abbrev pub invariant-loop-rule : goal.invariant-loop-rule
invariant-loop-rule g l =
    (length l.types.items ≡ length l.fn.types.items) ×
    IsReached g.R.Rule.target_of g.R.Rule.value_of l.rules (map type_of l.types.items) ×
    Round g.R.Rule.target_of g.R.Rule.value_of l.rules l.rule-index (map type_of l.fn.types.items) (map type_of l.types.items) l.any
