use Rattle.std.proofs.Common.{take}
use Rattle.std.specs.List.{AllZip}
use Rattle.pt_typing.specs.Views.{IsRuleOf}
use Rattle.pt_typing.proofs.typing.rules_of.Given as goal

abbrev pub invariant-loop-inequality : goal.invariant-loop-inequality
invariant-loop-inequality l = AllZip (IsRuleOf l.numbers) (take l.inequality-index l.inequalities) l.rules.items
