use Rattle.std.proofs.Common.{◌≡◌, drop, map}
use Rattle.std.specs.Prelude.{negsuc, zero}
use Rattle.pt_value.specs.Token.{value_of}
use Rattle.pt_scopes.specs.Forms.{ascend_from}
use Rattle.pt_scopes.proofs.forms.ascend.Given as goal

abbrev pub invariant-loop-element : goal.invariant-loop-element
invariant-loop-element l = ascend_from (negsuc zero) (map value_of l.elements) ≡ ascend_from l.last (map value_of (drop l.element-index l.elements))
