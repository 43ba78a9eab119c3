use Rattle.std.proofs.Common.{◌/◌, ap, ◌∙◌, sym}
use Rattle.std.proofs.Math.Nat.{div-zero}
use Rattle.pt_sdf_parts.proofs.turns.allowed.Goals as goal

pub returns-then-n-eq0 : goal.returns-then-n-eq0
returns-then-n-eq0 c = sym (ap (λ k. c.args.tokens / k) (sym c.number_for-n.ensures ∙ c.if-n-eq0.true) ∙ div-zero c.args.tokens)

pub returns-else-n-eq0 : goal.returns-else-n-eq0
returns-else-n-eq0 c = ap (λ k. c.args.tokens / k) c.number_for-n.ensures
