use Rattle.std.proofs.Common.{List, sym, ap, ◌∙◌}
use Rattle.pt_pn.specs.declared.marks.Mark.{Mark}
use Rattle.pt_pn.specs.Marks.{seen_marks, awake_in, not_resting_in}
use Rattle.pt_pn.proofs.MarkLaws.{awake-all, not-resting-all, none-are}
use Rattle.pt_pn.proofs.marks.Marks.new.Goals as goal

pub invariant_of-result : goal.invariant_of-result
invariant_of-result c = (awake-all c.args.count ∙ ap (λ (M : List Mark). awake_in M) (sym c.in_ok-of.ensures), not-resting-all c.args.count ∙ ap (λ (M : List Mark). not_resting_in M) (sym c.in_ok-of.ensures))

pub returns : goal.returns
returns c = ap (λ (M : List Mark). seen_marks M) c.in_ok-of.ensures ∙ none-are c.args.count
