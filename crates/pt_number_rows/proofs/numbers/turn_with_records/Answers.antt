use Rattle.std.proofs.Common.{ap, subst, ◌∙◌}
use Rattle.pt_directors.specs.Directors.{director_calls}
use Rattle.pt_node.specs.Shown.{Shown, shown_node}
use Rattle.pt_turns.specs.Within.{Given}
use Rattle.pt_number_rows.specs.Quick.{QuickTo, QuickSpends}
use Rattle.pt_number_rows.proofs.numbers.turn_with_records.Goals as goal

pub tell_open-requires-clause-asked : goal.tell_open-requires-clause-asked
tell_open-requires-clause-asked g c = ap (λ v. director_calls.asked_of v) c.in-Open.ensures.goes.0 ∙ c.requires.asked

pub returns-in-Open-clause-goes : goal.returns-in-Open-clause-goes
returns-in-Open-clause-goes g c =
    let old : Shown = shown_node c.args.child.now in
    subst (λ v. Given c.in-Open.given old (director_calls.lent_of v) (shown_node c.turn_of_number.new.child) → QuickTo director_calls v old c.args.number c.args.tag c.tell_open.result (g.C.NumberCore.director c.tell_open.new.core) (shown_node c.tell_open.new.child)) c.in-Open.ensures.goes.0
    (c.tell_open.ensures.goes old) c.in-Open.ensures.goes.1

pub returns-in-Open-clause-spends : goal.returns-in-Open-clause-spends
returns-in-Open-clause-spends g c = subst (λ v. QuickSpends c.tell_open.result v c.tell_open.new.left) c.in-Open.ensures.spends c.tell_open.ensures.spends

pub returns-in-Open-clause-outline : goal.returns-in-Open-clause-outline
returns-in-Open-clause-outline g c = c.tell_open.ensures.outline ∙ c.in-Open.ensures.outline
