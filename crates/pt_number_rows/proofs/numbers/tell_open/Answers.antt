use Rattle.std.proofs.Common.{ℤ, w64, SFits, rules, Some, refl, sym, subst}
use Rattle.std.proofs.lemmas.Int.{to_z-of_z}
use Rattle.pt_directors.specs.Directors.{director_calls}
use Rattle.pt_node.specs.Shown.{shown_node}
use Rattle.pt_turns.specs.Within.{Given}
use Rattle.pt_number_rows.proofs.numbers.tell_open.Goals as goal

pub returns-in-Some-clause-goes : goal.returns-in-Some-clause-goes
returns-in-Some-clause-goes g c old gave =
    let n : ℤ = c.in-Some.given in
    let fits : SFits w64 n = search rules in
    c.tell_recorded.ensures.goes old
    (subst (λ z. Given (Some z) old (director_calls.lent_of (g.C.NumberCore.director c.args.core.now)) (shown_node c.args.child.now)) (sym (to_z-of_z w64 n fits))
    (subst (λ v. Given v old (director_calls.lent_of (g.C.NumberCore.director c.args.core.now)) (shown_node c.args.child.now)) c.in-Some.is gave))

pub returns-in-None-clause-goes : goal.returns-in-None-clause-goes
returns-in-None-clause-goes g c old gave = (refl, subst (λ v. Given v old (director_calls.lent_of (g.C.NumberCore.director c.args.core.now)) (shown_node c.args.child.now)) c.in-None.is gave)
