use Rattle.std.proofs.Common.{◌≡◌, ◌<◌, ◌++◌, ◌∷◌, [], List, Bool, true, length, get_or, set, sym, ap, ◌∙◌, subst, arith, length-set}
use Rattle.std.proofs.lemmas.List.{get_or_default}
use Rattle.pt_net.specs.declared.net.End.{End}
use Rattle.pt_check.specs.Marks.{AreMarks}
use Rattle.pt_check.proofs.MarkLaws.{marked, same-lengths}
use Rattle.pt_check.proofs.marks.mark_end.Goals as goal

pub returns-clause-marks : goal.returns-clause-marks
returns-clause-marks c = λ es are.
    let e : End = c.args.end in
    let rows : List (List Bool) = c.args.rows.now.items in
    let there : e.entity < length rows = omega (arith, c.if-entity-len.false, c.len.ensures) in
    let read : c.index.result.now ≡ get_or rows e.entity [] = c.index.ensures ∙ get_or_default rows e.entity c.index.result.now [] there in
    let written : c.index_mut.result.now ≡ get_or rows e.entity [] = c.index_mut.ensures.value ∙ get_or_default rows e.entity c.index_mut.result.now [] there in
    let in_row : e.port < length c.index.result.now = omega (arith, c.if-port-len.false, c.len-2.ensures) in
    let short : e.port < length (get_or rows e.entity []) = subst (λ (r : List Bool). e.port < length r) read in_row in
    let after : c.mark.new.self ≡ set (get_or rows e.entity []) e.port true = c.mark.ensures ∙ ap (λ r. set r e.port true) written in
    subst (λ (r : List Bool). AreMarks (es ++ e ∷ []) (set rows e.entity r)) (sym after) (marked es e rows are there short)

pub returns-clause-sized : goal.returns-clause-sized
returns-clause-sized c =
    let e : End = c.args.end in
    let rows : List (List Bool) = c.args.rows.now.items in
    let there : e.entity < length rows = omega (arith, c.if-entity-len.false, c.len.ensures) in
    let written : c.index_mut.result.now ≡ get_or rows e.entity [] = c.index_mut.ensures.value ∙ get_or_default rows e.entity c.index_mut.result.now [] there in
    let after : c.mark.new.self ≡ set (get_or rows e.entity []) e.port true = c.mark.ensures ∙ ap (λ r. set r e.port true) written in
    same-lengths rows e.entity c.mark.new.self (ap length after ∙ length-set (get_or rows e.entity []) e.port true)
