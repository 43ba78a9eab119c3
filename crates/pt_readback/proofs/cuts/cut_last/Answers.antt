use Rattle.std.proofs.Common.{◌≡◌, ◌+◌, ◌∙◌, Some, ap}
use Rattle.std.proofs.lemmas.List.{take_rest}
use Rattle.pt_readback.proofs.JoinedNames.{last_none, last_some, parts_at}
use Rattle.pt_readback.proofs.cuts.cut_last.Goals as goal

pub returns-in_err-at-clause-last : goal.returns-in_err-at-clause-last
returns-in_err-at-clause-last c = λ a b h e. absurd (last_none c.args.mark a b c.args.text.now e c.in_err-at.ensures.none)

pub returns-clause-last : goal.returns-clause-last
returns-clause-last c = λ a b h e.
    let s = c.in_ok-at.ensures.some in
    let n = last_some c.args.mark c.in_ok-at.at a b c.args.text.now h e s.0 s.1 c.in_ok-at.ensures.later in
    let q = parts_at c.args.mark c.in_ok-at.at a b c.args.text.now e n in
    let t = take_rest c.args.text.now (c.in_ok-at.at + 1) ∙ ap (λ r. r.1) q in
    λ i. Some ((q i).0, t i)
