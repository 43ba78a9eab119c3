use Rattle.std.proofs.Common.{◌≡◌, ◌<◌, true, false, length, get_or, refl, sym, ◌∙◌, arith}
use Rattle.std.proofs.lemmas.List.{get_or_read}
use Rattle.pt_machine_parts.proofs.claims.take_one.Goals as goal

pub returns-then-number-len : goal.returns-then-number-len
returns-then-number-len c = λ l. absurd (omega (arith, l, c.if-number-len.true, c.len.ensures, c.args.taken.now.ok.0))

pub returns-then-index : goal.returns-then-index
returns-then-index c = λ l. sym (get_or_read c.args.taken.now.items c.args.number c.index.result.now l c.index.ensures false) ∙ c.if-index.true

pub returns : goal.returns
returns c =
    let l : c.args.number < length c.args.taken.now.items = omega (arith, c.if-number-len.false, c.len.ensures, c.args.taken.now.ok.0) in
    let free : get_or c.args.taken.now.items c.args.number false ≡ false = sym (get_or_read c.args.taken.now.items c.args.number c.index.result.now l c.index.ensures false) ∙ c.if-index.false in
    (l, free, refl)
