use Rattle.std.proofs.Common.{◌≡◌, ◌<◌, ◌+◌, ◌++◌, [], drop, length, sym, ap, ◌∙◌, append-nil, arith}
use Rattle.pt_firing.specs.Row.{token_at}
use Rattle.pt_lib_data.specs.ElementsToArray.{firsts}
use Rattle.pt_lib_data.proofs.Present.{firsts-next, none-of, with-append}
use Rattle.pt_lib_data.proofs.elements_to_array.firsts.Goals as goal

pub loop-place-preserved : goal.loop-place-preserved
loop-place-preserved c =
    let X = c.args.inputs.now in
    let n = c.loop-place.place in
    let short : n < length X = omega arith in
    let rest = firsts (drop (n + 1) X) in
    ap (λ ts. ts ++ rest) c.in_ok-push_first.ensures ∙ with-append (token_at X n) c.loop-place.tokens.items rest ∙ ap (λ ts. c.loop-place.tokens.items ++ ts) (sym (firsts-next X n short)) ∙ c.loop-place.invariant

pub returns : goal.returns
returns c =
    let X = c.args.inputs.now in
    let ts = c.loop-place.tokens.items in
    sym (append-nil ts) ∙ ap (λ us. ts ++ us) (sym (none-of X c.loop-place.place (omega arith))) ∙ c.loop-place.invariant
