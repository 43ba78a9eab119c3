use Rattle.std.proofs.Common.{◌≡◌, ◌+◌, ◌&&◌, true, false, drop, map, sym, ap, ◌∙◌, rules}
use Rattle.pt_types.specs.Ty.{type_of}
use Rattle.pt_types.specs.Entry.{typed_entry}
use Rattle.pt_firing.specs.Row.{token_at}
use Rattle.pt_formula.specs.Formula.{is_of, are_of}
use Rattle.pt_formula.proofs.TypesBound.{are_of-next}
use Rattle.pt_lib_flow.proofs.expression.are_of.Goals as goal

pub returns-then-not-is_of_at : goal.returns-then-not-is_of_at
returns-then-not-is_of_at c =
    let es = c.args.entries.now in
    let X = c.args.inputs.now in
    let n = c.loop-place.place in
    let e = c.index-entries-place.result in
    let not : is_of (type_of e.1) (token_at X n) ≡ false = search rules in
    sym (sym c.loop-place.invariant ∙ are_of-next es X n e c.loop-place-test.true c.index-entries-place.is ∙ ap (λ b. b && are_of (map typed_entry (drop (n + 1) es)) (drop (n + 1) X)) not)

pub loop-place-preserved : goal.loop-place-preserved
loop-place-preserved c =
    let es = c.args.entries.now in
    let X = c.args.inputs.now in
    let n = c.loop-place.place in
    let e = c.index-entries-place.result in
    let is : is_of (type_of e.1) (token_at X n) ≡ true = search rules in
    sym (are_of-next es X n e c.loop-place-test.true c.index-entries-place.is ∙ ap (λ b. b && are_of (map typed_entry (drop (n + 1) es)) (drop (n + 1) X)) is) ∙ c.loop-place.invariant
