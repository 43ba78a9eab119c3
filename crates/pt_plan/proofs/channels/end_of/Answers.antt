use Rattle.std.proofs.Common.{◌≡◌, ◌+◌, ◌-◌, ◌<◌, ◌≤◌, ℕ, List, length, get_or, ap, ap₂, sym, ◌∙◌, arith}
use Rattle.std.proofs.lemmas.List.{get_or_default, get_or_past}
use Rattle.pt_meaning.specs.Running.{total}
use Rattle.pt_plan.specs.Channels.{owners}
use Rattle.pt_plan.proofs.Numbering.{owners-long}
use Rattle.pt_plan.proofs.channels.end_of.Goals as goal

pub bounds-children-number : goal.bounds-children-number
bounds-children-number c = omega (arith, c.if-number-needs.true, ap (λ (xs : List ℕ). length xs) c.as_slice-needs.ensures, c.requires.inside.needed, ap (λ (xs : List ℕ). length xs) c.requires.children, owners-long 0 c.args.inside.now.places)

pub returns-then-number-needs-clause-end : goal.returns-then-number-needs-clause-end
returns-then-number-needs-clause-end c =
    let places : List ℕ = c.args.inside.now.places in
    let short : c.args.number < length (owners 0 places) = omega (arith, c.if-number-needs.true, ap (λ (xs : List ℕ). length xs) c.as_slice-needs.ensures, c.requires.inside.needed, owners-long 0 places) in
    ap (λ (xs : List ℕ). get_or xs c.args.number 0) c.requires.children ∙ get_or_default (owners 0 places) c.args.number 0 (length places + c.args.inside.now.inputs + (c.args.number - total places)) short

pub returns-else-number-needs-clause-end : goal.returns-else-number-needs-clause-end
returns-else-number-needs-clause-end c =
    let places : List ℕ = c.args.inside.now.places in
    let many : length c.as_slice-needs.result.now ≡ total places = ap (λ (xs : List ℕ). length xs) c.as_slice-needs.ensures ∙ c.requires.inside.needed in
    let past : length (owners 0 places) ≤ c.args.number = omega (arith, c.if-number-needs.false, many, owners-long 0 places) in
    ap₂ (λ n k. n + c.args.inside.now.inputs + (c.args.number - k)) c.len.ensures many ∙ sym (get_or_past (owners 0 places) c.args.number (length places + c.args.inside.now.inputs + (c.args.number - total places)) past)
