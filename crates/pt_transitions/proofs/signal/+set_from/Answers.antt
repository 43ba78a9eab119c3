use Rattle.std.proofs.Common.{◌≡◌, ◌<◌, ◌≤◌, ◌∙◌, [], List, get_or, set, length, sym, ap, to_z, of_z, w64, arith, rules}
use Rattle.std.proofs.lemmas.Int.{to_z-of_z}
use Rattle.pt_meaning.specs.Streams.{change_at}
use Rattle.pt_value.specs.declared.token.Token.{Token}
use Rattle.pt_value.specs.declared.token.Token.TheVariants as token
use Rattle.pt_language.specs.Expr.{tree_of}
use Rattle.pt_chart.specs.declared.written.Action.{Action}
use Rattle.pt_guards.specs.Placed.{SaysAction}
use Rattle.pt_chart.specs.Views.{action_view}
use Rattle.pt_guards.proofs.ListLaws.{change-const, change-past}
use Rattle.pt_transitions.proofs.AloneLaws.{set-alone-next, set-back}
use Rattle.pt_guards.proofs.PlacedLaws.{view-each, each-at}
use Rattle.pt_transitions.proofs.signal.+set_from.Goals as goal

pub returns-then-variable-len-clause-sets : goal.returns-then-variable-len-clause-sets
returns-then-variable-len-clause-sets t c done table says =
    let acts : List Action = c.args.actions.now in
    let values : List Token = c.args.values.now.items in
    let us : List Token = c.as_slice.result.now in
    let k = c.args.number in
    let n = c.in-Some.n in
    let x = c.index-actions-number.result in
    let p = c.index-placed-number.result in
    let within : k < length c.args.placed.now = omega (arith, c.if-number-placed.false) in
    let short : k < length acts = omega (arith, c.if-number-actions.false) in
    let told = each-at (λ q a. SaysAction table q (action_view a)) c.args.placed.now acts k p x (view-each (SaysAction table) action_view c.args.placed.now acts says) within c.index-placed-number.is c.index-actions-number.is in
    let at : x.target ≡ (get_or acts k x).target = ap (λ (a : Action). a.target) c.index-actions-number.is in
    let past : length values ≤ x.target = omega (arith, c.if-variable-len.true, c.len.ensures, at) in
    set-alone-next table c.args.inputs.now [] acts k x n us values values short c.index-actions-number.is c.as_slice.ensures.value (c.in-Some.ensures table (tree_of x.value) told) (change-past x.target (λ old. token.Int n) values past)
    ∙ c.set_from.ensures.sets done table says

pub returns-then-set_from-clause-sets : goal.returns-then-set_from-clause-sets
returns-then-set_from-clause-sets t c done table says =
    let acts : List Action = c.args.actions.now in
    let values : List Token = c.args.values.now.items in
    let us : List Token = c.as_slice.result.now in
    let k = c.args.number in
    let n = c.in-Some.n in
    let x = c.index-actions-number.result in
    let p = c.index-placed-number.result in
    let within : k < length c.args.placed.now = omega (arith, c.if-number-placed.false) in
    let short : k < length acts = omega (arith, c.if-number-actions.false) in
    let told = each-at (λ q a. SaysAction table q (action_view a)) c.args.placed.now acts k p x (view-each (SaysAction table) action_view c.args.placed.now acts says) within c.index-placed-number.is c.index-actions-number.is in
    let at : x.target ≡ (get_or acts k x).target = ap (λ (a : Action). a.target) c.index-actions-number.is in
    let there : x.target < length values = omega (arith, c.if-variable-len.false, c.len.ensures, at) in
    let passed : to_z w64 (of_z w64 n) ≡ n = first_of (search rules, grind (arith, to_z-of_z)) in
    let dest : Token = c.replace-before.new.dest in
    let is : dest ≡ token.Int n = c.replace-before.ensures.after ∙ ap (λ m. token.Int m) passed in
    let put : set values (get_or acts k x).target dest ≡ change_at x.target (λ old. token.Int n) values =
    ap (λ (w : Token). set values (get_or acts k x).target w) is ∙ ap (λ i. set values i (token.Int n)) (sym at) ∙ change-const x.target (token.Int n) values there in
    set-alone-next table c.args.inputs.now [] acts k x n us values (set values (get_or acts k x).target dest) short c.index-actions-number.is c.as_slice.ensures.value (c.in-Some.ensures table (tree_of x.value) told) put
    ∙ c.set_from-2.ensures.sets c.if-set_from.true table says

pub returns-clause-kept : goal.returns-clause-kept
returns-clause-kept t c done =
    let acts : List Action = c.args.actions.now in
    let values : List Token = c.args.values.now.items in
    let k = c.args.number in
    let x = c.index-actions-number.result in
    let there : (get_or acts k x).target < length values = omega (arith, c.if-variable-len.false, c.len.ensures) in
    ap (λ (vs : List Token). set vs (get_or acts k x).target c.replace-before.result) (c.set_from-2.ensures.kept c.if-set_from.false)
    ∙ set-back values (get_or acts k x).target c.replace-before.new.dest c.replace-before.result _ there (c.replace-before.ensures.value ∙ c.index_mut.ensures.value)
