use Rattle.std.proofs.Common.{◌≡◌, ◌<◌, ◌∙◌, ℕ, List, Option, None, length, ap, sym, to_z, of_z, w64, arith, rules}
use Rattle.std.proofs.lemmas.Int.{to_z-of_z}
use Rattle.pt_meaning.specs.Streams.{change_at}
use Rattle.pt_meaning.specs.Transitions.{Scope as Reads}
use Rattle.pt_value.specs.Value as value
use Rattle.pt_value.specs.declared.token.Token.{Token}
use Rattle.pt_value.specs.declared.token.Token.TheVariants as token
use Rattle.pt_language.specs.Expr.{tree_of}
use Rattle.pt_language.specs.Meaning as meaning
use Rattle.pt_language.specs.Outcome.{Outcome, Gives}
use Rattle.pt_chart.specs.Chart.{reading_of}
use Rattle.pt_chart.specs.Names.{names_in}
use Rattle.pt_guards.specs.Acts.{set_one}
use Rattle.pt_guards.specs.Placed.{SaysAction}
use Rattle.pt_chart.specs.Views.{action_view}
use Rattle.pt_guards.specs.Reads.{reads_view}
use Rattle.pt_guards.proofs.ActLaws.{set-next}
use Rattle.pt_guards.proofs.PlacedLaws.{view-each, each-at}
use Rattle.pt_guards.proofs.quick.set_quickly.Goals as goal

pub loop-number-preserved : goal.loop-number-preserved
loop-number-preserved c table says =
    let reads = reads_view c.args.reads.now in
    let values : List Token = c.loop-number.values.items in
    let values' : List Token = c.assign.new.values.items in
    let now : Reads Token = record { values = c.as_slice.result.now; inputs = reads.inputs; given = reads.given } in
    let s = names_in table now in
    let k = c.loop-number.number in
    let n = c.in-Some.n in
    let x = c.index-actions-number.result in
    let p = c.index-placed-number.result in
    let within : k < length c.args.placed.now = omega (arith, c.if-number-placed.false) in
    let told = each-at (λ q a. SaysAction table q (action_view a)) c.args.placed.now c.args.actions.now k p x (view-each (SaysAction table) action_view c.args.placed.now c.args.actions.now says) within c.index-placed-number.is c.index-actions-number.is in
    let passed : to_z w64 (of_z w64 n) ≡ n = first_of (search rules, grind (arith, to_z-of_z)) in
    let gives : meaning.value s (tree_of x.value) ≡ Gives (value.Int n) = c.in-Some.ensures table (tree_of x.value) told in
    let set : values' ≡ change_at x.target (λ old. token.Int n) values = c.assign.ensures ∙ ap (λ m. change_at x.target (λ old. token.Int m) values) passed in
    let made : set_one (reading_of (meaning.value s (tree_of x.value))) x.target values ≡ (None, values') = ap (λ (o : Outcome value.Value). set_one (reading_of o) x.target values) gives ∙ ap (λ (vs : List Token). let r : Option ℕ × List Token = (None, vs) in r) (sym set) in
    c.loop-number.invariant table says ∙ set-next table reads.inputs reads.given s c.args.actions.now k x values (None, values') c.loop-number-test.true c.index-actions-number.is (ap (λ (vs : List Token). names_in table (record { values = vs; inputs = reads.inputs; given = reads.given })) c.as_slice.ensures.value) made
