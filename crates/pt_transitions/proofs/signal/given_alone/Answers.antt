use Rattle.std.proofs.Common.{◌≡◌, ◌<◌, ◌∙◌, ◌∷◌, [], ℤ, Option, length, ap, to_z, of_z, w64, arith, rules}
use Rattle.std.proofs.lemmas.Int.{to_z-of_z}
use Rattle.pt_meaning.specs.Streams.{change_at}
use Rattle.pt_value.specs.Value as value
use Rattle.pt_value.specs.declared.token.Token.TheVariants as token
use Rattle.pt_language.specs.Expr.{tree_of}
use Rattle.pt_language.specs.Meaning as meaning
use Rattle.pt_language.specs.Outcome.{Gives}
use Rattle.pt_chart.specs.Names.{names_in}
use Rattle.pt_transitions.specs.Alone.{signal_of}
use Rattle.pt_guards.specs.Placed.{SaysAction}
use Rattle.pt_chart.specs.Views.{action_view}
use Rattle.pt_guards.specs.Reads.{reads_view}
use Rattle.pt_transitions.proofs.AloneLaws.{put-alone-next}
use Rattle.pt_guards.proofs.PlacedLaws.{view-each, each-at}
use Rattle.pt_transitions.proofs.signal.given_alone.Goals as goal

pub loop-number-preserved : goal.loop-number-preserved
loop-number-preserved c table says =
    let s = names_in table (reads_view c.args.reads.now) in
    let k = c.loop-number.number in
    let n = c.in_ok-n.n in
    let x = c.index-actions-number.result in
    let p = c.index-placed-number.result in
    let given : Option ℤ = c.loop-number.given in
    let given' : Option ℤ = c.put_alone-given.result in
    let within : k < length c.args.placed.now = omega (arith, c.if-number-placed.false) in
    let told = each-at (λ q a. SaysAction table q (action_view a)) c.args.placed.now c.args.actions.now k p x (view-each (SaysAction table) action_view c.args.placed.now c.args.actions.now says) within c.index-placed-number.is c.index-actions-number.is in
    let passed : to_z w64 (of_z w64 n) ≡ n = first_of (search rules, grind (arith, to_z-of_z)) in
    let gives : meaning.value s (tree_of x.value) ≡ Gives (value.Int n) = c.in_ok-n.ensures table (tree_of x.value) told in
    let put : signal_of given' ∷ [] ≡ change_at x.target (λ old. token.Int n ∷ []) (signal_of given ∷ []) = c.put_alone-given.ensures ∙ ap (λ m. change_at x.target (λ old. token.Int m ∷ []) (signal_of given ∷ [])) passed in
    c.loop-number.invariant table says ∙ put-alone-next s c.args.actions.now k x n given given' c.loop-number-test.true c.index-actions-number.is gives put
