use Rattle.std.proofs.Common.{◌≡◌, zero, suc, pos, get_or, ◌<◌, ◌∙◌, ◌∷◌, [], ℕ, ℤ, List, Option, None, length, map, refl, ap, sym, to_z, of_z, w64, arith, rules}
use Rattle.std.proofs.lemmas.Int.{to_z-of_z}
use Rattle.std.proofs.lemmas.List.{length-map}
use Rattle.pt_meaning.specs.Streams.{Streams, change_at}
use Rattle.pt_value.specs.Value as value
use Rattle.pt_value.specs.declared.token.Token.{Token}
use Rattle.pt_value.specs.declared.token.Token.TheVariants as token
use Rattle.pt_language.specs.Expr.{tree_of}
use Rattle.pt_language.specs.Meaning as meaning
use Rattle.pt_language.specs.Outcome.{Outcome, Gives}
use Rattle.pt_chart.specs.Chart.{reading_of}
use Rattle.pt_guards.specs.Acts.{put_one}
use Rattle.pt_guards.specs.Placed.{IsGiven}
use Rattle.pt_chart.specs.Views.{action_view}
use Rattle.pt_guards.proofs.ActLaws.{put-next}
use Rattle.pt_guards.proofs.PlacedLaws.{view-each, each-at, each-length}
use Rattle.pt_guards.proofs.quick.put_given.Goals as goal

get-same : {A : Type 0} (xs : List A) (n : ℕ) (d : A) → n < length xs → get_or xs n d ≡ get_or xs n (get_or xs n d)
get-same [] n d short = absurd (omega (arith, short))
get-same (x ∷ xs) zero d short = refl
get-same (x ∷ xs) (suc n) d short = get-same xs n d (omega (arith, short))

pub loop-number-preserved : goal.loop-number-preserved
loop-number-preserved c s given =
    let out : Streams Token = c.loop-number.outputs.items in
    let out' : Streams Token = c.give.new.outputs.items in
    let k = c.loop-number.number in
    let x = c.index-actions-number.result in
    let ns : List ℤ = c.args.given.now in
    let within : k < length ns = omega (arith, c.loop-number-test.true, each-length (IsGiven s) ns (map action_view c.args.actions.now) given, length-map c.args.actions.now action_view) in
    let i : ℤ = get_or ns k (pos 0) in
    let gives : meaning.value s (tree_of x.value) ≡ Gives (value.Int i) = each-at (λ n a. IsGiven s n (action_view a)) ns c.args.actions.now k i x (view-each (IsGiven s) action_view ns c.args.actions.now given) within (get-same ns k (pos 0) within) c.index-actions-number.is in
    let passed : to_z w64 (of_z w64 i) ≡ i = first_of (search rules, grind (arith, to_z-of_z)) in
    let put : out' ≡ change_at x.target (λ old. token.Int i ∷ []) out = c.give.ensures ∙ ap (λ m. change_at x.target (λ old. token.Int m ∷ []) out) passed in
    let made : put_one (reading_of (meaning.value s (tree_of x.value))) x.target out ≡ (None, out') = ap (λ (o : Outcome value.Value). put_one (reading_of o) x.target out) gives ∙ ap (λ (os : Streams Token). let r : Option ℕ × Streams Token = (None, os) in r) (sym put) in
    c.loop-number.invariant s given ∙ put-next s c.args.actions.now k x out (None, out') c.loop-number-test.true c.index-actions-number.is made

pub returns-then-number-given : goal.returns-then-number-given
returns-then-number-given c s given =
    let within : c.loop-number.number < length c.args.given.now = omega (arith, c.loop-number-test.true, each-length (IsGiven s) c.args.given.now (map action_view c.args.actions.now) given, length-map c.args.actions.now action_view) in
    absurd (omega (arith, within, c.if-number-given.true))
