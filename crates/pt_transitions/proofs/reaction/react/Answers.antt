use Rattle.std.proofs.Common.{◌≡◌, ℕ, ℤ, None, Option, IfSome, Vec, Global, ◌<◌, List, [], ◌∷◌, map, length, refl, sym, ap, subst, ◌∙◌, arith, rules}
use Rattle.std.proofs.lemmas.Bool.{eqb-true}
use Rattle.std.proofs.lemmas.Grind.{common_steps}
use Rattle.std.proofs.lemmas.List.{length-map}
use Rattle.pt_meaning.specs.Transitions.{Scope as Reads}
use Rattle.pt_meaning.specs.Modal.{chosen}
use Rattle.pt_meaning.specs.Streams.{Streams}
use Rattle.pt_value.specs.declared.token.Token.{Token}
use Rattle.pt_language.specs.Meaning.{value}
use Rattle.pt_chart.specs.declared.written.Transition.{Transition}
use Rattle.pt_guards.specs.declared.choosing.Choice.TheVariants as choice
use Rattle.pt_guards.specs.declared.kept.PlacedTransition.{PlacedTransition}
use Rattle.pt_guards.specs.Placed.{SaysTransition, SayTransitions, AreGiven}
use Rattle.pt_meaning.specs.Modal as modal
use Rattle.pt_chart.specs.Machine.{TransitionTree, NameTable}
use Rattle.pt_guards.proofs.PlacedLaws.{each-at, view-each, each-length}
use Rattle.pt_chart.specs.Names.{names_in}
use Rattle.pt_chart.specs.Chart.{test_of}
use Rattle.pt_guards.specs.Choose.{tests_in, choice_view}
use Rattle.pt_guards.specs.Acts.{reacted_by, set_all}
use Rattle.pt_chart.specs.Views.{names_view, transition_view}
use Rattle.pt_guards.proofs.ChooseLaws.{chosen-there}
use Rattle.pt_transitions.proofs.ReactLaws.{one-chosen}
use Rattle.pt_transitions.proofs.reaction.react.Goals as goal

module _ (table : NameTable) (reads : Reads Token) (given : Streams Token) (ts : List Transition) (ps : List PlacedTransition) (number : ℕ) where
  pub chosen-short : choice_view (choice.One number) ≡ chosen 0 (tests_in (names_in table reads) (map transition_view ts)) → number < length ts
  chosen-short made =
      let s = names_in table reads in
      let us : List TransitionTree = map transition_view ts in
      let there = (chosen-there 0 number (tests_in s us) (sym made)).1 in
      omega (arith, there, length-map us (λ t. test_of (value s t.guard)), length-map ts transition_view)

  pub placed-short : SayTransitions table ps (map transition_view ts) → number < length ts → number < length ps
  placed-short says short = omega (arith, short, each-length (λ p t. SaysTransition table p t) ps (map transition_view ts) says, length-map ts transition_view)

nothing : {A : Type 0} (xs : List A) → length xs ≡ 0 → xs ≡ []
nothing [] none = refl
nothing (x ∷ xs) none = absurd (omega (arith, none))

pub returns-then-is_empty-clause-reaction : goal.returns-then-is_empty-clause-reaction
returns-then-is_empty-clause-reaction c mode =
    let table = names_view c.args.names.now in
    let reads : Reads Token = record { values = c.args.values.now; inputs = c.args.inputs.now; given = c.args.given.items } in
    let none : c.args.transitions.now ≡ [] = nothing c.args.transitions.now (eqb-true (length c.args.transitions.now) 0 (sym c.is_empty.ensures ∙ c.if-is_empty.true)) in
    sym (ap (λ (ts : List Transition). reacted_by table mode (map transition_view ts) reads) none)

pub bounds-transitions-number : goal.bounds-transitions-number
bounds-transitions-number c =
    let table = names_view c.args.names.now in
    let ts = c.args.transitions.now in
    let same : c.in-Some-One.field-0 ≡ choice.One c.in-Some-One.number = first_of (cc, search rules) in
    chosen-short table (record { values = c.args.values.now; inputs = c.args.inputs.now; given = c.as_slice.result.now }) [] ts [] c.in-Some-One.number (ap choice_view (sym same) ∙ c.in-Some-One.ensures table (map transition_view ts) c.requires.says)

pub bounds-placed-number : goal.bounds-placed-number
bounds-placed-number c =
    let table = names_view c.args.names.now in
    let ts = c.args.transitions.now in
    let same : c.in-Some-One.field-0 ≡ choice.One c.in-Some-One.number = first_of (cc, search rules) in
    let short = chosen-short table (record { values = c.args.values.now; inputs = c.args.inputs.now; given = c.as_slice.result.now }) [] ts [] c.in-Some-One.number (ap choice_view (sym same) ∙ c.in-Some-One.ensures table (map transition_view ts) c.requires.says) in
    placed-short table (record { values = c.args.values.now; inputs = c.args.inputs.now; given = c.as_slice.result.now }) [] ts c.args.placed.now c.in-Some-One.number c.requires.says short

pub offset_bounds-transitions-number : goal.offset_bounds-transitions-number
offset_bounds-transitions-number c =
    let table = names_view c.args.names.now in
    let ts = c.args.transitions.now in
    let same : c.in-Some-One.field-0 ≡ choice.One c.in-Some-One.number = first_of (cc, search rules) in
    let short = chosen-short table (record { values = c.args.values.now; inputs = c.args.inputs.now; given = c.as_slice.result.now }) [] ts [] c.in-Some-One.number (ap choice_view (sym same) ∙ c.in-Some-One.ensures table (map transition_view ts) c.requires.says) in
    first_of (search (rules, short), grind (arith, common_steps, short))

pub offset_bounds-placed-number : goal.offset_bounds-placed-number
offset_bounds-placed-number c =
    let table = names_view c.args.names.now in
    let ts = c.args.transitions.now in
    let same : c.in-Some-One.field-0 ≡ choice.One c.in-Some-One.number = first_of (cc, search rules) in
    let short = chosen-short table (record { values = c.args.values.now; inputs = c.args.inputs.now; given = c.as_slice.result.now }) [] ts [] c.in-Some-One.number (ap choice_view (sym same) ∙ c.in-Some-One.ensures table (map transition_view ts) c.requires.says) in
    let within = placed-short table (record { values = c.args.values.now; inputs = c.args.inputs.now; given = c.as_slice.result.now }) [] ts c.args.placed.now c.in-Some-One.number c.requires.says short in
    first_of (search (rules, within), grind (arith, common_steps, within))

pub returns-in-Some-clause-reaction : goal.returns-in-Some-clause-reaction
returns-in-Some-clause-reaction c mode =
    let table = names_view c.args.names.now in
    let ts = c.args.transitions.now in
    let same : c.in-Some-One.field-0 ≡ choice.One c.in-Some-One.number = first_of (cc, search rules) in
    let number = c.in-Some-One.number in
    let x = c.index-transitions-number.result in
    let now : Reads Token = record { values = c.args.values.now; inputs = c.args.inputs.now; given = c.args.given.items } in
    let made = ap choice_view (sym same) ∙ c.in-Some-One.ensures table (map transition_view ts) c.requires.says in
    let short = chosen-short table (record { values = c.args.values.now; inputs = c.args.inputs.now; given = c.as_slice.result.now }) [] ts [] number made in
    let within = placed-short table (record { values = c.args.values.now; inputs = c.args.inputs.now; given = c.as_slice.result.now }) [] ts c.args.placed.now number c.requires.says short in
    let says = each-at (λ q t. SaysTransition table q (transition_view t)) c.args.placed.now ts number c.index-placed-number.result x (view-each (λ q t. SaysTransition table q t) transition_view c.args.placed.now ts c.requires.says) within c.index-placed-number.is c.index-transitions-number.is in
    let told = subst (λ (o : Option (Vec Token Global × Vec ℤ Global)). IfSome o (λ (p : Vec Token Global × Vec ℤ Global). (names : NameTable) → SaysTransition names c.index-placed-number.result (transition_view x) → AreGiven (names_in names (record { values = c.args.values.now; inputs = c.args.inputs.now; given = c.as_slice.result.now })) (transition_view x).outputs p.1.items × (set_all names (transition_view x).sets c.args.inputs.now c.as_slice.result.now c.args.values.now ≡ (None, p.0.items)))) c.in-Some.is c.in_ok-taken-in-Some-One.ensures table says in
    let given : AreGiven (names_in table now) (transition_view x).outputs c.in-Some.puts.items = subst (λ (g : Streams Token). AreGiven (names_in table (record { values = c.args.values.now; inputs = c.args.inputs.now; given = g })) (transition_view x).outputs c.in-Some.puts.items) c.as_slice.ensures.value told.0 in
    let set : set_all table (transition_view x).sets now.inputs now.given now.values ≡ (None, c.in-Some.values.items) = subst (λ (g : Streams Token). set_all table (transition_view x).sets now.inputs g now.values ≡ (None, c.in-Some.values.items)) c.as_slice.ensures.value told.1 in
    let chose : modal.One number ≡ chosen 0 (tests_in (names_in table now) (map transition_view ts)) = subst (λ (g : Streams Token). modal.One number ≡ chosen 0 (tests_in (names_in table (record { values = c.args.values.now; inputs = c.args.inputs.now; given = g })) (map transition_view ts))) c.as_slice.ensures.value made in
    c.moved.ensures table now refl (subst (λ (ns : List ℤ). AreGiven (names_in table now) (transition_view x).outputs ns) (sym c.deref.ensures.value) given) set ∙ one-chosen table mode ts now (names_in table now) number x refl chose short c.index-transitions-number.is
