use Rattle.std.proofs.Common.{◌≡◌, ℕ, ◌<◌, List, map, length, sym, ap, subst, ◌∙◌, arith, rules}
use Rattle.std.proofs.lemmas.Grind.{common_steps}
use Rattle.std.proofs.lemmas.List.{length-map}
use Rattle.std.proofs.lemmas.Result.{IfOk-weaker}
use Rattle.pt_meaning.specs.Transitions.{Scope as Reads}
use Rattle.pt_meaning.specs.Modal.{Nothing, Wrong}
use Rattle.pt_meaning.specs.Streams.{Streams}
use Rattle.pt_firing.specs.RunFault.{code_of}
use Rattle.pt_value.specs.declared.token.Token.{Token}
use Rattle.pt_language.specs.Scope.{Scope}
use Rattle.pt_language.specs.Meaning.{value}
use Rattle.pt_expr.specs.Env.{scope_of}
use Rattle.pt_transitions.specs.declared.reaction.Reaction.{Reaction}
use Rattle.pt_chart.specs.Machine.{TransitionTree}
use Rattle.pt_chart.specs.Names.{names_in}
use Rattle.pt_guards.specs.Bindings.{scope_on}
use Rattle.pt_chart.specs.Typed.{types_of, is_typed_transition}
use Rattle.pt_chart.specs.Chart.{test_of}
use Rattle.pt_guards.specs.Choose.{AreRightGuards, tests_in, choice_view}
use Rattle.pt_chart.specs.Reacted.{by_actions}
use Rattle.pt_guards.specs.Acts.{acted, reacted_by}
use Rattle.pt_transitions.specs.Moves.{reaction_view}
use Rattle.pt_chart.specs.Views.{names_view, transition_view}
use Rattle.pt_guards.proofs.ChooseLaws.{chosen-there}
use Rattle.pt_guards.proofs.RightLaws.{right-guards, all-at}
use Rattle.pt_transitions.proofs.ReactLaws.{nothing-chosen, one-chosen}
use Rattle.pt_transitions.proofs.reaction.react_bound.Goals as goal

pub choose-requires : goal.choose-requires
choose-requires c =
    let table = names_view c.args.names.now in
    let s = scope_of c.bind.new.self.env in
    let reads : Reads Token = record { values = c.args.values.now; inputs = c.args.inputs.now; given = c.args.given.items } in
    let bound : s ≡ names_in table reads = c.in_ok-bind.ensures.bound ∙ ap (λ (g : Streams Token). scope_on table c.args.values.now c.args.inputs.now g) c.as_slice.ensures.value in
    let ts : List TransitionTree = map transition_view c.args.transitions.now in
    record { right = subst (λ (u : Scope). AreRightGuards u ts) (sym bound) (right-guards table reads ts c.requires.typed) }

pub bounds-transitions-number : goal.bounds-transitions-number
bounds-transitions-number c =
    let s = scope_of c.bind.new.self.env in
    let ts : List TransitionTree = map transition_view c.args.transitions.now in
    let is = sym c.in_ok-choose.ensures ∙ ap choice_view c.in-One.is in
    let there = (chosen-there 0 c.in-One.number (tests_in s ts) is).1 in
    omega (arith, there, length-map ts (λ t. test_of (value s t.guard)), length-map c.args.transitions.now transition_view)

pub take-requires : goal.take-requires
take-requires c =
    let table = names_view c.args.names.now in
    let s = scope_of c.bind.new.self.env in
    let reads : Reads Token = record { values = c.args.values.now; inputs = c.args.inputs.now; given = c.args.given.items } in
    let bound : s ≡ names_in table reads = c.in_ok-bind.ensures.bound ∙ ap (λ (g : Streams Token). scope_on table c.args.values.now c.args.inputs.now g) c.as_slice.ensures.value in
    let ts : List TransitionTree = map transition_view c.args.transitions.now in
    let is = sym c.in_ok-choose.ensures ∙ ap choice_view c.in-One.is in
    let there = (chosen-there 0 c.in-One.number (tests_in s ts) is).1 in
    let short : c.in-One.number < length c.args.transitions.now = omega (arith, there, length-map ts (λ t. test_of (value s t.guard)), length-map c.args.transitions.now transition_view) in
    record {
      typed = all-at (is_typed_transition (types_of table)) transition_view c.args.transitions.now c.in-One.number c.index-transitions-number.result c.requires.typed short c.index-transitions-number.is;
      fits = c.bind.ensures.fits;
      bound = (c.args.inputs.now, bound);
    }

pub returns-in-Nothing-clause-reaction : goal.returns-in-Nothing-clause-reaction
returns-in-Nothing-clause-reaction c mode =
    let table = names_view c.args.names.now in
    let s = scope_of c.bind.new.self.env in
    let reads : Reads Token = record { values = c.args.values.now; inputs = c.args.inputs.now; given = c.args.given.items } in
    let bound : s ≡ names_in table reads = c.in_ok-bind.ensures.bound ∙ ap (λ (g : Streams Token). scope_on table c.args.values.now c.args.inputs.now g) c.as_slice.ensures.value in
    let ts : List TransitionTree = map transition_view c.args.transitions.now in
    nothing-chosen table mode ts reads s Nothing bound (ap choice_view (sym c.in-Nothing.is) ∙ c.in_ok-choose.ensures)

pub returns-in-Wrong-clause-reaction : goal.returns-in-Wrong-clause-reaction
returns-in-Wrong-clause-reaction c mode =
    let table = names_view c.args.names.now in
    let s = scope_of c.bind.new.self.env in
    let reads : Reads Token = record { values = c.args.values.now; inputs = c.args.inputs.now; given = c.args.given.items } in
    let bound : s ≡ names_in table reads = c.in_ok-bind.ensures.bound ∙ ap (λ (g : Streams Token). scope_on table c.args.values.now c.args.inputs.now g) c.as_slice.ensures.value in
    let ts : List TransitionTree = map transition_view c.args.transitions.now in
    nothing-chosen table mode ts reads s (Wrong (code_of c.in-Wrong.fault)) bound (ap choice_view (sym c.in-Wrong.is) ∙ c.in_ok-choose.ensures)

pub returns-in-One-clause-reaction : goal.returns-in-One-clause-reaction
returns-in-One-clause-reaction c =
    let table = names_view c.args.names.now in
    let s = scope_of c.bind.new.self.env in
    let reads : Reads Token = record { values = c.args.values.now; inputs = c.args.inputs.now; given = c.args.given.items } in
    let bound : s ≡ names_in table reads = c.in_ok-bind.ensures.bound ∙ ap (λ (g : Streams Token). scope_on table c.args.values.now c.args.inputs.now g) c.as_slice.ensures.value in
    let ts : List TransitionTree = map transition_view c.args.transitions.now in
    let is = sym c.in_ok-choose.ensures ∙ ap choice_view c.in-One.is in
    let there = (chosen-there 0 c.in-One.number (tests_in s ts) is).1 in
    let short : c.in-One.number < length c.args.transitions.now = omega (arith, there, length-map ts (λ t. test_of (value s t.guard)), length-map c.args.transitions.now transition_view) in
    let x = c.index-transitions-number.result in
    IfOk-weaker c.take.result
    (λ (r : Reaction). (came : Streams Token) → s ≡ scope_on table c.args.values.now came c.args.given.items → reaction_view r ≡ by_actions x.target x.history (acted table (transition_view x) (record { values = c.args.values.now; inputs = came; given = c.args.given.items })))
    (λ (r : Reaction). (mode : ℕ) → reaction_view r ≡ reacted_by table mode ts reads)
    (λ r made mode. made c.args.inputs.now bound ∙ one-chosen table mode c.args.transitions.now reads s c.in-One.number x bound (sym is) short c.index-transitions-number.is)
    c.take.ensures.reaction

pub offset_bounds-transitions-number : goal.offset_bounds-transitions-number
offset_bounds-transitions-number c =
    let s = scope_of c.bind.new.self.env in
    let ts : List TransitionTree = map transition_view c.args.transitions.now in
    let is = sym c.in_ok-choose.ensures ∙ ap choice_view c.in-One.is in
    let there = (chosen-there 0 c.in-One.number (tests_in s ts) is).1 in
    let short : c.in-One.number < length c.args.transitions.now = omega (arith, there, length-map ts (λ t. test_of (value s t.guard)), length-map c.args.transitions.now transition_view) in
    first_of (search (rules, short), grind (arith, common_steps, short))
