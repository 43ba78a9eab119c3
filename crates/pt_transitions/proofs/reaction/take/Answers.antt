use Rattle.std.proofs.Common.{◌≡◌, ℕ, List, None, Some, Option, true, map, sym, ap, subst, ◌∙◌, refl}
use Rattle.std.specs.Prelude.{option_map}
use Rattle.pt_meaning.specs.Streams.{Streams}
use Rattle.pt_meaning.specs.Transitions.{Scope as Reads}
use Rattle.pt_value.specs.declared.token.Token.{Token}
use Rattle.pt_language.specs.Scope.{Scope}
use Rattle.pt_expr.specs.Env.{scope_of}
use Rattle.pt_firing.specs.RunFault.{code_of}
use Rattle.pt_firing.specs.declared.fault.RunFault.{RunFault}
use Rattle.pt_chart.specs.declared.written.Action.{Action}
use Rattle.pt_chart.specs.Names.{names_in}
use Rattle.pt_guards.specs.Bindings.{scope_on}
use Rattle.pt_chart.specs.Typed.{types_of, are_typed_actions}
use Rattle.pt_chart.specs.Reacted.{by_actions}
use Rattle.pt_guards.specs.Acts.{AreRight}
use Rattle.pt_chart.specs.Views.{names_view, transition_view, action_view}
use Rattle.pt_guards.proofs.RightLaws.{right-actions, typed-outputs, typed-sets}
use Rattle.pt_guards.proofs.ActLaws.{acted-put-fails, acted-set-fails, acted-all, put-as, set-as}
use Rattle.pt_transitions.proofs.reaction.take.Goals as goal

pub put_all-requires : goal.put_all-requires
put_all-requires c =
    let table = names_view c.args.names.now in
    let reads : Reads Token = record { values = c.args.values.now; inputs = c.requires.bound.0; given = c.args.given.items } in
    let t = transition_view c.args.transition.now in
    let right = right-actions table reads t.outputs (typed-outputs (types_of table) t c.requires.typed) in
    let there = subst (λ (s : Scope). AreRight s t.outputs) (sym c.requires.bound.1) right in
    record { right = subst (λ (xs : List Action). AreRight (scope_of c.args.bindings.now.env) (map action_view xs)) (sym c.deref.ensures.value) there }

pub set_all-requires : goal.set_all-requires
set_all-requires c =
    let table = names_view c.args.names.now in
    let t = transition_view c.args.transition.now in
    record {
      typed = subst (λ (xs : List Action). are_typed_actions (types_of table) (map action_view xs) ≡ true) (sym c.as_slice-sets.ensures.value) (typed-sets (types_of table) t c.requires.typed);
      fits = c.requires.fits;
      bound = record { came = c.requires.bound.0; given = c.args.given.items; is = c.requires.bound.1 ∙ ap (λ (vs : List Token). scope_on table vs c.requires.bound.0 c.args.given.items) (sym c.in_ok-values.ensures) };
    }

pub returns-in-Some-clause-reaction : goal.returns-in-Some-clause-reaction
returns-in-Some-clause-reaction c came bound =
    let table = names_view c.args.names.now in
    let reads : Reads Token = record { values = c.args.values.now; inputs = came; given = c.args.given.items } in
    let t = transition_view c.args.transition.now in
    let out : Streams Token = c.put_all.new.outputs.items in
    let put = put-as (names_in table reads) (scope_of c.args.bindings.now.env) t.outputs (map action_view c.deref.result.now) c.args.given.items c.args.given.items (Some (code_of c.in-Some.fault), out) bound (ap (λ (xs : List Action). map action_view xs) c.deref.ensures.value) refl
    (c.in_ok-fault.ensures ∙ ap (λ (o : Option RunFault). let r : Option ℕ × Streams Token = (option_map code_of o, out) in r) c.in-Some.is) in
    sym (ap (by_actions t.target t.history) (acted-put-fails table t reads (code_of c.in-Some.fault) out put))

pub returns-in-Some-2-clause-reaction : goal.returns-in-Some-2-clause-reaction
returns-in-Some-2-clause-reaction c came bound =
    let table = names_view c.args.names.now in
    let reads : Reads Token = record { values = c.args.values.now; inputs = came; given = c.args.given.items } in
    let t = transition_view c.args.transition.now in
    let out : Streams Token = c.put_all.new.outputs.items in
    let values : List Token = c.set_all.new.values.items in
    let there = bound ∙ ap (λ (vs : List Token). scope_on table vs came c.args.given.items) (sym c.in_ok-values.ensures) in
    let put = put-as (names_in table reads) (scope_of c.args.bindings.now.env) t.outputs (map action_view c.deref.result.now) c.args.given.items c.args.given.items (None, out) bound (ap (λ (xs : List Action). map action_view xs) c.deref.ensures.value) refl
    (c.in_ok-fault.ensures ∙ ap (λ (o : Option RunFault). let r : Option ℕ × Streams Token = (option_map code_of o, out) in r) c.in_default.is) in
    let set = set-as table came c.args.given.items t.sets (map action_view c.as_slice-sets.result.now) c.args.values.now c.in_ok-values.values.items (Some (code_of c.in-Some-2.fault), values) (ap (λ (xs : List Action). map action_view xs) c.as_slice-sets.ensures.value) c.in_ok-values.ensures
    (c.in_ok-fault-2.ensures.set came c.args.given.items there ∙ ap (λ (o : Option RunFault). let r : Option ℕ × List Token = (option_map code_of o, values) in r) c.in-Some-2.is) in
    sym (ap (by_actions t.target t.history) (acted-set-fails table t reads (code_of c.in-Some-2.fault) out values put set))

pub returns-clause-reaction : goal.returns-clause-reaction
returns-clause-reaction c came bound =
    let table = names_view c.args.names.now in
    let reads : Reads Token = record { values = c.args.values.now; inputs = came; given = c.args.given.items } in
    let t = transition_view c.args.transition.now in
    let out : Streams Token = c.put_all.new.outputs.items in
    let values : List Token = c.set_all.new.values.items in
    let there = bound ∙ ap (λ (vs : List Token). scope_on table vs came c.args.given.items) (sym c.in_ok-values.ensures) in
    let put = put-as (names_in table reads) (scope_of c.args.bindings.now.env) t.outputs (map action_view c.deref.result.now) c.args.given.items c.args.given.items (None, out) bound (ap (λ (xs : List Action). map action_view xs) c.deref.ensures.value) refl
    (c.in_ok-fault.ensures ∙ ap (λ (o : Option RunFault). let r : Option ℕ × Streams Token = (option_map code_of o, out) in r) c.in_default.is) in
    let set = set-as table came c.args.given.items t.sets (map action_view c.as_slice-sets.result.now) c.args.values.now c.in_ok-values.values.items (None, values) (ap (λ (xs : List Action). map action_view xs) c.as_slice-sets.ensures.value) c.in_ok-values.ensures
    (c.in_ok-fault-2.ensures.set came c.args.given.items there ∙ ap (λ (o : Option RunFault). let r : Option ℕ × List Token = (option_map code_of o, values) in r) c.in_default-2.is) in
    sym (ap (by_actions t.target t.history) (acted-all table t reads out values put set))
