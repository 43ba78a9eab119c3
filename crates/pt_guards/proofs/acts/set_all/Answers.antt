use Rattle.std.proofs.Common.{◌≡◌, ◌+◌, ℕ, List, map, length, sym, ap, ◌∙◌, None, Some, Option, true}
use Rattle.std.specs.Prelude.{option_map}
use Rattle.std.proofs.lemmas.Bool.{lt-ltb}
use Rattle.pt_meaning.specs.Transitions.{Scope as Reads}
use Rattle.pt_value.specs.declared.token.Token.{Token}
use Rattle.pt_language.specs.Expr.{tree_of}
use Rattle.pt_language.specs.Scope.{Scope}
use Rattle.pt_language.specs.Meaning.{value}
use Rattle.pt_expr.specs.Env.{scope_of}
use Rattle.pt_firing.specs.RunFault.{code_of}
use Rattle.pt_firing.specs.declared.fault.RunFault.{RunFault}
use Rattle.pt_chart.specs.Typed.{types_of, is_typed}
use Rattle.pt_guards.specs.Acts.{set_all}
use Rattle.pt_chart.specs.Views.{action_view, names_view}
use Rattle.pt_guards.proofs.RightLaws.{never-wrong, all-at}
use Rattle.pt_guards.proofs.ActLaws.{set-next, none-left}
use Rattle.pt_guards.proofs.acts.set_all.Goals as goal

pub set_one-requires : goal.set_one-requires
set_one-requires c =
    let table = names_view c.args.names.now in
    let b = c.requires.bound in
    let reads : Reads Token = record { values = c.loop-number.values.items; inputs = b.came; given = b.given } in
    let bound = c.loop-number.invariant.bound b.came b.given b.is c.loop-number-test.true in
    let tree = tree_of c.index-actions-number.result.value in
    let typed : is_typed (types_of table) tree ≡ true = all-at (λ a. is_typed (types_of table) a.tree) action_view c.args.actions.now c.loop-number.number c.index-actions-number.result c.requires.typed c.loop-number-test.true c.index-actions-number.is in
    record {
      right = λ wrong. never-wrong table reads tree typed (ap (λ (s : Scope). value s tree) (sym bound) ∙ wrong);
      fits = c.loop-number.invariant.fits;
    }

pub loop-number-preserved : goal.loop-number-preserved
loop-number-preserved c =
    let table = names_view c.args.names.now in
    let values : List Token = c.set_one.new.values.items in
    record {
      fits = c.set_one.ensures.fits;
      bound = λ came given is more. c.in_ok-fault.ensures.bound (lt-ltb (c.loop-number.number + 1) (length c.args.actions.now) more) came given (c.loop-number.invariant.bound came given is c.loop-number-test.true);
      rest = λ came given is.
          c.loop-number.invariant.rest came given is
          ∙ set-next table came given (scope_of c.loop-number.bindings.env) c.args.actions.now c.loop-number.number c.index-actions-number.result c.loop-number.values.items (None, values) c.loop-number-test.true c.index-actions-number.is (c.loop-number.invariant.bound came given is c.loop-number-test.true)
          (c.in_ok-fault.ensures.set ∙ ap (λ (o : Option RunFault). let r : Option ℕ × List Token = (option_map code_of o, values) in r) c.in_default.is);
    }

pub returns-in-Some-clause-set : goal.returns-in-Some-clause-set
returns-in-Some-clause-set c came given is =
    let table = names_view c.args.names.now in
    let values : List Token = c.set_one.new.values.items in
    c.loop-number.invariant.rest came given is
    ∙ set-next table came given (scope_of c.loop-number.bindings.env) c.args.actions.now c.loop-number.number c.index-actions-number.result c.loop-number.values.items (Some (code_of c.in-Some.fault), values) c.loop-number-test.true c.index-actions-number.is (c.loop-number.invariant.bound came given is c.loop-number-test.true)
    (c.in_ok-fault.ensures.set ∙ ap (λ (o : Option RunFault). let r : Option ℕ × List Token = (option_map code_of o, values) in r) c.in-Some.is)

pub returns-clause-set : goal.returns-clause-set
returns-clause-set c came given is = c.loop-number.invariant.rest came given is ∙ ap (λ xs. set_all (names_view c.args.names.now) (map action_view xs) came given c.loop-number.values.items) (none-left c.args.actions.now c.loop-number.number c.loop-number-test.false)
