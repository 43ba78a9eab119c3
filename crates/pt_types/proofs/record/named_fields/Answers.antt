use Rattle.std.proofs.Common.{◌≡◌, [], ◌∷◌, ◌++◌, rules}
use Rattle.std.proofs.lemmas.List.Elements.{All-push}
use Rattle.pt_types.specs.declared.record.FieldTy.{FieldTy}
use Rattle.pt_value.specs.Name.{IsName}
use Rattle.pt_types.proofs.Records.{entries-push, Contains-left}
use Rattle.pt_types.proofs.record.named_fields.Goals as goal

pub returns-then-not-is_name-clause-err : goal.returns-then-not-is_name-clause-err
returns-then-not-is_name-clause-err c =
    (Contains-left c.loop-name.list.items (c.in-Some.name, c.in-Some.ty) _ c.args.fields.items (rw c.in-Some.ensures.steps.0 at c.loop-name.invariant.2), search rules)

pub loop-name-preserved : goal.loop-name-preserved
loop-name-preserved c =
    let e : c.push.new.self.items ≡ c.loop-name.list.items ++ record { name = c.in-Some.name; ty = c.in-Some.ty } ∷ [] = search rules in
    rw e
    (search rules, search rules, entries-push c.loop-name.list.items (c.in-Some.name, c.in-Some.ty) _ c.args.fields.items (rw c.in-Some.ensures.steps.0 at c.loop-name.invariant.2), All-push (λ (f : FieldTy). IsName f.name) _ _ c.loop-name.invariant.3 (search rules))
