use Rattle.std.proofs.Common.{◌≡◌, ℕ, ◌+◌, ap, sym, subst, ◌∙◌, arith}
use Rattle.pt_value.specs.declared.token.Token.{Token}
use Rattle.pt_rv_work.specs.Core.{Moving, received_by}
use Rattle.pt_rv_plan.specs.declared.targets.Target.{Target}
use Rattle.pt_rv_plan.specs.Plan.{target_of}
use Rattle.pt_rv.specs.Parties.{MayReceive, inputs_of, outputs_of, moving_in, spare_at, less_at}
use Rattle.pt_rv.proofs.passing.deliver.Goals as goal

pub get-requires : goal.get-requires
get-requires c = let r = subst (λ (t : Target). MayReceive (target_of t) c.args.parties.now) c.in-Place.is c.requires in record { there = r.0; may = r.1 }

pub returns-in-Place-clause-moved : goal.returns-in-Place-clause-moved
returns-in-Place-clause-moved c =
    ap (λ ps. let m : Moving Token = record { processes = ps; inputs = inputs_of c.args.parties.now.inlets.items; outputs = outputs_of c.args.parties.now.outlets.items } in m) c.get.ensures ∙ ap (λ (t : Target). received_by c.args.token (target_of t) (moving_in c.args.parties.now)) (sym c.in-Place.is)

pub returns-in-Place-clause-room : goal.returns-in-Place-clause-room
returns-in-Place-clause-room c o = ap (λ (t : Target). spare_at c.args.parties.now.outlets.items o + less_at (target_of t) o) c.in-Place.is ∙ plus (spare_at c.args.parties.now.outlets.items o)
  where
    plus : (n : ℕ) → n + 0 ≡ n
    plus n = omega arith

pub put_on_outlet-requires : goal.put_on_outlet-requires
put_on_outlet-requires c = let r = subst (λ (t : Target). MayReceive (target_of t) c.args.parties.now) c.in-Outlet.is c.requires in record { there = r.0; room = r.1 }

pub returns-in-Outlet-clause-moved : goal.returns-in-Outlet-clause-moved
returns-in-Outlet-clause-moved c =
    ap (λ X. let m : Moving Token = record { processes = c.args.parties.now.team; inputs = inputs_of c.args.parties.now.inlets.items; outputs = X } in m) c.put_on_outlet.ensures.lists ∙ ap (λ (t : Target). received_by c.args.token (target_of t) (moving_in c.args.parties.now)) (sym c.in-Outlet.is)

pub returns-in-Outlet-clause-room : goal.returns-in-Outlet-clause-room
returns-in-Outlet-clause-room c o = ap (λ (t : Target). spare_at c.put_on_outlet.new.outlets.items o + less_at (target_of t) o) c.in-Outlet.is ∙ c.put_on_outlet.ensures.room o
