use Rattle.std.proofs.Common.{◌≡◌, w64, SFits, rules, length, get_or, ap, ◌∙◌, sym, arith, Some, slice_get, []}
use Rattle.std.proofs.lemmas.Int.{to_z-of_z}
use Rattle.std.proofs.lemmas.List.{nil_from_length}
use Rattle.pt_value.specs.declared.token.Token.TheVariants.{Int}
use Rattle.pt_recv.specs.Lines.{list_at}
use Rattle.pt_recv.proofs.FrontLaws.{run-is, in-lists, in-runs, first-behind}
use Rattle.pt_recv.proofs.channels.Channels.first_behind.Goals as goal

pub index-requires : goal.index-requires
index-requires c = omega (arith, in-runs Int _ _ _ _ c.self.invariant.lists c.self.invariant.spares c.self.invariant.runs _ (ap (λ v. v.lists) c.self.view_is) c.args.c c.requires, c.self.inside.runs.ok.0)

pub items-requires : goal.items-requires
items-requires c = in-lists Int _ _ _ _ c.self.invariant.lists c.self.invariant.spares c.self.invariant.runs _ (ap (λ v. v.lists) c.self.view_is) c.args.c c.requires

pub returns-in-Some-Int : goal.returns-in-Some-Int
returns-in-Some-Int c =
    let held = c.self.invariant in
    let rs = c.self.inside.runs.items in
    let ls = c.self.inside.pool.lists in
    let ss = c.self.inside.pool.spares in
    let q = c.args.c in
    let seen = ap (λ v. v.lists) c.self.view_is in
    let in_lists = in-lists Int _ _ _ _ held.lists held.spares held.runs _ seen q c.requires in
    let in_runs = in-runs Int _ _ _ _ held.lists held.spares held.runs _ seen q c.requires in
    let is = run-is rs q in_runs c.index.result.now c.index.ensures in
    let none : get_or rs q [] ≡ [] = nil_from_length (get_or rs q []) (omega (arith, ap (λ v. length v) is)) in
    let fits : SFits w64 c.in-Some-Int.n = search rules in
    ap (λ v. slice_get (list_at v q) 0) (sym seen)
    ∙ first-behind Int rs ls q in_runs in_lists none
    ∙ ap (λ v. slice_get v 0) (sym c.items.ensures ∙ c.in-Some-Int.ensures.steps)
    ∙ ap (λ v. Some v) c.in-Some-Int.field-0-is
    ∙ ap (λ n. Some (Int n)) (sym (to_z-of_z w64 c.in-Some-Int.n fits))
