use Rattle.std.proofs.Common.{ℤ, w64, SFits, rules, set, ap, ap₂, ◌∙◌, sym, arith, Option, Some, is_some, if◌then◌else◌, slice_get}
use Rattle.std.proofs.lemmas.Int.{to_z-of_z}
use Rattle.pt_value.specs.declared.token.Token.TheVariants.{Int}
use Rattle.pt_recv.specs.Fronts.{joined, lessened}
use Rattle.pt_recv.specs.Lines.{list_at, popped, raised}
use Rattle.pt_recv.proofs.FrontLaws.{run-is, in-lists, in-runs, taken-first, taken-lists, taken-spares, none-taken, first-behind, popped-behind, behind-spares}
use Rattle.pt_recv.proofs.channels.Channels.take.Goals as goal

pub index_mut-requires : goal.index_mut-requires
index_mut-requires c = omega (arith, in-runs Int _ _ _ _ c.self.invariant.lists c.self.invariant.spares c.self.invariant.runs _ (ap (λ v. v.lists) c.self.view_is) c.args.c c.requires, c.self.inside.runs.ok.0)

pub pop-requires : goal.pop-requires
pop-requires c = in-lists Int _ _ _ _ c.self.invariant.lists c.self.invariant.spares c.self.invariant.runs _ (ap (λ v. v.lists) c.self.view_is) c.args.c c.requires

pub returns-in-Some-clause-front : goal.returns-in-Some-clause-front
returns-in-Some-clause-front c =
    let held = c.self.invariant in
    let rs = c.self.inside.runs.items in
    let ls = c.self.inside.pool.lists in
    let ss = c.self.inside.pool.spares in
    let q = c.args.c in
    let seen = ap (λ v. v.lists) c.self.view_is in
    let in_lists = in-lists Int _ _ _ _ held.lists held.spares held.runs _ seen q c.requires in
    let in_runs = in-runs Int _ _ _ _ held.lists held.spares held.runs _ seen q c.requires in
    let is = run-is rs q in_runs c.index_mut.result.now c.index_mut.ensures.value in
    let first = sym c.in-Some.is ∙ c.take.ensures.front in
    let o : Option ℤ = Some c.in-Some.n in
    let fits : SFits w64 c.in-Some.n = search rules in
    ap (λ n. Some (Int n)) (to_z-of_z w64 c.in-Some.n fits) ∙ sym (taken-first Int rs ls ss q in_runs in_lists _ is o first) ∙ ap (λ v. slice_get (list_at v q) 0) seen

pub returns-in-Some-clause-lists : goal.returns-in-Some-clause-lists
returns-in-Some-clause-lists c =
    let held = c.self.invariant in
    let rs = c.self.inside.runs.items in
    let ls = c.self.inside.pool.lists in
    let ss = c.self.inside.pool.spares in
    let q = c.args.c in
    let seen = ap (λ v. v.lists) c.self.view_is in
    let in_lists = in-lists Int _ _ _ _ held.lists held.spares held.runs _ seen q c.requires in
    let in_runs = in-runs Int _ _ _ _ held.lists held.spares held.runs _ seen q c.requires in
    let is = run-is rs q in_runs c.index_mut.result.now c.index_mut.ensures.value in
    let first = sym c.in-Some.is ∙ c.take.ensures.front in
    let o : Option ℤ = Some c.in-Some.n in
    ap (λ v. joined Int (set rs q v) ls) c.take.ensures.rest ∙ taken-lists Int rs ls ss q in_runs in_lists _ is o first ∙ ap (λ v. popped v q) seen

pub returns-in-Some-clause-spares : goal.returns-in-Some-clause-spares
returns-in-Some-clause-spares c =
    let held = c.self.invariant in
    let rs = c.self.inside.runs.items in
    let ls = c.self.inside.pool.lists in
    let ss = c.self.inside.pool.spares in
    let q = c.args.c in
    let seen = ap (λ v. v.lists) c.self.view_is in
    let in_lists = in-lists Int _ _ _ _ held.lists held.spares held.runs _ seen q c.requires in
    let in_runs = in-runs Int _ _ _ _ held.lists held.spares held.runs _ seen q c.requires in
    let is = run-is rs q in_runs c.index_mut.result.now c.index_mut.ensures.value in
    let first = sym c.in-Some.is ∙ c.take.ensures.front in
    let o : Option ℤ = Some c.in-Some.n in
    ap (λ v. lessened (set rs q v) ss) c.take.ensures.rest ∙ taken-spares Int rs ls ss q in_runs in_lists _ is o first held.covered ∙ ap (λ v. raised v.spares q) c.self.view_is

pub returns-in-None-clause-front : goal.returns-in-None-clause-front
returns-in-None-clause-front c =
    let held = c.self.invariant in
    let rs = c.self.inside.runs.items in
    let ls = c.self.inside.pool.lists in
    let ss = c.self.inside.pool.spares in
    let q = c.args.c in
    let seen = ap (λ v. v.lists) c.self.view_is in
    let in_lists = in-lists Int _ _ _ _ held.lists held.spares held.runs _ seen q c.requires in
    let in_runs = in-runs Int _ _ _ _ held.lists held.spares held.runs _ seen q c.requires in
    let is = run-is rs q in_runs c.index_mut.result.now c.index_mut.ensures.value in
    let none = none-taken Int rs ls ss q in_runs in_lists _ is (sym c.in-None.is ∙ c.take.ensures.front) in
    c.pop.ensures.front ∙ sym (first-behind Int rs ls q in_runs in_lists none.0) ∙ ap (λ v. slice_get (list_at v q) 0) seen

pub returns-in-None-clause-lists : goal.returns-in-None-clause-lists
returns-in-None-clause-lists c =
    let held = c.self.invariant in
    let rs = c.self.inside.runs.items in
    let ls = c.self.inside.pool.lists in
    let ss = c.self.inside.pool.spares in
    let q = c.args.c in
    let seen = ap (λ v. v.lists) c.self.view_is in
    let in_lists = in-lists Int _ _ _ _ held.lists held.spares held.runs _ seen q c.requires in
    let in_runs = in-runs Int _ _ _ _ held.lists held.spares held.runs _ seen q c.requires in
    let is = run-is rs q in_runs c.index_mut.result.now c.index_mut.ensures.value in
    let none = none-taken Int rs ls ss q in_runs in_lists _ is (sym c.in-None.is ∙ c.take.ensures.front) in
    let same = ap (λ v. set rs q v) c.take.ensures.rest ∙ none.1 in
    ap₂ (joined Int) same c.pop.ensures.lists ∙ popped-behind Int rs ls q in_runs in_lists none.0 ∙ ap (λ v. popped v q) seen

pub returns-in-None-clause-spares : goal.returns-in-None-clause-spares
returns-in-None-clause-spares c =
    let held = c.self.invariant in
    let rs = c.self.inside.runs.items in
    let ls = c.self.inside.pool.lists in
    let ss = c.self.inside.pool.spares in
    let q = c.args.c in
    let seen = ap (λ v. v.lists) c.self.view_is in
    let in_lists = in-lists Int _ _ _ _ held.lists held.spares held.runs _ seen q c.requires in
    let in_runs = in-runs Int _ _ _ _ held.lists held.spares held.runs _ seen q c.requires in
    let is = run-is rs q in_runs c.index_mut.result.now c.index_mut.ensures.value in
    let none = none-taken Int rs ls ss q in_runs in_lists _ is (sym c.in-None.is ∙ c.take.ensures.front) in
    let same = ap (λ v. set rs q v) c.take.ensures.rest ∙ none.1 in
    ap₂ lessened same c.pop.ensures.spares ∙ behind-spares rs ss q in_runs none.0 (is_some c.pop.result) ∙ ap (λ v. if is_some c.pop.result then raised v.spares q else v.spares) c.self.view_is
