use Rattle.std.proofs.Common.{◌≡◌, set, ap, ◌∙◌, subst, arith, Some, IfSome, slice_get, is_some, if◌then◌else◌}
use Rattle.pt_value.specs.declared.token.Token.TheVariants.{Int}
use Rattle.pt_recv.specs.Fronts.{joined, lessened}
use Rattle.pt_recv.specs.Lines.{list_at, popped, raised}
use Rattle.pt_recv.proofs.FrontLaws.{run-is, in-lists, in-runs, taken-first, taken-lists, taken-spares}
use Rattle.pt_recv.proofs.channels.Channels.take_apart.Goals as goal

pub index_mut-requires : goal.index_mut-requires
index_mut-requires c = omega (arith, in-runs Int _ _ _ _ c.self.invariant.lists c.self.invariant.spares c.self.invariant.runs _ (ap (λ v. v.lists) c.self.view_is) c.args.c c.requires, c.self.inside.runs.ok.0)

pub returns-clause-front : goal.returns-clause-front
returns-clause-front c =
    let held = c.self.invariant in
    let rs = c.self.inside.runs.items in
    let ls = c.self.inside.pool.lists in
    let ss = c.self.inside.pool.spares in
    let q = c.args.c in
    let seen = ap (λ v. v.lists) c.self.view_is in
    let in_lists = in-lists Int _ _ _ _ held.lists held.spares held.runs _ seen q c.requires in
    let in_runs = in-runs Int _ _ _ _ held.lists held.spares held.runs _ seen q c.requires in
    let is = run-is rs q in_runs c.index_mut.result.now c.index_mut.ensures.value in
    subst (λ v. IfSome c.take.result (λ n. slice_get (list_at v.lists q) 0 ≡ Some (Int n))) c.self.view_is (taken-first Int rs ls ss q in_runs in_lists _ is c.take.result c.take.ensures.front)

pub returns-clause-lists : goal.returns-clause-lists
returns-clause-lists c =
    let held = c.self.invariant in
    let rs = c.self.inside.runs.items in
    let ls = c.self.inside.pool.lists in
    let ss = c.self.inside.pool.spares in
    let q = c.args.c in
    let seen = ap (λ v. v.lists) c.self.view_is in
    let in_lists = in-lists Int _ _ _ _ held.lists held.spares held.runs _ seen q c.requires in
    let in_runs = in-runs Int _ _ _ _ held.lists held.spares held.runs _ seen q c.requires in
    let is = run-is rs q in_runs c.index_mut.result.now c.index_mut.ensures.value in
    ap (λ v. joined Int (set rs q v) ls) c.take.ensures.rest ∙ taken-lists Int rs ls ss q in_runs in_lists _ is c.take.result c.take.ensures.front
    ∙ ap (λ v. if is_some c.take.result then popped v.lists q else v.lists) c.self.view_is

pub returns-clause-spares : goal.returns-clause-spares
returns-clause-spares c =
    let held = c.self.invariant in
    let rs = c.self.inside.runs.items in
    let ls = c.self.inside.pool.lists in
    let ss = c.self.inside.pool.spares in
    let q = c.args.c in
    let seen = ap (λ v. v.lists) c.self.view_is in
    let in_lists = in-lists Int _ _ _ _ held.lists held.spares held.runs _ seen q c.requires in
    let in_runs = in-runs Int _ _ _ _ held.lists held.spares held.runs _ seen q c.requires in
    let is = run-is rs q in_runs c.index_mut.result.now c.index_mut.ensures.value in
    ap (λ v. lessened (set rs q v) ss) c.take.ensures.rest ∙ taken-spares Int rs ls ss q in_runs in_lists _ is c.take.result c.take.ensures.front held.covered
    ∙ ap (λ v. if is_some c.take.result then raised v.spares q else v.spares) c.self.view_is
