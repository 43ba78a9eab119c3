use Rattle.std.proofs.Common.{◌+◌, ◌≤◌, [], length, get_or, set, drop, ap, ◌∙◌, sym, arith}
use Rattle.pt_value.specs.declared.token.Token.TheVariants.{Int}
use Rattle.pt_recv.specs.Fronts.{joined, lessened}
use Rattle.pt_recv.specs.Lines.{list_at, spare_at}
use Rattle.pt_recv.proofs.FrontLaws.{run-is, in-lists, in-runs, dropped-run, raised-run}
use Rattle.pt_recv.proofs.channels.Channels.skip_apart.Goals as goal

pub index-requires : goal.index-requires
index-requires c = omega (arith, in-runs Int _ _ _ _ c.self.invariant.lists c.self.invariant.spares c.self.invariant.runs _ (ap (λ v. v.lists) c.self.view_is) c.args.c c.requires, c.self.inside.runs.ok.0)

pub index_mut-requires : goal.index_mut-requires
index_mut-requires c = omega (arith, in-runs Int _ _ _ _ c.self.invariant.lists c.self.invariant.spares c.self.invariant.runs _ (ap (λ v. v.lists) c.self.view_is) c.args.c c.requires, c.self.inside.runs.ok.0)

pub skip-requires : goal.skip-requires
skip-requires c =
    let held = c.self.invariant in
    let rs = c.self.inside.runs.items in
    let ls = c.self.inside.pool.lists in
    let ss = c.self.inside.pool.spares in
    let q = c.args.c in
    let seen = ap (λ v. v.lists) c.self.view_is in
    let in_runs = in-runs Int _ _ _ _ held.lists held.spares held.runs _ seen q c.requires in
    let few : c.args.n ≤ length (get_or rs q []) = omega (arith, c.if-n-len.false, c.len.ensures, ap (λ v. length v) (run-is rs q in_runs c.index.result.now c.index.ensures)) in
    let is = run-is rs q in_runs c.index_mut.result.now c.index_mut.ensures.value in
    omega (arith, few, ap (λ v. length v) is)

pub returns-clause-lists : goal.returns-clause-lists
returns-clause-lists c =
    let held = c.self.invariant in
    let rs = c.self.inside.runs.items in
    let ls = c.self.inside.pool.lists in
    let ss = c.self.inside.pool.spares in
    let q = c.args.c in
    let seen = ap (λ v. v.lists) c.self.view_is in
    let in_lists = in-lists Int _ _ _ _ held.lists held.spares held.runs _ seen q c.requires in
    let in_runs = in-runs Int _ _ _ _ held.lists held.spares held.runs _ seen q c.requires in
    let few : c.args.n ≤ length (get_or rs q []) = omega (arith, c.if-n-len.false, c.len.ensures, ap (λ v. length v) (run-is rs q in_runs c.index.result.now c.index.ensures)) in
    let is = run-is rs q in_runs c.index_mut.result.now c.index_mut.ensures.value in
    ap (λ v. joined Int (set rs q v) ls) (c.skip.ensures ∙ ap (λ v. drop c.args.n v) (sym is)) ∙ dropped-run Int rs ls q in_runs in_lists c.args.n few ∙ ap (λ v. set v q (drop c.args.n (list_at v q))) seen

pub returns-clause-spares : goal.returns-clause-spares
returns-clause-spares c =
    let held = c.self.invariant in
    let rs = c.self.inside.runs.items in
    let ls = c.self.inside.pool.lists in
    let ss = c.self.inside.pool.spares in
    let q = c.args.c in
    let seen = ap (λ v. v.lists) c.self.view_is in
    let in_runs = in-runs Int _ _ _ _ held.lists held.spares held.runs _ seen q c.requires in
    let few : c.args.n ≤ length (get_or rs q []) = omega (arith, c.if-n-len.false, c.len.ensures, ap (λ v. length v) (run-is rs q in_runs c.index.result.now c.index.ensures)) in
    let is = run-is rs q in_runs c.index_mut.result.now c.index_mut.ensures.value in
    ap (λ v. lessened (set rs q v) ss) (c.skip.ensures ∙ ap (λ v. drop c.args.n v) (sym is)) ∙ raised-run rs ss q in_runs c.args.n few (held.covered q).kept ∙ ap (λ v. set v.spares q (spare_at v.spares q + c.args.n)) c.self.view_is
