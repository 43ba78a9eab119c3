use Rattle.std.proofs.Common.{◌≡◌, ◌+◌, ◌^◌, ◌<◌, ◌≤◌, [], length, get_or, set, max, ap, ap₂, ◌∙◌, sym, subst, arith, is_ok, OnOk, if◌then◌else◌}
use Rattle.pt_value.specs.declared.token.Token.TheVariants.{Int}
use Rattle.pt_recv.specs.Fronts.{lessened}
use Rattle.pt_recv.specs.Lines.{spare_at}
use Rattle.pt_recv.proofs.FrontLaws.{run-is, in-lists, in-runs, in-spares, reserved-count, reserved-covered, reserved-spares, reserved-room}
use Rattle.pt_recv.proofs.channels.Channels.reserve.Goals as goal

pub len-waiting-requires : goal.len-waiting-requires
len-waiting-requires c = in-lists Int _ _ _ _ c.self.invariant.lists c.self.invariant.spares c.self.invariant.runs _ (ap (λ v. v.lists) c.self.view_is) c.args.c c.requires

pub index-requires : goal.index-requires
index-requires c = omega (arith, in-runs Int _ _ _ _ c.self.invariant.lists c.self.invariant.spares c.self.invariant.runs _ (ap (λ v. v.lists) c.self.view_is) c.args.c c.requires, c.self.inside.runs.ok.0)

pub reserve_run-requires : goal.reserve_run-requires
reserve_run-requires c = in-runs Int _ _ _ _ c.self.invariant.lists c.self.invariant.spares c.self.invariant.runs _ (ap (λ v. v.lists) c.self.view_is) c.args.c c.requires

pub reserve-requires : goal.reserve-requires
reserve-requires c = in-lists Int _ _ _ _ c.self.invariant.lists c.self.invariant.spares c.self.invariant.runs _ (ap (λ v. v.lists) c.self.view_is) c.args.c c.requires

pub invariant_of-self-2 : goal.invariant_of-self-2
invariant_of-self-2 c =
    let held = c.self.invariant in
    let rs = c.self.inside.runs.items in
    let ls = c.self.inside.pool.lists in
    let ss = c.self.inside.pool.spares in
    let q = c.args.c in
    let seen = ap (λ v. v.lists) c.self.view_is in
    let in_lists = in-lists Int _ _ _ _ held.lists held.spares held.runs _ seen q c.requires in
    let in_runs = in-runs Int _ _ _ _ held.lists held.spares held.runs _ seen q c.requires in
    let in_spares = in-spares Int _ _ _ _ held.lists held.spares held.runs _ seen q c.requires in
    let n = c.args.n in
    let cells = c.in-Some.cells in
    let is : cells ≡ n + length (get_or rs q []) = omega (arith, c.in-Some.ensures, c.len.ensures, ap (λ v. length v) (run-is rs q in_runs c.index.result.now c.index.ensures)) in
    let b = is_ok c.reserve.result in
    let counted : length (get_or ls q []) + cells < 2 ^ 64 = omega (arith, c.in-Some-checked_add.ensures, c.len-waiting.ensures) in
    rw (c.reserve_run.ensures, c.reserve.ensures.lists, c.reserve.ensures.spares) record {
      lists = held.lists;
      spares = reserved-count rs ls ss q in_runs in_lists in_spares n cells is b ∙ held.spares;
      runs = held.runs;
      covered = reserved-covered rs ls ss q in_runs in_lists in_spares n cells is held.covered counted b;
    }

pub returns-clause-spares : goal.returns-clause-spares
returns-clause-spares c =
    let held = c.self.invariant in
    let rs = c.self.inside.runs.items in
    let ls = c.self.inside.pool.lists in
    let ss = c.self.inside.pool.spares in
    let q = c.args.c in
    let seen = ap (λ v. v.lists) c.self.view_is in
    let in_lists = in-lists Int _ _ _ _ held.lists held.spares held.runs _ seen q c.requires in
    let in_runs = in-runs Int _ _ _ _ held.lists held.spares held.runs _ seen q c.requires in
    let in_spares = in-spares Int _ _ _ _ held.lists held.spares held.runs _ seen q c.requires in
    let n = c.args.n in
    let cells = c.in-Some.cells in
    let is : cells ≡ n + length (get_or rs q []) = omega (arith, c.in-Some.ensures, c.len.ensures, ap (λ v. length v) (run-is rs q in_runs c.index.result.now c.index.ensures)) in
    let b = is_ok c.reserve.result in
    ap₂ lessened c.reserve_run.ensures c.reserve.ensures.spares ∙ reserved-spares rs ls ss q in_runs in_lists in_spares n cells is b ∙ ap (λ v. if b then set v.spares q (max n (spare_at v.spares q)) else v.spares) c.self.view_is

pub returns-clause-room : goal.returns-clause-room
returns-clause-room c =
    let held = c.self.invariant in
    let rs = c.self.inside.runs.items in
    let ls = c.self.inside.pool.lists in
    let ss = c.self.inside.pool.spares in
    let q = c.args.c in
    let seen = ap (λ v. v.lists) c.self.view_is in
    let in_lists = in-lists Int _ _ _ _ held.lists held.spares held.runs _ seen q c.requires in
    let in_runs = in-runs Int _ _ _ _ held.lists held.spares held.runs _ seen q c.requires in
    let in_spares = in-spares Int _ _ _ _ held.lists held.spares held.runs _ seen q c.requires in
    let n = c.args.n in
    let cells = c.in-Some.cells in
    let is : cells ≡ n + length (get_or rs q []) = omega (arith, c.in-Some.ensures, c.len.ensures, ap (λ v. length v) (run-is rs q in_runs c.index.result.now c.index.ensures)) in
    let b = is_ok c.reserve.result in
    subst (λ v. OnOk c.reserve.result (n ≤ spare_at v q)) (sym (ap₂ lessened c.reserve_run.ensures c.reserve.ensures.spares)) (reserved-room rs ls ss q in_runs in_lists in_spares n cells is c.reserve.result)
