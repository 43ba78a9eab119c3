use Rattle.std.proofs.Common.{[], length, get_or, ap, arith}
use Rattle.pt_value.specs.declared.token.Token.TheVariants.{Int}
use Rattle.pt_recv.proofs.FrontLaws.{run-is, in-lists, in-runs, length-list}
use Rattle.pt_recv.proofs.channels.Channels.len.Goals as goal

pub len-requires : goal.len-requires
len-requires c = in-lists Int _ _ _ _ c.self.invariant.lists c.self.invariant.spares c.self.invariant.runs _ (ap (λ v. v.lists) c.self.view_is) c.args.c c.requires

pub index-requires : goal.index-requires
index-requires c = omega (arith, in-runs Int _ _ _ _ c.self.invariant.lists c.self.invariant.spares c.self.invariant.runs _ (ap (λ v. v.lists) c.self.view_is) c.args.c c.requires, c.self.inside.runs.ok.0)

pub overflow_add-result : goal.overflow_add-result
overflow_add-result c =
    let held = c.self.invariant in
    let rs = c.self.inside.runs.items in
    let ls = c.self.inside.pool.lists in
    let ss = c.self.inside.pool.spares in
    let q = c.args.c in
    let seen = ap (λ v. v.lists) c.self.view_is in
    let in_runs = in-runs Int _ _ _ _ held.lists held.spares held.runs _ seen q c.requires in
    let is = ap (λ v. length v) (run-is rs q in_runs c.index.result.now c.index.ensures) in
    omega (arith, c.len.ensures, c.len-2.ensures, is, (held.covered q).kept, (held.covered q).counted)

pub returns : goal.returns
returns c =
    let held = c.self.invariant in
    let rs = c.self.inside.runs.items in
    let ls = c.self.inside.pool.lists in
    let ss = c.self.inside.pool.spares in
    let q = c.args.c in
    let seen = ap (λ v. v.lists) c.self.view_is in
    let in_lists = in-lists Int _ _ _ _ held.lists held.spares held.runs _ seen q c.requires in
    let in_runs = in-runs Int _ _ _ _ held.lists held.spares held.runs _ seen q c.requires in
    let is = ap (λ v. length v) (run-is rs q in_runs c.index.result.now c.index.ensures) in
    omega (arith, c.len.ensures, c.len-2.ensures, is, length-list Int rs ls q in_lists, ap (λ v. length (get_or v.lists q [])) c.self.view_is)
