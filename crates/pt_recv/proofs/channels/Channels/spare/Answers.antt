use Rattle.std.proofs.Common.{length, get_or, ap, arith}
use Rattle.pt_value.specs.declared.token.Token.TheVariants.{Int}
use Rattle.pt_recv.proofs.FrontLaws.{run-is, in-lists, in-runs, lessened-at}
use Rattle.pt_recv.proofs.channels.Channels.spare.Goals as goal

pub spare-requires : goal.spare-requires
spare-requires c = in-lists Int _ _ _ _ c.self.invariant.lists c.self.invariant.spares c.self.invariant.runs _ (ap (λ v. v.lists) c.self.view_is) c.args.c c.requires

pub index-requires : goal.index-requires
index-requires c = omega (arith, in-runs Int _ _ _ _ c.self.invariant.lists c.self.invariant.spares c.self.invariant.runs _ (ap (λ v. v.lists) c.self.view_is) c.args.c c.requires, c.self.inside.runs.ok.0)

pub overflow_sub-result : goal.overflow_sub-result
overflow_sub-result c =
    let held = c.self.invariant in
    let rs = c.self.inside.runs.items in
    let ls = c.self.inside.pool.lists in
    let ss = c.self.inside.pool.spares in
    let q = c.args.c in
    let seen = ap (λ v. v.lists) c.self.view_is in
    let in_runs = in-runs Int _ _ _ _ held.lists held.spares held.runs _ seen q c.requires in
    let is = ap (λ v. length v) (run-is rs q in_runs c.index.result.now c.index.ensures) in
    omega (arith, c.spare.ensures, c.len.ensures, is, (held.covered q).kept)

pub returns : goal.returns
returns c =
    let held = c.self.invariant in
    let rs = c.self.inside.runs.items in
    let ls = c.self.inside.pool.lists in
    let ss = c.self.inside.pool.spares in
    let q = c.args.c in
    let seen = ap (λ v. v.lists) c.self.view_is in
    let in_runs = in-runs Int _ _ _ _ held.lists held.spares held.runs _ seen q c.requires in
    let is = ap (λ v. length v) (run-is rs q in_runs c.index.result.now c.index.ensures) in
    omega (arith, c.spare.ensures, c.len.ensures, is, lessened-at rs ss q, ap (λ v. get_or v.spares q 0) c.self.view_is)
