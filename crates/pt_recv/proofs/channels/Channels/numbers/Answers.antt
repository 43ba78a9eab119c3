use Rattle.std.proofs.Common.{◌≡◌, length, take, map, ap, ◌∙◌, sym, subst, arith}
use Rattle.pt_value.specs.declared.token.Token.TheVariants.{Int}
use Rattle.pt_recv.specs.Lines.{list_at}
use Rattle.pt_recv.proofs.FrontLaws.{run-is, in-lists, in-runs, taken-run}
use Rattle.pt_recv.proofs.channels.Channels.numbers.Goals as goal

pub index-requires : goal.index-requires
index-requires c = omega (arith, in-runs Int _ _ _ _ c.self.invariant.lists c.self.invariant.spares c.self.invariant.runs _ (ap (λ v. v.lists) c.self.view_is) c.args.c c.requires, c.self.inside.runs.ok.0)

pub returns : goal.returns
returns c =
    let held = c.self.invariant in
    let rs = c.self.inside.runs.items in
    let ls = c.self.inside.pool.lists in
    let ss = c.self.inside.pool.spares in
    let q = c.args.c in
    let seen = ap (λ v. v.lists) c.self.view_is in
    let in_lists = in-lists Int _ _ _ _ held.lists held.spares held.runs _ seen q c.requires in
    let in_runs = in-runs Int _ _ _ _ held.lists held.spares held.runs _ seen q c.requires in
    let is = run-is rs q in_runs c.index.result.now c.index.ensures ∙ sym c.as_slice.ensures in
    subst (λ v. map Int v ≡ take (length v) (list_at c.args.self.now.lists q)) is (taken-run Int rs ls q in_runs in_lists ∙ ap (λ v. take (length (list_at rs q)) (list_at v q)) seen)
