use Rattle.std.proofs.Common.{◌+◌, ◌-◌, ◌^◌, ◌<◌, [], ◌∷◌, ◌++◌, length, get_or, ap, ◌∙◌, arith, length-set, length-append}
use Rattle.pt_value.specs.declared.token.Token.TheVariants.{Int}
use Rattle.pt_recv.specs.Fronts.{joined, lessened}
use Rattle.pt_recv.specs.Lines.{pushed, lowered}
use Rattle.pt_recv.proofs.FrontLaws.{in-lists, in-spares, in-runs, lessened-at, pushed-behind, lowered-behind, covered-cells}
use Rattle.pt_recv.proofs.channels.Channels.put_behind.Goals as goal

pub push-requires-clause-given : goal.push-requires-clause-given
push-requires-clause-given c = in-lists Int _ _ _ _ c.self.invariant.lists c.self.invariant.spares c.self.invariant.runs _ (ap (λ v. v.lists) c.self.view_is) c.args.c c.requires.given

pub push-requires-clause-spare : goal.push-requires-clause-spare
push-requires-clause-spare c = omega (arith, c.requires.spare, ap (λ v. get_or v.spares c.args.c 0) c.self.view_is, lessened-at c.self.inside.runs.items c.self.inside.pool.spares c.args.c)

pub invariant_of-self : goal.invariant_of-self
invariant_of-self c =
    let held = c.self.invariant in
    let rs = c.self.inside.runs.items in
    let ls = c.self.inside.pool.lists in
    let ss = c.self.inside.pool.spares in
    let q = c.args.c in
    let seen = ap (λ v. v.lists) c.self.view_is in
    let in_lists = in-lists Int _ _ _ _ held.lists held.spares held.runs _ seen q c.requires.given in
    let in_spares = in-spares Int _ _ _ _ held.lists held.spares held.runs _ seen q c.requires.given in
    let some : 0 < get_or ss q 0 - length (get_or rs q []) = omega (arith, c.requires.spare, ap (λ v. get_or v.spares q 0) c.self.view_is, lessened-at rs ss q) in
    let more : length (get_or ls q [] ++ c.args.token ∷ []) + (get_or ss q 0 - 1) < 2 ^ 64 = omega (arith, some, length-append (get_or ls q []) (c.args.token ∷ []), (held.covered q).counted) in
    rw (c.push.ensures.lists, c.push.ensures.spares) record {
      lists = length-set ls q (get_or ls q [] ++ c.args.token ∷ []) ∙ held.lists;
      spares = length-set ss q (get_or ss q 0 - 1) ∙ held.spares;
      runs = held.runs;
      covered = covered-cells rs ls ss q held.covered (get_or ls q [] ++ c.args.token ∷ []) (get_or ss q 0 - 1) in_lists in_spares (omega (arith, some)) more;
    }

pub returns-clause-lists : goal.returns-clause-lists
returns-clause-lists c =
    let held = c.self.invariant in
    let rs = c.self.inside.runs.items in
    let ls = c.self.inside.pool.lists in
    let ss = c.self.inside.pool.spares in
    let q = c.args.c in
    let seen = ap (λ v. v.lists) c.self.view_is in
    let in_lists = in-lists Int _ _ _ _ held.lists held.spares held.runs _ seen q c.requires.given in
    let in_runs = in-runs Int _ _ _ _ held.lists held.spares held.runs _ seen q c.requires.given in
    ap (joined Int rs) c.push.ensures.lists ∙ pushed-behind Int rs ls q in_runs in_lists c.args.token ∙ ap (λ v. pushed v q c.args.token) seen

pub returns-clause-spares : goal.returns-clause-spares
returns-clause-spares c =
    let held = c.self.invariant in
    let rs = c.self.inside.runs.items in
    let ls = c.self.inside.pool.lists in
    let ss = c.self.inside.pool.spares in
    let q = c.args.c in
    let seen = ap (λ v. v.lists) c.self.view_is in
    let in_runs = in-runs Int _ _ _ _ held.lists held.spares held.runs _ seen q c.requires.given in
    ap (lessened rs) c.push.ensures.spares ∙ lowered-behind rs ss q in_runs ∙ ap (λ v. lowered v.spares q) c.self.view_is
