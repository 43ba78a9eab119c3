use Rattle.std.proofs.Common.{◌-◌, [], ◌++◌, length, get_or, set, map, ap, ◌∙◌, sym, arith, if◌then◌else◌, length-set}
use Rattle.std.proofs.lemmas.List.{nil_from_length}
use Rattle.pt_value.specs.declared.token.Token.TheVariants.{Int}
use Rattle.pt_recv.specs.Lines.{list_at, spare_at}
use Rattle.pt_recv.proofs.FrontLaws.{run-is, in-lists, in-runs, put-lists, put-spares, put-covered}
use Rattle.pt_recv.proofs.channels.Channels.put_all_apart.Goals as goal

pub len-requires : goal.len-requires
len-requires c = in-lists Int _ _ _ _ c.self.invariant.lists c.self.invariant.spares c.self.invariant.runs _ (ap (λ v. v.lists) c.self.view_is) c.args.c c.requires.given

pub index_mut-requires : goal.index_mut-requires
index_mut-requires c = omega (arith, in-runs Int _ _ _ _ c.self.invariant.lists c.self.invariant.spares c.self.invariant.runs _ (ap (λ v. v.lists) c.self.view_is) c.args.c c.requires.given, c.self.inside.runs.ok.0)

pub invariant_of-self : goal.invariant_of-self
invariant_of-self c =
    let held = c.self.invariant in
    let rs = c.self.inside.runs.items in
    let ls = c.self.inside.pool.lists in
    let ss = c.self.inside.pool.spares in
    let q = c.args.c in
    let seen = ap (λ v. v.lists) c.self.view_is in
    let in_lists = in-lists Int _ _ _ _ held.lists held.spares held.runs _ seen q c.requires.given in
    let in_runs = in-runs Int _ _ _ _ held.lists held.spares held.runs _ seen q c.requires.given in
    let is = run-is rs q in_runs c.index_mut.result.now c.index_mut.ensures.value in
    let after = c.push_all.ensures ∙ ap (λ v. if c.push_all.result then v ++ c.args.numbers.now else v) (sym is) in
    record {
      lists = held.lists;
      spares = held.spares;
      runs = length-set rs q c.push_all.new.self ∙ held.runs;
      covered = put-covered Int rs ls ss q in_runs in_lists c.args.numbers.now c.push_all.new.self c.push_all.result after held.covered (omega (arith, c.requires.room, ap (λ v. get_or v.spares q 0) c.self.view_is));
    }

pub returns-clause-lists : goal.returns-clause-lists
returns-clause-lists c =
    let held = c.self.invariant in
    let rs = c.self.inside.runs.items in
    let ls = c.self.inside.pool.lists in
    let ss = c.self.inside.pool.spares in
    let q = c.args.c in
    let seen = ap (λ v. v.lists) c.self.view_is in
    let in_lists = in-lists Int _ _ _ _ held.lists held.spares held.runs _ seen q c.requires.given in
    let in_runs = in-runs Int _ _ _ _ held.lists held.spares held.runs _ seen q c.requires.given in
    let is = run-is rs q in_runs c.index_mut.result.now c.index_mut.ensures.value in
    let after = c.push_all.ensures ∙ ap (λ v. if c.push_all.result then v ++ c.args.numbers.now else v) (sym is) in
    put-lists Int rs ls ss q in_runs in_lists c.args.numbers.now c.push_all.new.self c.push_all.result after (nil_from_length (get_or ls q []) (omega (arith, c.len.ensures, c.if-len-gt0.false)))
    ∙ ap (λ v. if c.push_all.result then set v.lists q (list_at v.lists q ++ map Int c.args.numbers.now) else v.lists) c.self.view_is

pub returns-clause-spares : goal.returns-clause-spares
returns-clause-spares c =
    let held = c.self.invariant in
    let rs = c.self.inside.runs.items in
    let ls = c.self.inside.pool.lists in
    let ss = c.self.inside.pool.spares in
    let q = c.args.c in
    let seen = ap (λ v. v.lists) c.self.view_is in
    let in_lists = in-lists Int _ _ _ _ held.lists held.spares held.runs _ seen q c.requires.given in
    let in_runs = in-runs Int _ _ _ _ held.lists held.spares held.runs _ seen q c.requires.given in
    let is = run-is rs q in_runs c.index_mut.result.now c.index_mut.ensures.value in
    let after = c.push_all.ensures ∙ ap (λ v. if c.push_all.result then v ++ c.args.numbers.now else v) (sym is) in
    put-spares Int rs ls ss q in_runs in_lists c.args.numbers.now c.push_all.new.self c.push_all.result after
    ∙ ap (λ v. if c.push_all.result then set v.spares q (spare_at v.spares q - length c.args.numbers.now) else v.spares) c.self.view_is
