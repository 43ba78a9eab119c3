use Rattle.std.proofs.Common.{◌+◌, ◌-◌, ◌++◌, [], length, set, map, ap, ap₂, ◌∙◌, sym, arith, refl, get_or-set_same}
use Rattle.pt_value.specs.declared.token.Token.TheVariants.{Int}
use Rattle.pt_recv.specs.Lines.{list_at}
use Rattle.pt_recv.proofs.FrontLaws.{run-is, in-lists, in-runs, joined-at, length-list}
use Rattle.pt_recv.proofs.LineLaws.{changed-again, put-first, lists-step, rest-step, spares-after}
use Rattle.pt_recv.proofs.channels.Channels.copy_line.Goals as goal

pub index-requires : goal.index-requires
index-requires c = omega (arith, in-runs Int _ _ _ _ c.self.invariant.lists c.self.invariant.spares c.self.invariant.runs _ (ap (λ v. v.lists) c.self.view_is) c.args.c c.requires.given, c.self.inside.runs.ok.0)

pub put_numbers-requires-clause-room : goal.put_numbers-requires-clause-room
put_numbers-requires-clause-room c =
    let held = c.self.invariant in
    let rs = c.self.inside.runs.items in
    let ls = c.self.inside.pool.lists in
    let q = c.args.c in
    let seen = ap (λ v. v.lists) c.self.view_is in
    let in_lists = in-lists Int _ _ _ _ held.lists held.spares held.runs _ seen q c.requires.given in
    let in_runs = in-runs Int _ _ _ _ held.lists held.spares held.runs _ seen q c.requires.given in
    let run = run-is rs q in_runs c.index.result.now c.index.ensures in
    omega (arith, ap (λ v. length v) run, ap (λ v. length v) c.as_slice.ensures, c.len.ensures, length-list Int rs ls q in_lists, ap (λ v. length (list_at v q)) seen, c.in-Some.ensures, c.in_ok-ready.ensures.room)

pub items-token-items-requires : goal.items-token-items-requires
items-token-items-requires c = in-lists Int _ _ _ _ c.self.invariant.lists c.self.invariant.spares c.self.invariant.runs _ (ap (λ v. v.lists) c.self.view_is) c.args.c c.requires.given

pub loop-token-init : goal.loop-token-init
loop-token-init c =
    let held = c.self.invariant in
    let rs = c.self.inside.runs.items in
    let ls = c.self.inside.pool.lists in
    let q = c.args.c in
    let seen = ap (λ v. v.lists) c.self.view_is in
    let in_lists = in-lists Int _ _ _ _ held.lists held.spares held.runs _ seen q c.requires.given in
    let in_runs = in-runs Int _ _ _ _ held.lists held.spares held.runs _ seen q c.requires.given in
    let run = run-is rs q in_runs c.index.result.now c.index.ensures ∙ sym c.as_slice.ensures in
    let rest = c.into_iter-token-iterator.ensures.into_iter_gives ∙ c.items-token-items.ensures in
    let first = put-first c.put_numbers.new.self.lists c.ready.new.self.lists c.args.copies.now.lists q (map Int c.as_slice.result.now) c.requires.empty c.in_ok-ready.ensures.lists c.put_numbers.ensures.lists in
    let list = ap (λ v. list_at v q) first ∙ get_or-set_same c.args.copies.now.lists q (map Int c.as_slice.result.now) [] c.requires.there in
    record {
      lists = first ∙ ap (λ v. set c.args.copies.now.lists q v) (sym list);
      rest = ap₂ (λ v w. v ++ w) (list ∙ ap (λ v. map Int v) (sym run)) rest ∙ sym (joined-at Int rs ls q in_lists) ∙ ap (λ v. list_at v q) seen;
      spares =
          changed-again c.put_numbers.new.self.spares c.ready.new.self.spares c.args.copies.now.spares q 0 _ _ c.in_ok-ready.ensures.spares (λ s. s - length c.as_slice.result.now) c.put_numbers.ensures.spares
          (omega (arith, ap (λ v. length v) run, ap (λ v. length v) rest, c.len.ensures, length-list Int rs ls q in_lists, ap (λ v. length (list_at v q)) seen, c.in-Some.ensures, c.requires.none));
    }

pub loop-token-preserved : goal.loop-token-preserved
loop-token-preserved c = record {
  lists = lists-step _ _ _ _ c.requires.there c.loop-token.invariant.lists _ c.put.ensures.lists;
  rest = rest-step _ _ _ _ c.requires.there c.loop-token.invariant.lists _ _ _ _ _ c.in_ok-copy.ensures.value c.in-Some-token.ensures.steps c.loop-token.invariant.rest c.put.ensures.lists;
  spares = c.put.ensures.spares ∙ spares-after _ _ _ (length c.next.new.self + c.spare-spare.result) _ c.requires.spares (c.loop-token.invariant.spares ∙ ap (λ v. set c.args.copies.now.spares c.args.c v) (omega (arith, ap (λ v. length v) c.in-Some-token.ensures.steps))) refl;
}
