use Rattle.std.proofs.Common.{◌≡◌, ◌+◌, ◌<◌, [], length, set, drop, sym, ap, ◌∙◌, arith, is_some, true, if◌then◌else◌, get_or-set_same, length-drop}
use Rattle.std.proofs.lemmas.List.{set-get_or}
use Rattle.pt_recv.specs.Lines.{list_at, spare_at, raised}
use Rattle.pt_recv.proofs.LineLaws.{changed-again, taken-next, has-first}
use Rattle.pt_recv.proofs.channels.Channels.skip_each.Goals as goal

pub loop-init : goal.loop-init
loop-init c =
    let lists = c.args.self.now.lists in
    let spares = c.args.self.now.spares in
    record {
      lists = sym (set-get_or lists c.args.c []);
      spares = sym (ap (λ v. set spares c.args.c v) (omega arith) ∙ set-get_or spares c.args.c 0);
    }

pub loop-preserved : goal.loop-preserved
loop-preserved c =
    let q = c.args.c in
    let k = c.loop.counter in
    let lists = c.args.self.now.lists in
    let spares = c.args.self.now.spares in
    let left = ap (λ v. list_at v q) c.loop.invariant.lists ∙ get_or-set_same lists q (drop k (list_at lists q)) [] c.requires.given in
    let some : 0 < length (list_at c.loop.self.lists q) = omega (arith, ap (λ v. length v) left, length-drop k (list_at lists q), c.requires.enough, c.loop-test.true) in
    let taken : is_some c.take.result ≡ true = ap (λ v. is_some v) c.take.ensures.front ∙ has-first (list_at c.loop.self.lists q) some in
    record {
      lists = taken-next c.take.new.self.lists c.loop.self.lists lists q k c.loop.invariant.lists c.take.ensures.lists;
      spares = changed-again c.take.new.self.spares c.loop.self.spares spares q 0 (spare_at spares q + k) (spare_at spares q + (k + 1)) c.loop.invariant.spares (λ s. s + 1) (c.take.ensures.spares ∙ ap (λ b. if b then raised c.loop.self.spares q else c.loop.self.spares) taken) (omega arith);
    }
