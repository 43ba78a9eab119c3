use Rattle.std.proofs.Common.{ℤ, pos, w64, SFits, rules, [], ◌-◌, get_or, set, sym, ap, ◌∙◌, arith}
use Rattle.std.proofs.lemmas.Int.{to_z-of_z}
use Rattle.std.proofs.lemmas.List.{set-get_or, append-nil}
use Rattle.pt_value.specs.declared.token.Token.TheVariants.{Int}
use Rattle.pt_recv.specs.Lines.{list_at, pushed}
use Rattle.pt_recv.proofs.LineLaws.{changed-again, put-next}
use Rattle.pt_recv.proofs.channels.Channels.put_each.Goals as goal

pub loop-n-init : goal.loop-n-init
loop-n-init c =
    let lists = c.args.self.now.lists in
    let spares = c.args.self.now.spares in
    record {
      lists = sym (ap (λ v. set lists c.args.c v) (append-nil (list_at lists c.args.c)) ∙ set-get_or lists c.args.c []);
      spares = sym (ap (λ v. set spares c.args.c v) (omega arith) ∙ set-get_or spares c.args.c 0);
    }

pub loop-n-preserved : goal.loop-n-preserved
loop-n-preserved c =
    let k = c.loop-n.n-index in
    let n : ℤ = get_or c.args.numbers.now k (pos 0) in
    let fits : SFits w64 n = search rules in
    let is = c.put_number.ensures.lists ∙ ap (λ z. pushed c.loop-n.self.lists c.args.c (Int z)) (to_z-of_z w64 n fits) in
    let spares = c.args.self.now.spares in
    record {
      lists = put-next Int c.put_number.new.self.lists c.loop-n.self.lists c.args.self.now.lists c.args.c k c.args.numbers.now (pos 0) (omega (arith, c.loop-n-test.true)) c.loop-n.invariant.lists is;
      spares = changed-again c.put_number.new.self.spares c.loop-n.self.spares spares c.args.c 0 _ _ c.loop-n.invariant.spares (λ s. s - 1) c.put_number.ensures.spares (omega arith);
    }
