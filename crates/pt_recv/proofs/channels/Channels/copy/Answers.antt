use Rattle.std.proofs.Common.{◌≡◌, ◌-◌, [], ◌∙◌, length, replicate, sym, ap, arith}
use Rattle.pt_value.specs.declared.token.Token.TheVariants.{Int}
use Rattle.pt_recv.proofs.FrontLaws.{length-joined, length-lessened}
use Rattle.pt_recv.proofs.LineLaws.{copied-more, copied-all}
use Rattle.pt_recv.proofs.channels.Channels.copy.Goals as goal

pub loop-c-init : goal.loop-c-init
loop-c-init c =
    let rs = c.self.inside.runs.items in
    let all : c.self.inside.count ≡ c.self.inside.count - 0 = omega arith in
    record {
      channels = ap (λ v. length v.lists) (sym c.self.view_is) ∙ length-joined Int rs c.self.inside.pool.lists ∙ c.self.invariant.lists;
      rooms = ap (λ v. length v.spares) (sym c.self.view_is) ∙ length-lessened rs c.self.inside.pool.spares ∙ c.self.invariant.spares;
      lists = c.in_ok-copies.ensures.lists ∙ ap (λ n. replicate n []) all;
      spares = c.in_ok-copies.ensures.spares ∙ ap (λ n. replicate n 0) all;
    }

pub loop-c-preserved : goal.loop-c-preserved
loop-c-preserved c = record {
  channels = c.loop-c.invariant.channels;
  rooms = c.loop-c.invariant.rooms;
  lists = c.in_ok-copy_line.ensures.lists ∙ copied-more _ _ _ _ [] c.loop-c.invariant.channels c.loop-c-test.true c.loop-c.invariant.lists;
  spares = c.in_ok-copy_line.ensures.spares ∙ copied-more _ _ _ _ 0 c.loop-c.invariant.rooms c.loop-c-test.true c.loop-c.invariant.spares;
}

pub returns : goal.returns
returns c =
    let end = c.self.inside.count in
    let lists = copied-all c.args.self.now.lists c.loop-c.copies.lists [] c.loop-c.c end c.loop-c.invariant.channels c.loop-c-test.false c.loop-c.invariant.lists in
    let spares = copied-all c.args.self.now.spares c.loop-c.copies.spares 0 c.loop-c.c end c.loop-c.invariant.rooms c.loop-c-test.false c.loop-c.invariant.spares in
    λ j. record { lists = lists j; spares = spares j }
