use Rattle.std.proofs.Common.{get_or, subst, ◌∙◌}
use Rattle.pt_rates.specs.Parts.{ComesAfter}
use Rattle.pt_rates.proofs.Solves.{no_edge, sum-start, spanned-more, sum-more, inconsistent-at, solved-all}
use Rattle.pt_rates.proofs.rates.connected.Goals as goal

pub returns-then-n-gt-MOST_FIRINGS-clause-err : goal.returns-then-n-gt-MOST_FIRINGS-clause-err
returns-then-n-gt-MOST_FIRINGS-clause-err c = sum-start c.args.n c.args.edges.now c.if-n-gt-MOST_FIRINGS.true

pub returns-then-not-branch-clause-err : goal.returns-then-not-branch-clause-err
returns-then-not-branch-clause-err c =
    inconsistent-at c.args.n c.args.edges.now c.loop-channel.channel c.loop-channel.parts c.loop-channel-test.true c.loop-channel.invariant c.connect.new.self
    (subst (λ met. ComesAfter (get_or c.args.edges.now c.loop-channel.channel no_edge) c.loop-channel.parts c.connect.new.self met) c.if-not-branch.true c.in_ok-connect.ensures.after)

pub returns-then-parts-gt-MOST_FIRINGS-clause-err :
    goal.returns-then-parts-gt-MOST_FIRINGS-clause-err
returns-then-parts-gt-MOST_FIRINGS-clause-err c =
    sum-more c.args.n c.args.edges.now c.loop-channel.channel c.loop-channel.parts c.loop-channel-test.true c.loop-channel.invariant c.connect.new.self
    (subst (λ met. ComesAfter (get_or c.args.edges.now c.loop-channel.channel no_edge) c.loop-channel.parts c.connect.new.self met) c.if-not-branch.false c.in_ok-connect.ensures.after) c.in_ok-connect.ensures.held c.in_ok-connect.ensures.counted c.if-parts-gt-MOST_FIRINGS.true

pub returns-clause-least : goal.returns-clause-least
returns-clause-least c = solved-all c.args.n c.args.edges.now c.loop-channel.channel c.loop-channel.parts c.loop-channel-test.false c.loop-channel.invariant

pub loop-channel-preserved : goal.loop-channel-preserved
loop-channel-preserved c = record {
  held = c.in_ok-connect.ensures.held;
  counted = c.in_ok-connect.ensures.counted ∙ c.loop-channel.invariant.counted;
  small = c.if-parts-gt-MOST_FIRINGS.false;
  spanned =
      spanned-more c.args.n c.args.edges.now c.loop-channel.channel c.loop-channel.parts c.loop-channel-test.true c.loop-channel.invariant c.connect.new.self
      (subst (λ met. ComesAfter (get_or c.args.edges.now c.loop-channel.channel no_edge) c.loop-channel.parts c.connect.new.self met) c.if-not-branch.false c.in_ok-connect.ensures.after);
}
