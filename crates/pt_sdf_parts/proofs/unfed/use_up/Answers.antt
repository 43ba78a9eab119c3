use Rattle.std.proofs.Common.{sym, ◌∙◌, arith}
use Rattle.pt_core.specs.declared.source.Source.TheVariants.{Own}
use Rattle.pt_sdf_parts.proofs.Lists.{skip-zero}
use Rattle.pt_sdf_parts.proofs.OutletLaws.{outlet-there, outlet-left, outlets-left}
use Rattle.pt_sdf_parts.proofs.UnfedLaws.{counts_of, counts-long, counts-fit, count-at}
use Rattle.pt_sdf_parts.proofs.unfed.use_up.Goals as goal

pub loop-k-init : goal.loop-k-init
loop-k-init c = sym (skip-zero c.args.from c.args.channels.now.lists)

pub owed_on-n-requires : goal.owed_on-n-requires
owed_on-n-requires c =
    outlet-there c.args.turns (counts_of c.args.takes.now c.args.sources.now c.args.from) c.args.channels.now.lists c.args.from (counts-fit c.args.takes.now c.args.sources.now c.args.from c.args.channels.now.lists c.requires.counted c.requires.from) c.loop-k.channels.lists c.loop-k.k
    (omega (arith, c.loop-k-test.true, counts-long c.args.takes.now c.args.sources.now c.args.from)) c.loop-k.invariant

pub skip-requires-clause-given : goal.skip-requires-clause-given
skip-requires-clause-given c =
    outlet-there c.args.turns (counts_of c.args.takes.now c.args.sources.now c.args.from) c.args.channels.now.lists c.args.from (counts-fit c.args.takes.now c.args.sources.now c.args.from c.args.channels.now.lists c.requires.counted c.requires.from) c.loop-k.channels.lists c.loop-k.k
    (omega (arith, c.loop-k-test.true, counts-long c.args.takes.now c.args.sources.now c.args.from)) c.loop-k.invariant

pub skip-requires-clause-enough : goal.skip-requires-clause-enough
skip-requires-clause-enough c = omega (arith, c.owed_on-n.ensures)

pub loop-k-preserved : goal.loop-k-preserved
loop-k-preserved c =
    outlet-left c.args.turns (counts_of c.args.takes.now c.args.sources.now c.args.from) c.args.channels.now.lists c.args.from (counts-fit c.args.takes.now c.args.sources.now c.args.from c.args.channels.now.lists c.requires.counted c.requires.from) c.loop-k.channels.lists c.loop-k.k
    (omega (arith, c.loop-k-test.true, counts-long c.args.takes.now c.args.sources.now c.args.from)) c.loop-k.invariant c.owed_on-n.result c.taken_in.result
    (c.taken_in.ensures ∙ count-at c.args.takes.now c.args.sources.now c.args.from c.loop-k.k (Own 0) (omega (arith, c.loop-k-test.true))) c.owed_on-n.ensures c.skip.new.self.lists c.skip.ensures.lists

pub returns : goal.returns
returns c =
    outlets-left c.args.turns (counts_of c.args.takes.now c.args.sources.now c.args.from) c.args.channels.now.lists c.args.from (counts-fit c.args.takes.now c.args.sources.now c.args.from c.args.channels.now.lists c.requires.counted c.requires.from) c.loop-k.k
    (omega (arith, c.loop-k-test.false, counts-long c.args.takes.now c.args.sources.now c.args.from)) c.loop-k.channels.lists c.loop-k.invariant
