use Rattle.std.proofs.Common.{ap, sym, get_or, false, length, refl, ◌∙◌, arith, List, length-set}
use Rattle.std.proofs.lemmas.List.{length-replicate}
use Rattle.pt_value.specs.declared.token.Token.{Token}
use Rattle.pt_meaning.specs.Process.{at_rest}
use Rattle.pt_rv_work.specs.Core.{nobody, next_of, Standing}
use Rattle.pt_rv_parts.specs.Team.{fires_in}
use Rattle.pt_rv_parts.proofs.TeamLaws.{fires-long, flags-more, flags-all}
use Rattle.pt_rv_parts.proofs.team.flags_of.Goals as goal

pub loop-process-init : goal.loop-process-init
loop-process-init c = record {
  same = refl;
  long = let a = ap (λ v. length v) c.in_ok-flags.ensures in let b = length-replicate c.len.result false in omega (arith, a, b, c.len.ensures, c.args.processes.now.ok.0);
  flags = λ i l. absurd (omega (arith, l));
}

pub is_firing-fires-requires : goal.is_firing-fires-requires
is_firing-fires-requires c = record {
  there = let e = ap (λ v. length v) c.loop-process.invariant.same in omega (arith, e, c.loop-process-test.true, c.len-process-end.ensures, c.args.processes.now.ok.0);
  gathers = ap (λ (v : List (Standing Token)). (get_or v c.loop-process.process nobody).handed) c.loop-process.invariant.same ∙ c.requires c.loop-process.process;
}

pub mark-requires : goal.mark-requires
mark-requires c = omega (arith, c.loop-process.invariant.long, c.loop-process-test.true, c.len-process-end.ensures, c.args.processes.now.ok.0)

pub loop-process-preserved : goal.loop-process-preserved
loop-process-preserved c = record {
  same = c.is_firing-fires.ensures.same ∙ c.loop-process.invariant.same;
  long = ap (λ v. length v) c.mark.ensures ∙ length-set c.loop-process.flags c.loop-process.process c.is_firing-fires.result ∙ c.loop-process.invariant.long;
  flags = flags-more c.args.processes.now.items c.loop-process.process c.is_firing-fires.result c.loop-process.flags c.mark.new.self (omega (arith, c.loop-process.invariant.long, c.loop-process-test.true, c.len-process-end.ensures, c.args.processes.now.ok.0)) c.mark.ensures
      (ap (λ (v : List (Standing Token)). at_rest (next_of (get_or v c.loop-process.process nobody))) (sym c.loop-process.invariant.same) ∙ c.is_firing-fires.ensures.rests) c.loop-process.invariant.flags;
}

pub returns-clause-flags : goal.returns-clause-flags
returns-clause-flags c =
    flags-all c.loop-process.flags (fires_in c.args.processes.now.items) c.loop-process.process (c.loop-process.invariant.long ∙ sym (fires-long c.args.processes.now.items))
    (let n = fires-long c.args.processes.now.items in omega (arith, n, c.loop-process-test.false, c.len-process-end.ensures, c.args.processes.now.ok.0)) c.loop-process.invariant.flags
