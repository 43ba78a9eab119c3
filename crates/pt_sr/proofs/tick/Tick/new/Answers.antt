use Rattle.std.proofs.Common.{ap, ◌∙◌, arith}
use Rattle.std.proofs.lemmas.List.{length-map}
use Rattle.pt_core.specs.Source.{source_of}
use Rattle.pt_sr.specs.State.{unheard}
use Rattle.pt_sr.specs.Tick.{begins}
use Rattle.pt_sr.proofs.TickLaws.{new-signals, new-flags, new-numbers, new-is}
use Rattle.pt_sr.proofs.tick.Tick.new.Goals as goal

pub feeds_of-requires-clause-few : goal.feeds_of-requires-clause-few
feeds_of-requires-clause-few c = let a = c.requires.lawful.few in let b = length-map c.args.plan.sources.items source_of in omega (arith, a, b)

pub feeds_of-requires-clause-children : goal.feeds_of-requires-clause-children
feeds_of-requires-clause-children c = let a = c.requires.lawful.fewer in omega (arith, a)

pub invariant_of-result : goal.invariant_of-result
invariant_of-result c = record {
  lawful = c.requires.lawful;
  offsets = c.in_ok-offsets.ensures ∙ ap (λ v. begins 0 v) c.as_slice.ensures;
  fed = c.in_ok-feeds.ensures;
  signals = new-signals c.args.plan c.in_ok-signals.signals c.len.result c.in_ok-signals.ensures (omega (arith, c.len.ensures, c.args.plan.sources.ok.0));
  fired = new-flags c.args.plan c.in_ok-fired.fired.items c.len-2.result c.in_ok-fired.ensures c.len-2.ensures;
  heard = new-numbers c.args.plan c.in_ok-heard.heard.items (c.in_ok-heard.ensures ∙ ap (λ v. unheard v) c.as_slice-2.ensures);
}

pub returns : goal.returns
returns c =
    new-is c.args.plan c.in_ok-signals.signals c.in_ok-fired.fired.items c.in_ok-heard.heard.items c.len.result c.len-2.result c.in_ok-signals.ensures (omega (arith, c.len.ensures, c.args.plan.sources.ok.0)) c.in_ok-fired.ensures c.len-2.ensures (c.in_ok-heard.ensures ∙ ap (λ v. unheard v) c.as_slice-2.ensures)
