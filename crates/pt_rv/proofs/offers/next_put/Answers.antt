use Rattle.std.proofs.Common.{Some, sym, subst, arith}
use Rattle.pt_core.specs.declared.source.Source.{Source}
use Rattle.pt_core.specs.Source.{source_of}
use Rattle.pt_puts.specs.Puts.{PutsFirst}
use Rattle.pt_rv_work.specs.Core.{puts_at}
use Rattle.pt_rv.specs.Parties.{IsThere, moving_in}
use Rattle.pt_rv.proofs.EndLaws.{input-at}
use Rattle.pt_rv.proofs.offers.next_put.Goals as goal

pub index-requires : goal.index-requires
index-requires c = let l = subst (λ (s : Source). IsThere (source_of s) c.args.parties.now) c.in-Own.is c.requires in omega (arith, l, c.args.parties.now.inlets.ok.0)

pub returns-in-Own : goal.returns-in-Own
returns-in-Own c =
    let l = subst (λ (s : Source). IsThere (source_of s) c.args.parties.now) c.in-Own.is c.requires in
    subst (λ (s : Source). PutsFirst (puts_at (moving_in c.args.parties.now) (Some (source_of s))) c.next_put.result) (sym c.in-Own.is)
    (subst (λ us. PutsFirst us c.next_put.result) (sym (input-at c.args.parties.now.inlets.items c.in-Own.port c.index.result.now l c.index.ensures)) c.next_put.ensures)

pub next_put-requires-in-Output : goal.next_put-requires-in-Output
next_put-requires-in-Output c = subst (λ (s : Source). IsThere (source_of s) c.args.parties.now) c.in-Output.is c.requires

pub returns-in-Output : goal.returns-in-Output
returns-in-Output c = subst (λ (s : Source). PutsFirst (puts_at (moving_in c.args.parties.now) (Some (source_of s))) c.next_put-in-Output.result) (sym c.in-Output.is) c.next_put-in-Output.ensures
