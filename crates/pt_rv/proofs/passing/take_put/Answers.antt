use Rattle.std.proofs.Common.{◌≡◌, ◌<◌, Some, length, ap, sym, subst, ◌∙◌}
use Rattle.std.specs.Prelude.{slice_get}
use Rattle.pt_core.specs.declared.source.Source.{Source}
use Rattle.pt_core.specs.Source.{source_of}
use Rattle.pt_puts.specs.Puts.{put_of}
use Rattle.pt_value.specs.declared.token.Token.{Token}
use Rattle.pt_rv_work.specs.Core.{Moving, puts_at, sent_by}
use Rattle.pt_rv.specs.Parties.{IsSender, inputs_of, outputs_of, moving_in}
use Rattle.pt_rv.proofs.passing.take_put.Goals as goal

pub put_of_inlet-requires : goal.put_of_inlet-requires
put_of_inlet-requires c = record {
  there = subst (λ (s : Source). IsSender (source_of s) c.args.parties.now) c.in-Own.is c.requires.sender;
  some = subst (λ (s : Source). 0 < length (puts_at (moving_in c.args.parties.now) (Some (source_of s)))) c.in-Own.is c.requires.some;
}

pub returns-in-Own-clause-put : goal.returns-in-Own-clause-put
returns-in-Own-clause-put c = subst (λ (s : Source). slice_get (puts_at (moving_in c.args.parties.now) (Some (source_of s))) 0 ≡ Some (put_of c.put_of_inlet.result)) (sym c.in-Own.is) c.put_of_inlet.ensures.put

pub returns-in-Own-clause-moved : goal.returns-in-Own-clause-moved
returns-in-Own-clause-moved c =
    ap (λ X. let m : Moving Token = record { processes = c.args.parties.now.team; inputs = X; outputs = outputs_of c.args.parties.now.outlets.items } in m) c.put_of_inlet.ensures.left ∙ ap (λ (s : Source). sent_by (Some (source_of s)) (moving_in c.args.parties.now)) (sym c.in-Own.is)

pub put-requires : goal.put-requires
put-requires c =
    let s = subst (λ (s : Source). IsSender (source_of s) c.args.parties.now) c.in-Output.is c.requires.sender in
    record {
      there = s.0;
      gathers = s.1;
      some = subst (λ (s : Source). 0 < length (puts_at (moving_in c.args.parties.now) (Some (source_of s)))) c.in-Output.is c.requires.some;
    }

pub returns-in-Output-clause-put : goal.returns-in-Output-clause-put
returns-in-Output-clause-put c = subst (λ (s : Source). slice_get (puts_at (moving_in c.args.parties.now) (Some (source_of s))) 0 ≡ Some (put_of c.put.result)) (sym c.in-Output.is) c.put.ensures.put

pub returns-in-Output-clause-moved : goal.returns-in-Output-clause-moved
returns-in-Output-clause-moved c =
    ap (λ ps. let m : Moving Token = record { processes = ps; inputs = inputs_of c.args.parties.now.inlets.items; outputs = outputs_of c.args.parties.now.outlets.items } in m) c.put.ensures.left ∙ ap (λ (s : Source). sent_by (Some (source_of s)) (moving_in c.args.parties.now)) (sym c.in-Output.is)
