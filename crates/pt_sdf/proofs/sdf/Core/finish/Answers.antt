use Rattle.std.proofs.Common.{◌+◌, length, ap, ◌∙◌, arith}
use Rattle.pt_meaning.specs.Sdf.{times}
use Rattle.pt_sdf.specs.declared.sdf.Stage.TheVariants as code
use Rattle.pt_sdf_parts.specs.ByNeed.{skip_at}
use Rattle.pt_sdf.specs.State.{closed}
use Rattle.pt_sdf.specs.Clauses.{State}
use Rattle.pt_sdf_parts.proofs.UnfedLaws.{counts_of}
use Rattle.pt_sdf.proofs.CoreLaws.{is-closed, seen-at, given-long, given-few, finished-sound, finished-state}
use Rattle.pt_sdf.proofs.sdf.Core.finish.Goals as goal

pub use_up-requires-clause-few : goal.use_up-requires-clause-few
use_up-requires-clause-few c = given-few c.self.inside c.self.invariant.sound c.len-from.result c.hand_out.new.channels.lists (c.in_ok-outputs.ensures.left ∙ ap (λ v. skip_at c.len-from.result (times c.self.inside.turns v) c.self.inside.channels.lists) c.as_slice.ensures)

pub use_up-requires-clause-counted : goal.use_up-requires-clause-counted
use_up-requires-clause-counted c =
    ap (λ v. length v) c.deref.ensures.value ∙ given-long c.self.inside c.self.invariant.sound c.len-from.result c.hand_out.new.channels.lists (c.in_ok-outputs.ensures.left ∙ ap (λ v. skip_at c.len-from.result (times c.self.inside.turns v) c.self.inside.channels.lists) c.as_slice.ensures)

pub invariant_of-self-2 : goal.invariant_of-self-2
invariant_of-self-2 c = record {
  sound =
      finished-sound c.self.inside c.self.invariant.sound c.len-from.result c.hand_out.new.channels.lists (c.in_ok-outputs.ensures.left ∙ ap (λ v. skip_at c.len-from.result (times c.self.inside.turns v) c.self.inside.channels.lists) c.as_slice.ensures)
      (is-closed c.self.inside c.args.self.now c.self.view_is c.requires) (omega (arith, c.len-from.ensures, c.self.inside.lent.ok.0)) c.use_up.new.channels.lists
      (c.use_up.ensures ∙ (λ j. skip_at (c.len-from.result + c.len.ensures j) (times c.self.inside.turns (counts_of (c.as_slice-2.ensures j) (c.deref.ensures.value j) (c.len-from.result + c.len.ensures j))) c.hand_out.new.channels.lists));
  stretch = c.self.invariant.stretch;
  lanes = c.self.invariant.lanes;
}

pub returns-clause-core : goal.returns-clause-core
returns-clause-core c =
    finished-state c.self.inside c.self.invariant.sound c.len-from.result c.hand_out.new.channels.lists (c.in_ok-outputs.ensures.left ∙ ap (λ v. skip_at c.len-from.result (times c.self.inside.turns v) c.self.inside.channels.lists) c.as_slice.ensures)
    (is-closed c.self.inside c.args.self.now c.self.view_is c.requires) (omega (arith, c.len-from.ensures, c.self.inside.lent.ok.0)) c.use_up.new.channels.lists
    (c.use_up.ensures ∙ (λ j. skip_at (c.len-from.result + c.len.ensures j) (times c.self.inside.turns (counts_of (c.as_slice-2.ensures j) (c.deref.ensures.value j) (c.len-from.result + c.len.ensures j))) c.hand_out.new.channels.lists))
    ∙ ap (λ (s : State). closed s) (seen-at c.self.inside code.Closed (is-closed c.self.inside c.args.self.now c.self.view_is c.requires) ∙ c.self.view_is)
