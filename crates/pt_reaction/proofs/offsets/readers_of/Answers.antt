use Rattle.std.proofs.Common.{◌-◌, get_or, length, ap, ◌∙◌, refl}
use Rattle.pt_reaction.proofs.OffsetLaws.{readers-more}
use Rattle.pt_reaction.proofs.ReaderLaws.{readers-all}
use Rattle.pt_reaction.proofs.offsets.readers_of.Goals as goal

pub loop-child-preserved : goal.loop-child-preserved
loop-child-preserved c = readers-more c.args.places.now c.loop-child.found.items c.add_reader.new.found.items c.loop-child.child (get_or c.args.places.now c.loop-child.child 0) c.loop-child-test.true c.loop-child.invariant refl c.in_ok-add_reader.ensures

pub returns : goal.returns
returns c =
    readers-all c.args.places.now c.args.channels c.loop-child.child c.saturating_sub-outlets.result (length c.args.places.now) c.loop-child.found.items c.add_reader-2.new.found.items c.loop-child-test.false c.loop-child.invariant
    (c.saturating_sub-outlets.ensures ∙ ap (λ n. c.args.channels - n) (c.len.ensures ∙ c.loop-child.found.ok.0)) refl c.in_ok-add_reader-2.ensures
