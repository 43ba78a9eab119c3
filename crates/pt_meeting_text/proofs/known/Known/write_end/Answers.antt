use Rattle.std.proofs.Common.{◌∙◌, sym, ap, subst, arith}
use Rattle.pt_meaning.specs.Log.{Meeting}
use Rattle.pt_firing.specs.Meeting.{meeting_of}
use Rattle.pt_meeting_lines.specs.Inside.{CanBeTold}
use Rattle.pt_meeting_text.specs.Written.{IsWrittenEnd}
use Rattle.pt_meeting_text.proofs.KnownLaws.{on-ok, channel-there, child-there, channel-known, child-known}
use Rattle.pt_meeting_text.proofs.known.Known.write_end.Goals as goal

pub write_known-requires-clause-known : goal.write_known-requires-clause-known
write_known-requires-clause-known c end e =
    let told = subst (λ (m : Meeting). CanBeTold c.args.inside.now m) (ap meeting_of c.in-Channel.is) c.requires.told in
    c.requires.known.on_channel c.in-Channel.channel c.index_mut-known.result.now (omega (arith, channel-there c.args.inside.now c.in-Channel.channel c.requires.inside told, c.requires.known.channels)) end (sym c.index_mut-known.ensures.value ∙ e)

pub index_mut-known-requires-in-Barrier : goal.index_mut-known-requires-in-Barrier
index_mut-known-requires-in-Barrier c =
    let told = subst (λ (m : Meeting). CanBeTold c.args.inside.now m) (ap meeting_of c.in-Barrier.is) c.requires.told in
    omega (arith, child-there c.args.inside.now c.in-Barrier.child c.requires.inside told, c.requires.known.children, c.args.self.now.children.ok.0)

pub write_known-requires-in-Barrier-clause-known : goal.write_known-requires-in-Barrier-clause-known
write_known-requires-in-Barrier-clause-known c end e =
    let told = subst (λ (m : Meeting). CanBeTold c.args.inside.now m) (ap meeting_of c.in-Barrier.is) c.requires.told in
    c.requires.known.of_child c.in-Barrier.child c.index_mut-known-in-Barrier.result.now (omega (arith, child-there c.args.inside.now c.in-Barrier.child c.requires.inside told, c.requires.known.children)) end (sym c.index_mut-known-in-Barrier.ensures.value ∙ e)

pub returns-in-Channel-clause-known : goal.returns-in-Channel-clause-known
returns-in-Channel-clause-known c = on-ok c.write_known.result (channel-known c.args.inside.now c.args.self.now c.in-Channel.channel c.write_known.new.known c.requires.known) c.write_known.ensures.known

pub returns-in-Barrier-clause-written : goal.returns-in-Barrier-clause-written
returns-in-Barrier-clause-written c = on-ok c.write_known-in-Barrier.result (subst (λ (m : Meeting). IsWrittenEnd c.args.inside.now m c.args.out.now.items c.write_known-in-Barrier.new.out.items) (sym (ap meeting_of c.in-Barrier.is))) c.write_known-in-Barrier.ensures.written

pub returns-in-Barrier-clause-known : goal.returns-in-Barrier-clause-known
returns-in-Barrier-clause-known c = on-ok c.write_known-in-Barrier.result (child-known c.args.inside.now c.args.self.now c.in-Barrier.child c.write_known-in-Barrier.new.known c.requires.known) c.write_known-in-Barrier.ensures.known
