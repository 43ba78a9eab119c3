use Rattle.std.proofs.Common.{◌≡◌, ◌-◌, length, set, refl, ap, ◌∙◌, arith, length-set}
use Rattle.pt_de_laws.specs.State.{emptied_from}
use Rattle.pt_de_due.proofs.EmptiedLaws.{emptied-from-long}
use Rattle.pt_de_parts.proofs.RowLaws.{row-filled-none, row-filled-at}
use Rattle.pt_de_parts.proofs.rows.fill_row.Goals as goal

pub loop-channel-init : goal.loop-channel-init
loop-channel-init c = let f = row-filled-none c.args.first c.args.channels.now.lists c.args.row.now.items in record { row = f.0; left = f.1; same = refl }

pub take_list-tokens-requires : goal.take_list-tokens-requires
take_list-tokens-requires c =
    let e = ap (λ v. length v) c.loop-channel.invariant.left in
    let n = emptied-from-long c.args.first (c.loop-channel.channel - c.args.first) c.args.channels.now.lists in
    omega (arith, c.loop-channel-test.true, c.requires.there, e, n)

pub index_mut-requires : goal.index_mut-requires
index_mut-requires c = omega (arith, c.loop-channel-test.true, c.loop-channel.auto.channel, c.requires.room, c.loop-channel.invariant.same)

pub loop-channel-preserved : goal.loop-channel-preserved
loop-channel-preserved c =
    let f =
    row-filled-at c.args.first c.loop-channel.channel c.args.end c.args.channels.now.lists c.loop-channel.channels.lists c.take_list-tokens.new.self.lists c.loop-channel.row.items (set c.loop-channel.row.items (c.loop-channel.channel - c.args.first) c.take_list-tokens.result) c.take_list-tokens.result
    (omega (arith, c.loop-channel.auto.channel)) c.loop-channel-test.true (omega (arith, c.requires.room, c.loop-channel.invariant.same)) c.requires.there c.loop-channel.invariant.row c.loop-channel.invariant.left c.take_list-tokens.ensures.taken c.take_list-tokens.ensures.left refl in
    record { row = f.0; left = f.1; same = length-set c.loop-channel.row.items (c.loop-channel.channel - c.args.first) c.take_list-tokens.result ∙ c.loop-channel.invariant.same }

pub returns-clause-left : goal.returns-clause-left
returns-clause-left c =
    let e : c.loop-channel.channel ≡ c.args.end = omega (arith, c.loop-channel-test.false, c.loop-channel.auto.channel-end c.requires.within) in
    c.loop-channel.invariant.left ∙ ap (λ n. emptied_from c.args.first (n - c.args.first) c.args.channels.now.lists) e
