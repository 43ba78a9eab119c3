use Rattle.std.proofs.Common.{set, ap, sym, ◌∙◌, arith}
use Rattle.pt_reaction.specs.Channels.{lists_in, spares_in, spare_at}
use Rattle.pt_reaction.proofs.ChannelLaws.{marked-again, fresh-lists, fresh-spares}
use Rattle.pt_reaction.proofs.channels.refresh.Goals as goal

pub returns-then-is_marked-clause-used : goal.returns-then-is_marked-clause-used
returns-then-is_marked-clause-used c = marked-again c.args.used.now c.args.c (sym c.is_marked.ensures ∙ c.if-is_marked.true)

pub returns-clause-lists : goal.returns-clause-lists
returns-clause-lists c =
    ap (λ b. lists_in b (set c.args.lines.now.items c.args.c c.clear.new.self)) c.mark.ensures ∙
    fresh-lists c.args.used.now c.args.lines.now.items c.args.c c.clear.new.self c.requires.same (sym c.is_marked.ensures ∙ c.if-is_marked.false) c.clear.ensures

pub returns-clause-spares : goal.returns-clause-spares
returns-clause-spares c d =
    let a = fresh-spares c.args.used.now c.args.lines.now.items c.args.c c.clear.new.self c.requires.same (sym c.is_marked.ensures ∙ c.if-is_marked.false) d in
    let b = ap (λ u. spare_at (spares_in u (set c.args.lines.now.items c.args.c c.clear.new.self)) d) c.mark.ensures in
    omega (arith, a, b)
