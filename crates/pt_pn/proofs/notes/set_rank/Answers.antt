use Rattle.std.proofs.Common.{Some, sym, ◌∙◌}
use Rattle.pt_pn.specs.Noted.{rank_of}
use Rattle.pt_pn.proofs.RankLaws.{rank-as-is}
use Rattle.pt_pn.proofs.notes.set_rank.Goals as goal

pub returns-then-is_of : goal.returns-then-is_of
returns-then-is_of c = sym (rank-as-is c.args.ranks.now (rank_of (Some c.args.capacity) c.args.channel) c.args.channel (sym c.get.ensures ∙ c.is_of.ensures c.if-is_of.true) c.requires)
