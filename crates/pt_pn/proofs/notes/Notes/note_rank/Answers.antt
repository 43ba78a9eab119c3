use Rattle.std.proofs.Common.{sym, ◌∙◌, arith}
use Rattle.pt_pn.specs.Noted.{seen_notes}
use Rattle.pt_pn.proofs.RankLaws.{past-ranks}
use Rattle.pt_pn.proofs.notes.Notes.note_rank.Goals as goal

pub returns-then-channel-len : goal.returns-then-channel-len
returns-then-channel-len c = sym c.self.view_is ∙ past-ranks (seen_notes c.self.inside) c.args.self.now c.self.view_is c.args.capacity c.args.channel (omega (arith, c.if-channel-len.true, c.len.ensures))
