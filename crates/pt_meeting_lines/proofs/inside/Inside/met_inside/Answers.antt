use Rattle.pt_meeting_lines.proofs.Telling.{other-place}
use Rattle.pt_meeting_lines.proofs.inside.Inside.met_inside.Goals as goal

pub place_at-requires : goal.place_at-requires
place_at-requires c = other-place c.args.self.now.net.now c.args.self.now.number c.args.self.now.composite.now c.args.channel.now c.requires.told.0 c.requires.told.1 c.requires.apart

pub returns : goal.returns
returns c = (c.requires.apart, c.in_ok-place.ensures)
