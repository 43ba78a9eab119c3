use Rattle.pt_meeting_lines.proofs.Telling.{own-port}
use Rattle.pt_meeting_lines.proofs.inside.Inside.met_outside.Goals as goal

pub port_name-requires : goal.port_name-requires
port_name-requires c = own-port c.args.self.now.net.now c.args.self.now.number c.args.self.now.composite.now c.args.channel.now c.requires.told.0 c.requires.told.1 c.requires.own

pub returns : goal.returns
returns c = (c.requires.own, c.in_ok-port.ensures)
