use Rattle.pt_lib_timed.proofs.StepLaws.{fire-gives}
use Rattle.pt_lib_timed.proofs.arrivals.fire.Goals as goal

pub returns-in-Ok : goal.returns-in-Ok
returns-in-Ok c =
    let w = c.args.wait in
    fire-gives c.args.tag w.in_turn w.from w.delay c.args.tokens.now c.args.pending.now c.arrive.new.pending c.take_due.new.self c.in-Ok.given c.first.result c.requires c.in_ok-arrive.ensures.all c.in-Ok.ensures.left c.in-Ok.ensures.tokens c.first.ensures
