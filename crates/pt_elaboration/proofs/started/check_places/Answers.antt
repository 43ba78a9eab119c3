use Rattle.pt_elaboration.proofs.FaultLaws.{number-below, place-stands}
use Rattle.pt_elaboration.proofs.started.check_places.Goals as goal

pub refusal_of_entity-requires : goal.refusal_of_entity-requires
refusal_of_entity-requires c = number-below c.args.net.now c.in-Some.number c.in-Some.ensures.some.entity c.in-Some.ensures.some.at

pub returns-in-Some-clause-stands : goal.returns-in-Some-clause-stands
returns-in-Some-clause-stands c =
    place-stands c.args.net.now c.args.values.now c.requires.resolved.0 c.in-Some.code c.in-Some.number c.refusal_of_entity.result c.requires.resolved.1 c.in-Some.ensures.some c.refusal_of_entity.ensures

pub returns-in-None-clause-placed : goal.returns-in-None-clause-placed
returns-in-None-clause-placed c = c.misplaced.ensures.none c.in-None.is
