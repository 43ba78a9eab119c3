use Rattle.pt_places.proofs.Tables.{tables-more}
use Rattle.pt_places.proofs.refinements.port_tables.Goals as goal

pub loop-entity-preserved : goal.loop-entity-preserved
loop-entity-preserved c =
    tables-more c.args.entities.now c.loop-entity.entity-index c.entity-item.result c.loop-entity-test.true c.entity-item.is c.loop-entity.tables.items c.push.new.self.items c.in_ok-modal_ports.field-0 c.in_ok-push.ensures.items c.in_ok-modal_ports.ensures c.loop-entity.invariant
