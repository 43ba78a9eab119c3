use Rattle.std.proofs.Common.{not, rules, arith, ap}
use Rattle.std.proofs.lemmas.List.Sorted.{IsPartitionPoint-from_clause}
use Rattle.pt_meaning.specs.Tag.{tag_le}
use Rattle.pt_agenda.specs.Events.{Event}
use Rattle.pt_agenda.proofs.EventLaws.{parted}
use Rattle.pt_agenda.proofs.events.past.Goals as goal

pub returns : goal.returns
returns c =
    let point = IsPartitionPoint-from_clause (λ (e : Event). tag_le e.0 c.args.tag) _ _ c.partition_point.ensures.partitioned (parted c.args.tag c.args.events.now c.requires) (λ a r q k. search rules) in
    record {
      within = omega (arith, c.partition_point.ensures.bound);
      past = λ k d l. ap not (point.0 k d (omega arith) l);
      to_come = λ k d a b. ap not (point.1 k d a b);
    }
