use Rattle.std.proofs.Common.{◌∙◌, sym, arith}
use Rattle.std.proofs.lemmas.List.{get_or_read}
use Rattle.pt_pn_work.proofs.CoreLaws.{put-stops, put-may}
use Rattle.pt_pn.proofs.StepLaws.{capacity-there}
use Rattle.pt_pn.proofs.NotedLaws.{room-now}
use Rattle.pt_pn.proofs.pn.Core.look_at_put.Goals as goal

pub returns-then-not-has_room : goal.returns-then-not-has_room
returns-then-not-has_room c = (put-stops c.args.self.now c.args.process c.args.channel c.requires.puts (sym c.has_room.ensures ∙ c.if-not-has_room.true), c.self.view_is)

pub index-capacity-requires : goal.index-capacity-requires
index-capacity-requires c = let l = capacity-there c.self.inside c.self.invariant c.args.self.now c.self.view_is c.args.process c.args.channel c.requires.puts in omega (arith, l, c.self.inside.capacity.ok.0)

pub invariant_of-self : goal.invariant_of-self
invariant_of-self c = record {
  kept = c.self.invariant.kept;
  stage = c.self.invariant.stage;
  settled = room-now c.self.inside c.self.invariant c.args.self.now c.self.view_is c.args.process c.args.channel c.index-capacity.result.now c.requires.puts (sym c.has_room.ensures ∙ c.if-not-has_room.true)
      (get_or_read c.self.inside.capacity.items c.args.channel c.index-capacity.result.now (capacity-there c.self.inside c.self.invariant c.args.self.now c.self.view_is c.args.process c.args.channel c.requires.puts) c.index-capacity.ensures 0) c.await_room.new.self c.await_room.ensures;
}

pub put-requires-clause-may : goal.put-requires-clause-may
put-requires-clause-may c = put-may c.args.self.now c.args.process c.args.channel c.requires.there c.requires.puts (sym c.has_room.ensures ∙ c.if-not-has_room.false)
