use Rattle.std.proofs.Common.{sym, ◌∙◌}
use Rattle.std.proofs.lemmas.Option.{slice_get_within}
use Rattle.pt_trees.specs.Built.{undirected}
use Rattle.pt_builder.proofs.LoopLaws.{deep-at}
use Rattle.pt_builder.specs.Starts.{starts_in}
use Rattle.pt_builder.proofs.builder.Builder.check_composite.Goals as goal

pub returns-then-is_deepest-clause-stands : goal.returns-then-is_deepest-clause-stands
returns-then-is_deepest-clause-stands c =
    deep-at c.args.self.now.net.now (starts_in c.args.self.now) c.args.k c.args.depth c.requires.reached.nested (c.is_deepest.ensures.yes c.if-is_deepest.true) c.requires.reached.bound

pub returns-in-None-clause-stands : goal.returns-in-None-clause-stands
returns-in-None-clause-stands c = undirected c.args.k c.args.entity.now c.requires.entity c.requires.directed (sym c.director_of.ensures ∙ c.in-None.is)

pub returns-in-Some-clause-room : goal.returns-in-Some-clause-room
returns-in-Some-clause-room c = record {
  reached = c.requires.reached;
  there = slice_get_within c.args.self.now.net.now.entities.items c.args.k c.args.entity.now c.requires.entity;
  room = c.is_deepest.ensures.no c.if-is_deepest.false;
}
