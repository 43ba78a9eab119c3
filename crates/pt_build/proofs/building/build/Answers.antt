use Rattle.pt_builder.proofs.TopLaws.{reach-top, top-built, top-tree, top-stands}
use Rattle.pt_builder.specs.Starts.{starts_of, starts_in}
use Rattle.pt_build.proofs.building.build.Goals as goal

pub top-requires : goal.top-requires
top-requires c = reach-top c.in_ok-builder.builder (starts_of c.args.starts.now c.args.stated.now c.args.machines.now) c.in_ok-builder.ensures.1 c.in_ok-builder.ensures.2 c.requires

pub returns-clause-built : goal.returns-clause-built
returns-clause-built c = top-built c.in_ok-builder.builder.net.now c.args.net.now (starts_in c.in_ok-builder.builder) (starts_of c.args.starts.now c.args.stated.now c.args.machines.now) c.top.result c.in_ok-builder.ensures.0 c.in_ok-builder.ensures.1 c.top.ensures.built

pub returns-clause-tree : goal.returns-clause-tree
returns-clause-tree c =
    top-tree c.args.net.now (starts_of c.args.starts.now c.args.stated.now c.args.machines.now) c.top.result (top-built c.in_ok-builder.builder.net.now c.args.net.now (starts_in c.in_ok-builder.builder) (starts_of c.args.starts.now c.args.stated.now c.args.machines.now) c.top.result c.in_ok-builder.ensures.0 c.in_ok-builder.ensures.1 c.top.ensures.built)

pub returns-clause-stands : goal.returns-clause-stands
returns-clause-stands c = top-stands c.in_ok-builder.builder.net.now c.args.net.now (starts_in c.in_ok-builder.builder) (starts_of c.args.starts.now c.args.stated.now c.args.machines.now) c.top.result c.in_ok-builder.ensures.0 c.in_ok-builder.ensures.1 c.top.ensures.stands
