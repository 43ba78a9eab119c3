use Rattle.std.proofs.Common.{◌≡◌, length, map}
use Rattle.pt_core.specs.Source.{source_of}
use Rattle.pt_library.specs.LibraryActor.{rows}
use Rattle.pt_node.specs.Shown.{shown}
use Rattle.pt_trees.specs.Composite.{trees_of}
use Rattle.pt_inside.proofs.HeldLaws.{held_to}
use Rattle.pt_inside.proofs.tokens.first_tokens.Given as goal

abbrev pub invariant-loop-channel : goal.invariant-loop-channel
invariant-loop-channel l = record {
  counted : l.count ≡ length l.sources;
  lists : l.channels.lists ≡ held_to rows (trees_of (map shown l.children)) l.channel (map source_of l.sources);
}
