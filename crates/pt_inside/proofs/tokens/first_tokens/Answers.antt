use Rattle.std.proofs.Common.{map, ◌∙◌, ap, sym, arith, refl, replicate, [], length}
use Rattle.std.proofs.lemmas.List.{length-map}
use Rattle.pt_core.specs.declared.source.Source.TheVariants.{Own}
use Rattle.pt_core.specs.Source.{source_of}
use Rattle.pt_meaning.specs.Basics.{Streams}
use Rattle.pt_value.specs.declared.token.Token.{Token}
use Rattle.pt_library.specs.LibraryActor.{rows}
use Rattle.pt_node.specs.Shown.{shown}
use Rattle.pt_trees.specs.Composite.{trees_of}
use Rattle.pt_inside.proofs.HeldLaws.{held-none, held-long, held-all}
use Rattle.pt_inside.proofs.LoopLaws.{held-step}
use Rattle.pt_inside.proofs.tokens.first_tokens.Goals as goal

pub loop-channel-init : goal.loop-channel-init
loop-channel-init c = record {
  counted = refl;
  lists = c.in_ok-channels.ensures.lists ∙ ap (λ n. replicate n []) (sym (length-map c.args.sources.now source_of)) ∙ sym (held-none rows (trees_of (map shown c.args.children.now)) (map source_of c.args.sources.now));
}

pub put_copies-requires : goal.put_copies-requires
put_copies-requires c =
    omega (arith, c.loop-channel-test.true, ap (λ (v : Streams Token). length v) c.loop-channel.invariant.lists, held-long rows (trees_of (map shown c.args.children.now)) c.loop-channel.channel (map source_of c.args.sources.now), length-map c.args.sources.now source_of)

pub loop-channel-preserved : goal.loop-channel-preserved
loop-channel-preserved c = record {
  counted = refl;
  lists =
      held-step (trees_of (map shown c.args.children.now)) c.args.sources.now c.loop-channel.channel (Own 0) c.loop-channel.channels.lists c.put_copies.new.channels.lists c.first_of-tokens.result.now c.loop-channel-test.true c.loop-channel.invariant.lists c.in_ok-put_copies.ensures c.first_of-tokens.ensures;
}

pub returns : goal.returns
returns c =
    c.loop-channel.invariant.lists ∙ held-all rows (trees_of (map shown c.args.children.now)) c.loop-channel.channel (map source_of c.args.sources.now) (omega (arith, c.loop-channel-test.false, length-map c.args.sources.now source_of))
