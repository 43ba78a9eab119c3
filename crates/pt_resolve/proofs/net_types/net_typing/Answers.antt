use Rattle.std.proofs.Common.{◌++◌, length, map, ap, ◌∙◌}
use Rattle.std.specs.Prelude.{replicate}
use Rattle.pt_places.specs.Views.{port_lists}
use Rattle.pt_resolve.proofs.net_types.net_typing.Goals as goal

pub typing_at-typing-requires : goal.typing_at-typing-requires
typing_at-typing-requires c =
    let net = c.args.net.now in record {
      frames = c.requires;
      lists = ap port_lists c.deref-2.ensures.value ∙ c.in_ok-lists.ensures;
      counts = c.as_slice.ensures.value ∙ c.in_ok-counts.ensures ∙ ap (λ ls. map (λ ps. length ps) (port_lists ls) ++ replicate net.relation_count 1) c.deref.ensures.value ∙ ap (λ pss. map (λ ps. length ps) pss ++ replicate net.relation_count 1) c.in_ok-lists.ensures;
    }
