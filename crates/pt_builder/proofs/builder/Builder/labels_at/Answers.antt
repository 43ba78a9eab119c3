use Rattle.std.proofs.Common.{List, [], ap, get_or, ◌∙◌}
use Rattle.std.proofs.lemmas.Option.{slice_get_within}
use Rattle.pt_net.specs.declared.net.Channel.{Channel}
use Rattle.pt_builder.proofs.builder.Builder.labels_at.Goals as goal

pub returns : goal.returns
returns c =
    c.labels_of.ensures c.args.k
    (c.within_at.ensures ∙ ap (λ (v : List (List Channel)). get_or v c.args.k []) c.deref.ensures.value ∙
    c.requires.prepared.channels.each c.args.k (slice_get_within c.args.self.now.net.now.entities.items c.args.k c.args.entity.now c.requires.entity))
