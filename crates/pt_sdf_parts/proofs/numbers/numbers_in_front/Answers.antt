use Rattle.std.proofs.Common.{[], ◌∷◌, List, ap, ◌∙◌}
use Rattle.pt_meaning.specs.Streams.{Streams}
use Rattle.pt_value.specs.declared.token.Token.{Token}
use Rattle.pt_recv.specs.Lines.{list_at}
use Rattle.pt_sdf_parts.proofs.IntLaws.{front-of}
use Rattle.pt_sdf_parts.proofs.numbers.numbers_in_front.Goals as goal

pub returns : goal.returns
returns c =
    c.all_at_one.ensures ∙ ap (λ (v : List Token). let r : Streams Token = v ∷ [] in r) (front-of c.numbers-numbers.result.now (list_at c.args.channels.now.lists c.args.c) c.args.need c.numbers-numbers.ensures c.if-need-numbers.false)
