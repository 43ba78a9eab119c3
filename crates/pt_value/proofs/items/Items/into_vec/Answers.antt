use Rattle.std.proofs.Common.{map, sym, ap, ◌∙◌}
use Rattle.pt_value.specs.Token.{token_of, token_of-values}
use Rattle.pt_value.proofs.items.Items.into_vec.Goals as goal

pub returns-clause-tokens : goal.returns-clause-tokens
returns-clause-tokens c = ap (map token_of) (sym c.self.view_is) ∙ token_of-values c.self.inside.tokens.items
