use Rattle.pt_value.specs.Token.{token_of-values}
use Rattle.pt_value.proofs.items.Items.of.Goals as goal

pub returns-clause-tokens : goal.returns-clause-tokens
returns-clause-tokens c = token_of-values c.args.tokens.items
