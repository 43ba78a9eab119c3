use Rattle.std.proofs.Common.{◌++◌, ℕ, List, filter_map, ap, ◌∙◌}
use Rattle.pt_language.specs.Expr.{tree_of}
use Rattle.pt_machine.specs.Machines.{seen_token}
use Rattle.pt_machines.specs.Sites.{scope_at}
use Rattle.pt_machines.proofs.TextLaws.{in-scope}
use Rattle.pt_machines.proofs.texts.tree_in.Goals as goal

pub read-requires : goal.read-requires
read-requires c = (c.requires.0, c.requires.1.is_read)

pub returns-clause-read : goal.returns-clause-read
returns-clause-read c = in-scope (scope_at c.args.site.now) c.args.text.now (tree_of c.in_ok-tree.tree) c.requires c.in_ok-tree.ensures

pub returns-clause-seen : goal.returns-clause-seen
returns-clause-seen c =
    c.in_ok-add_seen.ensures ∙ ap (λ (ns : List (List ℕ)). c.args.seen.now.items ++ filter_map (seen_token (scope_at c.args.site.now).around) ns) (c.deref.ensures.value ∙ c.in_ok-names.ensures)
