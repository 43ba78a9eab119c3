use Rattle.std.proofs.Common.{◌≡◌, rules, Some, if◌then◌else◌, ap, ◌∙◌}
use Rattle.std.specs.Prelude.{string_bytes}
use Rattle.std.specs.Str.{bytes_eq}
use Rattle.std.proofs.lemmas.Map.Text.{hash_map_updates_text}
use Rattle.indexmap.specs.IndexMap.{get_by_text}
use Rattle.pt_name_map.proofs.name_map.put_into.Goals as goal

pub returns-clause-ok : goal.returns-clause-ok
returns-clause-ok g c =
    let own : string_bytes c.in_ok-name.name ≡ c.args.name.now = search rules in
    λ other. hash_map_updates_text (string_bytes c.in_ok-name.name) c.args.table.now c.insert.new.self (Some c.args.value) c.in_ok-insert.ensures.updates other
    ∙ ap (λ n. if bytes_eq n other then Some c.args.value else get_by_text c.args.table.now other) own
