use Rattle.std.proofs.Common.{◌≡◌, rules, Some, if◌then◌else◌, ap, ◌∙◌}
use Rattle.std.specs.Prelude.{string_bytes}
use Rattle.std.specs.Str.{bytes_eq}
use Rattle.std.proofs.lemmas.Map.Text.{hash_map_updates_text}
use Rattle.pt_machine_parts.specs.Numbered.{numbers_view}
use Rattle.pt_machine_parts.proofs.numbers.Numbers.put.Goals as goal

pub returns : goal.returns
returns c =
    let e : string_bytes c.in_ok-key.key ≡ c.args.name.now = search rules in
    λ other. hash_map_updates_text (string_bytes c.in_ok-key.key) c.args.self.now.numbers c.insert.new.self (Some c.args.number) c.in_ok-insert.ensures.updates other
    ∙ ap (λ name. if bytes_eq name other then Some c.args.number else numbers_view c.args.self.now other) e
