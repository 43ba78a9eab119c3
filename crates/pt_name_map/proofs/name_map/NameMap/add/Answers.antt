use Rattle.std.proofs.Common.{◌≡◌, rules, Some, if◌then◌else◌, ap, ◌∙◌}
use Rattle.pt_name_map.specs.NameMap.{listed, or_else, hashed}
use Rattle.pt_name_map.proofs.Entries.{held-added}
use Rattle.pt_name_map.proofs.name_map.NameMap.add.Goals as goal

pub returns-in_ok-push-clause-ok : goal.returns-in_ok-push-clause-ok
returns-in_ok-push-clause-ok g c =
    let own : c.in_ok-name.name ≡ c.args.name.now = search rules in
    λ other. ap (λ es. or_else (listed es other) (hashed c.args.self.now.others other)) c.in_ok-push.ensures.items
    ∙ held-added c.args.self.now.few.items c.args.name.now (record { name = c.in_ok-name.name; value = c.args.value }) other (hashed c.args.self.now.others other) own c.requires
