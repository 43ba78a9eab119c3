use Rattle.std.proofs.Common.{◌≡◌, rules, Bool, true, false, cond, ◌||◌, not, refl, ap, ◌∙◌}
use Rattle.std.specs.Prelude.{string_bytes}
use Rattle.std.specs.HashSet.{contains_text}
use Rattle.std.specs.Str.{bytes_eq}
use Rattle.std.proofs.lemmas.Map.Text.{hash_set_updates_text}
use Rattle.pt_guards.proofs.shown.put_name.Goals as goal

either : (b c : Bool) → cond b true c ≡ (b || c)
either true c = refl
either false c = refl

pub returns-clause-new : goal.returns-clause-new
returns-clause-new c =
    let e : string_bytes c.in_ok-key.key ≡ c.args.name.now = search rules in
    c.in_ok-insert.ensures.added ∙ ap (λ bs. not (contains_text c.args.taken.now bs)) e

pub returns-clause-there : goal.returns-clause-there
returns-clause-there c =
    let e : string_bytes c.in_ok-key.key ≡ c.args.name.now = search rules in
    λ other. hash_set_updates_text (string_bytes c.in_ok-key.key) c.args.taken.now c.insert.new.self true c.in_ok-insert.ensures.updates other
    ∙ either (bytes_eq (string_bytes c.in_ok-key.key) other) (contains_text c.args.taken.now other)
    ∙ ap (λ bs. bytes_eq bs other || contains_text c.args.taken.now other) e
