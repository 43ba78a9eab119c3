use Rattle.std.proofs.Common.{◌≡◌, ℕ, ◌++◌, List, Bor, Some, sym, ap₂, ◌∙◌, subst, if◌then◌else◌}
use Rattle.std.specs.Prelude.{Option, option_map}
use Rattle.std.specs.Str.{bytes_eq}
use Rattle.pt_value.specs.declared.token.Token.{Token}
use Rattle.pt_value.specs.Token.{value_of}
use Rattle.pt_scopes.specs.Names.{held}
use Rattle.pt_start.specs.Frames.{Hold, with_token}
use Rattle.pt_start.proofs.Behind.{hold-more}
use Rattle.pt_start.proofs.frames.put_token.Goals as goal

pub returns-in_ok-put-in-Some : goal.returns-in_ok-put-in-Some
returns-in_ok-put-in-Some c = λ ps h.
    let name = c.args.name.now in
    let t = c.in-Some.token.now in
    let put : (other : List ℕ) → held c.put.new.self other ≡ (if bytes_eq name other then Some (value_of t) else held c.args.names.now other) =
    λ other. c.in_ok-put-in-Some.ensures.ok other ∙ ap₂ (λ n u. if bytes_eq n other then Some (value_of u) else held c.args.names.now other) c.as_str.ensures c.in_ok-copy-in-Some.ensures.value in
    subst (λ (o : Option (Bor Token)). Hold c.put.new.self (ps ++ with_token name (option_map (λ u. u.now) o))) (sym c.in-Some.is) (hold-more c.args.names.now c.put.new.self ps name t put h)
