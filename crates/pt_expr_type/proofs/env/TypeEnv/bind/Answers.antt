use Rattle.std.proofs.Common.{◌≡◌, ◌∙◌, refl, ap, OnOk, Option, Some, None, List, ℕ, option_map, if◌then◌else◌, Bool, true, false}
use Rattle.std.specs.Str.{bytes_eq}
use Rattle.pt_name_map.specs.NameMap.{held}
use Rattle.pt_types.specs.Ty.{type_of}
use Rattle.pt_types.specs.declared.ty.Ty.{Ty}
use Rattle.pt_expr_type.proofs.Numbers.{on-ok}
use Rattle.pt_expr_type.proofs.env.TypeEnv.bind.Goals as goal

-- src/env.rt:37:5
pub returns-clause-ok : goal.returns-clause-ok
returns-clause-ok c = on-ok c.put.result (λ puts other. ap (λ o. option_map type_of o) (puts other) ∙ typed (bytes_eq c.args.name.now other) c.args.ty (held c.args.self.now.bound other)) c.put.ensures.ok
  where
    typed : (b : Bool) (t : Ty) (o : Option Ty) → option_map type_of (if b then Some t else o) ≡ (if b then Some (type_of t) else option_map type_of o)
    typed true t o = refl
    typed false t o = refl
