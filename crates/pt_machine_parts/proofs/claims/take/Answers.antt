use Rattle.std.proofs.Common.{ℕ, Option, true, refl, sym, subst}
use Rattle.pt_machine_parts.specs.Claims.{IsClaim}
use Rattle.pt_machine_parts.proofs.claims.take.Goals as goal

pub returns-in-Some : goal.returns-in-Some
returns-in-Some c = subst (λ (o : Option ℕ). IsClaim o c.args.taken.now.items c.take_one.result c.take_one.new.taken.items) (sym c.in-Some.is) c.take_one.ensures

pub returns-in-None : goal.returns-in-None
returns-in-None c = subst (λ (o : Option ℕ). IsClaim o c.args.taken.now.items true c.args.taken.now.items) (sym c.in-None.is) (refl, refl)
