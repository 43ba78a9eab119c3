use Rattle.std.proofs.Common.{◌≡◌, ◌∙◌, ap, subst, to_z, of_z, w64, rules, arith, sym}
use Rattle.std.proofs.lemmas.Int.{to_z-of_z}
use Rattle.pt_value.specs.Value.{Value, Int}
use Rattle.pt_language.specs.Outcome.{Outcome, Gives}
use Rattle.pt_guards.specs.Placed.{Says}
use Rattle.pt_guards.specs.declared.placed.Placed.{Placed}
use Rattle.pt_guards.specs.Reads.{reads_view}
use Rattle.pt_guards.proofs.placed.leaf.Goals as goal

pub returns-in-Int : goal.returns-in-Int
returns-in-Int c table tree says =
    let n = c.in-Int.n in
    let passed : to_z w64 (of_z w64 n) ≡ n = first_of (search rules, grind (arith, to_z-of_z)) in
    let gives = subst (λ (p : Placed). Says table p tree) c.in-Int.is says (reads_view c.args.reads.now) in
    gives ∙ ap (λ z. let o : Outcome Value = Gives (Int z) in o) (sym passed)
