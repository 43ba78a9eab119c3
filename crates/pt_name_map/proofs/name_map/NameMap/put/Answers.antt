use Rattle.std.proofs.Common.{◌≡◌, rules, get_or, sym, ap, subst, ◌∙◌}
use Rattle.pt_name_map.specs.NameMap.{hashed, IsPlace}
use Rattle.pt_name_map.proofs.Entries.{place-name, held-replaced}
use Rattle.pt_name_map.proofs.name_map.NameMap.put.Goals as goal

pub returns-in-Some-clause-ok : goal.returns-in-Some-clause-ok
returns-in-Some-clause-ok g c =
    let entry = c.index_mut.result.now in
    let there : get_or c.args.self.now.few.items c.in-Some.place entry ≡ entry = search rules in
    let place : IsPlace c.args.self.now.few.items c.args.name.now c.in-Some.place = subst (λ es. IsPlace es c.args.name.now c.in-Some.place) c.deref.ensures.value c.in-Some.ensures.some in
    let own : entry.name ≡ c.args.name.now = ap (λ e. e.name) (sym there) ∙ place-name c.args.self.now.few.items c.args.name.now c.in-Some.place entry place in
    λ other. held-replaced c.args.self.now.few.items c.args.name.now c.in-Some.place (record { name = entry.name; value = c.args.value }) other (hashed c.args.self.now.others other) own place
