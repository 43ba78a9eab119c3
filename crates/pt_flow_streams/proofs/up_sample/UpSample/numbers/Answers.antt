use Rattle.std.proofs.Common.{◌≡◌, ◌++◌, ℤ, w64, SFits, IfSome, rules, ◌∙◌, sym, subst}
use Rattle.std.proofs.lemmas.Int.{to_z-of_z}
use Rattle.pt_flow_streams.specs.UpSample.{number_among}
use Rattle.pt_flow_streams.proofs.UpSamples.{gave-among}
use Rattle.pt_flow_streams.proofs.up_sample.UpSample.numbers.Goals as goal

pub returns-in-Some : goal.returns-in-Some
returns-in-Some c =
    let a = c.args.self.now in
    let n : ℤ = c.in-Some.input in
    let fits : SFits w64 n = search rules in
    let put = subst (λ z. IfSome c.put_among_zeros.result (λ _. c.put_among_zeros.new.given.items ≡ c.clear.new.self.items ++ number_among a.before z a.after)) (to_z-of_z w64 n fits) c.put_among_zeros.ensures.put in
    gave-among a c.args.inputs.now n c.put_among_zeros.result c.is_some.result c.clear.new.self.items c.put_among_zeros.new.given.items (sym c.number_at.ensures ∙ c.in-Some.is) (sym c.is_some.ensures) c.clear.ensures.items put
