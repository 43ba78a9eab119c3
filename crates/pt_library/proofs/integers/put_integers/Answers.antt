use Rattle.std.proofs.Common.{◌≡◌, ◌<◌, ◌++◌, ◌∷◌, [], length, true, ◌∙◌, sym, ap, arith, rules, is_ok, to_z, of_z, w64, if◌then◌else◌}
use Rattle.std.proofs.lemmas.Int.{to_z-of_z}
use Rattle.std.proofs.lemmas.List.{take_all}
use Rattle.pt_library.proofs.IntegerLaws.{more-places}
use Rattle.pt_library.proofs.integers.put_integers.Goals as goal

pub loop-place-preserved : goal.loop-place-preserved
loop-place-preserved c =
    let X = c.args.inputs.now in
    let row = c.loop-place.row.items in
    let n = c.in-Some.number in
    let short : c.loop-place.place < length X = omega arith in
    let room : is_ok c.push.result ≡ true = first_of (cc, search rules) in
    let passed : to_z w64 (of_z w64 n) ≡ n = first_of (search rules, grind (arith, to_z-of_z)) in
    let put : c.push.new.self.items ≡ row ++ n ∷ [] = c.push.ensures.items ∙ ap (λ b. if b then row ++ to_z w64 (of_z w64 n) ∷ [] else row) room ∙ ap (λ m. row ++ m ∷ []) passed in
    more-places X row c.push.new.self.items c.loop-place.place n c.loop-place.invariant short (sym c.list.ensures ∙ c.in-Some.ensures) put

pub returns : goal.returns
returns c = λ _. c.loop-place.invariant ∙ take_all c.loop-place.place c.args.inputs.now (omega (arith, c.loop-place-test.false))
