use Rattle.std.proofs.Common.{◌≡◌, ◌≤◌, ◌<◌, ℕ, List, [], ◌∷◌, ◌++◌, length, get_or, refl, sym, ap₂, ◌∙◌, arith}
use Rattle.std.proofs.lemmas.List.{get_or_default}
use Rattle.pt_within.proofs.RecordedLists.{number-passed, number-added}
use Rattle.pt_within.proofs.numbering.add_number.Goals as goal

pub returns-in_ok-push : goal.returns-in_ok-push
returns-in_ok-push c = λ count ports long are.
    let p : ℕ = c.args.port.entity in
    let lists : List (List ℕ) = c.args.lists.now.items in
    let there : p < count = omega (arith, c.if-entity-len.true, c.len.ensures, are.counted) in
    let within : p < length lists = omega (arith, there, are.counted) in
    let written : c.index_mut.result.now ≡ get_or lists p [] = c.index_mut.ensures.value ∙ get_or_default lists p c.index_mut.result.now [] within in
    let after : c.push.new.self ≡ get_or lists p [] ++ length ports ∷ [] = c.in_ok-push.ensures ∙ ap₂ (λ xs n. xs ++ n ∷ []) written (sym long) in
    number-added count ports c.args.port lists p c.push.new.self are there refl after

pub returns-else-entity-len : goal.returns-else-entity-len
returns-else-entity-len c = λ count ports long are.
    let far : count ≤ c.args.port.entity = omega (arith, c.if-entity-len.false, c.len.ensures, are.counted) in
    number-passed count ports c.args.port c.args.lists.now.items are far
