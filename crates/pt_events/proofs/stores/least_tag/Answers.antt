use Rattle.std.proofs.Common.{◌≡◌, ℕ, ◌+◌, List, [], ◌∷◌, ◌++◌, map, take, Some, sym, ap, subst, ◌∙◌}
use Rattle.std.proofs.lemmas.List.{map_more}
use Rattle.std.specs.declared.cmp.Reverse.{Reverse}
use Rattle.pt_events.specs.Stores.{IsLeastTag, due_entry}
use Rattle.pt_events.specs.declared.stores.ByDepth.{ByDepth}
use Rattle.pt_events.proofs.LeastLaws.{earlier-least, least-one}
use Rattle.pt_events.proofs.stores.least_tag.Goals as goal

pub loop-entry-preserved : goal.loop-entry-preserved
loop-entry-preserved c =
    let x : Reverse ByDepth = c.loop-entry-item.result in
    let xs : List (Reverse ByDepth) = c.args.due.now in
    let i : ℕ = c.loop-entry.entry-index in
    let more : map due_entry (take (i + 1) xs) ≡ map due_entry (take i xs) ++ due_entry x ∷ [] = map_more due_entry xs i x c.loop-entry-test.true ∙ ap (λ y. map due_entry (take i xs) ++ due_entry y ∷ []) (sym c.loop-entry-item.is) in
    subst (λ l. IsLeastTag l c.earlier-least.result) (sym more)
    (subst (λ r. IsLeastTag (map due_entry (take i xs) ++ due_entry x ∷ []) r) (sym c.earlier-least.ensures) (earlier-least (map due_entry (take i xs)) (due_entry x ∷ []) c.loop-entry.least (Some x.0.tag) c.loop-entry.invariant (least-one (due_entry x))))
