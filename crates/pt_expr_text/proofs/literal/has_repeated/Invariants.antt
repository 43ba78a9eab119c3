use Rattle.std.proofs.Common.{◌≡◌, List, ℕ, map, drop}
use denote.Ref.{Bor}
use Rattle.std.specs.Prelude.{nat_eq}
use Rattle.std.specs.Cmp.Lexicographic.{pointwise}
use Rattle.std.specs.HashSet.{contains}
use Rattle.pt_language.specs.Expr.{entry_of}
use Rattle.pt_language.specs.Descent.{is_among, repeats_behind, has_repeated}
use Rattle.pt_expr_text.proofs.literal.has_repeated.Given as goal

abbrev pub invariant-loop-field : goal.invariant-loop-field
invariant-loop-field l = (seen : List (List ℕ)) × ((q : Bor (List ℕ)) → contains (λ x y. pointwise nat_eq x.now y.now) l.names q ≡ is_among seen q.now)
    × (repeats_behind seen (map (λ f. f.0) (map entry_of (drop l.field-index l.fields))) ≡ has_repeated (map (λ f. f.0) (map entry_of l.fields)))
