use Rattle.std.proofs.Common.{◌≡◌, ℕ, ◌+◌, ◌-◌, ◌*◌, [], ◌∷◌, map, take, drop, get_or, ap, ◌∙◌, sym, arith}
use Rattle.pt_value.specs.declared.token.Token.TheVariants.{Int}
use Rattle.pt_firing.specs.IntRows.{rows_of}
use Rattle.pt_firing.proofs.InARow.{row-at, nothing-at, row-here, row-room}
use Rattle.pt_firing.proofs.int_rows.IntRows.firing.Goals as goal

pub overflow_mul-from : goal.overflow_mul-from
overflow_mul-from c = omega (arith, row-room c.self.inside.need c.self.inside.firings c.self.inside.numbers.now c.args.self.now c.self.view_is c.args.k c.requires c.in-Some.need c.in-Some.is c.self.invariant, c.self.told.0)

pub overflow_add-from : goal.overflow_add-from
overflow_add-from c = omega (arith, row-room c.self.inside.need c.self.inside.firings c.self.inside.numbers.now c.args.self.now c.self.view_is c.args.k c.requires c.in-Some.need c.in-Some.is c.self.invariant, c.self.told.0)

pub offset_bounds-self-inside-from : goal.offset_bounds-self-inside-from
offset_bounds-self-inside-from c = omega (arith, row-room c.self.inside.need c.self.inside.firings c.self.inside.numbers.now c.args.self.now c.self.view_is c.args.k c.requires c.in-Some.need c.in-Some.is c.self.invariant, c.self.told.1)

pub slice_bounds-all_at_one-end : goal.slice_bounds-all_at_one-end
slice_bounds-all_at_one-end c = omega (arith, row-room c.self.inside.need c.self.inside.firings c.self.inside.numbers.now c.args.self.now c.self.view_is c.args.k c.requires c.in-Some.need c.in-Some.is c.self.invariant)

pub returns-in-Some : goal.returns-in-Some
returns-in-Some c =
    let n : ℕ = c.in-Some.need in
    let from : ℕ = c.args.k * n in
    let ns = c.self.inside.numbers.now in
    let here = row-here c.self.inside.need c.self.inside.firings ns c.args.self.now c.self.view_is c.args.k c.requires in
    c.all_at_one.ensures ∙ ap (λ v. map Int (take v (drop from ns)) ∷ []) (more from n) ∙ row-at n c.self.inside.firings ns c.args.k here ∙ ap (λ v. get_or (rows_of v c.self.inside.firings ns) c.args.k []) (sym c.in-Some.is) ∙ ap (λ v. get_or v c.args.k []) c.self.view_is
  where
    more : (o n : ℕ) → o + n - o ≡ n
    more o n = omega arith

pub returns-in-None : goal.returns-in-None
returns-in-None c =
    let ns = c.self.inside.numbers.now in
    let here = row-here c.self.inside.need c.self.inside.firings ns c.args.self.now c.self.view_is c.args.k c.requires in
    c.one_at_each.ensures ∙ nothing-at c.self.inside.firings c.args.k ns here ∙ ap (λ v. get_or (rows_of v c.self.inside.firings ns) c.args.k []) (sym c.in-None.is) ∙ ap (λ v. get_or v c.args.k []) c.self.view_is
