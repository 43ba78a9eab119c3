use Rattle.std.proofs.Common.{◌≡◌, ℕ, ◌+◌, ◌-◌, length, get_or, take, drop, ap, ◌∙◌, sym, arith}
use Rattle.pt_sdf.specs.State.{lent_in}
use Rattle.pt_sdf.specs.Clauses.{State}
use Rattle.pt_sdf.specs.declared.sdf.Stage.TheVariants as code
use Rattle.pt_sdf_parts.proofs.TableLaws.{begins-long}
use Rattle.pt_sdf.proofs.CoreLaws.{seen-at, told-child, told-lists, told-lent}
use Rattle.pt_sdf.proofs.sdf.Core.lent.Goals as goal

pub index-from-requires : goal.index-from-requires
index-from-requires c =
    omega (arith, told-child c.self.inside c.self.invariant.sound c.in-Handed.child c.in-Handed.is, ap (λ v. length v) c.self.invariant.sound.places_begin, c.self.inside.tables.offsets.ok.0, begins-long 0 c.self.inside.plan.places)

pub overflow_add-from : goal.overflow_add-from
overflow_add-from c =
    let l = told-lists c.self.inside c.self.invariant.sound c.in-Handed.child c.in-Handed.is c.index-from.result.now _ c.index-from.ensures (ap (λ v. get_or v c.in-Handed.child 0) c.as_slice.ensures) in
    omega (arith, l, ap (λ v. length v) c.deref.ensures.value, c.deref.type_inv.0)

pub offset_bounds-deref-from : goal.offset_bounds-deref-from
offset_bounds-deref-from c =
    let l = told-lists c.self.inside c.self.invariant.sound c.in-Handed.child c.in-Handed.is c.index-from.result.now _ c.index-from.ensures (ap (λ v. get_or v c.in-Handed.child 0) c.as_slice.ensures) in
    omega (arith, l, ap (λ v. length v) c.deref.ensures.value, c.deref.type_inv.1)

pub slice_bounds-of-end : goal.slice_bounds-of-end
slice_bounds-of-end c =
    let l = told-lists c.self.inside c.self.invariant.sound c.in-Handed.child c.in-Handed.is c.index-from.result.now _ c.index-from.ensures (ap (λ v. get_or v c.in-Handed.child 0) c.as_slice.ensures) in
    omega (arith, l, ap (λ v. length v) c.deref.ensures.value)

pub returns : goal.returns
returns c =
    let n : ℕ = get_or c.as_slice.result.now c.in-Handed.child 0 in
    c.of.ensures ∙ ap (λ v. take v (drop c.index-from.result.now c.deref.result.now)) (more c.index-from.result.now n) ∙ ap (λ v. take n (drop c.index-from.result.now v)) c.deref.ensures.value
    ∙ sym (told-lent c.self.inside c.self.invariant.sound c.in-Handed.child c.in-Handed.is c.index-from.result.now n c.index-from.ensures (ap (λ v. get_or v c.in-Handed.child 0) c.as_slice.ensures))
    ∙ ap (λ (s : State). lent_in s.stage) (seen-at c.self.inside (code.Handed c.in-Handed.child) c.in-Handed.is ∙ c.self.view_is)
  where
    more : (o n : ℕ) → o + n - o ≡ n
    more o n = omega arith
