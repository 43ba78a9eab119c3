use Rattle.std.proofs.Common.{◌≡◌, ℕ, ◌+◌, ◌<◌, ◌≤◌, ◌⊎◌, inl, inr, ⊎_elim, [], length, take, drop, get_or, set, Option, None, Vec, Global, refl, ap, sym, ◌∙◌, subst, arith, length-set, length-drop}
use Rattle.std.proofs.lemmas.List.{drop-set-add, take_more_set, get_or-set_same, get_or-set_other, get_or-drop}
use Rattle.std.proofs.lemmas.Bool.{cases_eq}
use Rattle.pt_value.specs.declared.token.Token.{Token}
use Rattle.pt_sdf_parts.specs.ByNeed.{skip_at}
use Rattle.pt_sdf_parts.proofs.Lists.{read-at, skip-zero, taken-long, next-list, next-left, next-taken}
use Rattle.pt_sdf_parts.proofs.gathering.gather.Goals as goal

pub returns-then-n-eq1-clause-left : goal.returns-then-n-eq1-clause-left
returns-then-n-eq1-clause-left c =
    let X = c.args.channels.now.lists in
    let o = c.args.from in
    let z : o ≡ o + 0 = omega arith in
    let taken = subst (λ v. c.lend.new.channels.lists ≡ set X v (drop (get_or c.args.needs.now v 0) (get_or X v []))) z c.lend.ensures.lists in
    let one : c.args.n ≡ 1 = omega (arith, c.if-n-eq1.true) in
    subst (λ v. c.lend.new.channels.lists ≡ skip_at o (take v (drop o c.args.needs.now)) X) (sym one)
    (next-left X X o 0 (drop o c.args.needs.now) (sym (skip-zero o X)) _ _ (omega (arith, c.requires.needed, c.if-n-eq1.true, length-drop o c.args.needs.now)) (omega (arith, c.requires.places, c.if-n-eq1.true)) (sym (get_or-drop o c.args.needs.now 0 0)) taken)

pub loop-k-init : goal.loop-k-init
loop-k-init c = record { lent = refl; left = sym (skip-zero c.args.from c.args.channels.now.lists); others = λ c' h. refl; rooms = refl; counted = c.lighten.ensures }

pub lend-requires-in-loop-k-clause-given : goal.lend-requires-in-loop-k-clause-given
lend-requires-in-loop-k-clause-given c = omega (arith, c.requires.places, c.loop-k-test.true, taken-long c.loop-k.channels.lists c.args.channels.now.lists c.args.from c.loop-k.k (drop c.args.from c.args.needs.now) c.loop-k.invariant.left)

pub lend-requires-in-loop-k-clause-enough : goal.lend-requires-in-loop-k-clause-enough
lend-requires-in-loop-k-clause-enough c =
    subst (λ v. get_or c.args.needs.now (c.args.from + c.loop-k.k) 0 ≤ length v) (sym (next-list c.loop-k.channels.lists c.args.channels.now.lists c.args.from c.loop-k.k (drop c.args.from c.args.needs.now) c.loop-k.invariant.left)) (c.requires.enough c.loop-k.k c.loop-k-test.true)

pub loop-k-preserved : goal.loop-k-preserved
loop-k-preserved c =
    let k : ℕ = c.loop-k.k in
    let h : k < length (drop c.args.from c.args.needs.now) = omega (arith, c.requires.needed, c.loop-k-test.true, length-drop c.args.from c.args.needs.now) in
    let l : c.args.from + k < length c.args.channels.now.lists = omega (arith, c.requires.places, c.loop-k-test.true) in
    let n : get_or c.args.needs.now (c.args.from + k) 0 ≡ get_or (drop c.args.from c.args.needs.now) k 0 = sym (get_or-drop c.args.from c.args.needs.now k 0) in
    record {
      lent =
          ap (λ v. take (k + 1) v) (drop-set-add c.args.from c.loop-k.lent.items k c.lend-in-loop-k.new.place) ∙
          take_more_set (drop c.args.from c.loop-k.lent.items) k c.lend-in-loop-k.new.place (omega (arith, c.requires.lists, c.loop-k-test.true, c.loop-k.invariant.counted, length-drop c.args.from c.loop-k.lent.items)) ∙
          next-taken c.loop-k.channels.lists c.args.channels.now.lists c.args.from c.loop-k.k (drop c.args.from c.args.needs.now) c.loop-k.invariant.left _ _ _ h l n c.lend-in-loop-k.ensures.taken c.loop-k.invariant.lent;
      left = next-left c.loop-k.channels.lists c.args.channels.now.lists c.args.from c.loop-k.k (drop c.args.from c.args.needs.now) c.loop-k.invariant.left _ _ h l n c.lend-in-loop-k.ensures.lists;
      others = λ c' b.
          let at : ℕ = c.args.from + k in
          let old : Option (Vec Token Global) = c.index_mut-in-loop-k.result.now in
          let fits : at < length c.loop-k.rooms.items = omega (arith, c.requires.roomy, c.loop-k-test.true, c.loop-k.invariant.rooms) in
          ⊎_elim
          (λ e.
          let few = small c.args.from k c' (get_or c.args.needs.now c' 0) b e in
          ap (λ v. get_or (set c.loop-k.rooms.items at c.lend-in-loop-k.new.room) v None) e ∙ get_or-set_same c.loop-k.rooms.items at c.lend-in-loop-k.new.room None fits ∙
          c.lend-in-loop-k.ensures.room (subst (λ v. get_or c.args.needs.now v 0 ≤ 1) e few) ∙ read-at c.loop-k.rooms.items at old None fits c.index_mut-in-loop-k.ensures.value ∙
          ap (λ v. get_or c.loop-k.rooms.items v None) (sym e) ∙ c.loop-k.invariant.others c' (inr (inr few)))
          (λ e. get_or-set_other c.loop-k.rooms.items at c' c.lend-in-loop-k.new.room None e ∙ c.loop-k.invariant.others c' (wider c.args.from k c' (get_or c.args.needs.now c' 0) b e))
          (cases_eq c' at);
      rooms = length-set c.loop-k.rooms.items (c.args.from + k) c.lend-in-loop-k.new.room ∙ c.loop-k.invariant.rooms;
      counted = length-set c.loop-k.lent.items (c.args.from + k) c.lend-in-loop-k.new.place ∙ c.loop-k.invariant.counted;
    }
  where
    small : (o k c n : ℕ) → (c < o) ⊎ (o + (k + 1) ≤ c) ⊎ (n ≤ 1) → c ≡ o + k → n ≤ 1
    small o k c n (inl h) e = absurd (omega arith)
    small o k c n (inr (inl h)) e = absurd (omega arith)
    small o k c n (inr (inr h)) e = h

    wider : (o k c n : ℕ) → (c < o) ⊎ (o + (k + 1) ≤ c) ⊎ (n ≤ 1) → (c ≡ o + k → ⊥) → (c < o) ⊎ (o + k ≤ c) ⊎ (n ≤ 1)
    wider o k c n (inl h) e = inl h
    wider o k c n (inr (inl h)) e = inr (inl (omega arith))
    wider o k c n (inr (inr h)) e = inr (inr h)
