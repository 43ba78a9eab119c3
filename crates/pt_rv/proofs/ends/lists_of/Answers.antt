use Rattle.std.proofs.Common.{◌≡◌, ℕ, zero, suc, ◌+◌, ◌<◌, List, [], ◌∷◌, ◌++◌, length, take, refl, ap, ap₂, sym, ◌∙◌, arith, add-one, length-set}
use Rattle.std.proofs.lemmas.List.{take_all, length-map, length-take-le}
use Rattle.pt_meaning.specs.Streams.{at}
use Rattle.pt_value.specs.declared.token.Token.{Token}
use Rattle.pt_reaction.specs.Spared.{Spared}
use Rattle.pt_puts.proofs.LineLaws.{behind-taken, line-behind}
use Rattle.pt_rv.specs.Parties.{outputs_of}
use Rattle.pt_rv.proofs.ends.lists_of.Goals as goal

more : (os : List (Spared Token)) (k : ℕ) → k < length os → outputs_of (take (k + 1) os) ≡ outputs_of (take k os) ++ (at (outputs_of os) k ∷ [])
more os k h = ap (λ j. outputs_of (take j os)) (add-one k) ∙ next os k h
  where
    next : (os : List (Spared Token)) (k : ℕ) → k < length os → outputs_of (take (suc k) os) ≡ outputs_of (take k os) ++ (at (outputs_of os) k ∷ [])
    next [] k h = absurd (omega (arith, h))
    next (o ∷ os) zero h = refl
    next (o ∷ os) (suc k) h = ap (λ v. o.list ∷ v) (next os k (omega (arith, h)))

front-long : (os : List (Spared Token)) (k : ℕ) → k < length os → length (outputs_of (take k os)) ≡ k
front-long os k h = length-map (take k os) (λ (o : Spared Token). o.list) ∙ length-take-le k os (omega (arith, h))

pub push_reserved-requires : goal.push_reserved-requires
push_reserved-requires c =
    let l : c.loop-outlet.outlet < length c.args.given.items = omega (arith, c.loop-outlet-test.true, c.len-outlet-end.ensures, c.args.given.ok.0) in
    let e = ap (λ v. length v) c.loop-outlet.invariant.lists ∙ front-long c.args.given.items c.loop-outlet.outlet l in
    omega (arith, l, e, c.loop-outlet.lists.ok.0, c.loop-outlet.invariant.room)

pub loop-outlet-preserved : goal.loop-outlet-preserved
loop-outlet-preserved c =
    let l : c.loop-outlet.outlet < length c.args.given.items = omega (arith, c.loop-outlet-test.true, c.len-outlet-end.ensures, c.args.given.ok.0) in
    record {
      lists = c.push_reserved.ensures.items ∙ ap₂ (λ v w. v ++ (w ∷ [])) c.loop-outlet.invariant.lists (c.take-tokens.ensures.taken ∙ line-behind c.args.given.items c.loop-outlet.given.items c.loop-outlet.outlet c.index_mut.result.now (let n = c.loop-outlet.invariant.counted in omega (arith, l, n)) c.loop-outlet.invariant.behind c.index_mut.ensures.value) ∙ sym (more c.args.given.items c.loop-outlet.outlet l);
      behind = behind-taken c.args.given.items c.loop-outlet.given.items c.loop-outlet.outlet c.take-tokens.new.self c.loop-outlet.invariant.behind;
      counted = length-set c.loop-outlet.given.items c.loop-outlet.outlet c.take-tokens.new.self ∙ c.loop-outlet.invariant.counted;
      room = let e = c.push_reserved.ensures.capacity in omega (arith, e, c.loop-outlet.invariant.room);
    }

pub returns : goal.returns
returns c = c.loop-outlet.invariant.lists ∙ ap outputs_of (take_all c.loop-outlet.outlet c.args.given.items (omega (arith, c.loop-outlet-test.false, c.len-outlet-end.ensures, c.args.given.ok.0)))
