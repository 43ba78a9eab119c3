use Rattle.std.proofs.Common.{◌≡◌, ℕ, ℤ, ◌*◌, [], ◌∷◌, ◌++◌, List, map, refl, w64, SFits, rules, ap, sym, subst, ◌∙◌, arith}
use Rattle.std.proofs.lemmas.Int.{to_z-of_z}
use Rattle.pt_meaning.specs.Basics.{Tag}
use Rattle.pt_meaning.specs.Node.{Gives}
use Rattle.pt_value.specs.declared.token.Token.TheVariants.{Int}
use Rattle.pt_flow_base.specs.Number.{GivesStretch}
use Rattle.pt_flow_base.proofs.InTurn.{stretch-none, stretch-more}
use Rattle.pt_lib_flow.proofs.ones.put_ones.Goals as goal

pub loop-k-init : goal.loop-k-init
loop-k-init g c = record {
  so_far = stretch-none g.A.Fires.step c.args.actor.now c.args.inputs.now 1 c.args.given.now.items c.requires.empty;
  room = omega (arith, c.firings-firings.ensures, c.requires.room);
}

pub returns-in_default : goal.returns-in_default
returns-in_default g c = subst (λ s. GivesStretch g.A.Fires.step c.args.actor.now c.args.inputs.now 1 c.loop-k.k c.loop-k.given.items s) (sym c.in_default.ensures) c.loop-k.invariant.so_far

pub push_reserved-requires : goal.push_reserved-requires
push_reserved-requires g c = omega (arith, c.loop-k.invariant.so_far.counted, c.loop-k.invariant.room, c.loop-k-test.true, c.loop-k.given.ok.0)

pub loop-k-preserved : goal.loop-k-preserved
loop-k-preserved g c =
    let n : ℤ = c.in-Some.number in
    let ns = c.loop-k.given.items in
    let fits : SFits w64 n = search rules in
    let put : c.push_reserved.new.self.items ≡ ns ++ n ∷ [] = ◌∙◌ {A = List ℤ} c.push_reserved.ensures.items (ap (λ z. ns ++ z ∷ []) (to_z-of_z w64 n fits)) in
    let last = subst (λ X. (tag : Tag) → g.A.Fires.step tag c.loop-k.actor X ≡ Gives c.one.new.self (map Int (n ∷ []) ∷ [])) c.firing.ensures c.in-Some.ensures in
    record {
      so_far = stretch-more g.A.Fires.step c.args.actor.now c.loop-k.actor c.one.new.self c.args.inputs.now 1 c.loop-k.k ns (n ∷ []) c.push_reserved.new.self.items c.loop-k.invariant.so_far (omega (arith, c.loop-k-test.true, c.firings-firings.ensures)) last refl put;
      room = omega (arith, c.loop-k.invariant.room, c.push_reserved.ensures.capacity);
    }

pub returns : goal.returns
returns g c =
    let all : c.loop-k.k ≡ c.firings-firings.result = omega (arith, c.loop-k-test.false, c.loop-k.auto.k-end) in
    subst (λ k. GivesStretch g.A.Fires.step c.args.actor.now c.args.inputs.now 1 k c.loop-k.given.items c.loop-k.actor) all c.loop-k.invariant.so_far
