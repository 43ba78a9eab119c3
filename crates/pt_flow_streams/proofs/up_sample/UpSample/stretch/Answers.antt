use Rattle.std.proofs.Common.{◌≡◌, [], ◌++◌, get_or, ℤ, w64, SFits, IfSome, rules, ap, sym, subst, ◌∙◌, arith}
use Rattle.std.proofs.lemmas.Int.{to_z-of_z}
use Rattle.pt_flow_base.specs.Row.{number_at}
use Rattle.pt_flow_base.specs.Number.{GivesStretch}
use Rattle.pt_flow_base.proofs.InTurn.{stretch-none, stretch-more}
use Rattle.pt_flow_streams.specs.UpSample.{number_among, step}
use Rattle.pt_flow_streams.proofs.UpSamples.{among-long, gives-among, put-so, put-none}
use Rattle.pt_flow_streams.proofs.up_sample.UpSample.stretch.Goals as goal

pub returns-then-not-is_sum : goal.returns-then-not-is_sum
returns-then-not-is_sum c = stretch-none step c.args.self.now c.args.inputs.now c.args.rate c.clear.new.self.items c.clear.ensures.items

pub loop-k-init : goal.loop-k-init
loop-k-init c = stretch-none step c.args.self.now c.args.inputs.now c.args.rate c.clear.new.self.items c.clear.ensures.items

pub returns-in_default : goal.returns-in_default
returns-in_default c = c.loop-k.invariant

pub returns-then-is_none : goal.returns-then-is_none
returns-then-is_none c =
    subst (λ v. GivesStretch step c.args.self.now c.args.inputs.now c.args.rate c.loop-k.k v c.args.self.now) (sym (c.put_among_zeros.ensures.kept (put-none c.put_among_zeros.result c.is_none.result c.is_none.ensures c.if-is_none.true))) c.loop-k.invariant

pub loop-k-preserved : goal.loop-k-preserved
loop-k-preserved c =
    let a = c.args.self.now in
    let n : ℤ = c.in-Some.input in
    let read = ap (λ X. number_at X 0) (sym c.firing.ensures) ∙ sym c.number_at.ensures ∙ c.in-Some.is in
    let fits : SFits w64 n = search rules in
    let told = subst (λ z. IfSome c.put_among_zeros.result (λ _. c.put_among_zeros.new.given.items ≡ c.loop-k.given.items ++ number_among a.before z a.after)) (to_z-of_z w64 n fits) c.put_among_zeros.ensures.put in
    let put = put-so c.put_among_zeros.result c.is_none.result c.is_none.ensures c.if-is_none.false told in
    stretch-more step a a a c.args.inputs.now c.args.rate c.loop-k.k c.loop-k.given.items (number_among a.before n a.after) c.put_among_zeros.new.given.items c.loop-k.invariant (omega (arith, c.loop-k-test.true, c.firings-firings.ensures))
    (gives-among a (get_or c.args.inputs.now c.loop-k.k []) n read) (among-long a.before a.after n ∙ sym (c.is_sum.ensures c.if-not-is_sum.false)) put

pub returns : goal.returns
returns c =
    let all : c.loop-k.k ≡ c.firings-firings.result = omega (arith, c.loop-k-test.false, c.loop-k.auto.k-end) in
    subst (λ k. GivesStretch step c.args.self.now c.args.inputs.now c.args.rate k c.loop-k.given.items c.args.self.now) all c.loop-k.invariant
