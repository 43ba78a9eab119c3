use Rattle.std.proofs.Common.{◌≡◌, refl, sym, ap, ◌∙◌, Some, None}
use Rattle.std.specs.Prelude.{option_map}
use Rattle.pt_value.specs.Token.{value_of}
use Rattle.pt_scopes.specs.Names.{held, or_else}
use Rattle.pt_scopes.specs.Scopes.{bound, net_view}
use Rattle.pt_start.specs.Seen.{IsOutward, IsBefore, SeesNothing}
use Rattle.pt_start.proofs.starts.Starts.find.Goals as goal

pub outward-init : goal.outward-init
outward-init c = record { round = c.requires.round; onward = λ seen sees. (seen, sees, refl) }

pub out-requires-clause-round : goal.out-requires-clause-round
out-requires-clause-round c = c.outward.invariant.round

pub returns-in-Some-get : goal.returns-in-Some-get
returns-in-Some-get c = λ seen sees.
    let net = net_view c.args.self.now.net.now in
    let name = c.args.name.now in
    let names = c.in-Some.names.now in
    let inner = c.outward.invariant.onward seen sees in
    let out : IsOutward net c.outward.round names c.in-Some.out = c.in-Some.ensures in
    let b : IsBefore net names c.in-Some.out inner.0 = out.before inner.0 inner.1 in
    let found : Some (value_of c.in-Some-get.token.now) ≡ held names name = c.in-Some-get.ensures in
    ap (λ o. or_else (option_map Some o) (bound b.around name)) found ∙ b.is name ∙ inner.2

pub outward-preserved : goal.outward-preserved
outward-preserved c =
    let net = net_view c.args.self.now.net.now in
    let name = c.args.name.now in
    let names = c.in-Some.names.now in
    let out : IsOutward net c.outward.round names c.in-Some.out = c.in-Some.ensures in
    let none : None ≡ held names name = c.in_default-get.ensures in
    record {
      round = out.round;
      onward = λ seen sees.
          let inner = c.outward.invariant.onward seen sees in
          let b : IsBefore net names c.in-Some.out inner.0 = out.before inner.0 inner.1 in
          (b.around, b.sees, ap (λ o. or_else (option_map Some o) (bound b.around name)) none ∙ b.is name ∙ inner.2);
    }

pub returns : goal.returns
returns c = λ seen sees.
    let inner = c.outward.invariant.onward seen sees in
    let nothing : SeesNothing (net_view c.args.self.now.net.now) c.outward.round = c.in_default.ensures in
    sym (nothing inner.0 inner.1 c.args.name.now) ∙ inner.2
