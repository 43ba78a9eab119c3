use Rattle.std.proofs.Common.{◌≡◌, ℕ, ◌<◌, Some, length, sym, ap, subst, ◌∙◌, arith}
use Rattle.std.specs.Prelude.{Option}
use Rattle.std.specs.List.{slice_get}
use Rattle.std.proofs.lemmas.Option.{slice_get-get_or}
use Rattle.pt_scopes.specs.Scopes.{net_view}
use Rattle.pt_job.specs.Inputs.{input_to, token_lists, AreTokensOf}
use Rattle.pt_job.proofs.Present.{comes, within, full_at, list_at}
use Rattle.pt_job.proofs.inputs.list_to.Goals as goal

pub index-requires : goal.index-requires
index-requires c =
    let net = net_view c.args.lookup.now.net.now in
    let e : input_to net c.args.port.now ≡ Some c.in-Some.number = sym c.in-Some.ensures in
    let short : c.in-Some.number < length c.args.values.now.inputs.items = within net c.args.values.now c.in-Some.number (comes net c.args.values.now c.requires.valued c.requires.clean c.args.port.now c.in-Some.number e) in
    omega (arith, c.args.values.now.inputs.ok)

pub returns-in-Some-clause-full : goal.returns-in-Some-clause-full
returns-in-Some-clause-full c =
    let net = net_view c.args.lookup.now.net.now in
    let e : input_to net c.args.port.now ≡ Some c.in-Some.number = sym c.in-Some.ensures in
    let w = comes net c.args.values.now c.requires.valued c.requires.clean c.args.port.now c.in-Some.number e in
    let at : slice_get c.args.values.now.inputs.items c.in-Some.number ≡ Some c.index.result.now = slice_get-get_or c.args.values.now.inputs.items c.in-Some.number c.index.result.now (within net c.args.values.now c.in-Some.number w) ∙ ap Some (sym c.index.ensures) in
    full_at net c.args.values.now c.in-Some.number w c.index.result.now c.as_slice.result.now at c.as_slice.ensures.value

pub returns-in-Some-clause-comes : goal.returns-in-Some-clause-comes
returns-in-Some-clause-comes c =
    let net = net_view c.args.lookup.now.net.now in
    let e : input_to net c.args.port.now ≡ Some c.in-Some.number = sym c.in-Some.ensures in
    let w = comes net c.args.values.now c.requires.valued c.requires.clean c.args.port.now c.in-Some.number e in
    let at : slice_get c.args.values.now.inputs.items c.in-Some.number ≡ Some c.index.result.now = slice_get-get_or c.args.values.now.inputs.items c.in-Some.number c.index.result.now (within net c.args.values.now c.in-Some.number w) ∙ ap Some (sym c.index.ensures) in
    let list : slice_get (token_lists c.args.values.now) c.in-Some.number ≡ Some c.as_slice.result.now = list_at c.args.values.now c.in-Some.number c.index.result.now c.as_slice.result.now at c.as_slice.ensures.value in
    subst (λ (o : Option ℕ). AreTokensOf c.args.values.now o c.as_slice.result.now) (sym e) list
