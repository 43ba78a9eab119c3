use Rattle.std.proofs.Common.{◌≡◌, false, true, ◌∙◌, sym, ap, refl, subst}
use Rattle.pt_document.specs.declared.code.Code.TheVariants as code
use Rattle.pt_document.specs.Outcome.{IsRefusal}
use Rattle.pt_document.specs.View.{input_view}
use Rattle.pt_net.specs.Table.{shown}
use Rattle.pt_scopes.specs.Scopes.{net_view}
use Rattle.pt_job.specs.Inputs.{fits}
use Rattle.pt_job.proofs.Fits.{told, misfit, clean, one_more, read_input, all_fit}
use Rattle.pt_job.proofs.lookup.Lookup.check.Goals as goal

pub returns-then-not-fits-clause-told : goal.returns-then-not-fits-clause-told
returns-then-not-fits-clause-told c =
    let net = net_view c.args.self.now.net.now in
    let i = c.input-item.result in
    let at = read_input c.args.self.now.net.now.inputs.items c.deref-input-items.result.now c.loop-number.number i c.deref-input-items.ensures.value c.loop-number-test.true c.input-item.is in
    let bad : fits net c.loop-number.number (input_view i) ≡ false = sym c.fits.ensures ∙ c.if-not-fits.true in
    told net c.refused.result (shown i.port) (subst (IsRefusal c.refused.result code.Inputs) (c.shown.ensures ∙ ap shown c.as_str.ensures) c.refused.ensures) (misfit net c.loop-number.number (input_view i) at bad)

pub loop-number-preserved : goal.loop-number-preserved
loop-number-preserved c =
    let net = net_view c.args.self.now.net.now in
    let i = c.input-item.result in
    let at = read_input c.args.self.now.net.now.inputs.items c.deref-input-items.result.now c.loop-number.number i c.deref-input-items.ensures.value c.loop-number-test.true c.input-item.is in
    let good : fits net c.loop-number.number (input_view i) ≡ true = sym c.fits.ensures ∙ c.if-not-fits.false in
    one_more net c.loop-number.number (input_view i) at good c.loop-number.invariant

pub returns-clause-clean : goal.returns-clause-clean
returns-clause-clean c = λ ok path fault.
    let net = net_view c.args.self.now.net.now in
    clean net (all_fit net c.args.self.now.net.now.inputs.items c.deref-input-items.result.now c.loop-number.number c.deref-input-items.ensures.value refl c.loop-number-test.false c.loop-number.invariant) fault
