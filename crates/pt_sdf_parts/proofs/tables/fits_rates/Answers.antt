use Rattle.std.proofs.Common.{◌≡◌, length, ap, ◌∙◌, sym, arith}
use Rattle.pt_sdf_parts.proofs.TableLaws.{rates-fit, rates-differ, rates-short}
use Rattle.pt_sdf_parts.proofs.tables.fits_rates.Goals as goal

pub returns-then-rates-ports : goal.returns-then-rates-ports
returns-then-rates-ports c = sym (rates-short c.args.rates.now c.args.outputs.now (λ e. c.if-rates-ports.true (e ∙ sym c.ports.ensures)))

pub returns-then-list-rates : goal.returns-then-list-rates
returns-then-list-rates c =
    let a : length c.args.rates.now ≡ length c.args.outputs.now = c.if-rates-ports.false ∙ c.ports.ensures in
    sym (rates-differ c.args.rates.now c.args.outputs.now c.loop-port.port c.loop-port-test.true (omega (arith, a, c.loop-port-test.true)) (λ e. c.if-list-rates.true (ap (λ v. length v) c.list.ensures ∙ e)))

pub returns : goal.returns
returns c =
    let a : length c.args.rates.now ≡ length c.args.outputs.now = c.if-rates-ports.false ∙ c.ports.ensures in
    sym (rates-fit c.args.rates.now c.args.outputs.now a (λ k h. c.loop-port.invariant k (omega (arith, c.loop-port-test.false, h))))
