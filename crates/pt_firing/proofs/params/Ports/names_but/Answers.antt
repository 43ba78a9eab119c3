use Rattle.std.proofs.Common.{◌≡◌, ◌++◌, ◌∷◌, drop, ◌+◌, true, false, sym, ap, ◌∙◌, rules}
use Rattle.std.specs.Prelude.{bytes_eq}
use Rattle.std.proofs.lemmas.List.{append_assoc, append-nil}
use Rattle.pt_firing.specs.Params.{names_but}
use Rattle.pt_firing.proofs.Named.{name-taken, name-left, no-names}
use Rattle.pt_firing.proofs.params.Ports.names_but.Goals as goal

pub loop-name-preserved-then-eq : goal.loop-name-preserved-then-eq
loop-name-preserved-then-eq c =
    let e = c.loop-name-item.result in
    let same : bytes_eq e.0 c.args.other.now ≡ true = search rules in
    record {
      rest = ap (λ ns. c.loop-name.names.items ++ ns) (sym (name-left c.args.other.now c.deref-name-items.result.now c.loop-name.name-index e c.loop-name-test.true c.loop-name-item.is same)) ∙ c.loop-name.invariant.rest;
      all = c.loop-name.invariant.all;
    }

pub loop-name-preserved : goal.loop-name-preserved
loop-name-preserved c =
    let e = c.loop-name-item.result in
    let other : bytes_eq e.0 c.args.other.now ≡ false = search rules in
    let later = names_but c.args.other.now (drop (c.loop-name.name-index + 1) c.deref-name-items.result.now) in
    record {
      rest = ap (λ ns. ns ++ later) c.in_ok-push.ensures.items ∙ append_assoc c.loop-name.names.items _ later ∙ ap (λ n. c.loop-name.names.items ++ n ∷ later) c.in_ok-copy.ensures ∙ ap (λ ns. c.loop-name.names.items ++ ns) (sym (name-taken c.args.other.now c.deref-name-items.result.now c.loop-name.name-index e c.loop-name-test.true c.loop-name-item.is other)) ∙ c.loop-name.invariant.rest;
      all = c.loop-name.invariant.all;
    }

pub returns : goal.returns
returns c = c.of.ensures ∙ sym (append-nil c.loop-name.names.items) ∙ ap (λ ns. c.loop-name.names.items ++ ns) (sym (no-names c.args.other.now c.deref-name-items.result.now c.loop-name.name-index c.loop-name-test.false)) ∙ c.loop-name.invariant.rest
