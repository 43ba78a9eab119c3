use Rattle.std.proofs.Common.{◌≡◌, ◌<◌, ◌+◌, ◌-◌, ◌||◌, length, drop, map, sym, ap, subst, ◌∙◌, arith}
use Rattle.std.proofs.lemmas.List.{length-set}
use Rattle.std.specs.HashSet.{contains_text}
use Rattle.pt_types.specs.Entry.{typed_entry}
use Rattle.pt_flow_base.proofs.TypedPorts.{nothing-left}
use Rattle.pt_formula.specs.Formula.{names, is_among}
use Rattle.pt_chart.specs.Names.{shown_among}
use Rattle.pt_guards.proofs.ShownLaws.{taken-before, shown-before}
use Rattle.pt_guards.proofs.shown.shown_among.Goals as goal

pub loop-left-init : goal.loop-left-init
loop-left-init c =
    let es = c.args.variables.now in
    let none = nothing-left es (length es) (omega arith) in
    record {
      taken = λ name. sym (ap (λ xs. is_among name (names (map typed_entry xs)) || contains_text c.args.taken.now name) none);
      within = omega arith;
      counted = sym c.in_ok-shown.shown.ok.0 ∙ c.in_ok-shown.ensures.len;
      shown =
          nothing-left c.in_ok-shown.shown.items (length es) (omega (arith, sym c.in_ok-shown.shown.ok.0 ∙ c.in_ok-shown.ensures.len))
          ∙ sym (ap (λ xs. shown_among (contains_text c.args.taken.now) (map typed_entry xs)) none);
    }

pub loop-left-preserved : goal.loop-left-preserved
loop-left-preserved c =
    let es = c.args.variables.now in
    let n = c.loop-left.left - 1 in
    let inv = c.loop-left.invariant in
    let short : n < length es = omega (arith, inv.within, c.loop-left-test.true) in
    let more : c.loop-left.left ≡ n + 1 = omega (arith, c.loop-left-test.true) in
    let e = c.index-variables-left.result in
    let b = c.in_ok-shown-2.field-0 in
    record {
      taken =
          taken-before es n e c.as_str.result.now (contains_text c.args.taken.now) (contains_text c.loop-left.taken) (contains_text c.put_name.new.taken) short c.index-variables-left.is c.as_str.ensures
          (λ name. inv.taken name ∙ ap (λ k. is_among name (names (map typed_entry (drop k es))) || contains_text c.args.taken.now name) more) c.in_ok-shown-2.ensures.there;
      within = omega (arith, inv.within);
      counted = length-set c.loop-left.shown.items n b ∙ inv.counted;
      shown =
          shown-before es n e c.as_str.result.now (contains_text c.args.taken.now) (contains_text c.loop-left.taken) (contains_text c.put_name.new.taken) short c.index-variables-left.is c.as_str.ensures
          (λ name. inv.taken name ∙ ap (λ k. is_among name (names (map typed_entry (drop k es))) || contains_text c.args.taken.now name) more) c.loop-left.shown.items b (omega (arith, short, inv.counted)) c.in_ok-shown-2.ensures.new
          (subst (λ k. drop k c.loop-left.shown.items ≡ shown_among (contains_text c.args.taken.now) (map typed_entry (drop k es))) more inv.shown);
    }

pub returns : goal.returns
returns c =
    let zero-left : c.loop-left.left ≡ 0 = omega (arith, c.loop-left-test.false) in
    subst (λ k. drop k c.loop-left.shown.items ≡ shown_among (contains_text c.args.taken.now) (map typed_entry (drop k c.args.variables.now))) zero-left c.loop-left.invariant.shown
