use Rattle.std.proofs.Common.{[], length, map, get_or, replicate, ap, ap₂, sym, subst, ◌∙◌, arith}
use Rattle.std.proofs.lemmas.List.{length-map}
use Rattle.pt_meaning.specs.Machine.{Over}
use Rattle.pt_rv_laws.specs.State.{Processes}
use Rattle.pt_rv_laws.specs.Lawful.{HasPlaces}
use Rattle.pt_rv_plan.specs.Plan.{AreSound}
use Rattle.pt_puts.specs.Need.{need_in}
use Rattle.pt_rv_parts.specs.Team.{NoneHanded}
use Rattle.pt_rv.specs.Fresh.{starting}
use Rattle.pt_rv.specs.Parties.{outputs_of}
use Rattle.pt_rv.proofs.FreshLaws.{none-put, outlets-for, start-free}
use Rattle.pt_rv.proofs.fresh.fresh_parties.Goals as goal

pub processes_of-requires : goal.processes_of-requires
processes_of-requires c =
    let s = subst AreSound (sym c.plan-core.ensures) c.requires in
    record {
      told = ap (λ v. length v) c.deref.ensures.value ∙ s.lawful.barriers ∙ sym (ap (λ v. length v) c.as_slice.ensures);
      counted = ap (λ v. length v) c.deref-2.ensures.value ∙ sym (length-map c.plan-core.result.now.starts.items need_in) ∙ s.lawful.starts ∙ sym (ap (λ v. length v) c.as_slice.ensures);
      fits = λ i l. subst (λ v. HasPlaces (get_or v i 0) (get_or (map need_in c.deref-2.result.now) i Over)) (sym c.as_slice.ensures)
          (subst (λ v. HasPlaces (get_or c.plan-core.result.now.places i 0) (get_or (map need_in v) i Over)) (sym c.deref-2.ensures.value) (s.counts i (let e = ap (λ v. length v) c.as_slice.ensures in omega (arith, l, e))));
    }

pub of-requires : goal.of-requires
of-requires c = subst NoneHanded (sym c.in_ok-processes.ensures) (start-free c.deref.result.now (map need_in c.deref-2.result.now) c.as_slice.result.now)

pub returns : goal.returns
returns c = record {
  processes =
      c.in_ok-team.ensures ∙ c.in_ok-processes.ensures ∙ ap (λ v. starting v (map need_in c.deref-2.result.now) c.as_slice.result.now) c.deref.ensures.value ∙
      ap₂ (λ v w. starting c.plan-core.result.now.barriers.items (map need_in v) w) c.deref-2.ensures.value c.as_slice.ensures ∙ ap (λ (p : Processes). starting p.plan.barriers p.starts p.plan.net.places) c.plan-core.ensures;
  inputs = c.in_ok-inlets.ensures ∙ ap (λ n. replicate n []) c.inlets.ensures ∙ none-put c.args.plan.now.plan.takes;
  outputs = outlets-for c.args.plan.now.plan.net.places c.args.plan.now.plan.net.sources (outputs_of c.in_ok-outlets.outlets.items) c.saturating_sub.result c.in_ok-outlets.ensures (omega (arith, c.saturating_sub.ensures, c.channels.ensures.count, c.inner.ensures));
}
