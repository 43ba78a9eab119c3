-- Lines of meetings, worked by hand.
use Rattle.std.proofs.Common.{◌≡◌, Some, codes, refl, sym, ap, subst, arith, ◌∙◌}
use Rattle.std.specs.Prelude.{slice_get}
use Rattle.pt_meaning.specs.Log.{Channel, Barrier}
use Rattle.pt_document.specs.Names.{below}
use Rattle.pt_net.specs.declared.net.Channel as net
use Rattle.pt_net.specs.declared.net.Net.{Net}
use Rattle.pt_net.specs.declared.net.NetEntity.{NetEntity}
use Rattle.pt_trace.specs.declared.meetings.ChildPlace.{ChildPlace}
use Rattle.pt_trace.specs.declared.meetings.Met.TheVariants as met
use Rattle.pt_meeting_lines.specs.Tells.{IsPortOf, Tells, TellsAt}
use Rattle.pt_meeting_lines.specs.Examples.{at_place, IsExample, LineExamples}
use Rattle.pt_meeting_lines.proofs.Telling.{same-of}

below-C-m : below (codes "C") (codes "m") ≡ codes "C.m"
unfolding below
below-C-m = refl

below-C-b : below (codes "C") (codes "b") ≡ codes "C.b"
unfolding below
below-C-b = refl

module _ (n : Net) (round child barrier : NetEntity) (x y : net.Channel) (e : IsExample n round child barrier x y) where
  place : TellsAt n (Some (codes "C")) (at_place 1) (Channel 5)
  place =
      let path = ap (λ p. below p (codes "m")) e.composite_path ∙ below-C-m ∙ sym e.child_path in
      let apart : x.to.entity ≡ 2 → ⊥ = λ f. let no : 4 ≡ 2 = sym e.entity ∙ f in omega (arith, no) in
      let there = subst (λ k. slice_get n.entities.items k ≡ Some child) (sym e.entity) e.child_there in
      (2, round, e.composite, e.composite_path, (x, e.channel, (apart, (child, (there, path), subst (λ k. IsPortOf child k (codes "input")) (sym e.of_port) e.port, e.index))))

  no-other : Tells n 2 round (at_place 0) (Channel 5) → ⊥
  no-other t =
      let same : x ≡ t.0 = same-of (sym e.channel ∙ t.1) in
      let index : 1 ≡ 0 = sym e.index ∙ ap (λ (z : net.Channel). z.to.index) same ∙ t.2.1.3 in omega (arith, index)

  output : TellsAt n (Some (codes "C")) (met.Out (codes "o")) (Channel 6)
  output = (2, round, e.composite, e.composite_path, (y, e.to_output, (e.own, subst (λ k. IsPortOf round k (codes "o")) (sym e.own_port) e.output)))

  no-place : (p : ChildPlace) → Tells n 2 round (met.Meet p) (Channel 6) → ⊥
  no-place p t =
      let same : y ≡ t.0 = same-of (sym e.to_output ∙ t.1) in
      t.2.0 (ap (λ (z : net.Channel). z.to.entity) (sym same) ∙ e.own)

  by-barrier : TellsAt n (Some (codes "C")) (met.Barrier (codes "b")) (Barrier 1)
  by-barrier =
      let path = ap (λ p. below p (codes "b")) e.composite_path ∙ below-C-b ∙ sym e.barrier_path in
      (2, round, e.composite, e.composite_path, (5, e.second_child, (barrier, (e.barrier_there, path))))

pub line-examples : LineExamples
line-examples = record {
  first = refl;
  first_made = refl;
  second = refl;
  second_made = refl;
  tells = λ n round child barrier x y e. record { place = place n round child barrier x y e; no_other = no-other n round child barrier x y e; output = output n round child barrier x y e; no_place = no-place n round child barrier x y e; barrier = by-barrier n round child barrier x y e };
}
