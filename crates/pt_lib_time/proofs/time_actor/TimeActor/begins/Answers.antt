use Rattle.std.proofs.Common.{◌≡◌, inl, inr, true, ap, ◌∙◌}
use Rattle.pt_lib_time.specs.TimeActor.{places, is_steady}
use Rattle.pt_lib_time.proofs.Giving.{needs-one}
use Rattle.pt_lib_time.proofs.time_actor.TimeActor.begins.Goals as goal

pub returns-in-Absent : goal.returns-in-Absent
returns-in-Absent c = c.has_no_places.ensures (places c.args.self.now) (c.need.ensures ∙ needs-one c.args.self.now steady)
  where
    steady : is_steady c.args.self.now ≡ true
    steady = elim c.in-Absent.is [
      | inl w ↦ ap is_steady w.1
      | inr (inl w) ↦ ap is_steady w.1
      | inr (inr (inl w)) ↦ ap is_steady w.1
      | inr (inr (inr (inl w))) ↦ ap is_steady w.1
      | inr (inr (inr (inr (inl w)))) ↦ ap is_steady w.1
      | inr (inr (inr (inr (inr (inl w))))) ↦ ap is_steady w.1
      | inr (inr (inr (inr (inr (inr (inl w)))))) ↦ ap is_steady w.1
      | inr (inr (inr (inr (inr (inr (inr w)))))) ↦ ap is_steady w.1
    ]
