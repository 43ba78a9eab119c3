use Rattle.std.proofs.Common.{◌≡◌, ◌<◌, [], length, subst, sym, ap, ◌∙◌, arith}
use Rattle.pt_firing.specs.Outputs.{on_first, streams_in}
use Rattle.pt_firing.proofs.Streams.{at-on_first, at-on_first-zero, length-on_first, set-on_first, set-on_first-zero, at-read}
use Rattle.pt_firing.proofs.outputs.Outputs.take.Goals as goal
use Rattle.pt_firing.proofs.outputs.Outputs.take.Goals.{in-OnFirst+then-port-eq0, in-OnFirst+else-port-eq0, in-All}

pub returns-clause-taken : goal.returns-clause-taken
returns-clause-taken c =
    elim c.match-self.branch [
      | in-OnFirst+then-port-eq0 w ↦
          (let e : c.args.self.now ≡ on_first w.in-OnFirst.ports w.in-OnFirst.first = sym c.self.view_is ∙ ap streams_in w.in-OnFirst.is in
          let some : 0 < w.in-OnFirst.ports = omega (arith, c.requires, ap length e, length-on_first w.in-OnFirst.ports w.in-OnFirst.first) in
          rw (w.result-is, w.take.ensures.taken, e, w.if-port-eq0.true) (sym (at-on_first-zero w.in-OnFirst.ports w.in-OnFirst.first some)))
      | in-OnFirst+else-port-eq0 w ↦
          (let e : c.args.self.now ≡ on_first w.in-OnFirst.ports w.in-OnFirst.first = sym c.self.view_is ∙ ap streams_in w.in-OnFirst.is in
          rw (w.result-is, w.new.ensures, e) (sym (at-on_first w.in-OnFirst.ports w.in-OnFirst.first c.args.port (omega arith))))
      | in-All w ↦
          (let e : c.args.self.now ≡ w.in-All.lists.items = sym c.self.view_is ∙ ap streams_in w.in-All.is in
          let short : c.args.port < length w.in-All.lists.items = subst (λ X. c.args.port < length X) e c.requires in
          rw (w.result-is, w.take-in-All.ensures.taken, e) (sym (at-read w.in-All.lists.items c.args.port w.index_mut.result.now short w.index_mut.ensures.value)))
    ]

pub returns-clause-left : goal.returns-clause-left
returns-clause-left c =
    elim c.match-self.branch [
      | in-OnFirst+then-port-eq0 w ↦
          (let e : c.args.self.now ≡ on_first w.in-OnFirst.ports w.in-OnFirst.first = sym c.self.view_is ∙ ap streams_in w.in-OnFirst.is in
          rw (w.self-inside-is, w.take.ensures.left, e, w.if-port-eq0.true) (sym (set-on_first-zero w.in-OnFirst.ports w.in-OnFirst.first [])))
      | in-OnFirst+else-port-eq0 w ↦
          (let e : c.args.self.now ≡ on_first w.in-OnFirst.ports w.in-OnFirst.first = sym c.self.view_is ∙ ap streams_in w.in-OnFirst.is in
          rw (w.self-inside-is, e) (sym (set-on_first w.in-OnFirst.ports w.in-OnFirst.first c.args.port (omega arith))))
      | in-All w ↦
          (let e : c.args.self.now ≡ w.in-All.lists.items = sym c.self.view_is ∙ ap streams_in w.in-All.is in
          rw (w.self-inside-is, w.take-in-All.ensures.left, e))
    ]
