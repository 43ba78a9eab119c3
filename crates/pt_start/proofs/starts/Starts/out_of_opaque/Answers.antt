use Rattle.std.proofs.Common.{◌≡◌, Some, None, sym, ap, ◌∙◌, subst}
use Rattle.std.specs.Prelude.{slice_get}
use Rattle.pt_scopes.specs.Scopes.{net_view}
use Rattle.pt_start.specs.declared.round.Round.{Round}
use Rattle.pt_start.specs.Seen.{IsOutward}
use Rattle.pt_start.proofs.Loops.{get-is}
use Rattle.pt_start.proofs.Outward.{opaque-out, no-opaque, strange-opaque}
use Rattle.pt_start.proofs.starts.Starts.out_of_opaque.Goals as goal

pub returns-in-Some-get : goal.returns-in-Some-get
returns-in-Some-get c =
    let s = c.args.self.now in
    let t = c.args.composite in
    let at : slice_get s.net.now.entities.items t ≡ Some c.in-Some.found.now = ap (λ xs. slice_get xs t) (sym c.deref.ensures.value) ∙ sym (get-is c.deref.result.now t (Some c.in-Some.found) c.in-Some.ensures.lookup) in
    let kept : slice_get s.opaque.items t ≡ Some c.in-Some-get.names.now = ap (λ xs. slice_get xs t) (sym c.deref-in-Some.ensures.value) ∙ sym (get-is c.deref-in-Some.result.now t (Some c.in-Some-get.names) c.in-Some-get.ensures.lookup) in
    subst (λ (r : Round). IsOutward (net_view s.net.now) c.args.here c.in-Some-get.names.now r) (sym c.of_entity.ensures) (opaque-out s c.args.here t c.in-Some.found.now c.in-Some-get.names.now c.requires.ready c.requires.round c.requires.innermost.0 c.requires.innermost.1 at kept)

pub returns-in-None-get : goal.returns-in-None-get
returns-in-None-get c =
    let s = c.args.self.now in
    let t = c.args.composite in
    let none : slice_get s.opaque.items t ≡ None = ap (λ xs. slice_get xs t) (sym c.deref-in-Some.ensures.value) ∙ sym (get-is c.deref-in-Some.result.now t None c.in-None-get.ensures.lookup) in
    no-opaque s c.args.here c.requires.ready t c.requires.innermost.0 c.requires.innermost.1 none

pub returns-in-None : goal.returns-in-None
returns-in-None c =
    let s = c.args.self.now in
    let t = c.args.composite in
    let none : slice_get s.net.now.entities.items t ≡ None = ap (λ xs. slice_get xs t) (sym c.deref.ensures.value) ∙ sym (get-is c.deref.result.now t None c.in-None.ensures.lookup) in
    strange-opaque s c.args.here c.requires.ready t c.requires.innermost.0 c.requires.innermost.1 none
