use Rattle.std.proofs.Common.{◌≡◌, ℕ, None, length, ◌∙◌, arith, Vec, Global}
use Rattle.pt_net.specs.declared.net.NetEntity.{NetEntity}
use Rattle.pt_typing.specs.Least.{assignment}
use Rattle.pt_resolve.proofs.CompositeBreaks.{over, over-told, over-broken, general, general-told, general-broken, none-broken}
use Rattle.pt_resolve.proofs.breaking.broken.Goals as goal

counted : (entities : Vec NetEntity Global) (n : ℕ) → n ≡ entities.len → n ≡ length entities.items
counted entities n e = omega (arith, e, entities.ok.0)

pub returns-in-Some : goal.returns-in-Some
returns-in-Some c =
    let net = c.args.net.now in
    let a = assignment c.args.typing.now in
    over-broken net a c.in-Some.composite (over-told net a c.len-first.result c.deref.result.now c.in_ok-composite.field-0 (counted net.entities c.len-first.result c.len-first.ensures) c.deref.ensures.value c.in_ok-composite.ensures ∙ c.in-Some.is)

pub returns-in-Some-3 : goal.returns-in-Some-3
returns-in-Some-3 c =
    let net = c.args.net.now in
    let a = assignment c.args.typing.now in
    general-broken net a c.in-Some-3.composite (general-told net a c.len-first.result c.deref-2.result.now c.in_ok-composite-2.field-0 (counted net.entities c.len-first.result c.len-first.ensures) c.deref-2.ensures.value c.in_ok-composite-2.ensures ∙ c.in-Some-3.is)

pub returns-in-None : goal.returns-in-None
returns-in-None c =
    let net = c.args.net.now in
    let a = assignment c.args.typing.now in
    let here = counted net.entities c.len-first.result c.len-first.ensures in
    let no_over : over net a ≡ None = over-told net a c.len-first.result c.deref.result.now c.in_ok-composite.field-0 here c.deref.ensures.value c.in_ok-composite.ensures ∙ c.in_default.is in
    let no_general : general net a ≡ None = general-told net a c.len-first.result c.deref-2.result.now c.in_ok-composite-2.field-0 here c.deref-2.ensures.value c.in_ok-composite-2.ensures ∙ c.in-None.is in
    record { entities = c.in_ok-entity.ensures.none c.in_default-2.is; composites = none-broken net a no_over no_general }
