use Rattle.std.proofs.Common.{◌≡◌, length, take, ap, ap₂, sym, ◌∙◌, arith, rules}
use Rattle.std.proofs.lemmas.List.{take_all}
use Rattle.pt_document.specs.Document.{property, to_properties}
use Rattle.pt_document.specs.declared.job.Property.{Property, out-Property, roll-Property, the_lemmas}
use Rattle.pt_document.specs.declared.job.Property.TheOpen.{Property-F}
use Rattle.pt_document.specs.View.{property_view, properties_view}
use Rattle.pt_copies.proofs.copies.+property.Goals as goal

-- a property is seen as what it has
seen : (p : Property) → property_view p ≡ property (out-Property p).name (out-Property p).value (out-Property p).class (to_properties (properties_view (out-Property p).properties.items))
seen p = search (rules, the_lemmas)

made : (f : Property-F Property) → property_view (roll-Property f) ≡ property f.name f.value f.class (to_properties (properties_view f.properties.items))
made f = search (rules, the_lemmas)

-- one that has the same is seen the same
same : (f : Property-F Property) (p : Property) → f.name ≡ (out-Property p).name → f.value ≡ (out-Property p).value → f.class ≡ (out-Property p).class → properties_view f.properties.items ≡ properties_view (out-Property p).properties.items → property_view (roll-Property f) ≡ property_view p
same f p en ev ec es = made f ∙ ap₂ (λ g x. g x) (ap₂ (λ g x. g x) (ap₂ (λ x y. property x y) en ev) ec) (ap to_properties es) ∙ sym (seen p)

-- src/copies.rt:61:1
pub returns-in-Ok : goal.returns-in-Ok
returns-in-Ok t c =
    let old = (out-Property c.args.old.now).properties.items in
    same (record { name = c.in-Ok.saying.name; value = c.in-Ok.saying.value; class = c.in-Ok.saying.class; properties = c.loop-inner.properties }) c.args.old.now c.in-Ok.ensures.name c.in-Ok.ensures.value c.in-Ok.ensures.class
    (c.loop-inner.invariant ∙ ap (λ ps. properties_view ps) (take_all c.loop-inner.inner-index _ c.loop-inner-test.false ∙ c.deref-inner-items.ensures.value))
