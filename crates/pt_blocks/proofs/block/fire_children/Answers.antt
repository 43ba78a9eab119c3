use Rattle.std.proofs.Common.{◌≡◌, List, length, map, refl, sym, ap, subst, ◌∙◌}
use Rattle.std.proofs.lemmas.List.{length-map}
use Rattle.pt_directors.specs.Directors.{Director, of_sdf}
use Rattle.pt_node.specs.declared.body.Body.TheVariants.{Composite}
use Rattle.pt_node.specs.declared.node.Node.{Node}
use Rattle.pt_node.specs.Shown.{shown, all_of}
use Rattle.pt_node.specs.Live.{IsReadyBody}
use Rattle.pt_blocks.specs.Children.{AllNotedTo, Each, IsRecorded}
use Rattle.pt_blocks.specs.Block.{IsMade}
use Rattle.pt_blocks.proofs.EachLaws.{bare-none}
use Rattle.pt_blocks.proofs.ChildLaws.{children-long, may-record}
use Rattle.pt_blocks.proofs.block.fire_children.Goals as goal

pub returns-in_default : goal.returns-in_default
returns-in_default c = (refl, bare-none (map shown c.args.children.now.items))

pub returns-in_default-director : goal.returns-in_default-director
returns-in_default-director c = (refl, bare-none (map shown c.args.children.now.items))

pub returns-then-not-work : goal.returns-then-not-work
returns-then-not-work c = (refl, bare-none (map shown c.args.children.now.items))

pub note_all-requires-clause-repetitions : goal.note_all-requires-clause-repetitions
note_all-requires-clause-repetitions c =
    let kids : List Node = c.args.children.now.items in
    let is : c.args.body.now ≡ Composite (of_sdf c.in-First.core) = c.in-Composite.is ∙ ap (λ (d : Director). Composite d) (sym c.get-director.ensures ∙ c.in-First.is) in
    let fits = subst (λ b. IsReadyBody b (all_of (map shown kids))) is c.requires in
    ap (λ ns. length ns) (c.as_slice-repetitions.ensures ∙ c.repetitions.ensures) ∙ fits.fitting.repetitions ∙ sym (children-long c.in-First.core (map shown kids) fits) ∙ length-map kids shown

pub record_all-requires : goal.record_all-requires
record_all-requires c =
    let kids : List Node = c.args.children.now.items in
    let made : IsMade c.in-First.core c.args.iterations (map shown kids) c.work.new.blocks.actors.items c.work.new.blocks.given.items =
    subst (λ ns. IsMade c.in-First.core c.args.iterations (map shown ns) c.work.new.blocks.actors.items c.work.new.blocks.given.items) c.deref.ensures.value (c.if-not-work.ensures refl)
    in
    let noted : AllNotedTo (length (map shown kids)) c.as_slice-repetitions.result.now c.deref-2.result.now c.args.tag c.args.iterations c.args.left.now (map shown kids) (map shown c.note_all.new.children.items) c.in-Some.after =
    subst (λ n. AllNotedTo n c.as_slice-repetitions.result.now c.deref-2.result.now c.args.tag c.args.iterations c.args.left.now (map shown kids) (map shown c.note_all.new.children.items) c.in-Some.after) (sym (length-map kids shown)) c.in-Some.ensures.noted
    in
    let is : c.args.body.now ≡ Composite (of_sdf c.in-First.core) = c.in-Composite.is ∙ ap (λ (d : Director). Composite d) (sym c.get-director.ensures ∙ c.in-First.is) in
    let fits = subst (λ b. IsReadyBody b (all_of (map shown kids))) is c.requires in
    may-record c.as_slice-repetitions.result.now c.deref-2.result.now c.args.tag c.args.iterations (map shown kids) (map shown c.note_all.new.children.items) c.work.new.blocks.actors.items noted.each
    (ap (λ ns. length ns) (c.as_slice-repetitions.ensures ∙ c.repetitions.ensures) ∙ fits.fitting.repetitions ∙ sym (children-long c.in-First.core (map shown kids) fits)) made.count

pub returns : goal.returns
returns c =
    let kids : List Node = c.args.children.now.items in
    let repetitions : c.as_slice-repetitions.result.now ≡ c.in-First.core.plan.repetitions = c.as_slice-repetitions.ensures ∙ c.repetitions.ensures in
    record {
      core = c.in-First.core;
      is = c.in-Composite.is ∙ ap (λ (d : Director). Composite d) (sym c.get-director.ensures ∙ c.in-First.is);
      actors = c.work.new.blocks.actors.items;
      given = c.work.new.blocks.given.items;
      mids = map shown c.note_all.new.children.items;
      made = subst (λ ns. IsMade c.in-First.core c.args.iterations (map shown ns) c.work.new.blocks.actors.items c.work.new.blocks.given.items) c.deref.ensures.value (c.if-not-work.ensures refl);
      noted = subst (λ n. AllNotedTo n c.in-First.core.plan.repetitions c.work.new.blocks.given.items c.args.tag c.args.iterations c.args.left.now (map shown kids) (map shown c.note_all.new.children.items) c.in-Some.after) (sym (length-map kids shown))
          (subst (λ g. AllNotedTo (length kids) c.in-First.core.plan.repetitions g c.args.tag c.args.iterations c.args.left.now (map shown kids) (map shown c.note_all.new.children.items) c.in-Some.after) c.deref-2.ensures.value
          (subst (λ qs. AllNotedTo (length kids) qs c.deref-2.result.now c.args.tag c.args.iterations c.args.left.now (map shown kids) (map shown c.note_all.new.children.items) c.in-Some.after) repetitions c.in-Some.ensures.noted));
      recorded = subst (λ qs. Each (IsRecorded qs c.args.tag c.args.iterations c.work.new.blocks.actors.items) (map shown c.note_all.new.children.items) (map shown c.record_all.new.children.items)) repetitions c.record_all.ensures;
    }
