use Rattle.std.proofs.Common.{◌≡◌, ◌<◌, [], ℕ, List, length, false, option_map, filter_map, refl, ap, ◌∙◌, arith}
use Rattle.std.specs.Prelude.{slice_get}
use Rattle.std.proofs.lemmas.List.{get_or_read}
use Rattle.std.proofs.lemmas.Option.{slice_get_within, slice_get-map, slice_get_read}
use Rattle.pt_net.specs.declared.net.NetEntity.{NetEntity}
use Rattle.pt_net.specs.Inside.{children_of}
use Rattle.pt_scopes.specs.Valued as valued
use Rattle.pt_machines.proofs.ChildLaws.{kids-are}
use Rattle.pt_machines.proofs.GroundLaws.{valued-count}
use Rattle.pt_machines.proofs.ground.Ground.site_of.Goals as goal

pub index-requires : goal.index-requires
index-requires c =
    let g = c.args.self.now in
    let short = slice_get_within g.net.now.entities.items c.args.number c.args.entity.now c.requires.entity in
    omega (arith, short, c.requires.ready.prepared.listed, g.insides.children.ok.0)

pub index-requires-2 : goal.index-requires-2
index-requires-2 c =
    let g = c.args.self.now in
    let short = slice_get_within g.net.now.entities.items c.args.number c.args.entity.now c.requires.entity in
    omega (arith, short, c.requires.ready.prepared.counted, g.parted.ok.0)

pub index-requires-3 : goal.index-requires-3
index-requires-3 c =
    let g = c.args.self.now in
    let short = slice_get_within g.net.now.entities.items c.args.number c.args.entity.now c.requires.entity in
    omega (arith, short, valued-count g c.requires.ready, g.values.now.entities.ok.0)

pub returns : goal.returns
returns c =
    let g = c.args.self.now in
    let m = c.args.number in
    let es = g.net.now.entities.items in
    let short : m < length es = slice_get_within es m c.args.entity.now c.requires.entity in
    let there : m < length g.insides.children.items = omega (arith, short, c.requires.ready.prepared.listed) in
    let listed : c.as_slice-inside.result.now ≡ children_of es m = c.as_slice-inside.ensures ∙ get_or_read g.insides.children.items m c.index.result.now there c.index.ensures [] ∙ c.requires.ready.prepared.children m short in
    let found = c.in_ok-children.ensures ∙ ap (λ (us : List NetEntity). filter_map (λ k. slice_get us k) c.as_slice-inside.result.now) c.deref.ensures.value ∙ ap (λ (ns : List ℕ). filter_map (λ k. slice_get es k) ns) listed in
    let marked : m < length g.parted.items = omega (arith, short, c.requires.ready.prepared.counted) in
    let valued-there : m < length g.values.now.entities.items = omega (arith, short, valued-count g c.requires.ready) in
    record {
      number = c.in_ok-short.ensures;
      entity = c.in_ok-modal.ensures.entity;
      kids = c.in_ok-modal.ensures.children ∙ kids-are es m c.in_ok-children.children.items found;
      parted = c.in_ok-modal.ensures.parted ∙ get_or_read g.parted.items m c.index-2.result.now marked c.index-2.ensures false ∙ c.requires.ready.prepared.parted m short;
      frames = c.requires.ready.prepared.frames;
      typing = refl;
      values = slice_get-map valued.entity_view g.values.now.entities.items m ∙ ap (option_map valued.entity_view) (slice_get_read g.values.now.entities.items (length g.values.now.entities.items) m c.index-3.result.now refl valued-there c.index-3.ensures);
      numbered = c.in_ok-modal.ensures.numbered;
    }
