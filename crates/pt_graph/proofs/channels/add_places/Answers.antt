use Rattle.std.proofs.Common.{◌≡◌, ℕ, ◌+◌, ◌<◌, Some, List, [], ◌∷◌, length, get_or, take, subst}
use Rattle.std.proofs.lemmas.Option.{slice_get_within, slice_get-get_or}
use Rattle.std.specs.List.{Contains, slice_get}
use Rattle.pt_net.specs.Table.{PortAt}
use Rattle.pt_survey.specs.Survey.{tables_view, port_at}
use Rattle.pt_net.specs.Wires.{taken_from, places_along}
use Rattle.pt_net.specs.Net.{wires, all_places}
use Rattle.pt_graph.specs.ChannelTable.{place_at}
use Rattle.pt_net.proofs.Members.{contains_slice}
use Rattle.pt_graph.proofs.GiftFacts.{taken_below}
use Rattle.pt_graph.proofs.ChannelSteps.{along_more, place_contains, adds_more, adds_none}
use Rattle.pt_graph.proofs.channels.add_places.Goals as goal

linked : (relations taken : List ℕ) (i : ℕ) → i < length relations → relations ≡ taken → slice_get taken i ≡ Some (get_or relations i 0)
linked relations taken i within is = subst (λ rs. slice_get rs i ≡ Some (get_or relations i 0)) is (slice_get-get_or relations i 0 within)

pub add_channel-requires-clause-relation : goal.add_channel-requires-clause-relation
add_channel-requires-clause-relation c =
    let t = tables_view c.args.origins.now.wiring.now.tables.now in
    let p = port_at c.args.port.now in
    let relations = c.taken-relations.result.now in
    taken_below (length t.ports) (length t.relations) (wires t) c.requires.origins.wiring.within c.args.number p (get_or relations c.loop-index.index 0) (contains_slice (taken_from (wires t) c.args.number p) c.loop-index.index (get_or relations c.loop-index.index 0) (linked relations (taken_from (wires t) c.args.number p) c.loop-index.index c.loop-index-test.true c.taken-relations.ensures))

pub add_channel-requires-clause-number : goal.add_channel-requires-clause-number
add_channel-requires-clause-number c = slice_get_within (tables_view c.args.origins.now.wiring.now.tables.now).ports c.args.number (port_at c.args.port.now) c.requires.number

pub add_channel-requires-clause-place : goal.add_channel-requires-clause-place
add_channel-requires-clause-place c = λ p named.
    let t = tables_view c.args.origins.now.wiring.now.tables.now in
    let port = port_at c.args.port.now in
    let relations = c.taken-relations.result.now in
    let at = c.requires.number in
    let same : port ≡ p = cc in
    subst (λ (q : PortAt). Contains (all_places t) (place_at c.args.number q c.loop-index.index (get_or relations c.loop-index.index 0))) same
    (place_contains t c.args.number port c.loop-index.index (get_or relations c.loop-index.index 0) c.requires.number c.requires.kept (linked relations (taken_from (wires t) c.args.number port) c.loop-index.index c.loop-index-test.true c.taken-relations.ensures))

pub loop-index-preserved : goal.loop-index-preserved
loop-index-preserved c =
    let t = tables_view c.args.origins.now.wiring.now.tables.now in
    let p = port_at c.args.port.now in
    let relations = c.taken-relations.result.now in
    let i = c.loop-index.index in
    adds_more t (places_along c.args.number p 0 (take i relations)) (place_at c.args.number p i (get_or relations i 0) ∷ []) (places_along c.args.number p 0 (take (i + 1) relations)) c.args.channels.now.items c.loop-index.channels.items c.add_channel.new.channels.items (along_more c.args.number p relations i 0 c.loop-index-test.true) c.loop-index.invariant (c.in_ok-add_channel.ensures.ok p c.requires.number)

pub loop-index-init : goal.loop-index-init
loop-index-init c = adds_none (tables_view c.args.origins.now.wiring.now.tables.now) c.args.channels.now.items
