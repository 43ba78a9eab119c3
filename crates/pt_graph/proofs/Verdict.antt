-- What the tests together say: the channels are those of the definition, and no refusal stands.
use Rattle.std.proofs.Common.{◌≡◌, ℕ, not, IsTrue, ◌↔◌, List, length, map, filter, sym, ap, subst, ◌∙◌, arith}
use Rattle.std.specs.List.{Contains, AllZip}
use Rattle.pt_document.specs.declared.code.Code.{Code}
use Rattle.pt_document.specs.declared.code.Code.TheVariants as code
use Rattle.pt_document.specs.declared.refusal.DocFault.{DocFault}
use Rattle.pt_document.specs.declared.refusal.DocFault.TheVariants as faults
use Rattle.pt_document.specs.Document.{JobTree}
use Rattle.pt_document.specs.Names.{top_path}
use Rattle.pt_net.specs.declared.net.Channel.{Channel}
use Rattle.pt_net.specs.declared.net.NetPort.{NetPort}
use Rattle.pt_net.specs.declared.net.Net.{Net}
use Rattle.pt_net.specs.Table.{PortAt, Tables, tables_of}
use Rattle.pt_net.specs.Wires.{is_input}
use Rattle.pt_document.specs.View.{input_view}
use Rattle.pt_net.specs.Standing.{Standing, is_kept, entities}
use Rattle.pt_net.specs.Net.{IsNetOf, AreJoints, entity_view, entity_tree, transparent_view, transparent_tree, wires, all_places, channel, IsChannel, IsChannelTo, Records}
use Rattle.pt_net.specs.Stands.{IsLinkFault, names_nothing, twice_outside, twice_inside, no_source, no_link, no_link_inside, passed_on, no_channel, too_few_channels, IsTwoSources, IsRecordFault, names_no_port, repeated, IsTold, StandsIn, IsFaultIn}
use Rattle.pt_links.specs.Wiring.{AllNamed, AreOwned, AreFine, HaveChannels}
use Rattle.pt_graph.specs.Sources.{HaveOneSource}
use Rattle.pt_graph.specs.ChannelTable.{IsGoodChannel, AreChannels, AreTooMany}
use Rattle.pt_links.specs.Recorded.{AreDistinct}
use Rattle.pt_graph.proofs.GroupSteps.{after_path, back_path}
use Rattle.pt_net.proofs.Members.{zip_left, zip_right, zip_weaker, zip_length}
use Rattle.pt_graph.proofs.OneSource.{AreSingle, reached_once}
use Rattle.pt_graph.proofs.Singles.{are_single}

-- no relation group has two sources
pub no_two_sources : (t : Tables) → HaveOneSource t → (path : List ℕ) → IsTwoSources t path → ⊥
no_two_sources t one path w =
    w.apart (one w.first w.first_at w.first_relation w.second w.second_at w.second_relation w.gives_first w.gives_second (after_path w.first_relation w.number w.second_relation w.first_in (back_path w.second_relation w.number w.second_in)))

module _ (t : Tables) (one : HaveOneSource t) (own : AreOwned t) (fine : AreFine t) (channels : List Channel) (good : AllZip (IsGoodChannel t) (all_places t) channels) where
  single : AreSingle t.ports (wires t)
  single = are_single t own fine

  pub exactly : (k : Channel) → Contains channels k ↔ IsChannel t k
  exactly k = (there, back)
    where
      there : Contains channels k → IsChannel t k
      there w =
          let z = zip_right (IsGoodChannel t) (all_places t) channels k good w in
          record { source = z.2.source; source_at = z.2.source_at; place = z.0; is_place = z.1; reaches = z.2.reaches; is = z.2.is }

      back : IsChannel t k → Contains channels k
      back c =
          let z = zip_left (IsGoodChannel t) (all_places t) channels c.place good c.is_place in
          let same = (reached_once t.ports (wires t) one single c.place z.2.source c.source z.2.source_at c.source_at z.2.reaches c.reaches).1 in
          subst (λ j. Contains channels j) (z.2.is ∙ ap (λ (p : PortAt). channel p c.place) same ∙ sym c.is) z.1

  pub numbered : AllZip (IsChannelTo t) (all_places t) channels
  numbered = zip_weaker (IsGoodChannel t) (IsChannelTo t) (λ place k g. record { source = g.source; source_at = g.source_at; reaches = g.reaches; is = g.is }) (all_places t) channels good

  pub no_link_fault : AllNamed t → HaveChannels t → (path : List ℕ) → IsLinkFault t path → ⊥
  no_link_fault named enough path (names_nothing l w e) = named l w e
  no_link_fault named enough path (twice_outside g p is s lt) = omega (arith, lt, (fine g p is).single s)
  no_link_fault named enough path (twice_inside g p is lt) = omega (arith, lt, (fine g p is).single_inside)
  no_link_fault named enough path (no_source place w none) =
      let z = zip_left (IsGoodChannel t) (all_places t) channels place good w in none z.2.source z.2.source_at z.2.reaches
  no_link_fault named enough path (no_link g p is need nil) = (fine g p is).linked need nil
  no_link_fault named enough path (no_link_inside g p is need nil) = (fine g p is).linked_inside need nil
  no_link_fault named enough path (passed_on g p place w opaque output input reaches own') =
      let z = zip_left (IsGoodChannel t) (all_places t) channels place good w in
      let same = (reached_once t.ports (wires t) one single place g z.2.source p z.2.source_at reaches z.2.reaches).1 in
      z.2.apart opaque output (subst (λ (q : PortAt). IsTrue (is_input q)) same input) (subst (λ (q : PortAt). q.entity ≡ place.at.entity) same own')
  no_link_fault named enough path (no_channel g p is input many nil) = (fine g p is).has_channel input many nil
  no_link_fault named enough path (too_few_channels e s is few) = omega (arith, few, enough e s is)

  pub are_channels : AllNamed t → HaveChannels t → AreChannels t channels
  are_channels named enough = record { exactly = exactly; numbered = numbered; no_link_fault = no_link_fault named enough; no_two_sources = no_two_sources t one }

-- the same where the program holds the tables behind references
pub held_channels : (t u v : Tables) (channels : List Channel) → u ≡ t → v ≡ u → AreOwned t → AllNamed t → AreFine u → HaveChannels u → HaveOneSource u → AllZip (IsGoodChannel v) (all_places v) channels → AreChannels t channels
held_channels t u v channels e f own named fine enough one good =
    are_channels t (subst HaveOneSource e one) own (subst AreFine e fine) channels (subst (λ (x : Tables). AllZip (IsGoodChannel x) (all_places x) channels) (f ∙ e) good) named (subst HaveChannels e enough)

-- what the tests of the links, and those of the relation groups, tell is a fault
pub link_told : (t : Tables) (fault : DocFault) → IsTold code.Link (IsLinkFault t) fault → (records : List (List ℕ)) → IsFaultIn t records fault
link_told t faults.Memory w records = tt
link_told t (faults.Refused r) w records = subst (λ c. StandsIn t records c r.path) (sym w.0) w.1

pub sources_told : (t : Tables) (fault : DocFault) → IsTold code.TwoSources (IsTwoSources t) fault → (records : List (List ℕ)) → IsFaultIn t records fault
sources_told t faults.Memory w records = tt
sources_told t (faults.Refused r) w records = subst (λ c. StandsIn t records c r.path) (sym w.0) w.1

pub record_told : (t : Tables) (records : List (List ℕ)) (fault : DocFault) → IsTold code.Record (IsRecordFault t records) fault → IsFaultIn t records fault
record_told t records faults.Memory w = tt
record_told t records (faults.Refused r) w = subst (λ c. StandsIn t records c r.path) (sym w.0) w.1

pub limit_told : (t : Tables) (records : List (List ℕ)) (channels : List Channel) (fault : DocFault) → AreChannels t channels → IsTold code.Limit (λ path. AreTooMany (length channels) (length records) × (path ≡ top_path)) fault → IsFaultIn t records fault
limit_told t records channels faults.Memory all w = tt
limit_told t records channels (faults.Refused r) all w =
    subst (λ c. StandsIn t records c r.path) (sym w.0)
    (record { many = subst (λ n. AreTooMany n (length records)) (sym (zip_length (IsChannelTo t) (all_places t) channels all.numbered)) w.1.0; told = w.1.1 })

no_record_fault : (t : Tables) (records : List (List ℕ)) (recorded : List NetPort) → AllZip (Records t) records recorded → AreDistinct records → (path : List ℕ) → IsRecordFault t records path → ⊥
no_record_fault t records recorded named distinct path (names_no_port text there no_port) = let z = zip_left (Records t) records recorded text named there in no_port z.2.0 z.2.1
no_record_fault t records recorded named distinct path (repeated first second text before a b) = distinct first second text before a b

-- where the tests pass, no cause to refuse stands
pub none_stands : (t : Tables) (records : List (List ℕ)) (channels : List Channel) (recorded : List NetPort) → AreChannels t channels → (AreTooMany (length channels) (length records) → ⊥) → AllZip (Records t) records recorded → AreDistinct records → (cause : Code) (path : List ℕ) → StandsIn t records cause path → ⊥
none_stands t records channels recorded all few named distinct cause path = none cause
  where
    none : (cause : Code) → StandsIn t records cause path → ⊥
    none code.Link w = all.no_link_fault path w
    none code.TwoSources w = all.no_two_sources path w
    none code.Record w = no_record_fault t records recorded named distinct path w
    none code.Limit w = few (subst (λ n. AreTooMany n (length records)) (zip_length (IsChannelTo t) (all_places t) channels all.numbered) w.many)
    none _ w = absurd w

-- what the program makes of the tables of a job is its net
pub net_of : (job : JobTree) (ss : List Standing) (t : Tables) (net : Net) → ss ≡ entities job → t ≡ tables_of job → map entity_view net.entities.items ≡ map entity_tree (filter is_kept ss) → map transparent_view net.transparent.items ≡ map transparent_tree (filter (λ s. not (is_kept s)) ss) → AreChannels t net.channels.items → net.relation_count ≡ length t.relations → AreJoints t net.joints.items → map input_view net.inputs.items ≡ job.inputs → net.records.items ≡ job.records → AllZip (Records t) job.records net.recorded.items → IsNetOf job net
net_of job ss t net e is made made_transparent all count joints inputs records recorded = record {
  each_entity = made ∙ ap (λ (xs : List Standing). map entity_tree (filter is_kept xs)) e;
  each_transparent = made_transparent ∙ ap (λ (xs : List Standing). map transparent_tree (filter (λ s. not (is_kept s)) xs)) e;
  channels = (subst (λ (u : Tables). AreChannels u net.channels.items) is all).exactly;
  numbered = (subst (λ (u : Tables). AreChannels u net.channels.items) is all).numbered;
  relations = count ∙ ap (λ (u : Tables). length u.relations) is;
  joints = subst (λ (u : Tables). AreJoints u net.joints.items) is joints;
  inputs = inputs;
  records = records;
  recorded = subst (λ (u : Tables). AllZip (Records u) job.records net.recorded.items) is recorded;
}
