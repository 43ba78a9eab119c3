use Rattle.std.proofs.Common.{◌≡◌, ℕ, List, length, map, filter, not, ap, sym, subst, ◌∙◌, arith, rules, Vec, Global}
use Rattle.std.proofs.lemmas.List.{length-map}
use Rattle.std.specs.List.{AllZip}
use Rattle.pt_document.specs.declared.code.Code.{Code}
use Rattle.pt_document.specs.declared.code.Code.TheVariants.{Limit}
use Rattle.pt_document.specs.Names.{top_path}
use Rattle.pt_document.specs.View.{job_view}
use Rattle.pt_survey.specs.declared.surveying.Placed.{Placed}
use Rattle.pt_net.specs.declared.net.Channel.{Channel}
use Rattle.pt_survey.specs.declared.tables.PlacedRelation.{PlacedRelation}
use Rattle.pt_survey.specs.Survey.{table_view, tables_view, relation_at, relations_view}
use Rattle.pt_net.specs.Standing.{is_kept}
use Rattle.pt_net.specs.Table.{Tables, tables_from, tables_of}
use Rattle.pt_links.specs.Wiring.{AreOwned}
use Rattle.pt_net.specs.Net.{Records, entity_tree, transparent_tree}
use Rattle.pt_net.specs.Stands.{StandsIn, IsFaultIn, IsFaultOf, IsTold}
use Rattle.pt_graph.specs.ChannelTable.{AreTooMany}
use Rattle.pt_links.specs.Recorded.{AreDistinct}
use Rattle.pt_links.proofs.Counts.{owned}
use Rattle.pt_graph.proofs.Verdict.{none_stands, limit_told, net_of}
use Rattle.pt_graph.proofs.flattening.flatten.Goals as goal

counted : (relations : Vec PlacedRelation Global) (n : ℕ) → n ≡ relations.len → n ≡ length (relations_view relations.items)
counted relations n e = omega (arith, length-map relations.items relation_at, relations.ok.0)

pub paths-requires : goal.paths-requires
paths-requires c = let h = c.in_ok-tables.ensures in subst AreOwned (sym h) (owned _)

pub returns-in_err-paths-clause-refused : goal.returns-in_err-paths-clause-refused
returns-in_err-paths-clause-refused c =
    let is : tables_view c.in_ok-tables.tables ≡ tables_of (job_view c.args.job.now) = c.in_ok-tables.ensures ∙ ap (λ (ps : List Placed). tables_from (table_view ps)) c.deref.ensures.value ∙ ap tables_from c.in_ok-entities.ensures in
    let told : IsFaultOf (job_view c.args.job.now) c.in_err-paths.field-0.0 = subst (λ (t : Tables). IsFaultIn t c.args.job.now.records.items c.in_err-paths.field-0.0) is (c.in_err-paths.ensures.told c.args.job.now.records.items) in
    let h = c.from_residual-in_err-paths.ensures in
    search (rules, told, h)

pub returns-in_err-check_limits-clause-refused : goal.returns-in_err-check_limits-clause-refused
returns-in_err-check_limits-clause-refused c =
    let is : tables_view c.in_ok-tables.tables ≡ tables_of (job_view c.args.job.now) = c.in_ok-tables.ensures ∙ ap (λ (ps : List Placed). tables_from (table_view ps)) c.deref.ensures.value ∙ ap tables_from c.in_ok-entities.ensures in
    let records = c.args.job.now.records.items in
    let far : IsFaultIn (tables_view c.in_ok-tables.tables) records c.in_err-check_limits.field-0.0 =
    limit_told (tables_view c.in_ok-tables.tables) records c.in_ok-paths.paths.channels.items c.in_err-check_limits.field-0.0 c.in_ok-paths.ensures.channels
    (subst (λ (ks : List Channel). IsTold Limit (λ path. AreTooMany (length ks) (length records) × (path ≡ top_path)) c.in_err-check_limits.field-0.0) c.deref-2.ensures.value
    (subst (λ (rs : List (List ℕ)). IsTold Limit (λ path. AreTooMany (length c.deref-2.result.now) (length rs) × (path ≡ top_path)) c.in_err-check_limits.field-0.0) c.deref-3.ensures.value c.in_err-check_limits.ensures.told)) in
    let told : IsFaultOf (job_view c.args.job.now) c.in_err-check_limits.field-0.0 = subst (λ (t : Tables). IsFaultIn t records c.in_err-check_limits.field-0.0) is far in
    let h = c.from_residual-in_err-check_limits.ensures in
    search (rules, told, h)

pub returns-clause-net : goal.returns-clause-net
returns-clause-net c =
    let is : tables_view c.in_ok-tables.tables ≡ tables_of (job_view c.args.job.now) = c.in_ok-tables.ensures ∙ ap (λ (ps : List Placed). tables_from (table_view ps)) c.deref.ensures.value ∙ ap tables_from c.in_ok-entities.ensures in
    let made = c.in_ok-copied.ensures.entities ∙ ap (λ (ps : List Placed). map entity_tree (filter is_kept (table_view ps))) c.deref-5.ensures.value in
    let transparent = c.in_ok-copied.ensures.transparent ∙ ap (λ (ps : List Placed). map transparent_tree (filter (λ s. not (is_kept s)) (table_view ps))) c.deref-5.ensures.value in
    let recorded = subst (λ (rs : List (List ℕ)). AllZip (Records (tables_view c.in_ok-tables.tables)) rs c.in_ok-recorded.recorded.items) c.deref-4.ensures.value c.in_ok-recorded.ensures.ok in
    net_of (job_view c.args.job.now) _ _ _ c.in_ok-entities.ensures is made transparent c.in_ok-paths.ensures.channels (c.in_ok-relation_count.ensures.ok ∙ counted c.in_ok-tables.tables.relations c.len.result c.len.ensures) c.in_ok-paths.ensures.joints c.in_ok-copied.ensures.inputs c.in_ok-copied.ensures.records recorded

pub returns-clause-accepted : goal.returns-clause-accepted
returns-clause-accepted c =
    let is : tables_view c.in_ok-tables.tables ≡ tables_of (job_view c.args.job.now) = c.in_ok-tables.ensures ∙ ap (λ (ps : List Placed). tables_from (table_view ps)) c.deref.ensures.value ∙ ap tables_from c.in_ok-entities.ensures in
    let records = c.args.job.now.records.items in
    let few : AreTooMany (length c.in_ok-paths.paths.channels.items) (length records) → ⊥ =
    subst (λ (ks : List Channel). AreTooMany (length ks) (length records) → ⊥) c.deref-2.ensures.value
    (subst (λ (rs : List (List ℕ)). AreTooMany (length c.deref-2.result.now) (length rs) → ⊥) c.deref-3.ensures.value c.in_ok-check_limits.ensures.ok) in
    let named : AllZip (Records (tables_view c.in_ok-tables.tables)) records c.in_ok-recorded.recorded.items = subst (λ (rs : List (List ℕ)). AllZip (Records (tables_view c.in_ok-tables.tables)) rs c.in_ok-recorded.recorded.items) c.deref-4.ensures.value c.in_ok-recorded.ensures.ok in
    let distinct : AreDistinct records = subst AreDistinct c.deref-4.ensures.value c.in_ok-recorded.ensures.distinct in
    subst (λ (t : Tables). (cause : Code) (path : List ℕ) → StandsIn t records cause path → ⊥) is
    (none_stands (tables_view c.in_ok-tables.tables) records c.in_ok-paths.paths.channels.items c.in_ok-recorded.recorded.items c.in_ok-paths.ensures.channels few named distinct)
