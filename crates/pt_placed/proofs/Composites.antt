-- What a composite needs: a count for each of its own inputs, whichever its director.
use Rattle.std.proofs.Common.{◌≡◌, ◌+◌, ℕ, suc, List, [], ◌∷◌, Bool, length, map, filter, cond, replicate, true, false, Some, refl, sym, ap, subst, ◌∙◌}
use Rattle.std.specs.Prelude.{count_by}
use Rattle.std.proofs.lemmas.Bool.{false≢true}
use Rattle.std.proofs.lemmas.List.{length-map, length-replicate}
use Rattle.std.proofs.lemmas.List.Sums.{length-filter}
use Rattle.std.proofs.lemmas.Option.{same_Some}
use Rattle.pt_meaning.specs.NodeFacts.{core_need, need_of}
use Rattle.pt_meaning.specs.Tree as tree
use Rattle.pt_value.specs.declared.token.Token.{Token}
use Rattle.pt_document.specs.declared.classes.Director.TheVariants.{Sdf, Pn, Rendezvous, Sr, De}
use Rattle.pt_document.specs.declared.job.Port.{Port}
use Rattle.pt_net.specs.declared.net.Channel.{Channel}
use Rattle.pt_net.specs.declared.net.Net.{Net}
use Rattle.pt_net.specs.declared.net.NetDirector.{NetDirector}
use Rattle.pt_net.specs.declared.net.NetEntity.{NetEntity}
use Rattle.pt_net.specs.Inside.{is_input, comes_to, place_count}
use Rattle.pt_chart.specs.Chart.{chart_of}
use Rattle.pt_scopes.specs.Scopes.{is_composite_class}
use Rattle.pt_library.specs.LibraryActor.{rows}
use Rattle.pt_node.specs.View.{Tree}
use Rattle.pt_trees.specs.declared.directing.Directing.{Directing}
use Rattle.pt_trees.specs.declared.directing.Directing.TheVariants.{By, Modal}
use Rattle.pt_trees.specs.Around.{Around}
use Rattle.pt_trees.specs.Directors.{composing}
use Rattle.pt_trees.specs.Modal.{is_opaque}
use Rattle.pt_trees.specs.Trees.{IsEntity, Starts, around_in, IsTree, of_actor, of_composite}
use Rattle.pt_order.specs.Wired.{arrivals, number_if, port_numbers, IsWired}
use Rattle.pt_placed.specs.Counted.{IsCounted}
use Rattle.pt_placed.specs.Laws.{CompositesAreCounted}

-- ---- cores

pub core-counted : (director : Directing) (around : Around) (kids : List Tree) (core : tree.Core Token) → (composing director).IsCore around kids core → IsCounted around.inputs (core_need core)
core-counted (By Sdf) around kids core is = record { counts = is.plan.takes; is = ap core_need is.is; counted = is.planned.takes ∙ is.is_inside.inputs }
core-counted (By Sr) around kids core is = record { counts = replicate around.inputs 1; is = ap core_need is.is; counted = length-replicate around.inputs 1 }
core-counted (By De) around kids core is = record { counts = replicate around.inputs 1; is = ap core_need is.is; counted = length-replicate around.inputs 1 }
core-counted (By Pn) around kids core is = record { counts = is.wired.stated.takes; is = ap core_need is.is; counted = is.wired.lawful.takes }
core-counted (By Rendezvous) around kids core is = record { counts = is.wired.stated.takes; is = ap core_need is.is; counted = is.wired.rated.takes }
core-counted Modal around kids core is =
    record { counts = replicate (chart_of is.wired.machine).inputs 1; is = ap core_need is.is; counted = length-replicate (chart_of is.wired.machine).inputs 1 ∙ is.wired.refinements.fits.inputs_are }

-- so does the tree of an entity that is one
pub composites-counted : CompositesAreCounted
composites-counted net starts k e t at tree is = of-tree tree at is
  where
    of-tree : {j : ℕ} {u : Tree} → IsTree net starts j u → IsEntity net j e → is_opaque u ≡ true → IsCounted (count_by is_input e.ports.items) (need_of rows u)
    of-tree (of_actor j f a there undirected started) here opaque = absurd (false≢true opaque)
    of-tree (of_composite j f director kids core there by all is) here opaque = subst (λ (g : NetEntity). IsCounted (count_by is_input g.ports.items) (core_need core)) (same_Some f e (sym there ∙ here)) (core-counted director (around_in net starts j f) kids core is)

-- ---- places

numbers-counted : (test : Port → Bool) (n : ℕ) (ps : List Port) → length (port_numbers test n ps) ≡ length (filter test ps)
numbers-counted test n [] = refl
numbers-counted test n (p ∷ ps) = chosen (test p) (port_numbers test (suc n) ps) (filter test ps) (numbers-counted test (suc n) ps)
  where
    chosen : (b : Bool) (xs : List ℕ) (ys : List Port) → length xs ≡ length ys → length (number_if b n xs) ≡ length (cond b (p ∷ ys) ys)
    chosen true xs ys e = ap (λ m. suc m) e
    chosen false xs ys e = e

-- in a composite with a director it has a place for each own input
pub inputs-places : (net : Net) → IsWired net → (k c : ℕ) (e f : NetEntity) (d : NetDirector) → IsEntity net k e → is_composite_class e.class ≡ true → e.parent ≡ Some c → IsEntity net c f → f.director ≡ Some d → count_by is_input e.ports.items ≡ place_count net.channels.items k
inputs-places net wired k c e f d at composite parent there directed =
    sym (length-filter is_input e.ports.items) ∙ sym (numbers-counted is_input 0 e.ports.items) ∙ ap (λ (ns : List ℕ). length ns) (sym (wired.inputs k c e f d at composite parent there directed))
    ∙ length-map (arrivals net.channels.items k) (λ (x : Channel). x.to.port) ∙ length-filter (comes_to k) net.channels.items
