-- Where a tree that is built from a net has a Rendezvous composite, the net has one with as many channels and children.
use Rattle.std.proofs.Common.{◌≡◌, ℕ, zero, suc, List, [], ◌∷◌, Bool, true, false, cond, Option, Some, None, length, map, refl, sym, ap, ◌∙◌}
use Rattle.std.proofs.lemmas.List.{length-map}
use Rattle.std.proofs.lemmas.Option.{none-some, same_Some}
use Rattle.std.specs.Prelude.{slice_get, option_and_then, option_map, bytes_eq, codes}
use Rattle.pt_meaning.specs.Log.{Path}
use Rattle.pt_meaning.specs.Tree as tree
use Rattle.pt_meaning.specs.Tree.{list_of, nodes_of}
use Rattle.pt_value.specs.declared.token.Token.{Token}
use Rattle.pt_meeting_laws.specs.There.{Extent, extent_of, extent_at, extent_below}
use Rattle.pt_document.specs.declared.classes.Director.TheVariants.{Sdf, Pn, Rendezvous, Sr, De}
use Rattle.pt_net.specs.declared.net.Net.{Net}
use Rattle.pt_net.specs.declared.net.NetDirector.{NetDirector}
use Rattle.pt_net.specs.declared.net.NetEntity.{NetEntity}
use Rattle.pt_net.specs.Inside.{children_of, channels_in, source_of}
use Rattle.pt_node.specs.Shown.{Shown}
use Rattle.pt_node.specs.View.{Tree, node_of}
use Rattle.pt_trees.specs.declared.directing.Directing.{Directing}
use Rattle.pt_trees.specs.declared.directing.Directing.TheVariants.{By, Modal}
use Rattle.pt_trees.specs.Composite.{trees_of}
use Rattle.pt_trees.specs.Directors.{named, modal_unless, IsDirectedBy, composing}
use Rattle.pt_trees.specs.Trees.{Starts, around_in}
use Rattle.pt_trees.specs.Built.{IsBuilt, built_actor, built_composite, AreBuilt, none_built, more_built}
use Rattle.pt_cover.specs.Paths.{entity_at}

-- the entity has a director, and so many channels and children
pub record IsRvAt (net : Net) (k : ℕ) (x : Extent) : Type 0 where
  pub round : NetEntity
  pub at : slice_get net.entities.items k ≡ Some round
  pub director : NetDirector
  pub directed : round.director ≡ Some director
  pub channels : x.channels ≡ length (channels_in net.channels.items k)
  pub children : x.children ≡ length (children_of net.entities.items k)

-- an entity that Rendezvous directs has a director of its own
undirected : (b c : Bool) → cond b (option_map By (named None)) (cond c (modal_unless None) None) ≡ Some (By Rendezvous) → ⊥
undirected true c e = none-some (By Rendezvous) e
undirected false true e = let same : Modal ≡ By Rendezvous = same_Some Modal (By Rendezvous) e in absurd (cc)
undirected false false e = none-some (By Rendezvous) e

its-director : (e : NetEntity) → IsDirectedBy e (By Rendezvous) → (d : NetDirector) × (e.director ≡ Some d)
its-director e h = by_director e.director refl
  where
    by_director : (o : Option NetDirector) → e.director ≡ o → (d : NetDirector) × (e.director ≡ Some d)
    by_director (Some d) is = (d, is)
    by_director None is =
        absurd (undirected (bytes_eq e.class (codes "Composite")) (bytes_eq e.class (codes "Modal"))
        (ap (λ (o : Option NetDirector). cond (bytes_eq e.class (codes "Composite")) (option_map By (named o)) (cond (bytes_eq e.class (codes "Modal")) (modal_unless o) None)) (sym is) ∙ h))

nodes-count : (ns : List Tree) → length (list_of (nodes_of ns)) ≡ length ns
nodes-count [] = refl
nodes-count (n ∷ ns) = ap (λ k. suc k) (nodes-count ns)

module _ (net : Net) (starts : Starts) where
  built-count : {ks : List ℕ} {ss : List Shown} → AreBuilt net starts ks ss → length ss ≡ length ks
  built-count none_built = refl
  built-count (more_built k ks s ss b bs) = ap (λ n. suc n) (built-count bs)

  -- a director other than Rendezvous has no extent
  no-extent : (x : Extent) (core other : tree.Core Token) (n : ℕ) → core ≡ other → extent_of other n ≡ None → extent_of core n ≡ Some x → ⊥
  no-extent x core other n is none e = none-some x (sym none ∙ ap (λ v. extent_of v n) (sym is) ∙ e)

  own-extent : (k : ℕ) (e : NetEntity) (director : Directing) (kids : List Tree) (core : tree.Core Token) (x : Extent) → slice_get net.entities.items k ≡ Some e → IsDirectedBy e director → length kids ≡ length (children_of net.entities.items k) →
      (composing director).IsCore (around_in net starts k e) kids core → extent_of core (length kids) ≡ Some x → IsRvAt net k x
  own-extent k e (By Sdf) kids core x at directed count is h = absurd (no-extent x core _ (length kids) is.is refl h)
  own-extent k e (By Sr) kids core x at directed count is h = absurd (no-extent x core _ (length kids) is.is refl h)
  own-extent k e (By De) kids core x at directed count is h = absurd (no-extent x core _ (length kids) is.is refl h)
  own-extent k e (By Pn) kids core x at directed count is h = absurd (no-extent x core _ (length kids) is.is refl h)
  own-extent k e Modal kids core x at directed count is h = absurd (no-extent x core _ (length kids) is.is refl h)
  own-extent k e (By Rendezvous) kids core x at directed count is h =
      let d = its-director e directed in
      let its : Extent = record { channels = length (map (source_of net.entities.items) (channels_in net.channels.items k)); children = length kids } in
      let same : its ≡ x = same_Some its x (sym (ap (λ v. extent_of v (length kids)) is.is) ∙ h) in
      record {
        round = e;
        at = at;
        director = d.0;
        directed = d.1;
        channels = ap (λ (v : Extent). v.channels) (sym same) ∙ length-map (channels_in net.channels.items k) (source_of net.entities.items);
        children = ap (λ (v : Extent). v.children) (sym same) ∙ count;
      }

  abbrev pub Found : Option ℕ → Extent → Type 0
  Found o x = (j : ℕ) × (o ≡ Some j) × IsRvAt net j x

  mutual
    pub extent-found : {k : ℕ} {s : Shown} → IsBuilt net starts k s → (p : Path) (x : Extent) → extent_at (node_of s) p ≡ Some x → Found (entity_at net.entities.items k p) x
    extent-found (built_actor k e a there undirected started) p x h = absurd (none-some x h)
    extent-found (built_composite k e director kids s there directed built is) [] x h =
        let count : length (trees_of kids) ≡ length (children_of net.entities.items k) = length-map kids node_of ∙ built-count built in
        let own : extent_of is.core (length (trees_of kids)) ≡ Some x = ap (λ n. extent_of is.core n) (sym (nodes-count (trees_of kids))) ∙ ap (λ (v : Tree). extent_at v []) (sym is.node) ∙ h in
        (k, refl, own-extent k e director (trees_of kids) is.core x there directed count is.is_core own)
    extent-found (built_composite k e director kids s there directed built is) (i ∷ p) x h = below-found built i p x (ap (λ (v : Tree). extent_at v (i ∷ p)) (sym is.node) ∙ h)

    below-found : {ks : List ℕ} {ss : List Shown} → AreBuilt net starts ks ss → (i : ℕ) (p : Path) (x : Extent) → extent_below (nodes_of (trees_of ss)) i p ≡ Some x → Found (option_and_then (λ c. entity_at net.entities.items c p) (slice_get ks i)) x
    below-found none_built i p x h = absurd (none-some x h)
    below-found (more_built k ks s ss b bs) zero p x h = extent-found b p x h
    below-found (more_built k ks s ss b bs) (suc i) p x h = below-found bs i p x h
