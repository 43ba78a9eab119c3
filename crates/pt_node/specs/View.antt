-- What a node of the code is among the definitions, and what is kept of it beside.
use Rattle.std.specs.Prelude.{ℕ, zero, suc, ◌+◌, max, List, [], ◌∷◌, Option, Some, None, map}
use Rattle.pt_meaning.specs.Basics.{Path}
use Rattle.pt_meaning.specs.Tree as tree
use Rattle.pt_value.specs.declared.token.Token.{Token}
use Rattle.pt_records.specs.Kept.{Kept, Entry, kept_by}
use Rattle.pt_node.specs.declared.body.Body.{Body}
use Rattle.pt_node.specs.declared.body.Body.TheVariants.{Actor, Composite}
use Rattle.pt_directors.specs.Directors.{Director, director_calls}
use Rattle.pt_library.specs.declared.library_actor.LibraryActor.{LibraryActor}
use Rattle.pt_past.specs.Recorded.{RecordedPort, trace_of}
use Rattle.pt_node.specs.Shown.{Shown, AllShown, Branch, Frame, none, more}

abbrev pub Tree : Type 0
Tree = tree.Node Token LibraryActor

abbrev pub Trees : Type 0
Trees = tree.Nodes Token LibraryActor

-- a director with what it holds at its start, and now
abbrev pub start_of : Director → tree.Core Token
start_of director = director_calls.start_of director

abbrev pub core_of : Director → tree.Core Token
core_of director = director_calls.core_of director

-- a library actor, or a composite of these children
abbrev pub node_with : tree.Past → Body → Trees → Tree
node_with h (Actor held) kids = tree.Actor h held.start held.actor
node_with h (Composite director) kids = tree.Composite h (start_of director) (core_of director) kids

-- the node among the definitions
abbrev mutual
  pub node_of : Shown → Tree
  node_of (Branch f ks) = node_with f.past f.body (nodes_of ks)

  pub nodes_of : AllShown → Trees
  nodes_of none = tree.none
  nodes_of (more s ss) = tree.more (node_of s) (nodes_of ss)

-- what is kept of a node at its own path: the number of its firings, its recorded outputs, and its meetings
abbrev pub entry_of : Frame → Entry Token
entry_of f = record { count = f.past.made; recorded = map trace_of f.records; meetings = f.meetings }

-- what is kept of a node and of all within it
abbrev mutual
  pub kept_of : Shown → Kept Token
  kept_of (Branch f ks) = kept_by (entry_of f) (kepts_of ks)

  pub kepts_of : AllShown → List (Kept Token)
  kepts_of none = []
  kepts_of (more s ss) = kept_of s ∷ kepts_of ss

-- the number of finished firings of a node and of all within it
abbrev mutual
  pub count_of : Shown → ℕ
  count_of (Branch f ks) = f.past.made + counts_of ks

  pub counts_of : AllShown → ℕ
  counts_of none = 0
  counts_of (more s ss) = count_of s + counts_of ss

-- what a recorded port is, without what it gave
pub record Heading : Type 0 where
  pub port : ℕ
  pub number : ℕ
  pub text : List ℕ

abbrev pub heading_of : RecordedPort → Heading
heading_of r = record { port = r.port; number = r.number; text = r.text }

-- the maximum capacity of a channel that the director of a composite states, 0 where it states none
abbrev pub maximum_in : Body → ℕ
maximum_in (Actor held) = 0
maximum_in (Composite director) = director_calls.maximum director

-- What of a tree no firing changes: of each node the text of its path, the headings of its recorded ports, the maximum capacity of its channels, and how a report tells these.
mutual
  pub data Outline : Type 0 where
    Named : List ℕ → List Heading → (maximum : ℕ) → (labels : List (List ℕ)) → Outlines → Outline

  pub data Outlines : Type 0 where
    end : Outlines
    with : Outline → Outlines → Outlines

abbrev mutual
  pub outline_of : Shown → Outline
  outline_of (Branch f ks) = Named f.path (map heading_of f.records) (maximum_in f.body) f.labels (outlines_of ks)

  pub outlines_of : AllShown → Outlines
  outlines_of none = end
  outlines_of (more s ss) = with (outline_of s) (outlines_of ss)

-- how many levels there are
abbrev mutual
  pub depth : Outline → ℕ
  depth (Named text hs most ls os) = suc (depths os)

  pub depths : Outlines → ℕ
  depths end = 0
  depths (with o os) = max (depth o) (depths os)

-- the text of the node at a path, if there is one
abbrev mutual
  pub text_at : Outline → Path → Option (List ℕ)
  text_at (Named text hs most ls os) [] = Some text
  text_at (Named text hs most ls os) (i ∷ p) = text_below os i p

  pub text_below : Outlines → ℕ → Path → Option (List ℕ)
  text_below end i p = None
  text_below (with o os) zero p = text_at o p
  text_below (with o os) (suc i) p = text_below os i p

-- the maximum capacity at a path, 0 where there is no node
abbrev mutual
  pub maximum_at : Outline → Path → ℕ
  maximum_at (Named text hs most ls os) [] = most
  maximum_at (Named text hs most ls os) (i ∷ p) = maximum_below os i p

  pub maximum_below : Outlines → ℕ → Path → ℕ
  maximum_below end i p = 0
  maximum_below (with o os) zero p = maximum_at o p
  maximum_below (with o os) (suc i) p = maximum_below os i p

-- how a report tells the channels of the node at a path, none where there is no node
abbrev mutual
  pub labels_at : Outline → Path → List (List ℕ)
  labels_at (Named text hs most ls os) [] = ls
  labels_at (Named text hs most ls os) (i ∷ p) = labels_below os i p

  pub labels_below : Outlines → ℕ → Path → List (List ℕ)
  labels_below end i p = []
  labels_below (with o os) zero p = labels_at o p
  labels_below (with o os) (suc i) p = labels_below os i p
