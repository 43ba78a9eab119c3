-- Notes of firings that aren't recorded change nothing else.
use Rattle.std.proofs.Common.{◌≡◌, ◌+◌, List, [], ◌∷◌, length, map, refl, sym, ap, ap₂, subst, ◌∙◌}
use Rattle.pt_meaning.specs.Tree as tree
use Rattle.pt_value.specs.declared.token.Token.{Token}
use Rattle.pt_records.specs.Kept.{Entry, kept_by}
use Rattle.pt_node.specs.declared.body.Body.{Body}
use Rattle.pt_node.specs.declared.body.Body.TheVariants as body
use Rattle.pt_past.specs.Recorded.{RecordedPort, unnoted, trace_of}
use Rattle.pt_node.specs.Acts.{acts}
use Rattle.pt_node.specs.Shown.{Shown, AllShown, Frame, Branch, all_of}
use Rattle.pt_node.specs.Firing.{bare}
use Rattle.pt_node.specs.View.{Trees, Named, with, node_of, nodes_of, node_with, entry_of, kept_of, kepts_of, outline_of, outlines_of, heading_of, maximum_in, count_of, counts_of}
use Rattle.pt_node.specs.Live.{IsFit, AllFit, IsReadyBody, IsLive}
use Rattle.pt_node.proofs.OutlineLaws.{outline_bare}
use Rattle.pt_blocks.specs.Children.{EachTo, IsBareAs}
use Rattle.pt_blocks.specs.Made.{IsAsBefore}

-- the children without their notes are the same
pub bares-same : (olds news : List Shown) → EachTo IsBareAs (length olds) olds news → map bare news ≡ map bare olds
bares-same [] [] e = refl
bares-same [] (t ∷ ts) e = absurd e
bares-same (s ∷ ss) [] e = absurd e
bares-same (s ∷ ss) (t ∷ ts) e = ap₂ (λ v vs. v ∷ vs) e.0 (bares-same ss ts e.1)

-- ---- of one node

traces-unnoted : (rs : List RecordedPort) → map trace_of (map unnoted rs) ≡ map trace_of rs
traces-unnoted [] = refl
traces-unnoted (r ∷ rs) = ap (λ v. trace_of r ∷ v) (traces-unnoted rs)

node-bare : (s : Shown) → node_of (bare s) ≡ node_of s
node-bare (Branch g ks) = refl

kept-bare : (s : Shown) → kept_of (bare s) ≡ kept_of s
kept-bare (Branch g ks) = ap (λ rs. let e : Entry Token = record { count = g.past.made; recorded = rs; meetings = g.meetings } in kept_by e (kepts_of ks)) (traces-unnoted g.records)

count-bare : (s : Shown) → count_of (bare s) ≡ count_of s
count-bare (Branch g ks) = refl

bare-twice : (s : Shown) → bare (bare s) ≡ bare s
bare-twice (Branch g ks) = ap (λ rs. Branch (record { past = g.past; body = g.body; records = rs; path = g.path; labels = g.labels; meetings = g.meetings; live = g.live }) ks) (twice g.records)
  where
    twice : (rs : List RecordedPort) → map unnoted (map unnoted rs) ≡ map unnoted rs
    twice [] = refl
    twice (r ∷ rs) = ap (λ v. unnoted r ∷ v) (twice rs)

fit-bare : (s : Shown) → IsFit s → IsFit (bare s)
fit-bare (Branch g ks) f = f

bare-fit : (s : Shown) → IsFit (bare s) → IsFit s
bare-fit (Branch g ks) f = f

-- ---- of children

nodes-bare : (ss : List Shown) → nodes_of (all_of (map bare ss)) ≡ nodes_of (all_of ss)
nodes-bare [] = refl
nodes-bare (s ∷ ss) = ap₂ (λ n ns. tree.more n ns) (node-bare s) (nodes-bare ss)

kepts-bare : (ss : List Shown) → kepts_of (all_of (map bare ss)) ≡ kepts_of (all_of ss)
kepts-bare [] = refl
kepts-bare (s ∷ ss) = ap₂ (λ k ks. k ∷ ks) (kept-bare s) (kepts-bare ss)

counts-bare : (ss : List Shown) → counts_of (all_of (map bare ss)) ≡ counts_of (all_of ss)
counts-bare [] = refl
counts-bare (s ∷ ss) = ap₂ (λ m n. m + n) (count-bare s) (counts-bare ss)

outlines-bare : (ss : List Shown) → outlines_of (all_of (map bare ss)) ≡ outlines_of (all_of ss)
outlines-bare [] = refl
outlines-bare (s ∷ ss) = ap₂ (λ o os. with o os) (outline_bare (bare s) s (bare-twice s)) (outlines-bare ss)

fits-bare : (ss : List Shown) → AllFit (all_of ss) → AllFit (all_of (map bare ss))
fits-bare [] f = tt
fits-bare (s ∷ ss) f = (fit-bare s f.0, fits-bare ss f.1)

bare-fits : (ss : List Shown) → AllFit (all_of (map bare ss)) → AllFit (all_of ss)
bare-fits [] f = tt
bare-fits (s ∷ ss) f = (bare-fit s f.0, bare-fits ss f.1)

ready-nodes : (b : Body) (ks ls : AllShown) → nodes_of ls ≡ nodes_of ks → IsReadyBody b ks → IsReadyBody b ls
ready-nodes (body.Actor held) ks ls e r = tt
ready-nodes (body.Composite d) ks ls e r = subst (λ (ns : Trees). acts.Fits d (tree.list_of ns)) (sym e) r

-- ---- of the node whose children they are

module _ (f : Frame) (olds news : List Shown) (each : EachTo IsBareAs (length olds) olds news) where
  same-nodes : nodes_of (all_of news) ≡ nodes_of (all_of olds)
  same-nodes = sym (nodes-bare news) ∙ ap (λ ss. nodes_of (all_of ss)) (bares-same olds news each) ∙ nodes-bare olds

  same-kept : kepts_of (all_of news) ≡ kepts_of (all_of olds)
  same-kept = sym (kepts-bare news) ∙ ap (λ ss. kepts_of (all_of ss)) (bares-same olds news each) ∙ kepts-bare olds

  same-fit : AllFit (all_of olds) → AllFit (all_of news)
  same-fit fit = bare-fits news (subst (λ ss. AllFit (all_of ss)) (sym (bares-same olds news each)) (fits-bare olds fit))

  pub outline-as-before : outline_of (Branch f (all_of news)) ≡ outline_of (Branch f (all_of olds))
  outline-as-before = ap (λ os. Named f.path (map heading_of f.records) (maximum_in f.body) f.labels os) (sym (outlines-bare news) ∙ ap (λ ss. outlines_of (all_of ss)) (bares-same olds news each) ∙ outlines-bare olds)

  pub count-as-before : count_of (Branch f (all_of news)) ≡ count_of (Branch f (all_of olds))
  count-as-before = ap (λ n. f.past.made + n) (sym (counts-bare news) ∙ ap (λ ss. counts_of (all_of ss)) (bares-same olds news each) ∙ counts-bare olds)

  pub as-before : IsLive (Branch f (all_of olds)) → IsAsBefore (Branch f (all_of olds)) (Branch f (all_of news))
  as-before live = record {
    node = ap (λ ns. node_with f.past f.body ns) same-nodes;
    kept = ap (λ ks. kept_by (entry_of f) ks) same-kept;
    live = (live.0, (ready-nodes f.body (all_of olds) (all_of news) same-nodes live.1.0, same-fit live.1.1, live.1.2));
  }

-- nothing was done at all
pub nothing-done : (s : Shown) → IsLive s → IsAsBefore s s
nothing-done s live = record { node = refl; kept = refl; live = live }
