-- Nodes that are brought back to their starts, and lists of them, one by one.
use Rattle.std.proofs.Common.{◌≡◌, ℕ, zero, suc, ◌+◌, ◌≤◌, List, [], ◌∷◌, length, map, set, Some, refl, sym, ap, ap₂, subst, ◌∙◌, arith, Result, Ok, Err}
use Rattle.std.specs.Prelude.{OnOk}
use Rattle.pt_meaning.specs.Streams.{get}
use Rattle.pt_meaning.specs.Tree as tree
use Rattle.pt_value.specs.declared.token.Token.{Token}
use Rattle.pt_records.specs.Kept.{Kept}
use Rattle.pt_directors.specs.Directors.{Director}
use Rattle.pt_library.specs.declared.library_actor.LibraryActor.{LibraryActor}
use Rattle.pt_node.specs.declared.body.Body.{Body}
use Rattle.pt_node.specs.declared.body.Body.TheVariants.{Actor, Composite}
use Rattle.pt_node.specs.declared.body.Held.{Held}
use Rattle.pt_node.specs.Acts.{acts}
use Rattle.pt_node.specs.Shown.{Shown, AllShown, all_of}
use Rattle.pt_node.specs.View.{Tree, Trees, Outlines, with, node_with, nodes_of, maximum_in, kept_of, kepts_of, outline_of, outlines_of, count_of, counts_of}
use Rattle.pt_node.specs.Live.{IsReady, IsReadyBody, AllFit}
use Rattle.pt_past.specs.Meetings.{Serves}
use Rattle.pt_node.specs.Reset.{WasReset, WereReset, BodyReset, KeepsRecords, KeepRecords, ResetTo}
use Rattle.pt_node.proofs.ActsLaws.{acts-are-lawful}
use Rattle.pt_past.proofs.MeetingsLaws.{serves-none}

-- one by one
pub reset-none : (ss : List Shown) → ResetTo 0 ss ss
reset-none [] = tt
reset-none (s ∷ ss) = (refl, reset-none ss)

pub reset-long : (k : ℕ) (olds now : List Shown) → ResetTo k olds now → length now ≡ length olds
reset-long k [] [] r = refl
reset-long k [] (t ∷ ts) r = absurd r
reset-long k (s ∷ ss) [] r = absurd r
reset-long zero (s ∷ ss) (t ∷ ts) r = ap (λ n. suc n) (reset-long zero ss ts r.1)
reset-long (suc k) (s ∷ ss) (t ∷ ts) r = ap (λ n. suc n) (reset-long k ss ts r.1)

pub reset-next : (k : ℕ) (olds now : List Shown) → ResetTo k olds now → (d : Shown) → get now k ≡ Some d → get olds k ≡ Some d
reset-next k [] [] r d e = e
reset-next k [] (t ∷ ts) r d e = absurd r
reset-next k (s ∷ ss) [] r d e = absurd r
reset-next zero (s ∷ ss) (t ∷ ts) r d e = subst (λ v. get (v ∷ ss) 0 ≡ Some d) r.0 e
reset-next (suc k) (s ∷ ss) (t ∷ ts) r d e = reset-next k ss ts r.1 d e

pub reset-more : (k : ℕ) (olds now : List Shown) → ResetTo k olds now → (d t : Shown) → get now k ≡ Some d → WasReset d t → ResetTo (suc k) olds (set now k t)
reset-more k [] [] r d t e w = tt
reset-more k [] (u ∷ us) r d t e w = absurd r
reset-more k (s ∷ ss) [] r d t e w = absurd r
reset-more zero (s ∷ ss) (u ∷ us) r d t e w = let same : u ≡ d = cc in (subst (λ v. WasReset v t) (sym same ∙ r.0) w, r.1)
reset-more (suc k) (s ∷ ss) (u ∷ us) r d t e w = (r.0, reset-more k ss us r.1 d t e w)

pub reset-end : (k : ℕ) (olds now : List Shown) → ResetTo k olds now → length olds ≤ k → WereReset (all_of olds) (all_of now)
reset-end k [] [] r h = record { nodes = refl; fit = tt }
reset-end k [] (t ∷ ts) r h = absurd r
reset-end k (s ∷ ss) [] r h = absurd r
reset-end zero (s ∷ ss) (t ∷ ts) r h = absurd (omega (arith, h))
reset-end (suc k) (s ∷ ss) (t ∷ ts) r h =
    let w = reset-end k ss ts r.1 (omega (arith, h)) in
    record { nodes = ap₂ (λ (v : Tree) (vs : Trees). let n : Trees = tree.more v vs in n) r.0.node w.nodes; fit = (r.0.live.1, w.fit) }

-- what is recorded of them
pub keep-all : (ks : AllShown) → KeepRecords ks ks
keep-all ks = record { kepts = refl; outlines = refl; counts = refl }

pub keep-set : (ss : List Shown) (k : ℕ) (d t : Shown) → get ss k ≡ Some d → KeepsRecords d t → KeepRecords (all_of ss) (all_of (set ss k t))
keep-set [] k d t e w = record { kepts = refl; outlines = refl; counts = refl }
keep-set (s ∷ ss) zero d t e w =
    let same : s ≡ d = cc in
    record {
      kepts = ap (λ (v : Kept Token). v ∷ kepts_of (all_of ss)) (w.kept ∙ ap (λ v. kept_of v) (sym same));
      outlines = ap (λ o. let os : Outlines = with o (outlines_of (all_of ss)) in os) (w.outline ∙ ap (λ v. outline_of v) (sym same));
      counts = ap (λ n. n + counts_of (all_of ss)) (w.count ∙ ap (λ v. count_of v) (sym same));
    }
keep-set (s ∷ ss) (suc k) d t e w =
    let r = keep-set ss k d t e w in
    record {
      kepts = ap (λ (vs : List (Kept Token)). kept_of s ∷ vs) r.kepts;
      outlines = ap (λ os. let o : Outlines = with (outline_of s) os in o) r.outlines;
      counts = ap (λ n. count_of s + n) r.counts;
    }

pub keep-then : (a b c : AllShown) → KeepRecords a b → KeepRecords b c → KeepRecords a c
keep-then a b c p q = record { kepts = q.kepts ∙ p.kepts; outlines = q.outlines ∙ p.outlines; counts = q.counts ∙ p.counts }

-- a library actor
pub actor-reset : (held held' : Held) (ks : AllShown) → AllFit ks → held'.start ≡ held.start → held'.actor ≡ held.start → BodyReset (Actor held) ks (Actor held') ks
actor-reset held held' ks fit s a = record {
  node = λ h. ap₂ (λ (v w : LibraryActor). let n : Tree = tree.Actor (tree.forgotten h) v w in n) s a;
  ready = tt;
  fit = fit;
  serves = λ n r s. tt;
}

-- a composite
list-reset : (ns : Trees) → tree.list_of (tree.reset_all ns) ≡ map tree.reset_of (tree.list_of ns)
list-reset tree.none = refl
list-reset (tree.more n ns) = ap (λ (v : List Tree). tree.reset_of n ∷ v) (list-reset ns)

pub composite-reset : (d d' : Director) (ks ks' : AllShown) → IsReady d ks → d' ≡ acts.calls.restarted d → WereReset ks ks' → BodyReset (Composite d) ks (Composite d') ks'
composite-reset d d' ks ks' ready e w = record {
  node = λ h.
      ap (λ v. node_with (tree.forgotten h) (Composite v) (nodes_of ks')) e ∙
      ap₂ (λ (v w : tree.Core Token). let n : Tree = tree.Composite (tree.forgotten h) v w (nodes_of ks') in n) (acts-are-lawful.agree.restarts d).1 (acts-are-lawful.agree.restarts d).0 ∙
      ap (λ (v : Trees). let n : Tree = tree.Composite (tree.forgotten h) (acts.calls.start_of d) (acts.calls.start_of d) v in n) w.nodes;
  ready = subst (λ v. IsReady v ks') (sym e) (subst (λ (v : List Tree). acts.Fits (acts.calls.restarted d) v) (sym (ap (λ (v : Trees). tree.list_of v) w.nodes ∙ list-reset (nodes_of ks))) (acts-are-lawful.fits_again d (tree.list_of (nodes_of ks)) ready));
  fit = w.fit;
  serves = λ n r s. subst (λ v. Serves v n r) (sym (ap (λ v. acts.calls.met v) e ∙ acts-are-lawful.agree.tells_meetings.restarted d)) (serves-none (acts.calls.met d) n r s);
}

-- where all within could be brought back
pub all-reset : {E : Type 0} (r : Result (Unit {0}) E) (b : Body) (d d' : Director) (ks ks' : AllShown) → b ≡ Composite d → IsReadyBody b ks → d' ≡ acts.calls.restarted d → OnOk r (WereReset ks ks') → OnOk r (BodyReset b ks (Composite d') ks')
all-reset (Ok u) b d d' ks ks' is ready e w = subst (λ v. BodyReset v ks (Composite d') ks') (sym is) (composite-reset d d' ks ks' (subst (λ v. IsReadyBody v ks) is ready) e w)
all-reset (Err x) b d d' ks ks' is ready e w = tt

-- brought back to its start, a director states the same maximum capacity
pub restarted-maximum : (b : Body) (d d' : Director) → b ≡ Composite d → d' ≡ acts.calls.restarted d → acts.calls.maximum d' ≡ maximum_in b
restarted-maximum b d d' is e = ap (λ v. acts.calls.maximum v) e ∙ acts-are-lawful.agree.keeps_maximum.restarted d ∙ sym (ap (λ v. maximum_in v) is)
