-- What is logged in the middle of a firing of a Rendezvous composite is shut with the meetings made in it, where it is so without them.
use Rattle.std.proofs.Common.{◌≡◌, ◌⊎◌, inl, inr, ℕ, suc, ◌+◌, ◌<◌, ◌≤◌, List, [], ◌∷◌, ◌++◌, Bool, true, false, nat_le, length, Option, Some, None, refl, sym, ap, ap₂, subst, ◌∙◌, arith}
use Rattle.std.proofs.Math.Path.{fun_ext}
use Rattle.pt_meaning.specs.Tag.{Tag}
use Rattle.pt_meaning.specs.Streams.{Streams, IsPrefix}
use Rattle.pt_meaning.specs.Log.{Log, Path, Event, Finished, Met, Firing, Meeting, firings_in, log_then, log_below, within_firing}
use Rattle.pt_meaning.specs.Machine.{Fault}
use Rattle.pt_meaning.specs.Net.{Source, Own, Output}
use Rattle.pt_meaning.specs.Meetings.{Meets}
use Rattle.pt_meaning.specs.Rendezvous.{with_meetings}
use Rattle.pt_meaning.specs.Tree.{Rows, Core, Past, Node, Nodes, Actor, Composite, none, more, list_of}
use Rattle.pt_meaning.specs.Closed.{Has, UnderWay, ComesTo, HasBegun, IsCausedIf, keeps_tokens, held_at, source_of, taken, given, taken_from, begun_at, these_if, of_records, has_number, inputs_at, rounds_of}
use Rattle.pt_laws.specs.SoundRuns.{IsBare, LevelClosed, ClosedIn, AllClosedIn, CameByNow}
use Rattle.pt_laws.specs.WholeRuns.{ComesLater}
use Rattle.pt_laws.proofs.LevelLaws.{count-append, has-either}
use Rattle.pt_records.specs.Shut.{HasCome, IsShutAt, IsShut}
use Rattle.pt_rv_laws.specs.Chain.{met_events}

module _ (T : Type 0) where
  pub met-quiet : (n : ℕ) (ms : List Meeting) → firings_in (met_events {T = T} n ms) ≡ 0
  met-quiet n [] = refl
  met-quiet n (m ∷ ms) = met-quiet n ms

  met-bare : (n : ℕ) (ms : List Meeting) → IsBare (met_events {T = T} n ms)
  met-bare n [] e h = absurd h
  met-bare n (m ∷ ms) e (inl h) = ap (λ v. rounds_of v) h
  met-bare n (m ∷ ms) e (inr h) = met-bare n ms e h

  met-records : (test : List ℕ → Firing T → Bool) (pick : Firing T → List T) (n : ℕ) (ms : List Meeting) → of_records test pick (met_events n ms) ≡ []
  met-records test pick n [] = refl
  met-records test pick n (m ∷ ms) = met-records test pick n ms

  records-met : (test : List ℕ → Firing T → Bool) (pick : Firing T → List T) (es : List (Event T)) (n : ℕ) (ms : List Meeting) → of_records test pick (es ++ met_events n ms) ≡ of_records test pick (es ++ [])
  records-met test pick [] n ms = met-records test pick n ms
  records-met test pick (Finished within f ∷ es) n ms = ap (λ v. these_if (test within f) (pick f) v) (records-met test pick es n ms)
  records-met test pick (Met within i m ∷ es) n ms = records-met test pick es n ms

  firings-met : (es : List (Event T)) (n : ℕ) (ms : List Meeting) → firings_in (es ++ met_events n ms) ≡ firings_in (es ++ [])
  firings-met es n ms = let a = count-append es (met_events n ms) in let b = count-append es [] in let c = met-quiet n ms in omega (arith, a, b, c)

module _ {T A : Type 0} (rows : Rows T A) (m : Meets) (h : Past) (start state : Core T) (kids : Nodes T A) (tag : Tag) (inputs : Streams T) (place : Option Fault) (n : ℕ) (ms : List Meeting) (logs : List (Log T)) (keeps : keeps_tokens start ≡ true) where
  abbrev node : Node T A
  node = Composite h start state kids

  abbrev bare : Log T
  bare = within_firing n (log_below logs)

  abbrev full : Log T
  full = within_firing n (with_meetings (met_events n ms) (log_below logs))

  module _ (u : Bool) (h₀ : Past) (c₀ d₀ : Core T) (kids₀ : Nodes T A) (l : Log T) (come : HasCome rows u (Composite h₀ c₀ d₀ kids₀) node l) (shut : IsShutAt rows m u (Composite h₀ c₀ d₀ kids₀) node tag inputs place l bare) where
    abbrev top : Node T A
    top = Composite h₀ c₀ d₀ kids₀

    abbrev L : Log T
    L = log_then l bare

    abbrev L' : Log T
    L' = log_then l full

    abbrev way : UnderWay T
    way = shut.way

    -- the same firings are finished
    counts-here : firings_in (L' []) ≡ firings_in (L [])
    counts-here = firings-met T (l []) n ms

    counts-same : (p : Path) → firings_in (L' p) ≡ firings_in (L p)
    counts-same [] = counts-here
    counts-same (i ∷ p) = refl

    taken-same : (i q r k : ℕ) → taken rows top L' way [] i q r k ≡ taken rows top L way [] i q r k
    taken-same i q r k = ap (λ c. taken_from 0 r k q (L (i ∷ [])) ++ these_if (nat_le c k) (begun_at (way (i ∷ [])) q) []) counts-here

    given-same : (o : Option Source) (r k : ℕ) → given rows top L' way [] o r k ≡ given rows top L way [] o r k
    given-same None r k = refl
    given-same (Some (Own port)) r k = ap₂ (λ xs c. xs ++ these_if (nat_le c k) (begun_at (way []) port) []) (records-met T (has_number r k) (inputs_at port) (l []) n ms) counts-here
    given-same (Some (Output j port)) r k = refl

    kept-start : keeps_tokens c₀ ≡ true
    kept-start = ap (λ c. keeps_tokens c) (sym come.kept.0.start) ∙ keeps

    begun-same : (k : ℕ) → HasBegun L' way [] k → HasBegun L way [] k
    begun-same k (inl o) = inl (subst (λ c. k < c) counts-here o)
    begun-same k (inr b) = inr (b.0 ∙ counts-here, b.1, b.2)

    abbrev IsCaused : Log T → ℕ → ℕ → ℕ → Type 0
    IsCaused log i q k = IsCausedIf rows top log way u [] c₀ i q k

    caused-same : (i q k : ℕ) → IsCaused L i q k → IsCaused L' i q k
    caused-same i q k (inl c) = inl (c.0, c.1, c.2, subst (λ xs. IsPrefix xs (held_at c₀ i q ++ given rows top L' way [] (source_of c₀ i q) c.0 k)) (sym (taken-same i q c.0 k)) (subst (λ ys. IsPrefix (taken rows top L way [] i q c.0 k) (held_at c₀ i q ++ ys)) (sym (given-same (source_of c₀ i q) c.0 k)) c.3))
    caused-same i q k (inr c) = absurd (clash (sym kept-start ∙ c.0))
      where
        clash : true ≡ false → ⊥
        clash e = cc

    came-same : (rounds : List ℕ) → CameByNow (firings_in (L [])) (way []) rounds → CameByNow (firings_in (L' [])) (way []) rounds
    came-same rounds c = subst (λ v. CameByNow v (way []) rounds) (sym counts-here) c

    abbrev Level : Log T → Type 0
    Level log = LevelClosed rows u top c₀ (length (list_of kids₀)) log way

    level-same : Level L → Level L'
    level-same x = record {
      caused = λ i q k b. caused-same i q k (x.caused i q k (begun-same k b));
      enclosed = x.enclosed;
      within = λ i p e g. came-same (rounds_of e) (x.within i p e g);
      beyond = x.beyond;
    }

    all-same : (v : Bool) (ks : Nodes T A) (i : ℕ) → AllClosedIn rows v ks i L way → AllClosedIn rows v ks i L' way
    all-same v none i x = tt
    all-same v (more k ks) i x = (x.0, all-same v ks (suc i) x.1)

    bare-same : IsBare (L []) → IsBare (L' [])
    bare-same b e g = by (has-either e (l []) (met_events n ms) g)
      where
        left : (xs : List (Event T)) → Has e xs → Has e (xs ++ [])
        left (x ∷ xs) (inl w) = inl w
        left (x ∷ xs) (inr w) = inr (left xs w)
        left [] w = absurd w

        by : Has e (l []) ⊎ Has e (met_events n ms) → rounds_of e ≡ []
        by (inl w) = b e (left (l []) w)
        by (inr w) = met-bare T n ms e w

    closed-met : ClosedIn rows u top L' way
    closed-met = let c = shut.closed in (bare-same c.0, level-same c.1, all-same _ kids₀ 0 c.2)

    -- what comes later
    abbrev behind : Log T → Log T
    behind rest = with_meetings (met_events n ms ++ rest []) rest

    joins-same : (rest : Log T) → log_then full rest ≡ log_then bare (behind rest)
    joins-same rest = fun_ext by
      where
        by : (p : Path) → log_then full rest p ≡ log_then bare (behind rest) p
        by [] = refl
        by (i ∷ p) = refl

    below-same : (rest : Log T) (p : Path) (i : ℕ) (r : Path) → behind rest (p ++ (i ∷ r)) ≡ rest (p ++ (i ∷ r))
    below-same rest [] i r = refl
    below-same rest (j ∷ p) i r = refl

    later-met : (rest : Log T) → ComesLater L (behind rest) → ComesLater L' rest
    later-met rest c p i r e g =
        let w = c p i r e (subst (λ es. Has e es) (sym (below-same rest p i r)) g) in
        (w.0, w.1, subst (λ v. v ≤ w.0) (sym (counts-same p)) w.2)

    abbrev counts_in : Log T → Path → ℕ
    counts_in log q = firings_in (log q)

    counts-fun : counts_in L ≡ counts_in L'
    counts-fun = fun_ext (λ q. sym (counts-same q))

    pub shut-met : IsShutAt rows m u top node tag inputs place l full
    shut-met = record {
      quiet = met-quiet T n ms;
      way = way;
      under = shut.under;
      closed = closed-met;
      comes = λ p b e. subst (λ f. ComesTo rows p m f node tag inputs b) counts-fun (shut.comes p b e);
      placed = λ f e. let w = shut.placed f e in (counts-same f.path ∙ w.0, w.1, w.2);
      later = λ k tag' inputs' rest e. later-met rest (shut.later k tag' inputs' (behind rest) (e ∙ joins-same rest));
    }

  pub shut-with-met : IsShut rows m node tag inputs place bare → IsShut rows m node tag inputs place full
  shut-with-met shut u (Actor h₀ a₀ b₀) l come = absurd come.kept
  shut-with-met shut u (Composite h₀ c₀ d₀ kids₀) l come = shut-met u h₀ c₀ d₀ kids₀ l come (shut u (Composite h₀ c₀ d₀ kids₀) l come)
