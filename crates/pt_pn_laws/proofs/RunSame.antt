-- Two runs in which the processes made the same numbers of firings are the same, and what the last firing of a process gave stays what it gave as others fire.
use Rattle.std.proofs.Common.{◌≡◌, ◌⊎◌, inl, inr, ℕ, zero, suc, ◌+◌, ◌<◌, ◌≤◌, List, [], ◌∷◌, ◌++◌, length, take, drop, get_or, Option, Some, if◌then◌else◌, refl, sym, ap, ap₂, subst, ◌∙◌, arith, append_assoc}
use Rattle.pt_meaning.specs.Tag.{Tag}
use Rattle.pt_meaning.specs.Streams.{IsPrefix, Streams, at, get, change_at, Below}
use Rattle.pt_meaning.specs.Log.{Log, Firing}
use Rattle.pt_meaning.specs.Machine.{Outcome, Done, Stuck, Stepping, Facts, Front, Lacks, Ends, Takes, front}
use Rattle.pt_meaning.specs.Net.{Source, Own, Output, Net}
use Rattle.pt_meaning.specs.Flow.{Flow, flow, on_outcome, on_front}
use Rattle.pt_meaning.specs.Rounds.{gave, fed, refill, round}
use Rattle.pt_meaning.specs.Kahn.{skip_places}
use Rattle.pt_meaning.specs.Pn.{pn_limits}
use Rattle.pt_meaning.specs.Process.{Put, puts_of}
use Rattle.pt_meaning.specs.Running.{Running, runs, total, MadeAll, plus}
use Rattle.pt_meaning.specs.Places.{Halfway}
use Rattle.pt_meaning.specs.Jam.{IsPutting}
use Rattle.pt_laws.specs.TickRuns.{places_at}
use Rattle.pt_laws.specs.LogsOfRuns.{FiresWith}
use Rattle.pt_laws.proofs.Order.{Below-trans, Below-take, Below-drop}
use Rattle.pt_laws.proofs.RoundLaws.{round-below, grows-refl}
use Rattle.pt_laws.proofs.RunLaws.{flow-longer, fires-grow}
use Rattle.pt_laws.proofs.Indexed.{drop-more}
use Rattle.pt_pn_laws.specs.State.{offset_of}
use Rattle.pt_pn_laws.proofs.ListLaws.{nat-same}

-- what is behind a beginning
rest_of : {T : Type 0} (xs ys : List T) → IsPrefix xs ys → (zs : List T) × (ys ≡ xs ++ zs)
rest_of [] ys b = (ys, refl)
rest_of (x ∷ xs) [] b = absurd b
rest_of (x ∷ xs) (y ∷ ys) b = let r = rest_of xs ys b.1 in (r.0, ap₂ (λ v vs. v ∷ vs) (sym b.0) r.1)

below-plus : {T : Type 0} (X Y : Streams T) → Below X Y → (E : Streams T) × (Y ≡ plus X E)
below-plus [] [] b = ([], refl)
below-plus [] (y ∷ Y) b = absurd b
below-plus (x ∷ X) [] b = absurd b
below-plus (x ∷ X) (y ∷ Y) b =
    let r = rest_of x y b.0 in
    let e = below-plus X Y b.1 in
    (r.0 ∷ e.0, ap₂ (λ v vs. v ∷ vs) r.1 e.1)

below-part : {T : Type 0} (ns : List ℕ) (i : ℕ) (X Y : Streams T) → Below X Y → Below (places_at ns i X) (places_at ns i Y)
below-part ns i X Y b = Below-take (get_or ns i 0) (drop (offset_of ns i) X) (drop (offset_of ns i) Y) (Below-drop (offset_of ns i) X Y b)

module _ {T S : Type 0} (facts : Facts T S) (step : Stepping T S) (tag : Tag) where
  -- on longer streams as many firings give the same
  pub on-longer : (m : ℕ) (s : S) (X Y : Streams T) → (flow facts step tag m s X).fired ≡ m → Below X Y → (p : ℕ) → at (flow facts step tag m s Y).outputs p ≡ at (flow facts step tag m s X).outputs p
  on-longer m s X Y f b p =
      let e = below-plus X Y b in
      ap (λ Z. at (flow facts step tag m s Z).outputs p) e.1 ∙ ap (λ (g : Flow T S). at g.outputs p) (flow-longer facts step tag m s X e.0 f)

  -- all but the last of them were made
  fewer-outcome : (b : ℕ) → ((s : S) (X : Streams T) → (flow facts step tag (suc b) s X).fired ≡ suc b → (flow facts step tag b s X).fired ≡ b) → (s : S) (X got left : Streams T) (r : Outcome T S) →
      (on_outcome facts step tag (flow facts step tag (suc b)) s X got left r).fired ≡ suc (suc b) → (on_outcome facts step tag (flow facts step tag b) s X got left r).fired ≡ suc b
  fewer-outcome b ih s X got left (Done z out l) e = ap (λ v. suc v) (ih z left (omega (arith, e)))
  fewer-outcome b ih s X got left (Stuck fs l) e = absurd (omega (arith, e))

  fewer-front : (b : ℕ) → ((s : S) (X : Streams T) → (flow facts step tag (suc b) s X).fired ≡ suc b → (flow facts step tag b s X).fired ≡ b) → (s : S) (X : Streams T) (f : Front T) →
      (on_front facts step tag (flow facts step tag (suc b)) s X f).fired ≡ suc (suc b) → (on_front facts step tag (flow facts step tag b) s X f).fired ≡ suc b
  fewer-front b ih s X Lacks e = absurd (omega (arith, e))
  fewer-front b ih s X Ends e = absurd (omega (arith, e))
  fewer-front b ih s X (Takes got left) e = fewer-outcome b ih s X got left (step tag s got) e

  pub fewer : (b : ℕ) (s : S) (X : Streams T) → (flow facts step tag (suc b) s X).fired ≡ suc b → (flow facts step tag b s X).fired ≡ b
  unfolding flow
  fewer zero s X e = refl
  fewer (suc b) s X e = fewer-front b (λ z Z w. fewer b z Z w) s X (front (facts.need s) X) e

  -- what the last of them gave is the same on other streams that go on to the same
  pub carried : (b : ℕ) (s : S) (X Y W : Streams T) (out : Streams T) → (flow facts step tag (suc b) s X).fired ≡ suc b → (flow facts step tag (suc b) s Y).fired ≡ suc b → Below X W → Below Y W → (p : ℕ) →
      at (flow facts step tag (suc b) s X).outputs p ≡ at (flow facts step tag b s X).outputs p ++ at out p → at (flow facts step tag (suc b) s Y).outputs p ≡ at (flow facts step tag b s Y).outputs p ++ at out p
  carried b s X Y W out f g x y p e =
      sym (on-longer (suc b) s Y W g y p) ∙ on-longer (suc b) s X W f x p ∙ e ∙
      ap (λ v. v ++ at out p) (sym (on-longer b s X W (fewer b s X f) x p) ∙ on-longer b s Y W (fewer b s Y g) y p)

  some-same : {A : Type 0} (a b : A) → Some a ≡ Some b → a ≡ b
  some-same a b e = cc

  part-next : (n : ℕ) (ns : List ℕ) (j : ℕ) (X : Streams T) → places_at ns j (drop n X) ≡ places_at (n ∷ ns) (suc j) X
  part-next n ns j X = ap (λ v. take (get_or ns j 0) v) (sym (drop-more n (offset_of ns j) X))

  -- the stream function of process j in a run
  pub gave-is : (ns ms : List ℕ) (ss : List S) (X : Streams T) (j m : ℕ) (s : S) → length ms ≡ length ns → j < length ns → get ms j ≡ Some m → get ss j ≡ Some s → (p : ℕ) →
      gave (runs facts step tag ns (pn_limits ns) ms ss X) j p ≡ at (flow facts step tag m s (places_at ns j X)).outputs p
  gave-is [] ms ss X j m s e l f g p = absurd (omega (arith, l))
  gave-is (n ∷ ns) [] ss X j m s e l f g p = absurd (omega (arith, e))
  gave-is (n ∷ ns) (k ∷ ms) [] X j m s e l f g p = absurd (cc)
  gave-is (n ∷ ns) (k ∷ ms) (z ∷ ss) X zero m s e l f g p = ap₂ (λ a b. at (flow facts step tag a b (take n X)).outputs p) (some-same k m f) (some-same z s g)
  gave-is (n ∷ ns) (k ∷ ms) (z ∷ ss) X (suc j) m s e l f g p =
      gave-is ns ms ss (drop n X) j m s (omega (arith, e)) (omega (arith, l)) f g p ∙ ap (λ Z. at (flow facts step tag m s Z).outputs p) (part-next n ns j X)

  pub made-is : (ns ms : List ℕ) (ss : List S) (X : Streams T) (j m : ℕ) (s : S) → length ms ≡ length ns → j < length ns → get ms j ≡ Some m → get ss j ≡ Some s → MadeAll ms (runs facts step tag ns (pn_limits ns) ms ss X) →
      (flow facts step tag m s (places_at ns j X)).fired ≡ m
  made-is [] ms ss X j m s e l f g h = absurd (omega (arith, l))
  made-is (n ∷ ns) [] ss X j m s e l f g h = absurd (omega (arith, e))
  made-is (n ∷ ns) (k ∷ ms) [] X j m s e l f g h = absurd (cc)
  made-is (n ∷ ns) (k ∷ ms) (z ∷ ss) X zero m s e l f g h = subst (λ a. (flow facts step tag a s (take n X)).fired ≡ a) (some-same k m f) (subst (λ a. (flow facts step tag k a (take n X)).fired ≡ k) (some-same z s g) h.0)
  made-is (n ∷ ns) (k ∷ ms) (z ∷ ss) X (suc j) m s e l f g h =
      subst (λ Z. (flow facts step tag m s Z).fired ≡ m) (part-next n ns j X) (made-is ns ms ss (drop n X) j m s (omega (arith, e)) (omega (arith, l)) f g h.1)

  -- a number past the processes gives nothing
  gave-none : (fs : List (Flow T S)) (j p : ℕ) → length fs ≤ j → gave fs j p ≡ []
  gave-none [] j p l = refl
  gave-none (f ∷ fs) zero p l = absurd (omega (arith, l))
  gave-none (f ∷ fs) (suc j) p l = gave-none fs j p (omega (arith, l))

  pub runs-long : (ns ms : List ℕ) (ss : List S) (X : Streams T) → length (runs facts step tag ns (pn_limits ns) ms ss X) ≤ length ns
  runs-long [] ms ss X = omega arith
  runs-long (n ∷ ns) [] ss X = omega arith
  runs-long (n ∷ ns) (m ∷ ms) [] X = omega arith
  runs-long (n ∷ ns) (m ∷ ms) (s ∷ ss) X = let r = runs-long ns ms ss (drop n X) in omega (arith, r)

fed-as : {T S : Type 0} (fs gs : List (Flow T S)) → ((i p : ℕ) → gave gs i p ≡ gave fs i p) → (c : Source) → fed gs c ≡ fed fs c
fed-as fs gs h (Own p) = refl
fed-as fs gs h (Output i p) = h i p

refill-as : {T S : Type 0} (fs gs : List (Flow T S)) → ((i p : ℕ) → gave gs i p ≡ gave fs i p) → (cs : List Source) (X : Streams T) → refill gs cs X ≡ refill fs cs X
refill-as fs gs h [] X = refl
refill-as fs gs h (c ∷ cs) [] = refl
refill-as fs gs h (c ∷ cs) (xs ∷ X) = ap₂ (λ a b. (xs ++ a) ∷ b) (fed-as fs gs h c) (refill-as fs gs h cs X)

get-there : {A : Type 0} (xs : List A) (j : ℕ) → j < length xs → (x : A) × (get xs j ≡ Some x)
get-there [] j l = absurd (omega (arith, l))
get-there (x ∷ xs) zero l = (x, refl)
get-there (x ∷ xs) (suc j) l = get-there xs j (omega (arith, l))

get-change : {A : Type 0} (xs : List A) (j : ℕ) (f : A → A) (x : A) → get xs j ≡ Some x → get (change_at j f xs) j ≡ Some (f x)
get-change [] j f x e = absurd (cc)
get-change (y ∷ xs) zero f x e = let z : y ≡ x = cc in ap (λ v. Option.Some (f v)) z
get-change (y ∷ xs) (suc j) f x e = get-change xs j f x e

length-change : {A : Type 0} (xs : List A) (j : ℕ) (f : A → A) → length (change_at j f xs) ≡ length xs
length-change [] j f = refl
length-change (x ∷ xs) zero f = refl
length-change (x ∷ xs) (suc j) f = ap (λ v. suc v) (length-change xs j f)

module _ {T S : Type 0} (facts : Facts T S) (step : Stepping T S) (tag : Tag) (net : Net) (kids : List S) (start : Streams T) (count : length kids ≡ length net.places) where
  abbrev Run : List ℕ → List S → Streams T → Type 0
  Run ms now held = Running facts step tag net (pn_limits net.places) kids start ms now held

  abbrev At : ℕ → Streams T
  At k = round facts step tag net (pn_limits net.places) kids start k

  later : (ms : List ℕ) (now : List S) (held : Streams T) (r : Run ms now held) (k : ℕ) → total ms ≤ k → Below r.all (At k)
  later ms now held r k l = Below-trans r.all (At (total ms)) (At k) r.caused (round-below facts step step tag (grows-refl step) net (pn_limits net.places) kids start (total ms) k l)

  -- the streams of a run are those of its numbers of firings
  pub all-same : (ms : List ℕ) (now now' : List S) (held held' : Streams T) (r : Run ms now held) (r' : Run ms now' held') → r.all ≡ r'.all
  all-same ms now now' held held' r r' = r.fed ∙ refill-as fs' fs same net.sources start ∙ sym r'.fed
    where
      fs : List (Flow T S)
      fs = runs facts step tag net.places (pn_limits net.places) ms kids r.all

      fs' : List (Flow T S)
      fs' = runs facts step tag net.places (pn_limits net.places) ms kids r'.all

      same : (i p : ℕ) → gave (runs facts step tag net.places (pn_limits net.places) ms kids r.all) i p ≡ gave (runs facts step tag net.places (pn_limits net.places) ms kids r'.all) i p
      same i p = by (below-or i (length net.places))
        where
          below-or : (a b : ℕ) → (a < b) ⊎ (b ≤ a)
          below-or a b = grind arith

          by : (i < length net.places) ⊎ (length net.places ≤ i) → gave (runs facts step tag net.places (pn_limits net.places) ms kids r.all) i p ≡ gave (runs facts step tag net.places (pn_limits net.places) ms kids r'.all) i p
          by (inl l) =
              let m = get-there ms i (omega (arith, l, r.each)) in
              let s = get-there kids i (omega (arith, l, count)) in
              let W = At (total ms) in
              let f = made-is facts step tag net.places ms kids r.all i m.0 s.0 r.each l m.1 s.1 r.made in
              let g = made-is facts step tag net.places ms kids r'.all i m.0 s.0 r.each l m.1 s.1 r'.made in
              gave-is facts step tag net.places ms kids r.all i m.0 s.0 r.each l m.1 s.1 p ∙
              sym (on-longer facts step tag m.0 s.0 (places_at net.places i r.all) (places_at net.places i W) f (below-part net.places i r.all W r.caused) p) ∙
              on-longer facts step tag m.0 s.0 (places_at net.places i r'.all) (places_at net.places i W) g (below-part net.places i r'.all W r'.caused) p ∙
              sym (gave-is facts step tag net.places ms kids r'.all i m.0 s.0 r.each l m.1 s.1 p)
          by (inr l) =
              let a = runs-long facts step tag net.places ms kids r.all in
              let b = runs-long facts step tag net.places ms kids r'.all in
              gave-none facts step tag (runs facts step tag net.places (pn_limits net.places) ms kids r.all) i p (omega (arith, l, a)) ∙ sym (gave-none facts step tag (runs facts step tag net.places (pn_limits net.places) ms kids r'.all) i p (omega (arith, l, b)))

  -- the last of b + 1 firings of a process that began as s gave this, on these streams
  abbrev GaveLast : ℕ → ℕ → S → Streams T → Streams T → Type 0
  GaveLast i b s A out = (p : ℕ) → at (flow facts step tag (suc b) s (places_at net.places i A)).outputs p ≡ at (flow facts step tag b s (places_at net.places i A)).outputs p ++ at out p

  -- so it does in a run that goes on
  pub putting-from : (i b k : ℕ) (s : S) (A out : Streams T) → i < length net.places → get kids i ≡ Some s → (flow facts step tag (suc b) s (places_at net.places i A)).fired ≡ suc b → Below A (At k) → GaveLast i b s A out →
      (ms : List ℕ) (now : List S) (held : Streams T) (r : Run ms now held) → get ms i ≡ Some (suc b) → (h : Halfway T) (put : List (Put T)) → puts_of net.sources i 0 out ≡ put ++ at h.puts i → IsPutting facts step tag net kids r.all ms h i
  putting-from i b k s A out l g f below gave_last ms now held r m h put rest = record {
    before = b;
    outputs = out;
    put = put;
    fired = m;
    last = λ port.
        gave-is facts step tag net.places ms kids r.all i (suc b) s r.each l m g port ∙
        carried facts step tag b s (places_at net.places i A) (places_at net.places i r.all) (places_at net.places i (At (k + total ms))) out f (made-is facts step tag net.places ms kids r.all i (suc b) s r.each l m g r.made)
        (below-part net.places i A (At (k + total ms)) (Below-trans A (At k) (At (k + total ms)) below (round-below facts step step tag (grows-refl step) net (pn_limits net.places) kids start k (k + total ms) (omega arith))))
        (below-part net.places i r.all (At (k + total ms)) (later ms now held r (k + total ms) (omega arith))) port (gave_last port) ∙
        ap (λ v. v ++ at out port)
        (sym (gave-is facts step tag net.places (change_at i (λ m. b) ms) kids r.all i b s (length-change ms i (λ m. b) ∙ r.each) l (get-change ms i (λ m. b) (suc b) m) g port));
    rest = rest;
  }

  get-below : {A : Type 0} (xs : List A) (j : ℕ) (x : A) → get xs j ≡ Some x → j < length xs
  get-below [] j x e = absurd (cc)
  get-below (y ∷ xs) zero x e = omega arith
  get-below (y ∷ xs) (suc j) x e = let r = get-below xs j x e in omega (arith, r)

  -- one whose number of firings stays has the same puts to make, or fewer
  pub putting-kept : (i : ℕ) (ms ms' : List ℕ) (now now' : List S) (held held' : Streams T) (r : Run ms now held) (r' : Run ms' now' held') (h h' : Halfway T) → get ms' i ≡ get ms i → (made : List (Put T)) → at h.puts i ≡ made ++ at h'.puts i → IsPutting facts step tag net kids r.all ms h i →
      IsPutting facts step tag net kids r'.all ms' h' i
  putting-kept i ms ms' now now' held held' r r' h h' e made less p =
      let b = p.before in
      let l : i < length net.places = let z = get-below ms i (suc b) p.fired in omega (arith, z, r.each) in
      let s = get-there kids i (omega (arith, l, count)) in
      putting-from i b (total ms) s.0 r.all p.outputs l s.1 (made-is facts step tag net.places ms kids r.all i (suc b) s.0 r.each l p.fired s.1 r.made) r.caused
      (λ port.
      sym (gave-is facts step tag net.places ms kids r.all i (suc b) s.0 r.each l p.fired s.1 port) ∙ p.last port ∙
      ap (λ v. v ++ at p.outputs port) (gave-is facts step tag net.places (change_at i (λ m. b) ms) kids r.all i b s.0 (length-change ms i (λ m. b) ∙ r.each) l (get-change ms i (λ m. b) (suc b) p.fired) s.1 port))
      ms' now' held' r' (e ∙ p.fired) h' (p.put ++ made) (p.rest ∙ ap (λ v. p.put ++ v) less ∙ sym (append_assoc p.put made (at h'.puts i)))

  -- a process that has just fired has the puts of its outputs to make
  pub putting-fired : (i m : ℕ) (ms ms' : List ℕ) (now now' now'' : List S) (held held' held'' : Streams T) (r : Run ms now held) (r' : Run ms' now'' held'') (inside : Log T) (o : Firing T) → FiresWith facts step tag i net.places (pn_limits net.places) ms now held ms' now' held' inside o →
      i < length net.places → get ms i ≡ Some m → get ms' i ≡ Some (suc m) → (h : Halfway T) → at h.puts i ≡ puts_of net.sources i 0 o.outputs → IsPutting facts step tag net kids r'.all ms' h i
  putting-fired i m ms ms' now now' now'' held held' held'' r r' inside o fi l e e' h puts =
      let g = fires-grow facts step tag i net.places (pn_limits net.places) ms kids r.all (skip_places net.places r.all) now held ms' now' held' inside o r.each r.fits r.made r.states r.left fi in
      let s = get-there kids i (omega (arith, l, count)) in
      putting-from i m (total ms) s.0 r.all o.outputs l s.1 (made-is facts step tag net.places ms' kids r.all i (suc m) s.0 (g.each ∙ r.each) l e' s.1 g.made) r.caused
      (λ port.
      sym (gave-is facts step tag net.places ms' kids r.all i (suc m) s.0 (g.each ∙ r.each) l e' s.1 port) ∙ g.given i port ∙
      ap₂ (λ v w. v ++ w) (gave-is facts step tag net.places ms kids r.all i m s.0 r.each l e s.1 port) (ap (λ b. if b then at o.outputs port else []) (nat-same i)))
      ms' now'' held'' r' e' h [] (sym puts)
