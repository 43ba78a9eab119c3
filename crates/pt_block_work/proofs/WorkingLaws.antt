-- Children that fire one behind another in a block.
use Rattle.std.proofs.Common.{◌≡◌, ◌≢◌, ◌⊎◌, inl, inr, ℕ, ℤ, zero, suc, ◌+◌, ◌*◌, ◌<◌, ◌≤◌, List, [], ◌∷◌, length, map, get_or, set, Bool, true, false, nat_eq, refl, sym, ap, ap₂, subst, ◌∙◌, arith, eqb-true}
use Rattle.std.proofs.lemmas.Bool.{eqb-false}
use Rattle.std.proofs.lemmas.List.{get_or-set_same, get_or-set_other}
use Rattle.pt_meaning.specs.Basics.{Tag, Streams}
use Rattle.pt_meaning.specs.Net.{Source, Own, Output}
use Rattle.pt_meaning.specs.Sdf.{SdfPlan}
use Rattle.pt_meaning.specs.Closed.{Has}
use Rattle.pt_meaning.specs.Node.{Answer, Gives}
use Rattle.pt_value.specs.declared.token.Token.{Token}
use Rattle.pt_value.specs.declared.token.Token.TheVariants.{Int}
use Rattle.pt_library.specs.declared.library_actor.LibraryActor.{LibraryActor}
use Rattle.pt_library.specs.LibraryActor.{MakesInTurn, GivesStretch, numbers_of}
use Rattle.pt_library.specs.LibraryActor as library
use Rattle.pt_block_laws.specs.Iteration.{first_place}
use Rattle.pt_block_work.specs.Work.{IsFor, AllEmpty, AllGiven, IsSource, given_by, taken, IsReady, AreInputs, gives, HasFired, IsDone, AreDone, HasWorked}

-- ---- firings on equal inputs

pub turn-inputs : {A : Type 0} (step : Tag → A → Streams Token → Answer Token A) (inputs others outputs : ℕ → Streams Token) (n : ℕ) (old new : A) → ((k : ℕ) → k < n → inputs k ≡ others k) → MakesInTurn step inputs outputs n old new → MakesInTurn step others outputs n old new
turn-inputs step inputs others outputs zero old new same m = m
turn-inputs step inputs others outputs (suc n) old new same m =
    (m.0, turn-inputs step inputs others outputs n old m.0 (λ k l. same k (omega (arith, l))) m.1, λ tag. ap (λ X. step tag m.0 X) (sym (same n (omega arith))) ∙ m.2 tag)

-- ---- one child

pub one-rate : (rates : List ℕ) → length rates ≡ 1 → rates ≡ get_or rates 0 0 ∷ []
one-rate [] e = absurd (omega (arith, e))
one-rate (r ∷ []) e = refl
one-rate (r ∷ s ∷ rates) e = absurd (omega (arith, e))

pub empty-row : (xs : List ℤ) → nat_eq (length xs) 0 ≡ true → xs ≡ []
empty-row [] e = refl
empty-row (x ∷ xs) e = let h = eqb-true (length (x ∷ xs)) 0 e in absurd (omega (arith, h))

pub some-row : (xs : List ℤ) → nat_eq (length xs) 0 ≡ false → xs ≡ [] → ⊥
some-row [] e z = absurd (cc)
some-row (x ∷ xs) e z = let h = ap (λ v. length v) z in absurd (omega (arith, h))

-- a row that is none, in place of none
pub set-none : (given : List (List ℤ)) (i : ℕ) (none : List ℤ) → get_or given i [] ≡ [] → none ≡ [] → set given i none ≡ given
set-none [] i none e z = refl
set-none (row ∷ given) zero none e z = ap (λ v. v ∷ given) (z ∙ sym e)
set-none (row ∷ given) (suc i) none e z = ap (λ v. row ∷ v) (set-none given i none e z)

pub set-twice : {A : Type 0} (xs : List A) (i : ℕ) (a b : A) → set (set xs i a) i b ≡ set xs i b
set-twice [] i a b = refl
set-twice (x ∷ xs) zero a b = refl
set-twice (x ∷ xs) (suc i) a b = ap (λ v. x ∷ v) (set-twice xs i a b)

pub child-fired : (p : SdfPlan) (needs : List ℕ) (from i iterations : ℕ) (old new : LibraryActor) (given after : List (List ℤ)) (rate : ℕ) (row : List ℤ) (inputs : List (Streams Token)) →
    get_or p.rates i [] ≡ rate ∷ [] → get_or given i [] ≡ [] → AreInputs p.net.sources needs given from (get_or p.net.places i 0) (iterations * get_or p.repetitions i 0) inputs →
    GivesStretch library.step old inputs rate (iterations * get_or p.repetitions i 0) row new → (row ≡ [] → ⊥) → after ≡ set given i row → HasFired p needs from i iterations old given new after
child-fired p needs from i iterations old new given after rate row inputs r z a g some e = record {
  rate = rate;
  row = row;
  rates = r;
  before = z;
  after_is = e;
  counted = g.counted;
  some = some;
  ready = a.ready;
  made = turn-inputs library.step (λ k. get_or inputs k []) (taken p.net.sources needs given from (get_or p.net.places i 0)) (gives rate row) (iterations * get_or p.repetitions i 0) old new a.each g.made;
}

-- ---- the children so far

-- so far these have fired, and the others are as they were and have no row
pub record Working (p : SdfPlan) (needs : List ℕ) (iterations : ℕ) (olds news : List LibraryActor) (given : List (List ℤ)) : Type 0 where
  pub fits : IsFor p news given
  pub before : length olds ≡ length p.net.places
  pub done : List ℕ
  pub each : AreDone p needs iterations olds news given done
  pub others : (i : ℕ) → i < length p.net.places → Has i done ⊎ ((get_or given i [] ≡ []) × ((d : LibraryActor) → get_or news i d ≡ get_or olds i d))

pub working-begins : (p : SdfPlan) (needs : List ℕ) (iterations : ℕ) (olds : List LibraryActor) (given : List (List ℤ)) → IsFor p olds given → AllEmpty given → Working p needs iterations olds olds given
working-begins p needs iterations olds given f z = record { fits = f; before = f.children; done = []; each = tt; others = λ i l. inr (z i (let c = f.rows in omega (arith, l, c)), λ d. refl) }

-- a row of one that has fired isn't empty
done-some : (p : SdfPlan) (needs : List ℕ) (iterations : ℕ) (olds news : List LibraryActor) (given : List (List ℤ)) (done : List ℕ) → AreDone p needs iterations olds news given done → (j : ℕ) → Has j done → get_or given j [] ≡ [] → ⊥
done-some p needs iterations olds news given [] h j has = absurd has
done-some p needs iterations olds news given (i ∷ done) h j (inl e) = λ z. h.0.some (ap (λ v. get_or given v []) (sym e) ∙ z)
done-some p needs iterations olds news given (i ∷ done) h j (inr has) = done-some p needs iterations olds news given done h.1 j has

set-length : {A : Type 0} (xs : List A) (i : ℕ) (a : A) → length (set xs i a) ≡ length xs
set-length [] i a = refl
set-length (x ∷ xs) zero a = refl
set-length (x ∷ xs) (suc i) a = let h = set-length xs i a in omega (arith, h)

-- what is taken is the same where the rows of the sources are
taken-same : (sources : List Source) (needs : List ℕ) (given after : List (List ℤ)) (places from k : ℕ) → ((q : ℕ) → q < places → given_by given (get_or sources (from + q) (Own 0)) ≡ given_by after (get_or sources (from + q) (Own 0))) → taken sources needs given from places k ≡ taken sources needs after from places k
taken-same sources needs given after zero from k h = refl
taken-same sources needs given after (suc n) from k h =
    let first : from + 0 ≡ from = omega arith in
    ap₂ (λ (a : List ℤ) (b : Streams Token). map Int (numbers_of (get_or needs from 0) a k) ∷ b)
    (subst (λ c. given_by given (get_or sources c (Own 0)) ≡ given_by after (get_or sources c (Own 0))) first (h 0 (omega arith)))
    (taken-same sources needs given after n (suc from) k (λ q l. let e : from + suc q ≡ suc from + q = omega arith in subst (λ c. given_by given (get_or sources c (Own 0)) ≡ given_by after (get_or sources c (Own 0))) e (h (suc q) (omega (arith, l)))))

-- the row of an output of another child
other-row : (given : List (List ℤ)) (i j : ℕ) (row : List ℤ) (s : Source) → s ≡ Output j 0 → j ≢ i → given_by given s ≡ given_by (set given i row) s
other-row given i j row s e d = ap (λ v. given_by given v) e ∙ sym (get_or-set_other given i j row [] d) ∙ sym (ap (λ v. given_by (set given i row) v) e)

pub get-any : {A : Type 0} (xs : List A) (i : ℕ) (d e : A) → i < length xs → get_or xs i d ≡ get_or xs i e
get-any [] i d e l = absurd (omega (arith, l))
get-any (x ∷ xs) zero d e l = refl
get-any (x ∷ xs) (suc i) d e l = get-any xs i d e (omega (arith, l))

in-list : (xs : List (List ℤ)) (j : ℕ) → (get_or xs j [] ≡ [] → ⊥) → j < length xs
in-list [] j some = absurd (some refl)
in-list (x ∷ xs) zero some = omega arith
in-list (x ∷ xs) (suc j) some = let h = in-list xs j (λ e. some e) in omega (arith, h)

module _ (p : SdfPlan) (needs : List ℕ) (iterations : ℕ) (olds news : List LibraryActor) (given : List (List ℤ)) where
  -- one that has fired, where another one does
  done-stays : (i : ℕ) (new : LibraryActor) (row : List ℤ) (done : List ℕ) (j : ℕ) → get_or given i [] ≡ [] → AreDone p needs iterations olds news given done → IsDone p needs iterations olds news given done j → IsDone p needs iterations olds (set news i new) (set given i row) done j
  done-stays i new row done j z all h =
      let apart : j ≢ i = λ e. h.some (ap (λ v. get_or given v []) e ∙ z) in
      let same : get_or (set given i row) j [] ≡ get_or given j [] = get_or-set_other given i j row [] apart in
      let rows : (q : ℕ) → q < get_or p.net.places j 0 → given_by given (get_or p.net.sources (first_place p.net.places j + q) (Own 0)) ≡ given_by (set given i row) (get_or p.net.sources (first_place p.net.places j + q) (Own 0)) =
      λ q l. let f = h.fed q l in other-row given i f.0 row (get_or p.net.sources (first_place p.net.places j + q) (Own 0)) f.1 (λ e. done-some p needs iterations olds news given done all f.0 f.2 (ap (λ v. get_or given v []) e ∙ z))
      in
      record {
        there = h.there;
        rate = h.rate;
        rates = h.rates;
        counted = ap (λ v. length v) same ∙ h.counted;
        some = λ e. h.some (sym same ∙ e);
        fed = h.fed;
        enough = λ q l. ap (λ v. length v) (sym (rows q l)) ∙ h.enough q l;
        made = λ d.
            subst (λ a. MakesInTurn library.step (taken p.net.sources needs (set given i row) (first_place p.net.places j) (get_or p.net.places j 0)) (gives h.rate (get_or (set given i row) j [])) (iterations * get_or p.repetitions j 0) (get_or olds j d) a) (sym (get_or-set_other news i j new d apart))
            (subst (λ r. MakesInTurn library.step (taken p.net.sources needs (set given i row) (first_place p.net.places j) (get_or p.net.places j 0)) (gives h.rate r) (iterations * get_or p.repetitions j 0) (get_or olds j d) (get_or news j d)) (sym same)
            (turn-inputs library.step (taken p.net.sources needs given (first_place p.net.places j) (get_or p.net.places j 0)) (taken p.net.sources needs (set given i row) (first_place p.net.places j) (get_or p.net.places j 0)) (gives h.rate (get_or given j [])) (iterations * get_or p.repetitions j 0) (get_or olds j d) (get_or news j d)
            (λ k l. taken-same p.net.sources needs given (set given i row) (get_or p.net.places j 0) (first_place p.net.places j) k rows) (h.made d)));
      }

  all-stay : (i : ℕ) (new : LibraryActor) (row : List ℤ) (done : List ℕ) → get_or given i [] ≡ [] → AreDone p needs iterations olds news given done → AreDone p needs iterations olds (set news i new) (set given i row) done
  all-stay i new row [] z h = tt
  all-stay i new row (j ∷ done) z h = (done-stays i new row done j z h.1 h.0, all-stay i new row done z h.1)

  -- a source that gave something has fired
  has-fired : (w : Working p needs iterations olds news given) (j : ℕ) → (get_or given j [] ≡ [] → ⊥) → Has j w.done
  has-fired w j some =
      let l = in-list given j some in
      let c = w.fits.rows in
      by-side (w.others j (omega (arith, l, c)))
    where
      by-side : Has j w.done ⊎ ((get_or given j [] ≡ []) × ((d : LibraryActor) → get_or news j d ≡ get_or olds j d)) → Has j w.done
      by-side (inl has) = has
      by-side (inr none) = absurd (some none.0)

  -- one more child fires
  pub goes-on : (w : Working p needs iterations olds news given) (i from : ℕ) (d new : LibraryActor) (after : List (List ℤ)) → i < length p.net.places → from ≡ first_place p.net.places i → HasFired p needs from i iterations (get_or news i d) given new after → Working p needs iterations olds (set news i new) after
  goes-on w i from d new after l o h = subst (λ v. Working p needs iterations olds (set news i new) v) (sym h.after_is) known
    where
      row : List ℤ
      row = h.row

      ready : (q : ℕ) → q < get_or p.net.places i 0 → IsReady p.net.sources needs given (first_place p.net.places i + q) (iterations * get_or p.repetitions i 0)
      ready q m = subst (λ f. IsReady p.net.sources needs given (f + q) (iterations * get_or p.repetitions i 0)) o (h.ready q m)

      -- each place is fed by a child that has fired, and not by itself
      source : (q : ℕ) → q < get_or p.net.places i 0 → (j : ℕ) × (get_or p.net.sources (first_place p.net.places i + q) (Own 0) ≡ Output j 0) × Has j w.done × (given_by given (get_or p.net.sources (first_place p.net.places i + q) (Own 0)) ≡ given_by (set given i h.row) (get_or p.net.sources (first_place p.net.places i + q) (Own 0)))
      source q m =
          let s = (ready q m).source in
          let some : get_or given s.child [] ≡ [] → ⊥ = λ e. s.some (ap (λ v. given_by given v) s.begins ∙ e) in
          (s.child, s.begins, has-fired w s.child some, other-row given i s.child h.row (get_or p.net.sources (first_place p.net.places i + q) (Own 0)) s.begins (λ e. some (ap (λ v. get_or given v []) e ∙ h.before)))

      -- before it was as in the beginning
      was : get_or news i d ≡ get_or olds i d
      was = by-side (w.others i l)
        where
          by-side : Has i w.done ⊎ ((get_or given i [] ≡ []) × ((d : LibraryActor) → get_or news i d ≡ get_or olds i d)) → get_or news i d ≡ get_or olds i d
          by-side (inl has) = absurd (done-some p needs iterations olds news given w.done w.each i has h.before)
          by-side (inr none) = none.1 d

      here : get_or (set given i h.row) i [] ≡ h.row
      here = get_or-set_same given i h.row [] (let c = w.fits.rows in omega (arith, l, c))

      same-default : (e : LibraryActor) → get_or olds i e ≡ get_or olds i d
      same-default e = get-any olds i e d (let c = w.before in omega (arith, l, c))

      done : IsDone p needs iterations olds (set news i new) (set given i h.row) w.done i
      done = record {
        there = l;
        rate = h.rate;
        rates = h.rates;
        counted = ap (λ v. length v) here ∙ h.counted;
        some = λ e. h.some (sym here ∙ e);
        fed = λ q m. let s = source q m in (s.0, s.1, s.2);
        enough = λ q m. ap (λ v. length v) (sym (source q m).3) ∙ (ready q m).enough;
        made = λ e.
            subst (λ a. MakesInTurn library.step (taken p.net.sources needs (set given i h.row) (first_place p.net.places i) (get_or p.net.places i 0)) (gives h.rate (get_or (set given i h.row) i [])) (iterations * get_or p.repetitions i 0) (get_or olds i e) a) (sym (get_or-set_same news i new e (let c = w.fits.children in omega (arith, l, c))))
            (subst (λ r. MakesInTurn library.step (taken p.net.sources needs (set given i h.row) (first_place p.net.places i) (get_or p.net.places i 0)) (gives h.rate r) (iterations * get_or p.repetitions i 0) (get_or olds i e) new) (sym here)
            (subst (λ a. MakesInTurn library.step (taken p.net.sources needs (set given i h.row) (first_place p.net.places i) (get_or p.net.places i 0)) (gives h.rate h.row) (iterations * get_or p.repetitions i 0) a new) (was ∙ sym (same-default e))
            (turn-inputs library.step (taken p.net.sources needs given from (get_or p.net.places i 0)) (taken p.net.sources needs (set given i h.row) (first_place p.net.places i) (get_or p.net.places i 0)) (gives h.rate h.row) (iterations * get_or p.repetitions i 0) (get_or news i d) new
            (λ k m. ap (λ f. taken p.net.sources needs given f (get_or p.net.places i 0) k) o ∙ taken-same p.net.sources needs given (set given i h.row) (get_or p.net.places i 0) (first_place p.net.places i) k (λ q n. (source q n).3)) h.made)));
      }

      others : (k : ℕ) → k < length p.net.places → Has k (i ∷ w.done) ⊎ ((get_or (set given i h.row) k [] ≡ []) × ((e : LibraryActor) → get_or (set news i new) k e ≡ get_or olds k e))
      others k m = by-number (nat_eq k i) refl
        where
          by-side : (k ≢ i) → Has k w.done ⊎ ((get_or given k [] ≡ []) × ((e : LibraryActor) → get_or news k e ≡ get_or olds k e)) → Has k (i ∷ w.done) ⊎ ((get_or (set given i h.row) k [] ≡ []) × ((e : LibraryActor) → get_or (set news i new) k e ≡ get_or olds k e))
          by-side apart (inl has) = inl (inr has)
          by-side apart (inr none) = inr (get_or-set_other given i k h.row [] apart ∙ none.0, λ e. get_or-set_other news i k new e apart ∙ none.1 e)

          by-number : (b : Bool) → nat_eq k i ≡ b → Has k (i ∷ w.done) ⊎ ((get_or (set given i h.row) k [] ≡ []) × ((e : LibraryActor) → get_or (set news i new) k e ≡ get_or olds k e))
          by-number true e = inl (inl (eqb-true k i e))
          by-number false e = by-side (eqb-false k i e) (w.others k m)

      known : Working p needs iterations olds (set news i new) (set given i h.row)
      known = record {
        fits = record { repetitions = w.fits.repetitions; rates = w.fits.rates; children = set-length news i new ∙ w.fits.children; rows = set-length given i h.row ∙ w.fits.rows };
        before = w.before;
        done = i ∷ w.done;
        each = (done, all-stay i new h.row w.done h.before w.each);
        others = others;
      }

-- all have fired where each gave something
pub working-ends : (p : SdfPlan) (needs : List ℕ) (iterations : ℕ) (olds news : List LibraryActor) (given : List (List ℤ)) → Working p needs iterations olds news given → AllGiven given → HasWorked p needs iterations olds news given
working-ends p needs iterations olds news given w all = record {
  done = w.done;
  each = w.each;
  all = λ i l. by-side i (let c = w.fits.rows in all i (omega (arith, l, c))) (w.others i l);
}
  where
    by-side : (i : ℕ) → (get_or given i [] ≡ [] → ⊥) → Has i w.done ⊎ ((get_or given i [] ≡ []) × ((d : LibraryActor) → get_or news i d ≡ get_or olds i d)) → Has i w.done
    by-side i some (inl has) = has
    by-side i some (inr none) = absurd (some none.0)

-- ---- lists of rows

apart-less : (i k : ℕ) → i ≤ k → (i ≡ k → ⊥) → i < k
apart-less zero zero m d = absurd (d refl)
apart-less zero (suc k) m d = omega arith
apart-less (suc i) zero m d = absurd (omega (arith, m))
apart-less (suc i) (suc k) m d = let h = apart-less i k (omega (arith, m)) (λ e. d (ap (λ n. suc n) e)) in omega (arith, h)

-- the first k are empty
pub record ClearedTo (olds : List (List ℤ)) (k : ℕ) (given : List (List ℤ)) : Type 0 where
  pub count : length given ≡ length olds
  pub each : (i : ℕ) → i < k → get_or given i [] ≡ []

pub cleared-more : (olds given after : List (List ℤ)) (k : ℕ) (none : List ℤ) → ClearedTo olds k given → k < length given → none ≡ [] → after ≡ set given k none → ClearedTo olds (k + 1) after
cleared-more olds given after k none h l z e = subst (λ v. ClearedTo olds (k + 1) v) (sym e) (record { count = set-length given k none ∙ h.count; each = λ i m. by-number i m (nat_eq i k) refl })
  where
    by-number : (i : ℕ) → i < k + 1 → (b : Bool) → nat_eq i k ≡ b → get_or (set given k none) i [] ≡ []
    by-number i m true e = let same = eqb-true i k e in ap (λ n. get_or (set given k none) n []) same ∙ get_or-set_same given k none [] l ∙ z
    by-number i m false e = let apart = eqb-false i k e in get_or-set_other given k i none [] apart ∙ h.each i (apart-less i k (omega (arith, m)) apart)

-- the first k gave something
abbrev pub GivenTo : ℕ → List (List ℤ) → Type 0
GivenTo k given = (i : ℕ) → i < k → get_or given i [] ≡ [] → ⊥
