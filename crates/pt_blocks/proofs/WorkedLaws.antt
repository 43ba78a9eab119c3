-- What the children of a top did in a block by the integers that they gave, as firings one after another that the definitions know.
use Rattle.std.proofs.Common.{◌≡◌, inl, inr, ℕ, ℤ, zero, suc, ◌+◌, ◌*◌, ◌<◌, ◌≤◌, List, [], ◌∷◌, length, take, drop, map, get_or, Some, refl, sym, ap, subst, ◌∙◌, arith}
use Rattle.std.proofs.lemmas.List.{length-drop, length-take}
use Rattle.pt_meaning.specs.Tag.{Tag}
use Rattle.pt_meaning.specs.Streams.{Streams, at, get}
use Rattle.pt_meaning.specs.Log.{silent}
use Rattle.pt_meaning.specs.Machine.{Counts}
use Rattle.pt_meaning.specs.Net.{Source, Own, Output}
use Rattle.pt_meaning.specs.Sdf.{SdfPlan}
use Rattle.pt_meaning.specs.Running.{total}
use Rattle.pt_meaning.specs.Closed.{Has}
use Rattle.pt_meaning.specs.Tree.{Past, Actor}
use Rattle.pt_meaning.specs.NodeFacts.{facts_of, need_of}
use Rattle.pt_value.specs.declared.token.Token.{Token}
use Rattle.pt_value.specs.declared.token.Token.TheVariants.{Int}
use Rattle.pt_core.specs.Reached.{Becomes, Stays}
use Rattle.pt_library.specs.declared.library_actor.LibraryActor.{LibraryActor}
use Rattle.pt_library.specs.LibraryActor.{MakesInTurn, numbers_of, rows}
use Rattle.pt_library.specs.LibraryActor as library
use Rattle.pt_block_laws.specs.Iteration.{first_place, IsFedBy, IsInOrder}
use Rattle.pt_block_laws.specs.Block.{part, IsInner, rate_of, IsPassed}
use Rattle.pt_block_laws.specs.Workers.{Worker, past_after, IsWorked, IsWorkedBlock}
use Rattle.pt_block_work.specs.Work.{given_by, taken, gives, IsDone, AreDone, HasWorked}
use Rattle.pt_sdf_parts.specs.ByNeed.{needs_of, planned}
use Rattle.pt_sdf_parts.proofs.NeedLaws.{get-part}
use Rattle.pt_sdf.specs.SdfActs.{AllSteady}
use Rattle.pt_node.specs.View.{Tree}
use Rattle.pt_blocks.proofs.TakenLaws.{part-map, cancelled, at-taken, taken-lengths, rates-given}
use Rattle.pt_blocks.proofs.StateLaws.{state_after, AreStates, made-states, becomes-by, get-short, needs-long, need-planned, needs-alike}

-- ---- children in a block

-- a child before the block: its past, its start, and its actor
pub record Head : Type 0 where
  pub past : Past
  pub start : LibraryActor
  pub now : LibraryActor

-- what a child needs, by the numbers for all places
abbrev pub needs_by : (places needs : List ℕ) → ℕ → List ℕ
needs_by places needs i = take (get_or places i 0) (drop (first_place places i) needs)

-- what comes on a channel in the block
abbrev pub row_of : SdfPlan → (given : List (List ℤ)) → ℕ → List Token
row_of p given c = map Int (given_by given (get_or p.net.sources c (Own 0)))

-- what a child takes and gives, firing by firing
abbrev pub takes_of : SdfPlan → (needs : List ℕ) → (given : List (List ℤ)) → (child firing : ℕ) → Streams Token
takes_of p needs given i = taken p.net.sources needs given (first_place p.net.places i) (get_or p.net.places i 0)

abbrev pub gives_of : SdfPlan → (given : List (List ℤ)) → (child firing : ℕ) → Streams Token
gives_of p given i = gives (get_or (get_or p.rates i []) 0 0) (get_or given i [])

-- the children as workers
abbrev pub worker_of : Tag → SdfPlan → (needs : List ℕ) → (given : List (List ℤ)) → (heads : ℕ → Head) → ℕ → Worker Token LibraryActor
worker_of tag p needs given heads i = record {
  past = (heads i).past;
  start = (heads i).start;
  does = record {
    state = state_after tag (takes_of p needs given i) (heads i).now;
    takes = takes_of p needs given i;
    gives = gives_of p given i;
    inside = λ k. silent;
  };
}

-- The children have worked, each from the actor that it is, and the plan is one for them.
pub record IsReadyBlock (tag : Tag) (p : SdfPlan) (needs : List ℕ) (iterations : ℕ) (olds news : List LibraryActor) (given : List (List ℤ)) (heads : ℕ → Head) (kids : List Tree) : Type 0 where
  pub worked : HasWorked p needs iterations olds news given
  pub repetitions : length p.repetitions ≡ length p.net.places
  pub rates : length p.rates ≡ length p.net.places
  pub placed : length p.net.sources ≡ total p.net.places
  pub needed : length needs ≡ total p.net.places
  pub begins : (i : ℕ) → i < length p.net.places → (d : LibraryActor) → get_or olds i d ≡ (heads i).now
  pub children : (i : ℕ) → i < length p.net.places → get kids i ≡ Some (Actor (heads i).past (heads i).start (heads i).now)
  pub fitting : needs_of (facts_of rows) kids ≡ planned p.net.places needs
  pub steady : AllSteady rows kids

-- one of a list of which each has worked, by those that fired before it
record IsFound (p : SdfPlan) (needs : List ℕ) (iterations : ℕ) (olds news : List LibraryActor) (given : List (List ℤ)) (done : List ℕ) (i : ℕ) : Type 0 where
  pub first : List ℕ
  pub is : IsDone p needs iterations olds news given first i
  pub among : (j : ℕ) → Has j first → Has j done

fed-by : (done : List ℕ) (s : Source) (j : ℕ) → s ≡ Output j 0 → Has j done → IsFedBy done s
fed-by done s j e has = subst (λ v. IsFedBy done v) (sym e) has

inner-by : (done : List ℕ) (s : Source) (j : ℕ) → s ≡ Output j 0 → Has j done → IsInner done s
inner-by done s j e has = subst (λ v. IsInner done v) (sym e) has

-- the places of a child are among all
place-length : (ns : List ℕ) (i : ℕ) → i < length ns → first_place ns i + get_or ns i 0 ≤ total ns
place-length [] i l = absurd (omega (arith, l))
place-length (n ∷ ns) zero l = omega arith
place-length (n ∷ ns) (suc i) l = let h = place-length ns i (omega (arith, l)) in omega (arith, h)

none-long : (xs : List ℤ) → length xs ≡ 0 → xs ≡ []
none-long [] e = refl
none-long (x ∷ xs) e = absurd (omega (arith, e))

module _ (tag : Tag) (p : SdfPlan) (needs : List ℕ) (iterations : ℕ) (olds news : List LibraryActor) (given : List (List ℤ)) where
  found : (done : List ℕ) → AreDone p needs iterations olds news given done → (i : ℕ) → Has i done → IsFound p needs iterations olds news given done i
  found [] h i has = absurd has
  found (j ∷ done) h i (inl e) = record { first = done; is = subst (λ v. IsDone p needs iterations olds news given done v) (sym e) h.0; among = λ k o. inr o }
  found (j ∷ done) h i (inr has) = let f = found done h.1 i has in record { first = f.first; is = f.is; among = λ k o. inr (f.among k o) }

  in-order : (done : List ℕ) → AreDone p needs iterations olds news given done → IsInOrder p.net done
  in-order [] h = tt
  in-order (i ∷ done) h = (h.0.there, λ q l. let f = h.0.fed q l in fed-by done (get_or p.net.sources (first_place p.net.places i + q) (Own 0)) f.0 f.1 f.2, in-order done h.1)

  module _ (heads : ℕ → Head) (kids : List Tree) (b : IsReadyBlock tag p needs iterations olds news given heads kids) where
    abbrev order : List ℕ
    order = b.worked.done

    abbrev firings : ℕ → ℕ
    firings i = iterations * get_or p.repetitions i 0

    abbrev rate : ℕ → ℕ
    rate i = get_or (get_or p.rates i []) 0 0

    abbrev row : ℕ → List ℤ
    row i = get_or given i []

    abbrev source : (child place : ℕ) → Source
    source i q = get_or p.net.sources (first_place p.net.places i + q) (Own 0)

    done-at : (i : ℕ) → i < length p.net.places → IsFound p needs iterations olds news given order i
    done-at i l = found order b.worked.each i (b.worked.all i l)

    rate-is : (i : ℕ) (f : IsFound p needs iterations olds news given order i) → f.is.rate ≡ rate i
    rate-is i f = sym (ap (λ rs. get_or rs 0 0) f.is.rates)

    counted : (i : ℕ) (f : IsFound p needs iterations olds news given order i) → length (row i) ≡ firings i * rate i
    counted i f = f.is.counted ∙ ap (λ r. firings i * r) (rate-is i f)

    -- a child gave in all what its rate says
    pub worked-counted : (i : ℕ) → i < length p.net.places → length (get_or given i []) ≡ iterations * get_or p.repetitions i 0 * get_or (get_or p.rates i []) 0 0
    worked-counted i l = counted i (done-at i l)

    states : (i : ℕ) → i < length p.net.places → (d : LibraryActor) → AreStates tag (takes_of p needs given i) (gives_of p given i) (firings i) (heads i).now (get_or news i d)
    states i l d =
        let f = done-at i l in
        made-states tag (takes_of p needs given i) (gives_of p given i) (firings i) (heads i).now (get_or news i d)
        (subst (λ a. MakesInTurn library.step (takes_of p needs given i) (gives_of p given i) (firings i) a (get_or news i d)) (b.begins i l d)
        (subst (λ r. MakesInTurn library.step (takes_of p needs given i) (gives r (row i)) (firings i) (get_or olds i d) (get_or news i d)) (rate-is i f) (f.is.made d)))

    -- some are made, since something was given
    pub worked-some : (i : ℕ) → i < length p.net.places → 0 < firings i
    worked-some i l = by-count (firings i) refl
      where
        by-count : (n : ℕ) → firings i ≡ n → 0 < n
        by-count zero e =
            let f = done-at i l in
            let none : length (row i) ≡ 0 = counted i f ∙ ap (λ n. n * rate i) e ∙ (let z : 0 * rate i ≡ 0 = omega arith in z) in
            absurd (f.is.some (none-long (row i) none))
        by-count (suc n) e = omega arith

    iterations-some : (i : ℕ) → i < length p.net.places → 0 < iterations
    iterations-some i l = by-count iterations refl
      where
        by-count : (n : ℕ) → iterations ≡ n → 0 < n
        by-count zero e =
            let some = worked-some i l in
            let none : firings i ≡ 0 = ap (λ n. n * get_or p.repetitions i 0) e ∙ (let z : 0 * get_or p.repetitions i 0 ≡ 0 = omega arith in z) in
            absurd (omega (arith, some, none))
        by-count (suc n) e = omega arith

    -- an actor needs the same in each of its states
    need-is : (i : ℕ) (l : i < length p.net.places) (k : ℕ) → k ≤ firings i → library.need (state_after tag (takes_of p needs given i) (heads i).now k) ≡ Counts (needs_by p.net.places needs i)
    need-is i l k few =
        let kid : Tree = Actor (heads i).past (heads i).start (heads i).now in
        let later : Tree = Actor (past_after tag k (heads i).past) (heads i).start (state_after tag (takes_of p needs given i) (heads i).now k) in
        let becomes = becomes-by tag k (state_after tag (takes_of p needs given i) (heads i).now) (takes_of p needs given i) (gives_of p given i) (heads i).past (heads i).start (λ j o. (states i l (heads i).now).each j (omega (arith, o, few))) later (Stays later) in
        b.steady i kid (b.children i l) later becomes ∙ need-planned kids p.net.places needs i kid b.fitting (b.children i l)

    -- each place has a number
    wide : (i : ℕ) → i < length p.net.places → first_place p.net.places i + get_or p.net.places i 0 ≤ length needs
    wide i l = let h = place-length p.net.places i l in let n = b.needed in omega (arith, h, n)

    work : (i : ℕ) → i < length p.net.places → (k : ℕ) → k < firings i → IsWorked rows tag (needs_by p.net.places needs i) (get_or p.rates i []) (worker_of tag p needs given heads i).does k
    work i l k few =
        let f = done-at i l in
        record {
          need = need-is i l k (omega (arith, few));
          takes = taken-lengths p.net.sources needs given (get_or p.net.places i 0) (first_place p.net.places i) k (firings i) f.is.enough few (wide i l);
          gives = rates-given (get_or p.rates i []) f.is.rate k (firings i) (row i) f.is.rates f.is.counted few;
          done = (states i l (heads i).now).each k few;
        }

    need-at : (i q : ℕ) → q < get_or p.net.places i 0 → get_or needs (first_place p.net.places i + q) 0 ≡ get_or (needs_by p.net.places needs i) q 0
    need-at i q o = sym (get-part (first_place p.net.places i) (get_or p.net.places i 0) q needs o)

    -- the one source of a place
    record IsFrom (i q j port : ℕ) : Type 0 where
      pub child : IsFound p needs iterations olds news given order j
      pub first : 0 ≡ port
      pub begins : source i q ≡ Output j 0

    from : (i q j port : ℕ) → i < length p.net.places → q < get_or p.net.places i 0 → source i q ≡ Output j port → IsFrom i q j port
    from i q j port l o e =
        let f = done-at i l in
        let s = f.is.fed q o in
        let same : Output s.0 0 ≡ Output j port = sym s.1 ∙ e in
        let child : s.0 ≡ j = cc in
        let first : 0 ≡ port = cc in
        record { child = found order b.worked.each j (subst (λ v. Has v order) child (f.among s.0 s.2)); first = first; begins = s.1 ∙ ap (λ v. Output v 0) child }

    given-at : (i q j port k : ℕ) → i < length p.net.places → q < get_or p.net.places i 0 → source i q ≡ Output j port → at (gives_of p given j k) port ≡ part (rate_of p.rates (Output j port)) k (row_of p given (first_place p.net.places i + q))
    given-at i q j port k l o e =
        let f = from i q j port l o e in
        subst (λ n. at (gives_of p given j k) n ≡ part (rate_of p.rates (Output j n)) k (row_of p given (first_place p.net.places i + q))) f.first
        (part-map (rate j) k (row j) ∙ ap (λ s. part (rate j) k (map Int (given_by given s))) (sym f.begins))

    balanced-at : (i q j port : ℕ) → i < length p.net.places → q < get_or p.net.places i 0 → source i q ≡ Output j port → get_or p.repetitions i 0 * get_or (needs_by p.net.places needs i) q 0 ≡ get_or p.repetitions j 0 * rate_of p.rates (Output j port)
    balanced-at i q j port l o e =
        let f = from i q j port l o e in
        let need : ℕ = get_or needs (first_place p.net.places i + q) 0 in
        let enough : length (row j) ≡ firings i * need = ap (λ s. length (given_by given s)) (sym f.begins) ∙ (done-at i l).is.enough q o in
        let all : firings i * need ≡ firings j * rate j = sym enough ∙ counted j f.child in
        let of_i : iterations * (get_or p.repetitions i 0 * need) ≡ firings i * need = grind arith in
        let of_j : firings j * rate j ≡ iterations * (get_or p.repetitions j 0 * rate j) = grind arith in
        let one : get_or p.repetitions i 0 * need ≡ get_or p.repetitions j 0 * rate j = cancelled iterations (get_or p.repetitions i 0 * need) (get_or p.repetitions j 0 * rate j) (iterations-some i l) (of_i ∙ all ∙ of_j) in
        ap (λ n. get_or p.repetitions i 0 * n) (sym (need-at i q o)) ∙ one ∙ ap (λ n. get_or p.repetitions j 0 * rate_of p.rates (Output j n)) f.first

    passed : IsPassed iterations p.net p.repetitions p.rates (needs_by p.net.places needs) (takes_of p needs given) (gives_of p given) (row_of p given) order
    passed = record {
      repetitions = b.repetitions;
      rated = b.rates;
      placed = b.placed;
      wide = λ i l.
          let all = length-take (get_or p.net.places i 0) (drop (first_place p.net.places i) needs) in
          let behind = length-drop (first_place p.net.places i) needs in
          let enough = wide i l in
          omega (arith, all, behind, enough);
      taken = λ i q k l o few.
          at-taken p.net.sources needs given (get_or p.net.places i 0) (first_place p.net.places i) k q o ∙
          part-map (get_or needs (first_place p.net.places i + q) 0) k (given_by given (source i q)) ∙
          ap (λ n. part n k (row_of p given (first_place p.net.places i + q))) (need-at i q o);
      given = λ i q j port k l o e few. given-at i q j port k l o e;
      balanced = balanced-at;
      ordered = in-order order b.worked.each;
      inner = λ i q l o. let f = done-at i l in let s = f.is.fed q o in inner-by order (source i q) s.0 s.1 (f.among s.0 s.2);
    }

    -- the firings of the block are those of its iterations
    pub worked-block : IsWorkedBlock rows tag iterations p (needs_by p.net.places needs) (worker_of tag p needs given heads) (row_of p given) b.worked.done
    worked-block = record { work = work; passed = passed }

    -- the last state of each child is its actor after the block
    pub worked-ends : (i : ℕ) → i < length p.net.places → (d : LibraryActor) → (worker_of tag p needs given heads i).does.state (iterations * get_or p.repetitions i 0) ≡ get_or news i d
    worked-ends i l d = (states i l d).ends

    -- a child after it
    abbrev pub last : ℕ → Tree
    last i = Actor (past_after tag (iterations * get_or p.repetitions i 0) (heads i).past) (heads i).start (get_or news i (heads i).now)

    -- what a child needs after it, and whatever it fires then
    later-need : (i : ℕ) (l : i < length p.net.places) (z : Tree) → Becomes rows (last i) z → need_of rows z ≡ need_of rows (Actor (heads i).past (heads i).start (heads i).now)
    later-need i l z becomes =
        let s = states i l (heads i).now in
        let first = subst (λ a. Becomes rows (Actor (past_after tag (firings i) (heads i).past) (heads i).start a) z) (sym s.ends) becomes in
        b.steady i (Actor (heads i).past (heads i).start (heads i).now) (b.children i l) z
        (becomes-by tag (firings i) (state_after tag (takes_of p needs given i) (heads i).now) (takes_of p needs given i) (gives_of p given i) (heads i).past (heads i).start s.each z first)

    there : (laters : List Tree) → length laters ≡ length kids → (i : ℕ) (child : Tree) → get laters i ≡ Some child → i < length p.net.places
    there laters long i child e = let h = get-short laters i child e in let n = needs-long kids p.net.places needs b.fitting in omega (arith, h, long, n)

    -- their needs stay, and are those of before
    pub worked-steady : (laters : List Tree) → length laters ≡ length kids → ((i : ℕ) → i < length p.net.places → get laters i ≡ Some (last i)) → AllSteady rows laters × (needs_of (facts_of rows) laters ≡ needs_of (facts_of rows) kids)
    worked-steady laters long h = (steady, needs-alike kids laters long alike)
      where
        is-last : (i : ℕ) (child : Tree) → get laters i ≡ Some child → last i ≡ child
        is-last i child e = let both : Some (last i) ≡ Some child = sym (h i (there laters long i child e)) ∙ e in cc

        steady : AllSteady rows laters
        steady i child e z becomes =
            let l = there laters long i child e in
            let same = is-last i child e in
            later-need i l z (subst (λ (v : Tree). Becomes rows v z) (sym same) becomes) ∙
            sym (ap (λ (v : Tree). need_of rows v) (sym same) ∙ later-need i l (last i) (Stays (last i)))

        alike : (i : ℕ) (a c : Tree) → get kids i ≡ Some a → get laters i ≡ Some c → need_of rows c ≡ need_of rows a
        alike i a c e g =
            let l = there laters long i c g in
            let both : Some (Actor (heads i).past (heads i).start (heads i).now) ≡ Some a = sym (b.children i l) ∙ e in
            let first : Actor (heads i).past (heads i).start (heads i).now ≡ a = cc in
            ap (λ (v : Tree). need_of rows v) (sym (is-last i c g)) ∙ later-need i l (last i) (Stays (last i)) ∙ ap (λ (v : Tree). need_of rows v) first
