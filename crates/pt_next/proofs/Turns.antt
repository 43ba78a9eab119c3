-- What a job asks of its top fits the top.
use Rattle.std.proofs.Common.{◌≡◌, ℕ, zero, suc, List, [], ◌∷◌, Bool, true, false, length, nat_lt, Option, refl, sym, ap, ◌∙◌, arith}
use Rattle.std.proofs.lemmas.List.{length-map}
use Rattle.std.specs.Prelude.{Vec}
use Rattle.std.specs.Global.{Global}
use Rattle.pt_meaning.specs.Basics.{Tag, Streams}
use Rattle.pt_meaning.specs.Tag.{origin}
use Rattle.pt_meaning.specs.NodeFacts.{next_of}
use Rattle.pt_meaning.specs.Job.{Fire}
use Rattle.pt_meaning.specs.Schedule.{portions, suffice, if_more, tokens_at, lists_last, first_event, events_at, Due, Never, At, Past, due_after, lesser, in_time, fire_until, de_turn_at, once_top}
use Rattle.pt_value.specs.declared.token.Token.{Token}
use Rattle.pt_library.specs.LibraryActor.{rows}
use Rattle.pt_node.specs.declared.body.Body.{Body}
use Rattle.pt_node.specs.declared.body.Body.TheVariants as body
use Rattle.pt_core.specs.declared.either.Either.TheVariants.{First, Other}
use Rattle.pt_node.specs.Shown.{Shown, Branch}
use Rattle.pt_node.specs.View.{Tree, node_of, nodes_of, node_with}
use Rattle.pt_node.specs.Live as live
use Rattle.pt_agenda.specs.Events as agenda
use Rattle.pt_agenda.specs.Events.{events_of}
use Rattle.pt_trees.specs.declared.top.Top.{Top}
use Rattle.pt_trees.specs.declared.top.Top.TheVariants.{Sdf, Sr, De, Once}
use Rattle.pt_trees.specs.Top.{ticks_of, IsJobFor, IsWhole}
use Rattle.pt_trees.specs.Run.{schedule}

-- ---- the inputs

-- a list for each own input
abbrev HasLists : Top → Streams Token → Type 0
HasLists (Sdf j) X = length X ≡ length j.takes
HasLists (Sr j) X = length X ≡ length j.inputs.items
HasLists (De j) X = length X ≡ length j.inputs.items
HasLists (Once j) X = length X ≡ length j.inputs.items

-- which the top takes, where the job is one for it
lists-fit : (s : Shown) (j : Top) (tag : Tag) (X : Streams Token) → IsJobFor j (node_of s) → HasLists j X → live.Takes tag s X
lists-fit (Branch f ks) j tag X = by_body f.body j
  where
    by_body : (b : Body) (j : Top) → IsJobFor j (node_with f.past b (nodes_of ks)) → HasLists j X → live.TakesBody tag b X
    by_body (body.Actor held) j h l = absurd h
    by_body (body.Composite (First s)) (Sdf j) h l = l ∙ ap (λ v. length v) (sym h.0)
    by_body (body.Composite (First s)) (Sr j) h l = absurd h
    by_body (body.Composite (First s)) (De j) h l = absurd h
    by_body (body.Composite (First s)) (Once j) h l = absurd h
    by_body (body.Composite (Other (First s))) (Sdf j) h l = absurd h
    by_body (body.Composite (Other (First s))) (Sr j) h l = l ∙ h
    by_body (body.Composite (Other (First s))) (De j) h l = absurd h
    by_body (body.Composite (Other (First s))) (Once j) h l = absurd h
    by_body (body.Composite (Other (Other (First s)))) (Sdf j) h l = absurd h
    by_body (body.Composite (Other (Other (First s)))) (Sr j) h l = absurd h
    by_body (body.Composite (Other (Other (First s)))) (De j) h l = l ∙ h.0
    by_body (body.Composite (Other (Other (First s)))) (Once j) h l = absurd h
    by_body (body.Composite (Other (Other (Other (First s))))) (Sdf j) h l = absurd h
    by_body (body.Composite (Other (Other (Other (First s))))) (Sr j) h l = absurd h
    by_body (body.Composite (Other (Other (Other (First s))))) (De j) h l = absurd h
    by_body (body.Composite (Other (Other (Other (First s))))) (Once j) h l = l ∙ h
    by_body (body.Composite (Other (Other (Other (Other (First s)))))) (Sdf j) h l = absurd h
    by_body (body.Composite (Other (Other (Other (Other (First s)))))) (Sr j) h l = absurd h
    by_body (body.Composite (Other (Other (Other (Other (First s)))))) (De j) h l = absurd h
    by_body (body.Composite (Other (Other (Other (Other (First s)))))) (Once j) h l = absurd h
    by_body (body.Composite (Other (Other (Other (Other (Other s)))))) (Sdf j) h l = absurd h
    by_body (body.Composite (Other (Other (Other (Other (Other s)))))) (Sr j) h l = absurd h
    by_body (body.Composite (Other (Other (Other (Other (Other s)))))) (De j) h l = absurd h
    by_body (body.Composite (Other (Other (Other (Other (Other s)))))) (Once j) h l = l ∙ h

-- ---- the lists of a turn

pub portions-length : {T : Type 0} (n : ℕ) (takes : List ℕ) (X : Streams T) → length X ≡ length takes → length (portions n takes X) ≡ length takes
portions-length n [] X e = refl
portions-length n (t ∷ ts) [] e = absurd (omega (arith, e))
portions-length n (t ∷ ts) (xs ∷ X) e = ap (λ k. suc k) (portions-length n ts X (omega (arith, e)))

tokens-length : {T : Type 0} (n : ℕ) (X : List (List (Option T))) → length (tokens_at n X) ≡ length X
tokens-length n [] = refl
tokens-length n (xs ∷ X) = ap (λ k. suc k) (tokens-length n X)

-- a turn that fires has these lists
fired-lists : (a b : Bool) (t tag : Tag) (Y X : Streams Token) → if_more a b t Y ≡ Fire tag X → Y ≡ X
fired-lists false b t tag Y X e = absurd (cc)
fired-lists true true t tag Y X e = cc
fired-lists true false t tag Y X e = absurd (cc)

-- so it is at a DE top
events-length : {T : Type 0} (tag : Tag) (E : List (List (Tag × T))) → length (events_at tag E) ≡ length E
events-length tag [] = refl
events-length tag (es ∷ E) = ap (λ k. suc k) (events-length tag E)

due-lists : (stop : Option ℕ) (E : List (List agenda.Event)) (due : Due) (tag : Tag) (X : Streams Token) → de_turn_at stop E due ≡ Fire tag X → length X ≡ length E
due-lists stop E Never tag X e = absurd (cc)
due-lists stop E Past tag X e = absurd (cc)
due-lists stop E (At t) tag X e = by-time (in_time stop t) e
  where
    by-time : (b : Bool) → fire_until b t (events_at t E) ≡ Fire tag X → length X ≡ length E
    by-time true g = let same : events_at t E ≡ X = cc in ap (λ v. length v) (sym same) ∙ events-length t E
    by-time false g = absurd (cc)

-- and at a top that fires once
once-lists : (n : ℕ) (last : Option Tag) (top : Tree) (tag : Tag) (Y X : Streams Token) → once_top Y n last top ≡ Fire tag X → Y ≡ X
once-lists zero last top tag Y X e = cc
once-lists (suc n) last top tag Y X e = absurd (cc)

has-lists : (j : Top) (n : ℕ) (last : Option Tag) (top : Tree) (tag : Tag) (X : Streams Token) → IsWhole j → schedule j n last top ≡ Fire tag X → HasLists j X
has-lists (Sdf j) n last top tag X whole e =
    let same : portions n j.takes j.inputs.items ≡ X = fired-lists (nat_lt n j.iterations) (suffice n j.takes j.inputs.items) origin tag (portions n j.takes j.inputs.items) X e in
    ap (λ v. length v) (sym same) ∙ portions-length n j.takes j.inputs.items whole
has-lists (Sr j) n last top tag X whole e =
    let Y : List (List (Option Token)) = ticks_of j.inputs.items in
    let same : tokens_at n Y ≡ X = fired-lists (nat_lt n j.iterations) (lists_last n Y) (record { time = n; step = 0 }) tag (tokens_at n Y) X e in
    ap (λ v. length v) (sym same) ∙ tokens-length n Y ∙ length-map j.inputs.items (λ (ts : Vec (Option Token) Global). ts.items)
has-lists (De j) n last top tag X whole e =
    let E : List (List agenda.Event) = events_of j.inputs.items in
    due-lists j.stop E (lesser (first_event last E) (due_after (next_of rows top) last)) tag X e ∙ length-map j.inputs.items (λ (input : agenda.Input). input.items)
has-lists (Once j) n last top tag X whole e = ap (λ v. length v) (sym (once-lists n last top tag j.inputs.items X e))

pub takes-fit : (s : Shown) (j : Top) (n : ℕ) (last : Option Tag) (tag : Tag) (X : Streams Token) → IsJobFor j (node_of s) → IsWhole j → schedule j n last (node_of s) ≡ Fire tag X → live.Takes tag s X
takes-fit s j n last tag X h whole e = lists-fit s j tag X h (has-lists j n last (node_of s) tag X whole e)
