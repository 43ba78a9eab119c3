-- A closed log goes on by a firing of its composite.
use Rattle.std.proofs.Common.{◌≡◌, ◌⊎◌, ℕ, suc, ◌+◌, ◌≤◌, ◌<◌, List, [], ◌∷◌, ◌++◌, Bool, true, false, ◌||◌, nat_le, nat_lt, nat_eq, length, Option, Some, None, inl, inr, refl, sym, ap, ap₂, subst, arith, ◌∙◌, append_assoc, append-nil}
use Rattle.std.proofs.lemmas.Bool.Decides.{nat_tests}
use Rattle.std.proofs.Math.Path.{fun_ext}
use Rattle.pt_meaning.specs.Basics.{Tag, Streams, at, Log, Path, Firing, Event, Finished, Met, firings_in, log_then, all_marked}
use Rattle.pt_meaning.specs.Streams.{IsPrefix, get}
use Rattle.pt_meaning.specs.Machine.{Known}
use Rattle.pt_meaning.specs.Rounds.{Source, Own, Output}
use Rattle.pt_meaning.specs.Node.{Rows, Core, Past, Node, Nodes, Composite, none, more, list_of}
use Rattle.pt_meaning.specs.Closed as closed
use Rattle.pt_meaning.specs.Closed.{Has, child_of, Begun, UnderWay, rounds_of, these_if, is_between, begun_at, of_records, came_within, has_number, inputs_at, outputs_at, taken_from, given_from, taken_by_numbers, taken, given, first_channel, is_modal, keeps_tokens, IsSince, HasBegun, MayKnow, IsCausedIf, IsTagBelow}
use Rattle.pt_laws.specs.Channels as channels
use Rattle.pt_laws.specs.Channels.{further, channel_at, tokens_in}
use Rattle.pt_laws.specs.SoundRuns.{unmarked, all_unmarked, log_in_child, way_in_child, idle, CameByNow, IsBare, ClosedIn, AllClosedIn, on_place, IsWired, IsSamePlan, AllBelow, given_by, LevelKept, KeptIn, AllKeptIn, part, all_of, takes_now, gives_now}
use Rattle.pt_laws.proofs.ChannelLaws.{SamePlace, same-place, none-kept}
use Rattle.pt_laws.proofs.Order.{IsPrefix-after}
use Rattle.pt_laws.proofs.RecordLaws.{nothing-if, le-true, le-false, records-append, all-append, all-marked, all-quiet, AllBefore, AllAt, new-out, new-in, old-same, old-out}

pub has-left : {A : Type 0} (x : A) (xs ys : List A) → Has x xs → Has x (xs ++ ys)
has-left x [] ys h = absurd h
has-left x (y ∷ xs) ys (inl h) = inl h
has-left x (y ∷ xs) ys (inr h) = inr (has-left x xs ys h)

pub has-right : {A : Type 0} (x : A) (xs ys : List A) → Has x ys → Has x (xs ++ ys)
has-right x [] ys h = h
has-right x (y ∷ xs) ys h = inr (has-right x xs ys h)

pub has-either : {A : Type 0} (x : A) (xs ys : List A) → Has x (xs ++ ys) → Has x xs ⊎ Has x ys
has-either x [] ys h = inr h
has-either x (y ∷ xs) ys (inl h) = inl (inl h)
has-either {A} x (y ∷ xs) ys (inr h) = go (has-either x xs ys h)
  where
    go : Has x xs ⊎ Has x ys → Has x (y ∷ xs) ⊎ Has x ys
    go (inl g) = inl (inr g)
    go (inr g) = inr g

-- marks put on and taken off
pub unmarked-marked : {T : Type 0} (n : ℕ) (es : List (Event T)) → all_unmarked (all_marked n es) ≡ es
unmarked-marked n [] = refl
unmarked-marked n (Finished ns f ∷ es) = ap (λ v. Event.Finished ns f ∷ v) (unmarked-marked n es)
unmarked-marked n (Met ns i m ∷ es) = ap (λ v. Event.Met ns i m ∷ v) (unmarked-marked n es)

pub unmarked-append : {T : Type 0} (xs ys : List (Event T)) → all_unmarked (xs ++ ys) ≡ all_unmarked xs ++ all_unmarked ys
unmarked-append [] ys = refl
unmarked-append (x ∷ xs) ys = ap (λ v. unmarked x ∷ v) (unmarked-append xs ys)

pub count-append : {T : Type 0} (xs ys : List (Event T)) → firings_in (xs ++ ys) ≡ firings_in xs + firings_in ys
count-append [] ys = omega arith
count-append (Finished ns f ∷ xs) ys = omega (arith, count-append xs ys)
count-append (Met ns n m ∷ xs) ys = count-append xs ys

bare-append : {T : Type 0} (xs ys : List (Event T)) → IsBare xs → IsBare ys → IsBare (xs ++ ys)
bare-append {T} xs ys a b e h = go (has-either e xs ys h)
  where
    go : Has e xs ⊎ Has e ys → rounds_of e ≡ []
    go (inl g) = a e g
    go (inr g) = b e g

-- what is marked came within that firing
pub marked-rounds : {T : Type 0} (n : ℕ) (e : Event T) (es : List (Event T)) → Has e (all_marked n es) → (ns : List ℕ) × (rounds_of e ≡ n ∷ ns)
marked-rounds n e [] h = absurd h
marked-rounds n e (Finished ns f ∷ es) (inl h) = (ns, ap (λ v. rounds_of v) h)
marked-rounds n e (Met ns i m ∷ es) (inl h) = (ns, ap (λ v. rounds_of v) h)
marked-rounds n e (x ∷ es) (inr h) = marked-rounds n e es h

-- what comes of a firing: es at the composite's own path, and what the children log, each in new below its number, all within firing n
abbrev pub added : {T : Type 0} → ℕ → List (Event T) → Log T → Log T
added n es new [] = es
added n es new (i ∷ p) = all_marked n (new (i ∷ p))

pub child-later : {T : Type 0} (i n : ℕ) (l : Log T) (es : List (Event T)) (new : Log T) → log_in_child i (log_then l (added n es new)) ≡ log_then (log_in_child i l) (part i new)
child-later i n l es new = fun_ext (λ p. unmarked-append (l (i ∷ p)) (all_marked n (new (i ∷ p))) ∙ ap (λ v. all_unmarked (l (i ∷ p)) ++ v) (unmarked-marked n (new (i ∷ p))))

nothing-some : {B : Type 0} (y : B) → None ≡ Some y → ⊥
nothing-some y e = cc

none-begun : {T : Type 0} → ((b : Begun T) × (None ≡ Some b)) → ⊥
none-begun h = nothing-some h.0 h.1

-- the composite's level, and then its children
module _ {T A : Type 0} (rows : Rows T A) (u : Bool) (h : Past) (c d : Core T) (kids : Nodes T A) (l : Log T) (shut : ClosedIn rows u (Composite h c d kids) l idle) (es : List (Event T)) (new : Log T) (way : UnderWay T) (n : ℕ) (count : firings_in (l []) ≡ n) (numbers : AllBelow n (l [])) (own : (ns : List ℕ) (f : Firing T) → Has (Finished ns f) es → f.number ≡ n) where
  abbrev after : Log T
  after = log_then l (added n es new)

  abbrev top : Node T A
  top = Composite h c d kids

  old-rounds : (made : ℕ) (w : Option (Begun T)) (ns : List ℕ) → CameByNow {T = T} n None ns → n ≤ made → CameByNow made w ns
  old-rounds made w [] b g = absurd b
  old-rounds made w (m ∷ ns) b g = (omega (arith, b.0, g), λ e. absurd (none-begun (b.1 (omega (arith, b.0, g, e)))))

  made : firings_in (l [] ++ es) ≡ n + firings_in es
  made = count-append (l []) es ∙ ap (λ v. v + firings_in es) count

  -- what came before, and what came now
  abbrev round_of : List ℕ → Firing T → Option ℕ
  round_of ns f = get ns 0

  abbrev number_of : List ℕ → Firing T → Option ℕ
  number_of ns f = Some f.number

  came-before : (i : ℕ) → AllBefore round_of n (l (i ∷ []))
  came-before i ns f g = go ns (shut.1.within i [] (Finished ns f) g)
    where
      go : (ns : List ℕ) → CameByNow (firings_in (l [])) (idle {T = T} []) ns → (m : ℕ) × (get ns 0 ≡ Some m) × (m < n)
      go [] b = absurd b
      go (m ∷ ns) b = (m, refl, before (λ e. none-begun (b.1 e)) b.0)
        where
          before : (m ≡ firings_in (l []) → ⊥) → m < suc (firings_in (l [])) → m < n
          before f g = less (nat_eq m (firings_in (l []))) refl
            where
              less : (b : Bool) → nat_eq m (firings_in (l [])) ≡ b → m < n
              less true e = let x : m ≡ firings_in (l []) = grind (arith, nat_tests, e) in absurd (f x)
              less false e = let x : m < firings_in (l []) = grind (arith, nat_tests, e, g) in omega (arith, x, count)

  came-now : (i : ℕ) → AllAt round_of n (all_marked n (new (i ∷ [])))
  came-now i ns f g = let r = marked-rounds n (Finished ns f) (new (i ∷ [])) g in ap (λ v. get v 0) r.1

  numbers-before : AllBefore number_of n (l [])
  numbers-before ns f g = (f.number, refl, numbers ns f g)

  numbers-now : AllAt number_of n es
  numbers-now ns f g = ap (λ v. Option.Some v) (own ns f g)

  -- of a firing before nothing changes
  taken-old : (i q r k : ℕ) → k < n → taken rows top after way [] i q r k ≡ taken rows top l idle [] i q r k
  taken-old i q r k b =
      ap₂ (λ v w. v ++ these_if w (begun_at (way (i ∷ [])) q) []) (records-append (came_within 0 r k) (inputs_at q) (l (i ∷ [])) (all_marked n (new (i ∷ []))) ∙ ap (λ v. taken_from 0 r k q (l (i ∷ [])) ++ v) (new-out round_of n (inputs_at q) (all_marked n (new (i ∷ []))) (came-now i) r k b) ∙ append-nil (taken_from 0 r k q (l (i ∷ []))))
      (le-false (firings_in (l [] ++ es)) k (omega (arith, made, b))) ∙
      ap (λ v. taken_from 0 r k q (l (i ∷ [])) ++ v) (sym (nothing-if (nat_le (firings_in (l [])) k)))

  given-old : (s : Option Source) (r k : ℕ) → k < n → given rows top after way [] s r k ≡ given rows top l idle [] s r k
  given-old None r k b = refl
  given-old (Some (Own port)) r k b =
      ap₂ (λ v w. v ++ these_if w (begun_at (way []) port) []) (records-append (has_number r k) (inputs_at port) (l []) es ∙ ap (λ v. taken_by_numbers r k port (l []) ++ v) (new-out number_of n (inputs_at port) es numbers-now r k b) ∙ append-nil (taken_by_numbers r k port (l [])))
      (le-false (firings_in (l [] ++ es)) k (omega (arith, made, b))) ∙
      ap (λ v. taken_by_numbers r k port (l []) ++ v) (sym (nothing-if (nat_le (firings_in (l [])) k)))
  given-old (Some (Output j port)) r k b =
      records-append (came_within 0 r k) (outputs_at port) (l (j ∷ [])) (all_marked n (new (j ∷ []))) ∙ ap (λ v. given_from 0 r k port (l (j ∷ [])) ++ v) (new-out round_of n (outputs_at port) (all_marked n (new (j ∷ []))) (came-now j) r k b) ∙ append-nil (given_from 0 r k port (l (j ∷ [])))

  caused-old : (i q k : ℕ) → k < n → IsCausedIf rows top l idle u [] c i q k → IsCausedIf rows top after way u [] c i q k
  caused-old i q k b (inl g) = inl (g.0, g.1, g.2, subst (λ v. IsPrefix v (closed.held_at c i q ++ given rows top after way [] (closed.source_of c i q) g.0 k)) (sym (taken-old i q g.0 k b)) (subst (λ v. IsPrefix (taken rows top l idle [] i q g.0 k) (closed.held_at c i q ++ v)) (sym (given-old (closed.source_of c i q) g.0 k b)) g.3))
  caused-old i q k b (inr g) = absurd (nothing-some g.1 g.2)

  -- what was taken and given up to now
  pub taken-up : (i q r k : ℕ) → r ≤ n → n ≤ k → taken_from 0 r k q (l (i ∷ []) ++ all_marked n (new (i ∷ []))) ≡ taken_from 0 r n q (l (i ∷ [])) ++ all_of (inputs_at q) (new (i ∷ []))
  taken-up i q r k a b =
      records-append (came_within 0 r k) (inputs_at q) (l (i ∷ [])) (all_marked n (new (i ∷ []))) ∙
      ap₂ (λ v w. v ++ w) (old-same round_of n (inputs_at q) (l (i ∷ [])) (came-before i) r k n b (omega arith)) (new-in round_of n (inputs_at q) (all_marked n (new (i ∷ []))) (came-now i) r k a b ∙ all-marked (inputs_at q) n (new (i ∷ [])))

  pub given-up : (j port r k : ℕ) → r ≤ n → n ≤ k → given_from 0 r k port (l (j ∷ []) ++ all_marked n (new (j ∷ []))) ≡ given_from 0 r n port (l (j ∷ [])) ++ all_of (outputs_at port) (new (j ∷ []))
  given-up j port r k a b =
      records-append (came_within 0 r k) (outputs_at port) (l (j ∷ [])) (all_marked n (new (j ∷ []))) ∙
      ap₂ (λ v w. v ++ w) (old-same round_of n (outputs_at port) (l (j ∷ [])) (came-before j) r k n b (omega arith)) (new-in round_of n (outputs_at port) (all_marked n (new (j ∷ []))) (came-now j) r k a b ∙ all-marked (outputs_at port) n (new (j ∷ [])))

  pub own-up : (port r k : ℕ) → r ≤ n → n ≤ k → taken_by_numbers r k port (l [] ++ es) ≡ taken_by_numbers r n port (l []) ++ all_of (inputs_at port) es
  own-up port r k a b =
      records-append (has_number r k) (inputs_at port) (l []) es ∙
      ap₂ (λ v w. v ++ w) (old-same number_of n (inputs_at port) (l []) numbers-before r k n b (omega arith)) (new-in number_of n (inputs_at port) es numbers-now r k a b)

  -- since now nothing was taken or given
  pub taken-none : (i q : ℕ) → taken_from 0 n n q (l (i ∷ [])) ≡ []
  taken-none i q = old-out round_of n (inputs_at q) (l (i ∷ [])) (came-before i) n

  pub given-none : (s : Option Source) → given_by l s n n ≡ []
  given-none None = refl
  given-none (Some (Own port)) = old-out number_of n (inputs_at port) (l []) numbers-before n
  given-none (Some (Output j port)) = old-out round_of n (outputs_at port) (l (j ∷ [])) (came-before j) n

  pub level-goes-on : IsBare es → (n ≡ n + firings_in es → (b : Begun T) × (way [] ≡ Some b)) → ((k : ℕ) → HasBegun after way [] k → n ≤ k → k ≡ n) → ((i : ℕ) (p : Path) → length (list_of kids) ≤ i → (new (i ∷ p) ≡ []) × (way (i ∷ p) ≡ None)) →
      ((i : ℕ) (b : Begun T) → way (i ∷ []) ≡ Some b → (round : Begun T) × (way [] ≡ Some round) × IsTagBelow (is_modal c) round.tag b.tag) → ((i q : ℕ) → IsCausedIf rows top after way u [] c i q n) →
      ((i : ℕ) (k : Node T A) → child_of kids i ≡ Some k → ClosedIn rows (u || is_modal c) k (log_then (log_in_child i l) (part i new)) (way_in_child i way)) → ClosedIn rows u (Composite h c d kids) after way
  level-goes-on bare begun only beyond enclosed caused below = (
    bare-append (l []) es shut.0 bare,
    record {
      caused = λ i q k b. cause i q k b (nat_lt k n) refl;
      enclosed = enclosed;
      within = within;
      beyond = λ i p g. (ap₂ (λ (a b : List (Event T)). a ++ all_marked n b) (shut.1.beyond i p g).0 (beyond i p g).0, (beyond i p g).1);
    },
    kids-closed kids 0 (λ i k e. let a : 0 + i ≡ i = omega arith in subst (λ v. ClosedIn rows (u || is_modal c) k (log_in_child v (log_then l (added n es new))) (way_in_child v way)) (sym a) (subst (λ v. ClosedIn rows (u || is_modal c) k v (way_in_child i way)) (sym (child-later i n l es new)) (below i k e))),
  )
    where
      cause : (i q k : ℕ) → HasBegun after way [] k → (b : Bool) → nat_lt k n ≡ b → IsCausedIf rows top after way u [] c i q k
      cause i q k g true e = let x : k < n = grind (arith, nat_tests, e) in caused-old i q k x (shut.1.caused i q k (inl (omega (arith, x, count))))
      cause i q k g false e = let x : n ≤ k = grind (arith, nat_tests, e) in subst (λ v. IsCausedIf rows top after way u [] c i q v) (sym (only k g x)) (caused i q)

      within : (i : ℕ) (p : Path) (e : Event T) → Has e (l (i ∷ p) ++ all_marked n (new (i ∷ p))) → CameByNow (firings_in (l [] ++ es)) (way []) (rounds_of e)
      within i p e g = subst (λ v. CameByNow v (way []) (rounds_of e)) (sym made) (go (has-either e (l (i ∷ p)) (all_marked n (new (i ∷ p))) g))
        where
          go : Has e (l (i ∷ p)) ⊎ Has e (all_marked n (new (i ∷ p))) → CameByNow (n + firings_in es) (way []) (rounds_of e)
          go (inl a) = old-rounds (n + firings_in es) (way []) (rounds_of e) (subst (λ v. CameByNow {T = T} v None (rounds_of e)) count (shut.1.within i p e a)) (omega arith)
          go (inr b) = let r = marked-rounds n e (new (i ∷ p)) b in subst (λ ns. CameByNow (n + firings_in es) (way []) ns) (sym r.1) (omega arith, begun)

      kids-closed : (ks : Nodes T A) (b : ℕ) → ((i : ℕ) (k : Node T A) → child_of ks i ≡ Some k → ClosedIn rows (u || is_modal c) k (log_in_child (b + i) (log_then l (added n es new))) (way_in_child (b + i) way)) → AllClosedIn rows (u || is_modal c) ks b (log_then l (added n es new)) way
      kids-closed none b f = tt
      kids-closed (more k ks) b f = (
        let a : b + 0 ≡ b = omega arith in subst (λ v. ClosedIn rows (u || is_modal c) k (log_in_child v (log_then l (added n es new))) (way_in_child v way)) a (f 0 k refl),
        kids-closed ks (suc b) (λ i x e. let a : b + suc i ≡ suc b + i = omega arith in subst (λ v. ClosedIn rows (u || is_modal c) x (log_in_child v (log_then l (added n es new))) (way_in_child v way)) a (f (suc i) x e)),
      )

-- a composite that a run has come to fires once more
module _ {T A : Type 0} (rows : Rows T A) (u : Bool) (h₀ : Past) (c₀ d₀ : Core T) (kids₀ : Nodes T A) (h : Past) (c d : Core T) (count : ℕ) (l : Log T) (shut : ClosedIn rows u (Composite h₀ c₀ d₀ kids₀) l idle) (kept : LevelKept u h c₀ c d (length (list_of kids₀)) count l)
    (es : List (Event T)) (bare : IsBare es) (quiet : firings_in es ≡ 0) (new : Log T) (tag : Tag) (inputs : Streams T) where
  abbrev top₀ : Node T A
  top₀ = Composite h₀ c₀ d₀ kids₀

  no-record : (ns : List ℕ) (f : Firing T) (fs : List (Event T)) → firings_in fs ≡ 0 → Has (Finished ns f) fs → ⊥
  no-record ns f [] e g = g
  no-record ns f (Finished ms k ∷ fs) e g = omega (arith, e)
  no-record ns f (Met ms i m ∷ fs) e (inl g) = clash g
    where
      clash : Finished ns f ≡ Met ms i m → ⊥
      clash h = cc
  no-record ns f (Met ms i m ∷ fs) e (inr g) = no-record ns f fs e g

  own-none : (ns : List ℕ) (f : Firing T) → Has (Finished ns f) es → f.number ≡ h.made
  own-none ns f g = absurd (no-record ns f es quiet g)

  -- what it took now comes behind what it took before, and so does what was given
  causes-join : (fs : List (Event T)) (way : UnderWay T) (own : (ns : List ℕ) (f : Firing T) → Has (Finished ns f) fs → f.number ≡ h.made) → ((port : ℕ) → all_of (inputs_at port) fs ++ these_if (nat_le (firings_in (l [] ++ fs)) h.made) (begun_at (way []) port) [] ≡ at inputs port) →
      ((i q : ℕ) → these_if (nat_le (firings_in (l [] ++ fs)) h.made) (begun_at (way (i ∷ [])) q) [] ≡ begun_at (way (i ∷ [])) q) → (i q : ℕ) → IsPrefix (takes_now new way i q) (on_place d i q ++ gives_now inputs new (channels.source_of d i q)) →
      IsCausedIf rows top₀ (log_then l (added h.made fs new)) way u [] c₀ i q h.made
  causes-join fs way own inputs_now kids_now i q taken_now = inl (by_kept (keeps_tokens c₀) refl)
    where
      takes : (r : ℕ) → r ≤ h.made → taken rows top₀ (log_then l (added h.made fs new)) way [] i q r h.made ≡ taken_from 0 r h.made q (l (i ∷ [])) ++ takes_now new way i q
      takes r a = ap₂ (λ v w. v ++ w) (taken-up rows u h₀ c₀ d₀ kids₀ l shut fs new way h.made kept.made kept.numbers own i q r h.made a (omega arith)) (kids_now i q) ∙ append_assoc (taken_from 0 r h.made q (l (i ∷ []))) (all_of (inputs_at q) (new (i ∷ []))) (begun_at (way (i ∷ [])) q)

      gives : (s : Option Source) (r : ℕ) → r ≤ h.made → given rows top₀ (log_then l (added h.made fs new)) way [] s r h.made ≡ given_by l s r h.made ++ gives_now inputs new s
      gives None r a = refl
      gives (Some (Own port)) r a =
          ap (λ v. v ++ these_if (nat_le (firings_in (l [] ++ fs)) h.made) (begun_at (way []) port) []) (own-up rows u h₀ c₀ d₀ kids₀ l shut fs new way h.made kept.made kept.numbers own port r h.made a (omega arith)) ∙
          append_assoc (taken_by_numbers r h.made port (l [])) (all_of (inputs_at port) fs) _ ∙ ap (λ v. taken_by_numbers r h.made port (l []) ++ v) (inputs_now port)
      gives (Some (Output j port)) r a = given-up rows u h₀ c₀ d₀ kids₀ l shut fs new way h.made kept.made kept.numbers own j port r h.made a (omega arith)

      from_plan : IsPrefix (takes_now new way i q) (on_place d i q ++ gives_now inputs new (channels.source_of c₀ i q))
      from_plan = subst (λ s. IsPrefix (takes_now new way i q) (on_place d i q ++ gives_now inputs new s)) (kept.plan.sources i q) taken_now

      -- of a place that the child has, the source is the same
      as-closed : (r : ℕ) → IsPrefix (taken rows top₀ (log_then l (added h.made fs new)) way [] i q r h.made) (channels.held_at c₀ i q ++ given rows top₀ (log_then l (added h.made fs new)) way [] (channels.source_of c₀ i q) r h.made) → IsPrefix (taken rows top₀ (log_then l (added h.made fs new)) way [] i q r h.made) (closed.held_at c₀ i q ++ given rows top₀ (log_then l (added h.made fs new)) way [] (closed.source_of c₀ i q) r h.made)
      as-closed r g = go (same-place c₀ i q)
        where
          none-of : (xs ys : List T) → IsPrefix xs [] → IsPrefix xs ys
          none-of [] ys e = tt
          none-of (x ∷ xs) ys e = absurd e

          go : SamePlace c₀ i q → IsPrefix (taken rows top₀ (log_then l (added h.made fs new)) way [] i q r h.made) (closed.held_at c₀ i q ++ given rows top₀ (log_then l (added h.made fs new)) way [] (closed.source_of c₀ i q) r h.made)
          go (inl w) = subst (λ v. IsPrefix (taken rows top₀ (log_then l (added h.made fs new)) way [] i q r h.made) (v ++ given rows top₀ (log_then l (added h.made fs new)) way [] (closed.source_of c₀ i q) r h.made)) (sym w.1) (subst (λ s. IsPrefix (taken rows top₀ (log_then l (added h.made fs new)) way [] i q r h.made) (channels.held_at c₀ i q ++ given rows top₀ (log_then l (added h.made fs new)) way [] s r h.made)) (sym w.0) g)
          go (inr w) = none-of _ _ (subst (λ v. IsPrefix (taken rows top₀ (log_then l (added h.made fs new)) way [] i q r h.made) v) (ap₂ (λ a s. a ++ given rows top₀ (log_then l (added h.made fs new)) way [] s r h.made) w.1 w.0) g)

      joins : (r : ℕ) → r ≤ h.made → taken_from 0 r h.made q (l (i ∷ [])) ++ on_place d i q ≡ channels.held_at c₀ i q ++ given_by l (channels.source_of c₀ i q) r h.made → IsPrefix (taken rows top₀ (log_then l (added h.made fs new)) way [] i q r h.made) (channels.held_at c₀ i q ++ given rows top₀ (log_then l (added h.made fs new)) way [] (channels.source_of c₀ i q) r h.made)
      joins r a e =
          let A = taken_from 0 r h.made q (l (i ∷ [])) in
          let G = given_by l (channels.source_of c₀ i q) r h.made in
          let g = gives_now inputs new (channels.source_of c₀ i q) in
          let all : A ++ (on_place d i q ++ g) ≡ channels.held_at c₀ i q ++ (G ++ g) = sym (append_assoc A (on_place d i q) g) ∙ ap (λ v. v ++ g) e ∙ append_assoc (channels.held_at c₀ i q) G g in
          subst (λ v. IsPrefix v (channels.held_at c₀ i q ++ given rows top₀ (log_then l (added h.made fs new)) way [] (channels.source_of c₀ i q) r h.made)) (sym (takes r a))
          (subst (λ v. IsPrefix (A ++ takes_now new way i q) (channels.held_at c₀ i q ++ v)) (sym (gives (channels.source_of c₀ i q) r a)) (subst (λ v. IsPrefix (A ++ takes_now new way i q) v) all (IsPrefix-after A _ _ from_plan)))

      by_kept : (b : Bool) → keeps_tokens c₀ ≡ b → (r : ℕ) × (r ≤ h.made) × IsSince (keeps_tokens c₀) u h.made r × IsPrefix (taken rows top₀ (log_then l (added h.made fs new)) way [] i q r h.made) (closed.held_at c₀ i q ++ given rows top₀ (log_then l (added h.made fs new)) way [] (closed.source_of c₀ i q) r h.made)
      by_kept true e = (kept.since, kept.before, subst (λ b. IsSince b u h.made kept.since) (sym e) kept.from, as-closed kept.since (joins kept.since kept.before (kept.tokens e i q)))
      by_kept false e =
          let none : taken_from 0 h.made h.made q (l (i ∷ [])) ≡ [] = taken-none rows u h₀ c₀ d₀ kids₀ l shut fs new way h.made kept.made kept.numbers own i q in
          let none_given : given_by l (channels.source_of c₀ i q) h.made h.made ≡ [] = given-none rows u h₀ c₀ d₀ kids₀ l shut fs new way h.made kept.made kept.numbers own (channels.source_of c₀ i q) in
          (h.made, omega arith, subst (λ b. IsSince b u h.made h.made) (sym e) refl, as-closed h.made (joins h.made (omega arith) (ap₂ (λ a b. a ++ b) none (none-kept d (kept.plan.keeps ∙ e) i q).1 ∙ sym (ap₂ (λ a b. a ++ b) (none-kept c₀ e i q).0 none_given))))

  -- what may be known
  may-know : (way : UnderWay T) → way [] ≡ Some (record { tag = tag; inputs = inputs }) → (i q : ℕ) → ((keeps_tokens c₀ ≡ false) × (xs : List T) × MayKnow rows top₀ (log_then l (added h.made es new)) way u [] c₀ h.made tag i q (Known xs) × IsPrefix (takes_now new way i q) xs) → IsCausedIf rows top₀ (log_then l (added h.made es new)) way u [] c₀ i q h.made
  may-know way w i q g = inr (
    g.0,
    record { tag = tag; inputs = inputs },
    w,
    same,
    g.1,
    g.2,
    subst (λ v. IsPrefix v g.1) (sym takes) g.3,
  )
    where
      same : h.made ≡ firings_in (l [] ++ es)
      same = let a = count-append (l []) es in omega (arith, a, kept.made, quiet)

      takes : taken rows top₀ (log_then l (added h.made es new)) way [] i q h.made h.made ≡ takes_now new way i q
      takes =
          ap₂ (λ v b. v ++ these_if b (begun_at (way (i ∷ [])) q) []) (taken-up rows u h₀ c₀ d₀ kids₀ l shut es new way h.made kept.made kept.numbers own-none i q h.made h.made (omega arith) (omega arith) ∙ ap (λ v. v ++ all_of (inputs_at q) (new (i ∷ []))) (taken-none rows u h₀ c₀ d₀ kids₀ l shut es new way h.made kept.made kept.numbers own-none i q))
          (ap (λ v. nat_le v h.made) (sym same) ∙ le-true h.made h.made (omega arith)) ∙ ap (λ v. all_of (inputs_at q) (new (i ∷ [])) ++ v) (append-nil (begun_at (way (i ∷ [])) q))

  -- while the firing is under way
  pub level-under-way : (way : UnderWay T) → way [] ≡ Some (record { tag = tag; inputs = inputs }) → ((i : ℕ) (b : Begun T) → way (i ∷ []) ≡ Some b → IsTagBelow (is_modal d) tag b.tag) → ((i : ℕ) (p : Path) → length (list_of kids₀) ≤ i → (new (i ∷ p) ≡ []) × (way (i ∷ p) ≡ None)) →
      ((i q : ℕ) → IsPrefix (takes_now new way i q) (on_place d i q ++ gives_now inputs new (channels.source_of d i q)) ⊎ ((keeps_tokens c₀ ≡ false) × (xs : List T) × MayKnow rows top₀ (log_then l (added h.made es new)) way u [] c₀ h.made tag i q (Known xs) × IsPrefix (takes_now new way i q) xs)) →
      ((i : ℕ) (k : Node T A) → child_of kids₀ i ≡ Some k → ClosedIn rows (u || is_modal c₀) k (log_then (log_in_child i l) (part i new)) (way_in_child i way)) → ClosedIn rows u (Composite h₀ c₀ d₀ kids₀) (log_then l (added h.made es new)) way
  level-under-way way w tags beyond taken_now below =
      level-goes-on rows u h₀ c₀ d₀ kids₀ l shut es new way h.made kept.made kept.numbers own-none bare (λ e. (record { tag = tag; inputs = inputs }, w)) only beyond
      (λ i b e. (record { tag = tag; inputs = inputs }, w, subst (λ v. IsTagBelow v tag b.tag) kept.plan.modal (tags i b e))) (λ i q. either i q (taken_now i q)) below
    where
      all : firings_in (l [] ++ es) ≡ h.made
      all = let a = count-append (l []) es in omega (arith, a, kept.made, quiet)

      only : (k : ℕ) → HasBegun (log_then l (added h.made es new)) way [] k → h.made ≤ k → k ≡ h.made
      only k (inl g) b = absurd (omega (arith, g, b, all))
      only k (inr g) b = g.0 ∙ all

      under : nat_le (firings_in (l [] ++ es)) h.made ≡ true
      under = ap (λ v. nat_le v h.made) all ∙ le-true h.made h.made (omega arith)

      either : (i q : ℕ) → IsPrefix (takes_now new way i q) (on_place d i q ++ gives_now inputs new (channels.source_of d i q)) ⊎ ((keeps_tokens c₀ ≡ false) × (xs : List T) × MayKnow rows top₀ (log_then l (added h.made es new)) way u [] c₀ h.made tag i q (Known xs) × IsPrefix (takes_now new way i q) xs) →
          IsCausedIf rows top₀ (log_then l (added h.made es new)) way u [] c₀ i q h.made
      either i q (inl g) =
          causes-join es way own-none (λ port. ap₂ (λ v b. v ++ these_if b (begun_at (way []) port) []) (all-quiet (inputs_at port) es quiet) under ∙ append-nil (begun_at (way []) port) ∙ ap (λ o. begun_at o port) w)
          (λ j r. ap (λ b. these_if b (begun_at (way (j ∷ [])) r) []) under ∙ append-nil (begun_at (way (j ∷ [])) r)) i q g
      either i q (inr g) = may-know way w i q g

  -- where it is done, with its record
  module _ (out : Streams T) where
    abbrev pub done_events : List (Event T)
    done_events = es ++ (Finished [] (record { number = h.made; tag = tag; inputs = inputs; outputs = out }) ∷ [])

    done-count : firings_in done_events ≡ 1
    done-count = count-append es _ ∙ ap (λ v. v + 1) quiet ∙ zero-one
      where
        zero-one : 0 + 1 ≡ 1
        zero-one = omega arith

    done-numbers : (ns : List ℕ) (f : Firing T) → Has (Finished ns f) done_events → f.number ≡ h.made
    done-numbers ns f g = go (has-either (Finished ns f) es _ g)
      where
        number_in : Event T → ℕ
        number_in (Finished ms k) = k.number
        number_in (Met ms i m) = 0

        go : Has (Finished ns f) es ⊎ Has (Finished ns f) (Finished [] (record { number = h.made; tag = tag; inputs = inputs; outputs = out }) ∷ []) → f.number ≡ h.made
        go (inl a) = own-none ns f a
        go (inr (inl a)) = ap (λ v. number_in v) a
        go (inr (inr a)) = absurd a

    done-inputs : (port : ℕ) → all_of (inputs_at port) done_events ≡ at inputs port
    done-inputs port = all-append (inputs_at port) es _ ∙ ap (λ v. v ++ (at inputs port ++ [])) (all-quiet (inputs_at port) es quiet) ∙ append-nil (at inputs port)

    bare-done : IsBare done_events
    bare-done = bare-append es _ bare (λ e g. one e g)
      where
        one : (e : Event T) → Has e (Finished [] (record { number = h.made; tag = tag; inputs = inputs; outputs = out }) ∷ []) → rounds_of e ≡ []
        one e (inl g) = ap (λ v. rounds_of v) g
        one e (inr g) = absurd g

    pub level-done : ((i : ℕ) (p : Path) → length (list_of kids₀) ≤ i → new (i ∷ p) ≡ []) → ((i q : ℕ) → IsPrefix (all_of (inputs_at q) (new (i ∷ []))) (on_place d i q ++ gives_now inputs new (channels.source_of d i q))) →
        ((i : ℕ) (k : Node T A) → child_of kids₀ i ≡ Some k → ClosedIn rows (u || is_modal c₀) k (log_then (log_in_child i l) (part i new)) idle) → ClosedIn rows u (Composite h₀ c₀ d₀ kids₀) (log_then l (added h.made done_events new)) idle
    level-done beyond taken_now below =
        level-goes-on rows u h₀ c₀ d₀ kids₀ l shut done_events new idle h.made kept.made kept.numbers done-numbers bare-done (λ e. absurd (omega (arith, e, done-count))) only (λ i p g. (beyond i p g, refl)) (λ i b e. absurd (nothing-some b e))
        (λ i q. causes-join done_events idle done-numbers (λ port. ap (λ v. all_of (inputs_at port) done_events ++ v) (nothing-if (nat_le (firings_in (l [] ++ done_events)) h.made)) ∙ append-nil (all_of (inputs_at port) done_events) ∙ done-inputs port) (λ j r. nothing-if (nat_le (firings_in (l [] ++ done_events)) h.made)) i q
        (subst (λ v. IsPrefix v (on_place d i q ++ gives_now inputs new (channels.source_of d i q))) (sym (append-nil (all_of (inputs_at q) (new (i ∷ []))))) (taken_now i q))) below
      where
        all : firings_in (l [] ++ done_events) ≡ suc h.made
        all = let a = count-append (l []) done_events in omega (arith, a, kept.made, done-count)

        only : (k : ℕ) → HasBegun (log_then l (added h.made done_events new)) idle [] k → h.made ≤ k → k ≡ h.made
        only k (inl g) b = omega (arith, g, b, all)
        only k (inr g) b = absurd (nothing-some g.1 g.2)

    -- and what is kept then
    kept-later : (h' : Past) (d' : Core T) (count' : ℕ) → h'.made ≡ suc h.made → count' ≡ count → IsWired d' → IsSamePlan d' d → (keeps_tokens d ≡ true → (i q : ℕ) → all_of (inputs_at q) (new (i ∷ [])) ++ on_place d' i q ≡ on_place d i q ++ gives_now inputs new (channels.source_of d i q)) →
        LevelKept u h' c₀ c d' (length (list_of kids₀)) count' (log_then l (added h.made done_events new))
    kept-later h' d' count' m k wired plan left = record {
      made = count-append (l []) done_events ∙ ap₂ (λ a b. a + b) kept.made done-count ∙ one_more h.made ∙ sym m;
      start = kept.start;
      counts = k ∙ kept.counts;
      plan = record { sources = λ i q. plan.sources i q ∙ kept.plan.sources i q; modal = plan.modal ∙ kept.plan.modal; keeps = plan.keeps ∙ kept.plan.keeps };
      first = kept.first;
      wired = wired;
      first_wired = kept.first_wired;
      numbers = λ ns f g. below ns f (has-either (Finished ns f) (l []) done_events g);
      since = kept.since;
      before = omega (arith, kept.before, m);
      from = kept.from;
      tokens = λ e i q. tokens e i q;
    }
      where
        one_more : (a : ℕ) → a + 1 ≡ suc a
        one_more a = omega arith

        below : (ns : List ℕ) (f : Firing T) → Has (Finished ns f) (l []) ⊎ Has (Finished ns f) done_events → f.number < h'.made
        below ns f (inl g) = let a = kept.numbers ns f g in omega (arith, a, m)
        below ns f (inr g) = let a = done-numbers ns f g in omega (arith, a, m)

        gives : (s : Option Source) → given_by (log_then l (added h.made done_events new)) s kept.since (suc h.made) ≡ given_by l s kept.since h.made ++ gives_now inputs new s
        gives None = refl
        gives (Some (Own port)) = own-up rows u h₀ c₀ d₀ kids₀ l shut done_events new idle h.made kept.made kept.numbers done-numbers port kept.since (suc h.made) kept.before (omega arith) ∙ ap (λ v. taken_by_numbers kept.since h.made port (l []) ++ v) (done-inputs port)
        gives (Some (Output j port)) = given-up rows u h₀ c₀ d₀ kids₀ l shut done_events new idle h.made kept.made kept.numbers done-numbers j port kept.since (suc h.made) kept.before (omega arith)

        sum : (A n' o' o g held G : List T) → n' ++ o' ≡ o ++ g → A ++ o ≡ held ++ G → (A ++ n') ++ o' ≡ held ++ (G ++ g)
        sum A n' o' o g held G a b = append_assoc A n' o' ∙ ap (λ v. A ++ v) a ∙ sym (append_assoc A o g) ∙ ap (λ v. v ++ g) b ∙ append_assoc held G g

        tokens : keeps_tokens c₀ ≡ true → (i q : ℕ) → taken_from 0 kept.since h'.made q (l (i ∷ []) ++ all_marked h.made (new (i ∷ []))) ++ on_place d' i q ≡ channels.held_at c₀ i q ++ given_by (log_then l (added h.made done_events new)) (channels.source_of c₀ i q) kept.since h'.made
        tokens e i q =
            ap (λ v. taken_from 0 kept.since v q (l (i ∷ []) ++ all_marked h.made (new (i ∷ []))) ++ on_place d' i q) m ∙
            ap (λ v. v ++ on_place d' i q) (taken-up rows u h₀ c₀ d₀ kids₀ l shut done_events new idle h.made kept.made kept.numbers done-numbers i q kept.since (suc h.made) kept.before (omega arith)) ∙
            sum (taken_from 0 kept.since h.made q (l (i ∷ []))) (all_of (inputs_at q) (new (i ∷ []))) (on_place d' i q) (on_place d i q) (gives_now inputs new (channels.source_of c₀ i q)) (channels.held_at c₀ i q) (given_by l (channels.source_of c₀ i q) kept.since h.made)
            (left (kept.plan.keeps ∙ e) i q ∙ ap (λ s. on_place d i q ++ gives_now inputs new s) (kept.plan.sources i q)) (kept.tokens e i q) ∙
            ap (λ v. channels.held_at c₀ i q ++ v) (sym (gives (channels.source_of c₀ i q))) ∙
            ap (λ v. channels.held_at c₀ i q ++ given_by (log_then l (added h.made done_events new)) (channels.source_of c₀ i q) kept.since v) (sym m)

    -- the children that a run has come to
    kids-kept : (ks₀ ks : Nodes T A) (b : ℕ) → length (list_of ks) ≡ length (list_of ks₀) → ((i : ℕ) (k₀ k : Node T A) → child_of ks₀ i ≡ Some k₀ → child_of ks i ≡ Some k → KeptIn rows (u || is_modal c₀) k₀ k (log_in_child (b + i) (log_then l (added h.made done_events new)))) →
        AllKeptIn rows (u || is_modal c₀) ks₀ ks b (log_then l (added h.made done_events new))
    kids-kept none none b e f = tt
    kids-kept none (more k ks) b e f = absurd (omega arith)
    kids-kept (more k ks) none b e f = absurd (omega arith)
    kids-kept (more k₀ ks₀) (more k ks) b e f = (
      let a : b + 0 ≡ b = omega arith in subst (λ v. KeptIn rows (u || is_modal c₀) k₀ k (log_in_child v (log_then l (added h.made done_events new)))) a (f 0 k₀ k refl refl),
      kids-kept ks₀ ks (suc b) (omega (arith, e)) (λ i x₀ x e f'. let a : b + suc i ≡ suc b + i = omega arith in subst (λ v. KeptIn rows (u || is_modal c₀) x₀ x (log_in_child v (log_then l (added h.made done_events new)))) a (f (suc i) x₀ x e f')),
    )

    pub node-kept : (h' : Past) (d' : Core T) (kids' : Nodes T A) → h'.made ≡ suc h.made → length (list_of kids') ≡ count → IsWired d' → IsSamePlan d' d → (keeps_tokens d ≡ true → (i q : ℕ) → all_of (inputs_at q) (new (i ∷ [])) ++ on_place d' i q ≡ on_place d i q ++ gives_now inputs new (channels.source_of d i q)) →
        ((i : ℕ) (k₀ k : Node T A) → child_of kids₀ i ≡ Some k₀ → child_of kids' i ≡ Some k → KeptIn rows (u || is_modal c₀) k₀ k (log_then (log_in_child i l) (part i new))) → KeptIn rows u (Composite h₀ c₀ d₀ kids₀) (Composite h' c d' kids') (log_then l (added h.made done_events new))
    node-kept h' d' kids' m k wired plan left below = (
      kept-later h' d' (length (list_of kids')) m k wired plan left,
      kids-kept kids₀ kids' 0 (k ∙ kept.counts) (λ i k₀ k e f. let a : i ≡ 0 + i = omega arith in subst (λ v. KeptIn rows (u || is_modal c₀) k₀ k (log_in_child v (log_then l (added h.made done_events new)))) a (subst (λ v. KeptIn rows (u || is_modal c₀) k₀ k v) (sym (child-later i h.made l done_events new)) (below i k₀ k e f))),
    )
