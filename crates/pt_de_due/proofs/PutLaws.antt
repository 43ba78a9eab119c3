-- Tokens on a channel make its reader due, or one of those that fire after all others.
use Rattle.std.proofs.Common.{◌≡◌, ℕ, zero, suc, ◌+◌, ◌<◌, List, [], ◌∷◌, Bool, true, false, ◌&&◌, ◌||◌, not, length, get_or, set, take, nat_eq, refl, sym, ap, subst, ◌∙◌, arith, append-nil, length-set, None}
use Rattle.std.proofs.lemmas.List.{get_or-set_same, get_or-set_other}
use Rattle.std.proofs.lemmas.Bool.Decides.{nat_tests}
use Rattle.pt_meaning.specs.Tag.{is_due}
use Rattle.pt_meaning.specs.Streams.{Streams, at}
use Rattle.pt_wakes.specs.Due.{DueSet}
use Rattle.pt_de_laws.specs.State.{Turn, Waits, Answered, Over, DeState, is_some_token, agree, comes, is_due_in, is_last_in, inputs_of, delays_of, is_due_child, is_last_child}
use Rattle.pt_reaction.specs.Feeds.{Target}
use Rattle.pt_reaction.specs.Given.{put_on}
use Rattle.pt_de_laws.specs.Chain.{with_tokens}
use Rattle.pt_de_due.specs.Due.{IsSetOf, due_if, is_waiting, put, IsShaped, AreDue, AreLast, reader_of, makes_due, makes_last}
use Rattle.pt_de_due.proofs.ComesLaws.{or-false, or-true, or-assoc, comes-put}
use Rattle.pt_de_due.proofs.GainedLaws.{put-on-long, put-more}

pub and-false : (b : Bool) → b && false ≡ false
and-false true = refl
and-false false = refl

waits-due : (t : Turn) (w x y : Bool) → is_due_in t (w || (x || y)) ≡ is_due_in t (w || x) || (is_waiting t && y)
waits-due Waits w x y = or-assoc w x y
waits-due Answered w x y = refl
waits-due Over w x y = refl

waits-last : (t : Turn) (x y : Bool) → is_last_in t (x || y) ≡ is_last_in t x || (is_waiting t && y)
waits-last Waits x y = refl
waits-last Answered x y = refl
waits-last Over x y = refl

agree-due : (f : Bool) → agree f false ≡ not f
agree-due true = refl
agree-due false = refl

agree-last : (f : Bool) → agree f true ≡ f
agree-last true = refl
agree-last false = refl

-- a set in which one child more may be
pub due-if-long : (b : Bool) (i : ℕ) (d : DueSet) → length (due_if b i d).due ≡ length d.due
due-if-long true i d = length-set d.due i true
due-if-long false i d = refl

due-if-depths : (b : Bool) (i : ℕ) (d : DueSet) → (due_if b i d).depths ≡ d.depths
due-if-depths true i d = refl
due-if-depths false i d = refl

due-if-same : (b : Bool) (i : ℕ) (d : DueSet) → i < length d.due → get_or (due_if b i d).due i false ≡ get_or d.due i false || b
due-if-same true i d h = get_or-set_same d.due i true false h ∙ sym (or-true (get_or d.due i false))
due-if-same false i d h = sym (or-false (get_or d.due i false))

due-if-other : (b : Bool) (i j : ℕ) (d : DueSet) → (j ≡ i → ⊥) → get_or (due_if b i d).due j false ≡ get_or d.due j false
due-if-other true i j d z = get_or-set_other d.due i j true false z
due-if-other false i j d z = refl

more-in-set : (n : ℕ) (depths : List ℕ) (test test' waits : ℕ → Bool) (r : ℕ) (y : Bool) (d : DueSet) → IsSetOf n depths test d → ((j : ℕ) → j < n → test' j ≡ test j || (waits j && (nat_eq r j && y))) → IsSetOf n depths test' (due_if (waits r && y) r d)
more-in-set n depths test test' waits r y d h e = record { depths = due-if-depths (waits r && y) r d ∙ h.depths; long = due-if-long (waits r && y) r d ∙ h.long; each = λ j l. each j l (nat_eq r j) refl }
  where
    each : (j : ℕ) → j < n → (b : Bool) → nat_eq r j ≡ b → get_or (due_if (waits r && y) r d).due j false ≡ test' j
    each j l true t =
        let same : r ≡ j = grind (arith, nat_tests, t) in
        let long = h.long in
        ap (λ k. get_or (due_if (waits r && y) r d).due k false) (sym same) ∙ due-if-same (waits r && y) r d (omega (arith, long, l, same)) ∙ ap (λ k. get_or d.due k false || (waits k && y)) same ∙ ap (λ b. b || (waits j && y)) (h.each j l) ∙
        ap (λ b. test j || (waits j && (b && y))) (sym t) ∙ sym (e j l)
    each j l false t =
        let other : j ≡ r → ⊥ = λ z. absurd (grind (arith, nat_tests, t, z)) in
        due-if-other (waits r && y) r j d other ∙ h.each j l ∙ sym (or-false (test j)) ∙ ap (λ b. test j || b) (sym (and-false (waits j))) ∙ ap (λ b. test j || (waits j && (b && y))) (sym t) ∙ sym (e j l)

module _ {T : Type 0} where
  module _ (s : DeState T) (w : IsShaped s) (c : ℕ) (ts : List T) where
    fits : length s.roles.delayed ≡ length s.tokens
    fits = w.delayed ∙ sym w.tokens

    due-put-at : (j : ℕ) → j < length s.plan.net.places →
        is_due_child (with_tokens (put c ts s.tokens) s) j ≡ is_due_child s j || (is_waiting (get_or s.turns j Over) && (nat_eq (reader_of s c) j && (not (get_or s.roles.delayed c false) && is_some_token ts)))
    due-put-at j h =
        let a = w.channels in
        let b = w.tokens in
        ap (λ x. is_due_in (get_or s.turns j Over) (is_due s.tag (get_or s.wakes j None) || x)) (comes-put s.plan.net.places s.roles.delayed s.tokens (length s.plan.net.sources) (omega (arith, a, b)) fits false c ts j h) ∙
        waits-due (get_or s.turns j Over) (is_due s.tag (get_or s.wakes j None)) (comes false (delays_of s j) (inputs_of s j)) (nat_eq (reader_of s c) j && (agree (get_or s.roles.delayed c false) false && is_some_token ts)) ∙
        ap (λ f. is_due_child s j || (is_waiting (get_or s.turns j Over) && (nat_eq (reader_of s c) j && (f && is_some_token ts)))) (agree-due (get_or s.roles.delayed c false))

    last-put-at : (j : ℕ) → j < length s.plan.net.places →
        is_last_child (with_tokens (put c ts s.tokens) s) j ≡ is_last_child s j || (is_waiting (get_or s.turns j Over) && (nat_eq (reader_of s c) j && (get_or s.roles.delayed c false && is_some_token ts)))
    last-put-at j h =
        let a = w.channels in
        let b = w.tokens in
        ap (λ x. is_last_in (get_or s.turns j Over) x) (comes-put s.plan.net.places s.roles.delayed s.tokens (length s.plan.net.sources) (omega (arith, a, b)) fits true c ts j h) ∙
        waits-last (get_or s.turns j Over) (comes true (delays_of s j) (inputs_of s j)) (nat_eq (reader_of s c) j && (agree (get_or s.roles.delayed c false) true && is_some_token ts)) ∙
        ap (λ f. is_last_child s j || (is_waiting (get_or s.turns j Over) && (nat_eq (reader_of s c) j && (f && is_some_token ts)))) (agree-last (get_or s.roles.delayed c false))

    -- the sets, once a channel got some tokens more
    pub due-put : (d : DueSet) → AreDue s d → AreDue (with_tokens (put c ts s.tokens) s) (due_if (makes_due s c ts) (reader_of s c) d)
    due-put d h =
        more-in-set (length s.plan.net.places) s.roles.depths (is_due_child s) (is_due_child (with_tokens (put c ts s.tokens) s)) (λ j. is_waiting (get_or s.turns j Over)) (reader_of s c)
        (not (get_or s.roles.delayed c false) && is_some_token ts) d h (λ j l. due-put-at j l)

    pub last-put : (d : DueSet) → AreLast s d → AreLast (with_tokens (put c ts s.tokens) s) (due_if (makes_last s c ts) (reader_of s c) d)
    last-put d h =
        more-in-set (length s.plan.net.places) s.roles.depths (is_last_child s) (is_last_child (with_tokens (put c ts s.tokens) s)) (λ j. is_waiting (get_or s.turns j Over)) (reader_of s c)
        (get_or s.roles.delayed c false && is_some_token ts) d h (λ j l. last-put-at j l)

  pub shaped-with : (s : DeState T) (X : Streams T) → IsShaped s → length X ≡ length s.tokens → IsShaped (with_tokens X s)
  shaped-with s X w e = record { depths = w.depths; turns = w.turns; wakes = w.wakes; tokens = e ∙ w.tokens; delayed = w.delayed; channels = w.channels }

  -- nothing is put
  set-at : (X : Streams T) (c : ℕ) → set X c (at X c) ≡ X
  set-at [] c = refl
  set-at (x ∷ X) zero = refl
  set-at (x ∷ X) (suc c) = ap (λ Y. x ∷ Y) (set-at X c)

  pub put-nothing : (X : Streams T) (c : ℕ) → put c [] X ≡ X
  put-nothing X c = ap (λ v. set X c v) (append-nil (at X c)) ∙ set-at X c

  -- One target of a row after another: the sets, once one more got what is given.
  module _ (s : DeState T) (w : IsShaped s) (given : ℕ → List T) (ts : List Target) (k : ℕ) (l : k < length ts) where
    abbrev t : Target
    t = get_or ts k (record { channel = 0; port = 0 })

    so-far : IsShaped (with_tokens (put_on given (take k ts) s.tokens) s)
    so-far = shaped-with s (put_on given (take k ts) s.tokens) w (put-on-long given (take k ts) s.tokens)

    pub due-fed : (d : DueSet) → AreDue (with_tokens (put_on given (take k ts) s.tokens) s) d →
        AreDue (with_tokens (put_on given (take (k + 1) ts) s.tokens) s)
        (due_if (makes_due s (get_or ts k (record { channel = 0; port = 0 })).channel (given (get_or ts k (record { channel = 0; port = 0 })).port)) (reader_of s (get_or ts k (record { channel = 0; port = 0 })).channel) d)
    due-fed d h =
        subst (λ (X : Streams T). AreDue (with_tokens X s) (due_if (makes_due s t.channel (given t.port)) (reader_of s t.channel) d)) (sym (put-more given ts k s.tokens l))
        (due-put (with_tokens (put_on given (take k ts) s.tokens) s) so-far t.channel (given t.port) d h)

    pub last-fed : (d : DueSet) → AreLast (with_tokens (put_on given (take k ts) s.tokens) s) d →
        AreLast (with_tokens (put_on given (take (k + 1) ts) s.tokens) s)
        (due_if (makes_last s (get_or ts k (record { channel = 0; port = 0 })).channel (given (get_or ts k (record { channel = 0; port = 0 })).port)) (reader_of s (get_or ts k (record { channel = 0; port = 0 })).channel) d)
    last-fed d h =
        subst (λ (X : Streams T). AreLast (with_tokens X s) (due_if (makes_last s t.channel (given t.port)) (reader_of s t.channel) d)) (sym (put-more given ts k s.tokens l))
        (last-put (with_tokens (put_on given (take k ts) s.tokens) s) so-far t.channel (given t.port) d h)
