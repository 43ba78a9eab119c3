-- The stage of a core, and what holds of its reaction there.
use Rattle.std.proofs.Common.{◌≡◌, ℕ, ◌<◌, [], ◌∷◌, List, Bool, true, length, Some, IsSome, refl, subst, inl, inr, arith}
use Rattle.std.proofs.lemmas.Bool.{false≢true}
use Rattle.pt_meaning.specs.Streams.{Streams}
use Rattle.pt_value.specs.declared.token.Token.{Token}
use Rattle.pt_de_laws.specs.State.{Turn, Waits, Answered, Over, Idle, Open, Between, Closed, DeState, IsOver, MayFire, is_due_in, asked_child, listened_child, asked_row, after_row, after_fired}
use Rattle.pt_de_parts.specs.Rows.{Rowing}
use Rattle.pt_de.specs.declared.de.Stage as declared
use Rattle.pt_de.specs.declared.de.Stage.TheVariants as code
use Rattle.pt_de.specs.Seen.{stage_of, stage_left, StageFits, IsListening, HasTurn}

-- where no firing is under way no reaction is, and where what comes next is open one is
pub idle-fits : (g : declared.Stage) (s : DeState Token) (r : Rowing Token) → StageFits g s r → stage_of g r ≡ Idle → s.stage ≡ Idle
idle-fits code.Idle s r f e = f
idle-fits code.Open s r f e = absurd (cc)
idle-fits (code.Listens child) s r f e = absurd (cc)
idle-fits (code.Asked child) s r f e = absurd (cc)
idle-fits (code.Between child) s r f e = absurd (cc)
idle-fits code.Closed s r f e = absurd (cc)

pub open-fits : (g : declared.Stage) (s : DeState Token) (r : Rowing Token) → StageFits g s r → stage_of g r ≡ Open → s.stage ≡ Open
open-fits code.Idle s r f e = absurd (cc)
open-fits code.Open s r f e = f
open-fits (code.Listens child) s r f e = absurd (cc)
open-fits (code.Asked child) s r f e = absurd (cc)
open-fits (code.Between child) s r f e = absurd (cc)
open-fits code.Closed s r f e = absurd (cc)

-- at its end no turn is left
pub closed-fits : (g : declared.Stage) (s : DeState Token) (r : Rowing Token) → StageFits g s r → stage_of g r ≡ Closed → (s.stage ≡ Open) × IsOver s
closed-fits code.Idle s r f e = absurd (cc)
closed-fits code.Open s r f e = absurd (cc)
closed-fits (code.Listens child) s r f e = absurd (cc)
closed-fits (code.Asked child) s r f e = absurd (cc)
closed-fits (code.Between child) s r f e = absurd (cc)
closed-fits code.Closed s r f e = f

-- the child that was asked to fire was asked for its turn, and the one that was asked for an early answer has had none
pub asked-fits : (g : declared.Stage) (s : DeState Token) (r : Rowing Token) (i : ℕ) → StageFits g s r → asked_child (stage_of g r) ≡ Some i → HasTurn s i
asked-fits code.Idle s r i f e = absurd (cc)
asked-fits code.Open s r i f e = absurd (cc)
asked-fits (code.Listens child) s r i f e = absurd (cc)
asked-fits (code.Asked child) s r i f e = let a : child ≡ i = cc in subst (λ n. HasTurn s n) a f
asked-fits (code.Between child) s r i f e = absurd (cc)
asked-fits code.Closed s r i f e = absurd (cc)

pub listened-fits : (g : declared.Stage) (s : DeState Token) (r : Rowing Token) (i : ℕ) → StageFits g s r → listened_child (stage_of g r) ≡ Some i → IsListening s i
listened-fits code.Idle s r i f e = absurd (cc)
listened-fits code.Open s r i f e = absurd (cc)
listened-fits (code.Listens child) s r i f e = let a : child ≡ i = cc in subst (λ n. IsListening s n) a f
listened-fits (code.Asked child) s r i f e = absurd (cc)
listened-fits (code.Between child) s r i f e = absurd (cc)
listened-fits code.Closed s r i f e = absurd (cc)

-- it is lent the row at the front
pub row-lent : (g : declared.Stage) (r : Rowing Token) → IsSome (asked_child (stage_of g r)) → r.row ≡ asked_row (stage_of g r)
row-lent code.Idle r h = absurd (false≢true h)
row-lent code.Open r h = absurd (false≢true h)
row-lent (code.Listens child) r h = absurd (false≢true h)
row-lent (code.Asked child) r h = refl
row-lent (code.Between child) r h = absurd (false≢true h)
row-lent code.Closed r h = absurd (false≢true h)

more-rows : (i : ℕ) (X : Streams Token) (Xs : List (Streams Token)) → 0 < length Xs → Between i Xs ≡ after_row i (X ∷ Xs)
more-rows i X [] h = absurd (omega (arith, h))
more-rows i X (Y ∷ Ys) h = refl

no-rows : (i : ℕ) (X : Streams Token) (Xs : List (Streams Token)) → ¬ (0 < length Xs) → Open ≡ after_row i (X ∷ Xs)
no-rows i X [] h = refl
no-rows i X (Y ∷ Ys) h = absurd (h (omega (arith)))

-- once it has fired on that, it is between two rows where there are more, and else what comes next is open
pub more-after : (g : declared.Stage) (r : Rowing Token) (i : ℕ) → asked_child (stage_of g r) ≡ Some i → 0 < length r.rest → Between i r.rest ≡ after_fired (stage_of g r)
more-after code.Idle r i e h = absurd (cc)
more-after code.Open r i e h = absurd (cc)
more-after (code.Listens child) r i e h = absurd (cc)
more-after (code.Asked child) r i e h = let a : child ≡ i = cc in subst (λ n. Between n r.rest ≡ after_row child (r.row ∷ r.rest)) a (more-rows child r.row r.rest h)
more-after (code.Between child) r i e h = absurd (cc)
more-after code.Closed r i e h = absurd (cc)

pub none-after : (g : declared.Stage) (r : Rowing Token) (i : ℕ) → asked_child (stage_of g r) ≡ Some i → ¬ (0 < length r.rest) → Open ≡ after_fired (stage_of g r)
none-after code.Idle r i e h = absurd (cc)
none-after code.Open r i e h = absurd (cc)
none-after (code.Listens child) r i e h = absurd (cc)
none-after (code.Asked child) r i e h = no-rows child r.row r.rest h
none-after (code.Between child) r i e h = absurd (cc)
none-after code.Closed r i e h = absurd (cc)

-- a child that is due has had no turn
pub due-waits : (t : Turn) (b : Bool) → is_due_in t b ≡ true → t ≡ Waits
due-waits Waits b h = refl
due-waits Answered b h = absurd (cc)
due-waits Over b h = absurd (cc)

-- a child that may fire is there
pub fire-there : (s : DeState Token) (i : ℕ) → MayFire s i → i < length s.plan.net.places
fire-there s i (inl m) = let f = m.0 in f.there
fire-there s i (inr l) = l.there

-- a child that has rows left is between two of them
pub left-more : (i : ℕ) (Xs : List (Streams Token)) → 0 < length Xs → code.Between i ≡ stage_left i Xs
left-more i [] h = absurd (omega (arith, h))
left-more i (X ∷ Xs) h = refl

pub left-none : (i : ℕ) (Xs : List (Streams Token)) → ¬ (0 < length Xs) → code.Open ≡ stage_left i Xs
left-none i [] h = refl
left-none i (X ∷ Xs) h = absurd (h (omega (arith)))
