-- Where a core stands, and the child that it asked for.
use Rattle.std.proofs.Common.{◌≡◌, ℕ, ◌<◌, length, Some, subst}
use Rattle.pt_value.specs.declared.token.Token.{Token}
use Rattle.pt_sr.specs.declared.sr.Stage as declared
use Rattle.pt_sr.specs.declared.sr.Stage.TheVariants as code
use Rattle.pt_sr.specs.State.{TickState, Idle, asked_child, listened_child, restarted_tick}
use Rattle.pt_sr.specs.Clauses.{stage_of, StageFits}

-- a child that was asked for is there
pub asked-there : (g : declared.Stage) (t : TickState Token) (i : ℕ) → StageFits g t → asked_child (stage_of g) ≡ Some i → i < length t.plan.net.places
asked-there code.Idle t i f e = absurd (cc)
asked-there code.Open t i f e = absurd (cc)
asked-there (code.Asked child) t i f e = let a : child ≡ i = cc in subst (λ n. n < length t.plan.net.places) a f
asked-there (code.Listens child) t i f e = absurd (cc)
asked-there (code.Wrong child) t i f e = absurd (cc)
asked-there code.Closed t i f e = absurd (cc)

pub listened-there : (g : declared.Stage) (t : TickState Token) (i : ℕ) → StageFits g t → listened_child (stage_of g) ≡ Some i → i < length t.plan.net.places
listened-there code.Idle t i f e = absurd (cc)
listened-there code.Open t i f e = absurd (cc)
listened-there (code.Asked child) t i f e = absurd (cc)
listened-there (code.Listens child) t i f e = let a : child ≡ i = cc in subst (λ n. n < length t.plan.net.places) a f
listened-there (code.Wrong child) t i f e = absurd (cc)
listened-there code.Closed t i f e = absurd (cc)

-- where no firing is under way nothing is known
pub idle-fresh : (g : declared.Stage) (t : TickState Token) → StageFits g t → stage_of g ≡ Idle → t ≡ restarted_tick t
idle-fresh code.Idle t f e = f
idle-fresh code.Open t f e = absurd (cc)
idle-fresh (code.Asked child) t f e = absurd (cc)
idle-fresh (code.Listens child) t f e = absurd (cc)
idle-fresh (code.Wrong child) t f e = absurd (cc)
idle-fresh code.Closed t f e = absurd (cc)
