-- What a firing of an actor that holds tokens back comes to, from what its calls did.
use Rattle.std.proofs.Common.{◌≡◌, ℕ, List, [], ◌∷◌, ◌++◌, take, length, Bool, true, Option, Some, sym, ap, subst, ◌∙◌}
use Rattle.std.proofs.Math.Seq.{take-append_seam}
use Rattle.std.specs.Prelude.{Err}
use Rattle.pt_meaning.specs.Tag.{Tag, tag_le}
use Rattle.pt_meaning.specs.Node.{Answer, Gives, Fails}
use Rattle.pt_value.specs.declared.token.Token.{Token}
use Rattle.pt_firing.specs.RunFault.{code_of}
use Rattle.pt_firing.specs.Step.{Makes, step_of}
use Rattle.pt_firing.specs.declared.outputs.Outputs.{Outputs}
use Rattle.pt_firing.specs.declared.step.Step.{Step}
use Rattle.pt_firing.specs.declared.step.Step.TheVariants as step
use Rattle.pt_firing.specs.declared.step.StepFault.{StepFault}
use Rattle.pt_firing.specs.declared.step.StepFault.TheVariants as fault
use Rattle.pt_lib_timed.specs.Pending.{Event, due, left, arriving, given_then, held_in}
use Rattle.pt_lib_timed.specs.PendingStore.{behind, IsLate}
use Rattle.pt_lib_timed.proofs.PendingLaws.{due-behind, left-behind}
use Rattle.pt_lib_timed.proofs.ArrivalLaws.{none-arrived, some-behind}

-- what holds of the list holds of the actor that keeps it
pub held-makes : {A : Type 0} (held : List Event → A) (old new : List Event) (r : Answer Token (List Event)) (s : Step) → Makes r old s new → Makes (held_in held r) (held old) s (held new)
held-makes held old new (Gives next out) (step.Done o) h = (h.0, ap held h.1)
held-makes held old new (Gives next out) (step.Fault kind) h = h
held-makes held old new (Gives next out) step.Memory h = ap held h
held-makes held old new (Fails code) (step.Done o) h = h
held-makes held old new (Fails code) (step.Fault kind) h = (h.0, ap held h.1)
held-makes held old new (Fails code) step.Memory h = ap held h

-- for want of memory it is as before
pub memory-makes : {A : Type 0} (r : Answer Token A) (old new : A) → new ≡ old → Makes r old step.Memory new
memory-makes (Gives next out) old new h = h
memory-makes (Fails code) old new h = h

-- where the tokens arrived, what is due is what was due before
pub fire-gives : (tag : Tag) (in_turn : Bool) (from : Tag) (delay : ℕ) (xs : List Token) (old mid new : List Event) (given : List Token) (out : Outputs) → tag_le tag from ≡ true → Some mid ≡ behind old (arriving in_turn from delay xs) → new ≡ left tag mid → given ≡ due tag mid → out ≡ given ∷ [] →
    Makes (given_then tag old (arriving in_turn from delay xs)) old (step.Done out) new
fire-gives tag in_turn from delay xs old mid new given out later all lefts dues outs =
    let arrived = some-behind old mid (arriving in_turn from delay xs) all in
    let none : due tag arrived.0 ≡ [] = none-arrived tag in_turn from delay xs arrived.0 later arrived.1 in
    let gave : out ≡ due tag old ∷ [] = outs ∙ ap (λ v. v ∷ []) (dues ∙ ap (λ v. due tag v) arrived.2 ∙ due-behind tag old arrived.0 none) in
    let kept : new ≡ left tag old ++ arrived.0 = lefts ∙ ap (λ v. left tag v) arrived.2 ∙ left-behind tag old arrived.0 none in
    subst (λ o. Makes (given_then tag old o) old (step.Done out) new) (sym arrived.1) (gave, kept)

-- where one is late, it is stuck
pub fire-fails : (tag : Tag) (old new : List Event) (o : Option (List Event)) (e : StepFault) → IsLate e o → new ≡ old → Makes (given_then tag old o) old (step_of (Err e)) new
fire-fails tag old new o (fault.Run kind) late same = subst (λ p. Makes (given_then tag old p) old (step.Fault kind) new) (sym late.1) (ap (λ k. code_of k) late.0, same)
fire-fails tag old new o fault.Memory late same = memory-makes (given_then tag old o) old new same

-- the list that is cut to its length before
pub cut-back : (old mid new : List Event) (n : ℕ) (more : List Event) → n ≡ length old → mid ≡ old ++ more → new ≡ take n mid → new ≡ old
cut-back old mid new n more e is cut = cut ∙ ap (λ v. take n v) is ∙ ap (λ m. take m (old ++ more)) e ∙ take-append_seam old more
