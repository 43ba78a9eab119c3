-- What an actor that keeps nothing makes of its inputs.
use Rattle.std.specs.Prelude.{◌≡◌, ℕ, nat_le, [], ◌∷◌, Option, Some, None, if◌then◌else◌}
use Rattle.pt_meaning.specs.Basics.{Streams}
use Rattle.pt_meaning.specs.Node as node
use Rattle.pt_value.specs.Value.{size}
use Rattle.pt_value.specs.Token.{value_of}
use Rattle.pt_value.specs.declared.token.Token.{Token}
use Rattle.pt_firing.specs.RunFault.{code_of}
use Rattle.pt_firing.specs.declared.fault.RunFault.{RunFault}
use Rattle.pt_firing.specs.declared.fault.RunFault.TheVariants.{Size}
use Rattle.pt_firing.specs.declared.step.Step.{Step}
use Rattle.pt_firing.specs.declared.step.Step.TheVariants as made

-- the tokens that it gives, or its fault
pub data Reply : Type 0 where
  Gives : Streams Token → Reply
  Fails : RunFault → Reply

-- one token on its one output
abbrev pub one : Token → Reply
one token = Gives ((token ∷ []) ∷ [])

abbrev pub nothing : Reply
nothing = Gives ([] ∷ [])

-- nothing where its input is absent
abbrev pub on : {T : Type 0} → (T → Reply) → Option T → Reply
on reply None = nothing
on reply (Some x) = reply x

-- the greatest size of a token
abbrev pub largest : ℕ
largest = 65536

-- a token that is made, where it isn't too large
abbrev pub sized : Token → Reply
sized token = if nat_le (size (value_of token)) largest then one token else Fails Size

-- a step tells the reply, unless memory lacks
abbrev pub Tells : Reply → Step → Type 0
Tells (Gives X) (made.Done outputs) = outputs ≡ X
Tells (Gives X) (made.Fault kind) = ⊥
Tells (Gives X) made.Memory = Unit {0}
Tells (Fails fault) (made.Done outputs) = ⊥
Tells (Fails fault) (made.Fault kind) = kind ≡ fault
Tells (Fails fault) made.Memory = Unit {0}

-- the reply as the answer of an actor that stays as it is
abbrev pub answer : {A : Type 0} → A → Reply → node.Answer Token A
answer actor (Gives X) = node.Gives actor X
answer actor (Fails fault) = node.Fails (code_of fault)
