-- What each data actor needs: a count for each of its places, by the channels to its ports.
use Rattle.std.proofs.Common.{◌≡◌, ℕ, List, Option, Some, None, length, replicate, refl, sym, ap, ◌∙◌}
use Rattle.std.specs.Prelude.{codes, option_map}
use Rattle.std.proofs.lemmas.List.{length-replicate}
use Rattle.std.proofs.lemmas.Option.{none-some, same_Some}
use Rattle.pt_value.specs.declared.token.Token.{Token}
use Rattle.pt_language.proofs.ReaderSteps.{map_some}
use Rattle.pt_firing.specs.Params.{channels_to, names_but}
use Rattle.pt_lib_data.specs.declared.data_actor.DataActor.{DataActor}
use Rattle.pt_lib_data.specs.declared.function.Class.{Class}
use Rattle.pt_lib_data.specs.declared.function.Class.TheVariants as class
use Rattle.pt_lib_data.specs.declared.function.Function.{Function}
use Rattle.pt_lib_data.specs.declared.function.Function.TheVariants as made
use Rattle.pt_lib_data.specs.ArrayElement as array_element
use Rattle.pt_lib_data.specs.Comparator as comparator
use Rattle.pt_lib_data.specs.Limiter as limiter
use Rattle.pt_lib_data.specs.LogicFunction as logic_function
use Rattle.pt_lib_data.specs.SequenceToArray as sequence_to_array
use Rattle.pt_lib_data.specs.Function.{needed, start_as}
use Rattle.pt_lib_data.specs.DataActor.{need, with_needs, started_as}
use Rattle.pt_placed.specs.Counted.{IsCounted}

-- the places of an actor of a class, to whose ports so many channels come
abbrev pub data_places : Class → List (List ℕ × ℕ) → ℕ
data_places class.ArrayElement ports = 1
data_places class.ArrayToSequence ports = 1
data_places class.Barrier ports = channels_to (codes "input") ports
data_places class.Comparator ports = 2
data_places class.Discard ports = channels_to (codes "input") ports
data_places class.ElementsToArray ports = channels_to (codes "input") ports
data_places class.Equals ports = channels_to (codes "input") ports
data_places class.Limiter ports = 1
data_places class.LogicFunction ports = channels_to (codes "input") ports
data_places class.LogicalNot ports = 1
data_places class.RecordAssembler ports = length (names_but (codes "output") ports)
data_places class.RecordDisassembler ports = 1
data_places class.SequenceToArray ports = 1
data_places class.StringLength ports = 1

-- what a function needs that is made with a parameter, and one without
with-one : {S : Type 0} (wrap : S → Function) (o : Option S) (f : Function) (n m : ℕ) → option_map wrap o ≡ Some f → ((x : S) → length (needed (wrap x) n) ≡ m) → length (needed f n) ≡ m
with-one wrap o f n m e h = let w = map_some wrap o f e in sym (ap (λ (g : Function). length (needed g n)) w.2) ∙ h w.0

without : (g f : Function) (n m : ℕ) → Some g ≡ Some f → length (needed g n) ≡ m → length (needed f n) ≡ m
without g f n m e h = sym (ap (λ (x : Function). length (needed x n)) (same_Some g f e)) ∙ h

function-counted : (c : Class) (values : List (List ℕ × Token)) (ports : List (List ℕ × ℕ)) (f : Function) → start_as c values ports ≡ Some f → length (needed f (channels_to (codes "input") ports)) ≡ data_places c ports
function-counted class.ArrayElement values ports f e = with-one made.ArrayElement (array_element.start values) f (channels_to (codes "input") ports) 1 e (λ x. refl)
function-counted class.ArrayToSequence values ports f e = with-one made.ArrayToSequence (sequence_to_array.start values) f (channels_to (codes "input") ports) 1 e (λ x. refl)
function-counted class.Barrier values ports f e = let n = channels_to (codes "input") ports in without made.Barrier f n n e (length-replicate n 1)
function-counted class.Comparator values ports f e = with-one made.Comparator (comparator.start values) f (channels_to (codes "input") ports) 2 e (λ x. refl)
function-counted class.Discard values ports f e = let n = channels_to (codes "input") ports in without made.Discard f n n e (length-replicate n 1)
function-counted class.ElementsToArray values ports f e = let n = channels_to (codes "input") ports in without made.ElementsToArray f n n e (length-replicate n 1)
function-counted class.Equals values ports f e = let n = channels_to (codes "input") ports in without made.Equals f n n e (length-replicate n 1)
function-counted class.Limiter values ports f e = with-one made.Limiter (limiter.start values) f (channels_to (codes "input") ports) 1 e (λ x. refl)
function-counted class.LogicFunction values ports f e = let n = channels_to (codes "input") ports in with-one made.LogicFunction (logic_function.start values) f n n e (λ x. length-replicate n 1)
function-counted class.LogicalNot values ports f e = without made.LogicalNot f (channels_to (codes "input") ports) 1 e refl
function-counted class.RecordAssembler values ports f e =
    let names = names_but (codes "output") ports in
    without (made.RecordAssembler names) f (channels_to (codes "input") ports) (length names) e (length-replicate (length names) 1)
function-counted class.RecordDisassembler values ports f e = without (made.RecordDisassembler (names_but (codes "input") ports)) f (channels_to (codes "input") ports) 1 e refl
function-counted class.SequenceToArray values ports f e = with-one made.SequenceToArray (sequence_to_array.start values) f (channels_to (codes "input") ports) 1 e (λ x. refl)
function-counted class.StringLength values ports f e = without made.StringLength f (channels_to (codes "input") ports) 1 e refl

needed-is : (ports : List (List ℕ × ℕ)) (o : Option Function) (a : DataActor) → with_needs ports o ≡ Some a → (f : Function) × (o ≡ Some f) × (a.needed ≡ needed f (channels_to (codes "input") ports))
needed-is ports None a e = absurd (none-some a e)
needed-is ports (Some f) a e = (f, refl, sym (ap (λ (b : DataActor). b.needed) (same_Some (record { function = f; needed = needed f (channels_to (codes "input") ports) }) a e)))

pub data-counted : (c : Class) (values : List (List ℕ × Token)) (ports : List (List ℕ × ℕ)) (a : DataActor) → started_as c values ports ≡ Some a → IsCounted (data_places c ports) (need a)
data-counted c values ports a e =
    let w = needed-is ports (start_as c values ports) a e in
    record { counts = a.needed; is = refl; counted = ap (λ (ns : List ℕ). length ns) w.2 ∙ function-counted c values ports w.0 w.1 }
