-- Inequalities, one part after the other.
use Rattle.std.proofs.Common.{◌≡◌, ℕ, ◌+◌, ◌<◌, List, [], ◌++◌, length, map, drop, get_or, Option, sym, ap, ◌∙◌, append_assoc}
use Rattle.std.specs.Prelude.{option_map}
use Rattle.pt_value.specs.declared.token.Token.{Token}
use Rattle.pt_value.specs.Token.{value_of}
use Rattle.pt_value.specs.Value.{Value, values_of}
use Rattle.pt_types.specs.declared.ty.Ty.{Ty}
use Rattle.pt_datatypes.specs.Datatype.{Datatype}
use Rattle.pt_datatypes.specs.Normal.{normal}
use Rattle.pt_datatypes.specs.Join.{join, joined as joined_types}
use Rattle.pt_datatypes.specs.Token.{type_of_value}
use Rattle.pt_types.specs.Ty.{type_of, written}
use Rattle.pt_datatypes.proofs.Joins.{normal_is_type}
use Rattle.pt_document.specs.declared.job.Property.{Property}
use Rattle.pt_document.specs.declared.job.Input.{Input}
use Rattle.pt_document.specs.Document.{property_name}
use Rattle.pt_document.specs.View.{property_view, properties_view, input_view}
use Rattle.pt_net.specs.declared.net.NetEntity.{NetEntity}
use Rattle.pt_net.specs.Net.{entity_view}
use Rattle.pt_scopes.specs.declared.parameter_value.ParameterValue.{ParameterValue}
use Rattle.pt_scopes.specs.Given.{Held, held_view}
use Rattle.pt_types.proofs.TokenTypes.{value-is_type}
use Rattle.pt_scopes.specs.declared.values.EntityValues.{EntityValues}
use Rattle.pt_scopes.specs.Valued.{EntityView}
use Rattle.pt_scopes.specs.Valued as valued
use Rattle.pt_inequalities.specs.Rows.{joined_values}
use Rattle.pt_inequalities.specs.Frames.{Frames, first}
use Rattle.pt_inequalities.specs.Inequalities.{joined_one, joined_with, of_parameter, of_parameters, of_entity, of_entities, PortNumbers, of_supply, of_inputs, supply_view}
use Rattle.pt_typing.specs.Views.{Inequality, inequality_view}
use Rattle.std.specs.Prelude.{Vec}
use Rattle.std.specs.Global.{Global}
use Rattle.pt_typing.specs.declared.term.Inequality.{Inequality as GivenInequality}
use Rattle.pt_places.specs.Views.{IsAdded}
use Rattle.pt_inequalities.proofs.Steps.{one-more, drop-one, behind-drop, step}

-- ---- joins

pub join-typed : (s next more : Ty) (v : Value) → written next ≡ type_of_value v → written more ≡ join (type_of s) (type_of next) → type_of more ≡ join (type_of s) (type_of_value v)
join-typed s next more v h k = ap normal k ∙ normal_is_type (joined_types (type_of s) (type_of next)) ∙ ap (join (type_of s)) (ap normal h ∙ value-is_type v)

pub values-more : (tokens : List Token) (i : ℕ) (token : Token) (all t u : Datatype) → i < length tokens → token ≡ get_or tokens i token → all ≡ joined_values t (values_of (map value_of (drop i tokens))) → u ≡ join t (type_of_value (value_of token)) → all ≡ joined_values u (values_of (map value_of (drop (i + 1) tokens)))
values-more tokens i token all t u short is h e =
    h ∙ ap (λ ts. joined_values t (values_of (map value_of ts))) (drop-one tokens i token short is) ∙ ap (λ s. joined_values s (values_of (map value_of (drop (i + 1) tokens)))) (sym e)

pub supply-more : (tokens : List (Option Token)) (i : ℕ) (token : Option Token) (all t u : Datatype) → i < length tokens → token ≡ get_or tokens i token → all ≡ joined_with t (map (option_map value_of) (drop i tokens)) → u ≡ joined_one t (option_map value_of token) → all ≡ joined_with u (map (option_map value_of) (drop (i + 1) tokens))
supply-more tokens i token all t u short is h e =
    h ∙ ap (λ ts. joined_with t (map (option_map value_of) ts)) (drop-one tokens i token short is) ∙ ap (λ s. joined_with s (map (option_map value_of) (drop (i + 1) tokens))) (sym e)

-- ---- inequalities

pub parameters-split : (k : ℕ) (class : List ℕ) (ps : List Property) (vs : List ParameterValue) (i : ℕ) (p : Property) (n : List ℕ) (o : Option Held) → i < length ps → p ≡ get_or ps i p → n ≡ property_name (property_view p) → first (map held_view (drop i vs)) ≡ o → of_parameters k class (properties_view (drop i ps)) (map held_view (drop i vs)) ≡ of_parameter k class n o ++ of_parameters k class (properties_view (drop (i + 1) ps)) (map held_view (drop (i + 1) vs))
parameters-split k class ps vs i p n o short is e oe =
    ap (λ qs. of_parameters k class (properties_view qs) (map held_view (drop i vs))) (drop-one ps i p short is)
    ∙ (λ j. of_parameter k class (sym e j) (oe j) ++ of_parameters k class (properties_view (drop (i + 1) ps)) (behind-drop held_view vs i j))

pub entities-split : (frames : Frames) (es : List NetEntity) (vs : List EntityValues) (i : ℕ) (e : NetEntity) (o : Option EntityView) → i < length es → e ≡ get_or es i e → first (map valued.entity_view (drop i vs)) ≡ o → of_entities frames i (map entity_view (drop i es)) (map valued.entity_view (drop i vs)) ≡ of_entity frames i (entity_view e) o ++ of_entities frames (i + 1) (map entity_view (drop (i + 1) es)) (map valued.entity_view (drop (i + 1) vs))
entities-split frames es vs i e o short is oe =
    ap (λ fs. of_entities frames i (map entity_view fs) (map valued.entity_view (drop i vs))) (drop-one es i e short is)
    ∙ (λ j. of_entity frames i (entity_view e) (oe j) ++ of_entities frames (one-more i j) (map entity_view (drop (i + 1) es)) (behind-drop valued.entity_view vs i j))

pub parameters-more : (k : ℕ) (class : List ℕ) (ps : List Property) (vs : List ParameterValue) (i : ℕ) (p : Property) (n : List ℕ) (o : Option Held) (start old new : List GivenInequality) (whole : List Inequality) → i < length ps → p ≡ get_or ps i p → n ≡ property_name (property_view p) → first (map held_view (drop i vs)) ≡ o → map inequality_view old ++ of_parameters k class (properties_view (drop i ps)) (map held_view (drop i vs)) ≡ map inequality_view start ++ whole → IsAdded old new (of_parameter k class n o) → map inequality_view new ++ of_parameters k class (properties_view (drop (i + 1) ps)) (map held_view (drop (i + 1) vs)) ≡ map inequality_view start ++ whole
parameters-more k class ps vs i p n o start old new whole short is e oe h more =
    step (map inequality_view start) whole (map inequality_view old) (map inequality_view new) (of_parameter k class n o) (of_parameters k class (properties_view (drop i ps)) (map held_view (drop i vs))) (of_parameters k class (properties_view (drop (i + 1) ps)) (map held_view (drop (i + 1) vs))) h (parameters-split k class ps vs i p n o short is e oe) more

pub entities-more : (frames : Frames) (es : List NetEntity) (vs : List EntityValues) (i : ℕ) (e : NetEntity) (o : Option EntityView) (start old new : List GivenInequality) (whole : List Inequality) → i < length es → e ≡ get_or es i e → first (map valued.entity_view (drop i vs)) ≡ o → map inequality_view old ++ of_entities frames i (map entity_view (drop i es)) (map valued.entity_view (drop i vs)) ≡ map inequality_view start ++ whole → IsAdded old new (of_entity frames i (entity_view e) o) → map inequality_view new ++ of_entities frames (i + 1) (map entity_view (drop (i + 1) es)) (map valued.entity_view (drop (i + 1) vs)) ≡ map inequality_view start ++ whole
entities-more frames es vs i e o start old new whole short is oe h more =
    step (map inequality_view start) whole (map inequality_view old) (map inequality_view new) (of_entity frames i (entity_view e) o) (of_entities frames i (map entity_view (drop i es)) (map valued.entity_view (drop i vs))) (of_entities frames (i + 1) (map entity_view (drop (i + 1) es)) (map valued.entity_view (drop (i + 1) vs))) h (entities-split frames es vs i e o short is oe) more

abbrev Supply : Type 0
Supply = Vec (Option Token) Global

pub inputs-more : (ports : PortNumbers) (is : List Input) (vs : List Supply) (i : ℕ) (input : Input) (n : Option ℕ) (o : Option (List (Option Value))) (start old new : List GivenInequality) (whole : List Inequality) → i < length is → input ≡ get_or is i input → n ≡ ports input.port → first (map supply_view (drop i vs)) ≡ o → map inequality_view old ++ of_inputs ports (map input_view (drop i is)) (map supply_view (drop i vs)) ≡ map inequality_view start ++ whole → IsAdded old new (of_supply n o) → map inequality_view new ++ of_inputs ports (map input_view (drop (i + 1) is)) (map supply_view (drop (i + 1) vs)) ≡ map inequality_view start ++ whole
inputs-more ports is vs i input n o start old new whole short at e oe h more =
    let now : List Inequality = of_inputs ports (map input_view (drop i is)) (map supply_view (drop i vs)) in
    let next : List Inequality = of_inputs ports (map input_view (drop (i + 1) is)) (map supply_view (drop (i + 1) vs)) in
    let split : now ≡ of_supply n o ++ next =
    ap (λ fs. of_inputs ports (map input_view fs) (map supply_view (drop i vs))) (drop-one is i input short at)
    ∙ (λ j. of_supply (sym e j) (oe j) ++ of_inputs ports (map input_view (drop (i + 1) is)) (behind-drop supply_view vs i j)) in
    step (map inequality_view start) whole (map inequality_view old) (map inequality_view new) (of_supply n o) now next h split more

pub all-added : (old first second third : List GivenInequality) (a b c : List Inequality) → old ≡ [] → IsAdded old first a → IsAdded first second b → IsAdded second third c → map inequality_view third ≡ a ++ (b ++ c)
all-added old first second third a b c none one two three =
    three ∙ ap (λ qs. qs ++ c) (two ∙ ap (λ qs. qs ++ b) (one ∙ ap (λ qs. map inequality_view qs ++ a) none)) ∙ append_assoc a b c
