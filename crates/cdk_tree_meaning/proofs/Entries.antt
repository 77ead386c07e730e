-- What stands in a template for the constructs of each kind is what they are to those that mention them.
use Rattle.std.proofs.Common.{◌≡◌, ℕ, List, true, Option, Some, None, refl, sym, ap, ◌∙◌, true≢false}
use Rattle.std.specs.Prelude.{is_some, option_and_then, option_map, unwrap_or}
use Rattle.serde_json.specs.Data.{string}
use Rattle.cdk_elements.specs.Elements.{constructs_in, element_of, form_of, logical_of, own_homes, parts_of}
use Rattle.cdk_premises.specs.Formed.{IsFormedBody}
use Rattle.cdk_language.specs.Construct as language
use Rattle.cdk_language.specs.Construct.{Body}
use Rattle.cdk_language.specs.declared.construct.ParameterForm.{ParameterForm}
use Rattle.cdk_language.specs.declared.construct.ParameterForm.TheVariants as forms
use Rattle.cdk_meaning.specs.Constructs.{condition_in}
use Rattle.cdk_meaning.specs.StackTemplate.{IsMappingEntry, IsParameterEntry, IsResourceEntry, form_text}
use Rattle.cdk_premises.specs.MentionsLaws.{IsGuarded, guard_of}
use Rattle.cdk_plain.specs.Rendered.{rendered_condition}
use Rattle.cdk_template.specs.Own.{spelling_of}
use Rattle.cdk_template.specs.Template.{entry_in}
use Rattle.cdk_entries.specs.Entries.{form_name}
use Rattle.cdk_template.proofs.SectionLemmas.{its_condition, its_default, its_type}
use Rattle.cdk_tokens.specs.Marking.{target}
use Rattle.cdk_tree.specs.Expected.{is_condition, is_mapping, is_parameter, is_resource}
use Rattle.cdk_tree.specs.Placed.{Placed, find_path}

-- ---- parameters

same_form : (f : ParameterForm) → form_name f ≡ form_text (form_of f)
same_form forms.Text = refl
same_form forms.Number = refl
same_form forms.List = refl

pub parameter_stands : (cs : List Placed) (n : ℕ) (path : List ℕ) (b : Body) → is_parameter b ≡ true → IsParameterEntry (element_of cs n b) (entry_in (spelling_of cs) n path b)
parameter_stands cs n path (language.parameter p) is = (its_type p ∙ ap (λ t. Some (string t)) (same_form p.form), its_default p)
parameter_stands cs n path b is = absurd (true≢false (sym is))

-- ---- conditions of resources and outputs

found_as : (cs : List Placed) (o : Option ℕ) → is_some o ≡ true → Some (string (logical_of cs (unwrap_or o 0))) ≡ option_map (λ c. string (logical_of cs c)) o
found_as cs None h = absurd (true≢false (sym h))
found_as cs (Some c) h = refl

-- one that is given is told by the name of the construct that it finds
pub guard_named : (cs : List Placed) (guard : Option (List ℕ)) → is_some (option_and_then (find_path cs) guard) ≡ is_some guard
    → option_map (λ t. string (logical_of cs (target cs t))) guard ≡ option_map (λ c. string (logical_of cs c)) (option_and_then (find_path cs) guard)
guard_named cs None h = refl
guard_named cs (Some t) h = found_as cs (find_path cs t) h

pub resource_stands : (cs : List Placed) (stack n : ℕ) (path : List ℕ) (b : Body) → is_resource b ≡ true → IsGuarded cs stack (guard_of b)
    → IsResourceEntry (λ c. (constructs_in cs).logical c) (parts_of cs stack).conditions (element_of cs n b) (entry_in (spelling_of cs) n path b)
resource_stands cs stack n path (language.resource r) is guarded = (its_condition (spelling_of cs) n path r ∙ guard_named cs r.condition guarded.found, guarded.there)
resource_stands cs stack n path b is guarded = absurd (true≢false (sym is))

-- ---- mappings and conditions

pub mapping_stands : (cs : List Placed) (n : ℕ) (path : List ℕ) (b : Body) → is_mapping b ≡ true → IsFormedBody cs n b → IsMappingEntry (element_of cs n b) (entry_in (spelling_of cs) n path b)
mapping_stands cs n path (language.mapping m) is formed = (refl, formed.0)
mapping_stands cs n path b is formed = absurd (true≢false (sym is))

pub condition_stands : (cs : List Placed) (n : ℕ) (path : List ℕ) (b : Body) → is_condition b ≡ true → entry_in (spelling_of cs) n path b ≡ rendered_condition (own_homes cs) (condition_in n (element_of cs n b))
condition_stands cs n path (language.condition_body c) is = refl
condition_stands cs n path b is = absurd (true≢false (sym is))
