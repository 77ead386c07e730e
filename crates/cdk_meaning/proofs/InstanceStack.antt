-- A stack at which the laws on rendering, sections, conditions and stacks meet their premises: two parameters, two conditions, a
-- mapping and two resources, one of them made under a condition.
use Rattle.std.proofs.Common.{false, arith, ◌≡◌, ℕ, List, [], ◌∷◌, Option, Some, None, refl, inl, inr}
use Rattle.std.specs.Prelude.{◌==◌, bytes_eq, codes, if◌then◌else◌}
use Rattle.serde_json.specs.Data.{Data, string, array, object, no_items, item, no_members, member}
use Rattle.cdk_eval.specs.Values.{no_values}
use Rattle.cdk_eval.specs.Outcomes.{Value}
use Rattle.cdk_eval.specs.Template.{outcome}
use Rattle.serde_json.specs.Find.{get_member}
use Rattle.cdk_eval.specs.Conditions.{named_truth}
use Rattle.cdk_eval.specs.Sections.{section, operand_scope, scope}
use Rattle.cdk_plain.specs.Plain.{Plain, pseudo, region, text, list_of, object_of, no_fields, field, ref, get_att, concat, join, choice, find_in_map, no_plains, plain, equals, negation, named}
use Rattle.cdk_meaning.specs.Meaning.{meaning}
use Rattle.cdk_meaning.specs.Agreement.{Agrees, seen_truth}
use Rattle.cdk_plain.specs.Rendered.{Home, Local, Import, one, two, rendered, rendered_condition}
use Rattle.cdk_meaning.specs.Constructs.{text_form, list_form, Element, parameter_of, resource_of, condition_of, mapping_of, other_element, Constructs, source_at, condition_at, source_of}
use Rattle.cdk_meaning.specs.StackTemplate.{Parts, homes_of, IsTemplateOf}
use Rattle.cdk_meaning.specs.Sections.{built}
use Rattle.cdk_meaning.specs.ConditionsKept.{AreStackConditions}
use Rattle.cdk_meaning.specs.Source.{Means}
use Rattle.cdk_base.specs.Pretty.{IsCanonical}
use Rattle.cdk_meaning.proofs.Canonical.{rendered_is_canonical}
use Rattle.cdk_meaning.proofs.Sections.{built_is_section, sections_hold}
use Rattle.cdk_meaning.proofs.Conditions.{conditions_kept}
use Rattle.cdk_meaning.proofs.Kept.{rendering_kept}
use Rattle.cdk_meaning.proofs.Pseudos.{pseudos_kept}
use Rattle.cdk_meaning.proofs.Stack.{stack_conditions, stacks_keep_meaning}

-- 1 Stage, 2 Zones, 3 IsProd, 4 NotProd, 5 Sizes, 6 Bucket, 7 Topic; 8 Vpc of the stack Net
abbrev rows : Data
rows = object (member (codes "prod") (object (member (codes "disk") (string (codes "big")) no_members)) no_members)

abbrev element : ℕ → Element
element n =
    if n == 1 then parameter_of text_form (Some (codes "prod"))
    else (if n == 2 then parameter_of list_form (Some (codes "a, b"))
    else (if n == 3 then condition_of (equals (ref 1) (text (codes "prod")))
    else (if n == 4 then condition_of (negation (named 3))
    else (if n == 5 then mapping_of rows
    else (if n == 6 then resource_of (Some 3)
    else (if n == 7 then resource_of None
    else (if n == 8 then resource_of None
    else other_element)))))))

abbrev logical : ℕ → List ℕ
logical n =
    if n == 1 then codes "Stage"
    else (if n == 2 then codes "Zones"
    else (if n == 3 then codes "IsProd"
    else (if n == 4 then codes "NotProd"
    else (if n == 5 then codes "Sizes"
    else (if n == 6 then codes "Bucket"
    else (if n == 7 then codes "Topic"
    else codes "Vpc"))))))

abbrev pub constructs : Constructs
constructs = record { element = element; stack = λ n. if n == 8 then codes "Net" else codes "Shop"; logical = logical }

abbrev pub shop : Parts
shop = record { parameters = 1 ∷ 2 ∷ []; resources = 6 ∷ 7 ∷ []; conditions = 3 ∷ 4 ∷ []; mappings = 5 ∷ [] }

abbrev pub target : ℕ → Home
target n = if n == 8 then Import (codes "Net:Vpc") else Local (logical n)

abbrev pub attribute : ℕ → List ℕ → Home
attribute n a = Local (logical n)

abbrev entry : ℕ → Data
entry n =
    if n == 1 then object (member (codes "Default") (string (codes "prod")) (member (codes "Type") (string (codes "String")) no_members))
    else (if n == 2 then object (member (codes "Default") (string (codes "a, b")) (member (codes "Type") (string (codes "CommaDelimitedList")) no_members))
    else (if n == 5 then rows
    else (if n == 6 then object (member (codes "Condition") (string (codes "IsProd")) (member (codes "Type") (string (codes "AWS::S3::Bucket")) no_members))
    else one (codes "Type") (string (codes "AWS::SNS::Topic")))))

abbrev pub template : Data
template = object (
    member (codes "Conditions") (object (
    member (codes "IsProd") (one (codes "Fn::Equals") (two (one (codes "Ref") (string (codes "Stage"))) (string (codes "prod")))) (
    member (codes "NotProd") (one (codes "Fn::Not") (array (item (one (codes "Condition") (string (codes "IsProd"))) no_items))) no_members)))
    (member (codes "Mappings") (object (member (codes "Sizes") rows no_members))
    (member (codes "Parameters") (object (member (codes "Stage") (entry 1) (member (codes "Zones") (entry 2) no_members)))
    (member (codes "Resources") (object (member (codes "Bucket") (entry 6) (member (codes "Topic") (entry 7) no_members)))
    no_members))))

pub shop_template : IsTemplateOf constructs shop (homes_of constructs target attribute) entry (codes "Shop") template
shop_template = record {
  parameters_stand = built_is_section logical entry (1 ∷ 2 ∷ []) (refl, (refl, tt));
  resources_stand = built_is_section logical entry (6 ∷ 7 ∷ []) (refl, (refl, tt));
  conditions_stand = built_is_section logical (λ n. rendered_condition (homes_of constructs target attribute) (condition_at constructs n)) (3 ∷ 4 ∷ []) (refl, (refl, tt));
  mappings_stand = built_is_section logical entry (5 ∷ []) (refl, tt);
  parameters = ((refl, refl), ((refl, refl), tt));
  resources = ((refl, inl refl), ((refl, tt), tt));
  mappings = ((refl, ((refl, tt), tt)), tt);
  targets_apart = (refl, (refl, (refl, (refl, tt))));
  conditions_apart = (refl, (refl, tt));
  names = (refl, (refl, (refl, (refl, tt))));
  placed = (refl, (refl, (refl, (refl, (refl, (refl, tt))))));
  closed = (tt, ((inl refl, tt), tt));
  well = ((tt, tt), (tt, tt));
  operands = (((inl refl, refl), tt), (tt, tt));
  free = (refl, (refl, tt));
}

-- the export of the stack before
abbrev pub exports : List ℕ → Option (List ℕ)
exports e = if bytes_eq e (codes "Net:Vpc") then Some (codes "Net.Vpc") else None

abbrev pub written : Plain
written = concat (plain (text (codes "x-")) (plain (ref 7) (plain (choice 4 (text (codes "none")) (get_att 6 (codes "Arn"))) (plain (find_in_map 5 (ref 1) (text (codes "disk"))) (plain (join [] (list_of (plain (text (codes "-")) (plain (join (codes "+") (ref 2)) (plain (ref 8) no_plains))))) no_plains)))))

pub written_agrees : Agrees (outcome (scope no_values (codes "Shop") template exports) (rendered (homes_of constructs target attribute) written)) (meaning (source_of no_values constructs 2 (codes "Shop")) written)
written_agrees =
    stacks_keep_meaning no_values constructs shop target attribute entry (codes "Shop") template shop_template exports 2 (omega arith) written (tt, (tt, ((tt, tt), ((tt, tt), ((tt, (tt, (tt, tt))), tt)))))
    ((refl, inr (inr (inr (inl refl)))), (inr (inl refl), ((refl, inl refl), (inl refl, ((refl, inl refl), ((refl, inr (inl refl)), (refl, tt)))))))

-- and its value
written_is : outcome (scope no_values (codes "Shop") template exports) (rendered (homes_of constructs target attribute) written) ≡ Value (string (codes "x-Shop.TopicShop.Bucket.Arnbig-a+bNet.Vpc"))
written_is = refl

-- ---- the laws that this one rests on, at the same stack

pub bucket_found : get_member (codes "Bucket") (built logical entry (6 ∷ 7 ∷ [])) ≡ Some (entry 6)
bucket_found = (sections_hold logical entry (6 ∷ 7 ∷ []) (refl, (refl, tt))).from_the_last.found 6 (inl refl)

pub shop_conditions : AreStackConditions (source_at no_values constructs) (homes_of constructs target attribute) (operand_scope no_values (codes "Shop") template) (condition_at constructs) (3 ∷ 4 ∷ [])
shop_conditions = stack_conditions no_values constructs shop target attribute entry (codes "Shop") template shop_template

-- `NotProd` is false
pub not_prod : seen_truth (named_truth (outcome (operand_scope no_values (codes "Shop") template)) (section (codes "Conditions") template) (codes "NotProd")) ≡ Some false
not_prod = conditions_kept (source_at no_values constructs) (homes_of constructs target attribute) (operand_scope no_values (codes "Shop") template) (condition_at constructs) (3 ∷ 4 ∷ []) shop_conditions (section (codes "Conditions") template) shop_template.conditions_stand 2 4 (omega arith) (inr (inl refl))

pub topic_agrees : Agrees (outcome (scope no_values (codes "Shop") template exports) (rendered (homes_of constructs target attribute) (concat (plain (ref 7) (plain (pseudo region) no_plains))))) (Means (string (codes "Shop.Topicus-east-1")))
topic_agrees =
    rendering_kept (source_of no_values constructs 2 (codes "Shop")) (homes_of constructs target attribute) (scope no_values (codes "Shop") template exports) (pseudos_kept no_values constructs (codes "Shop") template 2 exports)
    (concat (plain (ref 7) (plain (pseudo region) no_plains))) (tt, (tt, tt)) (refl, tt)

-- and an object with two keys is rendered with its keys in order
pub tags_canonical : IsCanonical (rendered (homes_of constructs target attribute) (object_of (field (codes "Key") written (field (codes "Value") (ref 7) no_fields))))
tags_canonical =
    rendered_is_canonical (homes_of constructs target attribute) (object_of (field (codes "Key") written (field (codes "Value") (ref 7) no_fields)))
    (refl, (tt, (tt, ((tt, tt), ((tt, tt), ((tt, (tt, (tt, tt))), tt))))), (refl, tt, tt))
    ((refl, tt), (tt, (tt, ((tt, tt), ((tt, tt), ((tt, (tt, (tt, tt))), tt))))), (tt, tt, tt))
