-- Two stacks at which the laws on assemblies and on lists that cross stacks meet their premises: the second imports an attribute, a list
-- and a resource that isn't made from the first, and an export of another application.
use Rattle.std.proofs.Common.{true, arith, ◌≡◌, ℕ, List, [], ◌∷◌, Some, None, refl, inl, inr}
use Rattle.std.specs.Prelude.{◌==◌, bytes_eq, codes, if◌then◌else◌}
use Rattle.serde_json.specs.Data.{Data, string, object, no_members, member}
use Rattle.cdk_eval.specs.declared.fault.EvalFault.TheVariants.{NoExport}
use Rattle.cdk_eval.specs.Values.{Values}
use Rattle.cdk_eval.specs.Outcomes.{Value, Fault}
use Rattle.cdk_eval.specs.Template.{outcome}
use Rattle.cdk_eval.specs.Texts.{join_with, cut}
use Rattle.cdk_eval.specs.Sections.{scope}
use Rattle.cdk_eval.specs.Stack.{Stack, stack_outcome}
use Rattle.cdk_plain.specs.Plain.{Plain, text, ref, get_att, concat, join, import_value, no_plains, plain, no_fields, field, equals}
use Rattle.cdk_meaning.specs.Source.{Undefined}
use Rattle.cdk_meaning.specs.Meaning.{meaning}
use Rattle.cdk_meaning.specs.Agreement.{Agrees}
use Rattle.cdk_plain.specs.Rendered.{Home, Local, Import, ImportList, list_delimiter, one, two, join_json, ref_json, attribute_json, import_json, rendered, rendered_condition}
use Rattle.cdk_meaning.specs.Constructs.{list_form, Element, parameter_of, resource_of, condition_of, other_element, Constructs, condition_at, source_of}
use Rattle.cdk_meaning.specs.StackTemplate.{Parts, homes_of, IsTemplateOf}
use Rattle.cdk_meaning.specs.ListsKept.{text_items}
use Rattle.cdk_meaning.specs.AssemblyKept.{IsExported, targets_in, resources_in, exports_before}
use Rattle.cdk_meaning.specs.ReportKept.{IsResourceTold, AreResourcesTold, MeansUndefined, IsOutputTold}
use Rattle.cdk_meaning.proofs.Report.{resources_keep_meaning, outputs_keep_meaning}
use Rattle.cdk_meaning.proofs.Sections.{built_is_section}
use Rattle.cdk_meaning.proofs.Lists.{cutting_undoes_joining}
use Rattle.cdk_meaning.proofs.Assembly.{imports_stand, assemblies_keep_meaning}

-- of the stack Net: 1 Vpc, 2 Subnets, 3 Never, 4 Nat; of the stack Shop: 5 App
abbrev element : ℕ → Element
element n =
    if n == 1 then resource_of None
    else (if n == 2 then parameter_of list_form (Some (codes "a, b"))
    else (if n == 3 then condition_of (equals (text (codes "x")) (text (codes "y")))
    else (if n == 4 then resource_of (Some 3)
    else (if n == 5 then resource_of None
    else other_element))))

abbrev logical : ℕ → List ℕ
logical n =
    if n == 1 then codes "Vpc"
    else (if n == 2 then codes "Subnets"
    else (if n == 3 then codes "Never"
    else (if n == 4 then codes "Nat"
    else codes "App")))

abbrev constructs : Constructs
constructs = record { element = element; stack = λ n. if n == 5 then codes "Shop" else codes "Net"; logical = logical }

abbrev target : ℕ → Home
target n = if n == 2 then ImportList (codes "Net:Subnets") else (if n == 4 then Import (codes "Net:Nat") else Local (logical n))

abbrev attribute : ℕ → List ℕ → Home
attribute n a = Import (codes "Net:Arn")

abbrev written : Plain
written = concat (plain (join (codes "+") (ref 2)) (plain (text (codes " ")) (plain (get_att 1 (codes "Arn")) (plain (text (codes " ")) (plain (import_value (codes "Other:Key")) (plain (text (codes " ")) (plain (ref 5) no_plains)))))))

abbrev entry : ℕ → Data
entry n =
    if n == 2 then object (member (codes "Default") (string (codes "a, b")) (member (codes "Type") (string (codes "CommaDelimitedList")) no_members))
    else (if n == 4 then object (member (codes "Condition") (string (codes "Never")) (member (codes "Type") (string (codes "AWS::EC2::NatGateway")) no_members))
    else (if n == 5 then object (member (codes "Properties") (one (codes "Label") (rendered (homes_of constructs target attribute) written)) (member (codes "Type") (string (codes "Own::Thing")) no_members))
    else one (codes "Type") (string (codes "Own::Thing"))))

abbrev exported : List ℕ → Data
exported name = one (codes "Name") (string name)

abbrev nat_output : Data
nat_output = object (member (codes "Condition") (string (codes "Never")) (member (codes "Export") (exported (codes "Net:Nat")) (member (codes "Value") (ref_json (Local (codes "Nat"))) no_members)))

abbrev subnets_output : Data
subnets_output = object (member (codes "Export") (exported (codes "Net:Subnets")) (member (codes "Value") (join_json list_delimiter (ref_json (Local (codes "Subnets")))) no_members))

abbrev arn_output : Data
arn_output = object (member (codes "Export") (exported (codes "Net:Arn")) (member (codes "Value") (attribute_json (codes "Arn") (Local (codes "Vpc"))) no_members))

abbrev net : Stack
net = record {
  name = codes "Net";
  template = object (
      member (codes "Conditions") (one (codes "Never") (one (codes "Fn::Equals") (two (string (codes "x")) (string (codes "y")))))
      (member (codes "Outputs") (object (member (codes "Arn") arn_output (member (codes "Nat") nat_output (member (codes "Subnets") subnets_output no_members))))
      (member (codes "Parameters") (one (codes "Subnets") (entry 2))
      (member (codes "Resources") (object (member (codes "Nat") (entry 4) (member (codes "Vpc") (entry 1) no_members)))
      no_members))));
}

-- an output of the application: the resource that isn't made
abbrev gate_output : Data
gate_output = one (codes "Value") (rendered (homes_of constructs target attribute) (ref 4))

abbrev shop : Stack
shop = record {
  name = codes "Shop";
  template = object (member (codes "Outputs") (one (codes "Gate") gate_output) (member (codes "Resources") (one (codes "App") (entry 5)) no_members));
}

abbrev net_parts : Parts
net_parts = record { parameters = 2 ∷ []; resources = 1 ∷ 4 ∷ []; conditions = 3 ∷ []; mappings = [] }

abbrev shop_parts : Parts
shop_parts = record { parameters = []; resources = 5 ∷ []; conditions = []; mappings = [] }

abbrev net_target : ℕ → Home
net_target n = Local (logical n)

abbrev local_attribute : ℕ → List ℕ → Home
local_attribute n a = Local (logical n)

net_template : IsTemplateOf constructs net_parts (homes_of constructs net_target local_attribute) entry (codes "Net") net.template
net_template = record {
  parameters_stand = built_is_section logical entry (2 ∷ []) (refl, tt);
  resources_stand = built_is_section logical entry (1 ∷ 4 ∷ []) (refl, (refl, tt));
  conditions_stand = built_is_section logical (λ m. rendered_condition (homes_of constructs net_target local_attribute) (condition_at constructs m)) (3 ∷ []) (refl, tt);
  mappings_stand = built_is_section logical entry [] tt;
  parameters = ((refl, refl), tt);
  resources = ((refl, tt), ((refl, inl refl), tt));
  mappings = tt;
  targets_apart = (refl, (refl, (refl, tt)));
  conditions_apart = (refl, tt);
  names = (refl, (refl, (refl, tt)));
  placed = (refl, (refl, (refl, (refl, tt))));
  closed = (tt, tt);
  well = ((tt, tt), tt);
  operands = (tt, tt);
  free = (refl, tt);
}

shop_template : IsTemplateOf constructs shop_parts (homes_of constructs target attribute) entry (codes "Shop") shop.template
shop_template = record {
  parameters_stand = built_is_section logical entry [] tt;
  resources_stand = built_is_section logical entry (5 ∷ []) (refl, tt);
  conditions_stand = built_is_section logical (λ m. rendered_condition (homes_of constructs target attribute) (condition_at constructs m)) [] tt;
  mappings_stand = built_is_section logical entry [] tt;
  parameters = tt;
  resources = ((refl, tt), tt);
  mappings = tt;
  targets_apart = (refl, tt);
  conditions_apart = tt;
  names = (refl, tt);
  placed = (refl, tt);
  closed = tt;
  well = tt;
  operands = tt;
  free = tt;
}

nat_exported : IsExported constructs 1 (net ∷ []) targets_in 4 (ref_json (Local (codes "Nat"))) (codes "Net:Nat")
nat_exported = record {
  producer = net;
  stands_before = inl refl;
  parts = net_parts;
  targets = net_target;
  attributes = local_attribute;
  entry = entry;
  built_of = net_template;
  few = omega arith;
  owned = inr (inr (inl refl));
  key = codes "Nat";
  output = nat_output;
  found = refl;
  value = refl;
  name = refl;
  guard = refl;
}

subnets_exported : IsExported constructs 1 (net ∷ []) targets_in 2 (join_json list_delimiter (ref_json (Local (codes "Subnets")))) (codes "Net:Subnets")
subnets_exported = record {
  producer = net;
  stands_before = inl refl;
  parts = net_parts;
  targets = net_target;
  attributes = local_attribute;
  entry = entry;
  built_of = net_template;
  few = omega arith;
  owned = inl refl;
  key = codes "Subnets";
  output = subnets_output;
  found = refl;
  value = refl;
  name = refl;
  guard = refl;
}

arn_exported : IsExported constructs 1 (net ∷ []) resources_in 1 (attribute_json (codes "Arn") (Local (codes "Vpc"))) (codes "Net:Arn")
arn_exported = record {
  producer = net;
  stands_before = inl refl;
  parts = net_parts;
  targets = net_target;
  attributes = local_attribute;
  entry = entry;
  built_of = net_template;
  few = omega arith;
  owned = inl refl;
  key = codes "Arn";
  output = arn_output;
  found = refl;
  value = refl;
  name = refl;
  guard = refl;
}

-- values from outside, with an export of another application
abbrev values : Values
values = record { physical = λ s l. None; attribute = λ s l a. None; parameter = λ s l. None; pseudo = λ n. None; export = λ e. if bytes_eq e (codes "Other:Key") then Some (codes "key") else None }

pub written_agrees : Agrees (outcome (scope values (codes "Shop") shop.template (exports_before values (net ∷ []) shop [])) (rendered (homes_of constructs target attribute) written)) (meaning (source_of values constructs 1 (codes "Shop")) written)
written_agrees =
    assemblies_keep_meaning values constructs 1 (net ∷ []) shop [] ((tt, (tt, (tt, tt))), tt) (refl, (refl, (refl, tt))) shop_parts target attribute entry shop_template (omega arith) written
    (tt, (tt, (tt, (tt, (tt, (tt, (tt, tt)))))))
    ((tt, (refl, (refl, tt)), subnets_exported), (arn_exported, (refl, ((refl, inl refl), tt))))

written_is : outcome (scope values (codes "Shop") shop.template (exports_before values (net ∷ []) shop [])) (rendered (homes_of constructs target attribute) written) ≡ Value (string (codes "a+b Net.Vpc.Arn key Shop.App"))
written_is = refl

-- what isn't made is not exported, and its meaning is undefined
pub nat_import : outcome (scope values (codes "Shop") shop.template (exports_before values (net ∷ []) shop [])) (import_json (codes "Net:Nat")) ≡ Fault NoExport
nat_import = (imports_stand values constructs 1 (net ∷ []) shop [] ((tt, (tt, (tt, tt))), tt) (refl, (refl, (refl, tt))) 4 (codes "Net:Nat")).of_ref nat_exported

nat_means : meaning (source_of values constructs 1 (codes "Shop")) (ref 4) ≡ Undefined
nat_means = refl

pub nat_agrees : Agrees (outcome (scope values (codes "Shop") shop.template (exports_before values (net ∷ []) shop [])) (rendered (homes_of constructs target attribute) (ref 4))) (meaning (source_of values constructs 1 (codes "Shop")) (ref 4))
nat_agrees = assemblies_keep_meaning values constructs 1 (net ∷ []) shop [] ((tt, (tt, (tt, tt))), tt) (refl, (refl, (refl, tt))) shop_parts target attribute entry shop_template (omega arith) (ref 4) tt ((tt, nat_exported), tt)

-- a list of three items, one of them empty
pub three_items : cut list_delimiter 0 [] (join_with list_delimiter (codes "a" ∷ [] ∷ codes "b c" ∷ [])) ≡ text_items (codes "a" ∷ [] ∷ codes "b c" ∷ [])
three_items = cutting_undoes_joining (codes "a") ([] ∷ codes "b c" ∷ []) (refl, (refl, (refl, tt)))

-- a `|` at an item's end moves into the next
bar_moves : cut list_delimiter 0 [] (join_with list_delimiter (codes "a|" ∷ codes "b" ∷ [])) ≡ text_items (codes "a" ∷ codes "|b" ∷ [])
bar_moves = refl

-- ---- what the second stack comes to

pub shop_resources : AreResourcesTold values constructs 1 (net ∷ []) shop [] shop_parts target attribute entry
shop_resources = resources_keep_meaning values constructs 1 (net ∷ []) shop [] ((tt, (tt, (tt, tt))), tt) (refl, (refl, (refl, tt))) shop_parts target attribute entry shop_template (omega arith)

pub app_told : IsResourceTold (source_of values constructs 1 (codes "Shop")) (Some true) (field (codes "Label") written no_fields) (codes "App") (stack_outcome values (exports_before values (net ∷ []) shop []) shop).resources
app_told =
    shop_resources.each 5 (inl refl) (field (codes "Label") written no_fields) (refl, (tt, (tt, (tt, (tt, (tt, (tt, (tt, tt))))))), tt) refl
    ((tt, (refl, (refl, tt)), subnets_exported), (arn_exported, (refl, ((refl, inl refl), tt))))

pub gate_told : IsOutputTold MeansUndefined (codes "Gate") (stack_outcome values (exports_before values (net ∷ []) shop []) shop).outputs
gate_told =
    outputs_keep_meaning values constructs 1 (net ∷ []) shop [] ((tt, (tt, (tt, tt))), tt) (refl, (refl, (refl, tt))) shop_parts target attribute entry shop_template (omega arith)
    (codes "Gate") gate_output None (ref 4) refl refl tt tt refl tt ((tt, nat_exported), tt)
