-- The constructs of a tree that expressions speak of, and what they mean under given values (AWS CDK's constructs; what a reference
-- gives is CloudFormation's, values are own).
use Rattle.std.specs.Prelude.{ℕ, List, ◌++◌, Bool, true, Option, Some, None, unwrap_or, option_and_then, codes}
use Rattle.std.specs.Option.{option_or}
use Rattle.serde_json.specs.Data.{Data, string, array}
use Rattle.serde_json.specs.Find.{get}
use Rattle.cdk_eval.specs.Values.{Values, physical_text, attribute_text}
use Rattle.cdk_eval.specs.Texts.{list_items}
use Rattle.cdk_plain.specs.Plain.{Pseudo, account_id, partition, region, stack_id, stack_name, url_suffix, no_value, Condition, named}
use Rattle.cdk_meaning.specs.Source.{Meaning, Means, Undefined, Source}
use Rattle.cdk_meaning.specs.Meaning.{text_in, meaning}
use Rattle.cdk_meaning.specs.Truth.{truth_within}

pub data ParameterForm : Type 0 where
  text_form : ParameterForm
  number_form : ParameterForm
  list_form : ParameterForm

pub data Element : Type 0 where
  -- its form and its default
  parameter_of : ParameterForm → Option (List ℕ) → Element
  -- its condition
  resource_of : Option ℕ → Element
  condition_of : Condition → Element
  mapping_of : Data → Element
  other_element : Element

-- By a construct's number in the tree.
pub record Constructs : Type 0 where
  pub element : ℕ → Element
  -- the name of its stack
  pub stack : ℕ → List ℕ
  pub logical : ℕ → List ℕ

-- ---- pseudo parameters

abbrev pub pseudo_value : Values → List ℕ → Pseudo → List ℕ
pseudo_value v stack account_id = unwrap_or (v.pseudo (codes "AWS::AccountId")) (codes "111111111111")
pseudo_value v stack partition = unwrap_or (v.pseudo (codes "AWS::Partition")) (codes "aws")
pseudo_value v stack region = unwrap_or (v.pseudo (codes "AWS::Region")) (codes "us-east-1")
pseudo_value v stack stack_id = codes "stack/" ++ stack
pseudo_value v stack stack_name = stack
pseudo_value v stack url_suffix = unwrap_or (v.pseudo (codes "AWS::URLSuffix")) (codes "amazonaws.com")
pseudo_value v stack no_value = codes ""

-- ---- parameters, mappings

abbrev pub means_parameter : ParameterForm → Option (List ℕ) → Meaning
means_parameter f None = Undefined
means_parameter text_form (Some t) = Means (string t)
means_parameter number_form (Some t) = Means (string t)
means_parameter list_form (Some t) = Means (array (list_items t))

-- A given text stands before the default.
abbrev pub parameter_meaning : Values → List ℕ → List ℕ → Element → Meaning
parameter_meaning v stack logical (parameter_of f d) = means_parameter f (option_or (v.parameter stack logical) d)
parameter_meaning v stack logical _ = Undefined

abbrev pub leaf_in : Element → List ℕ → List ℕ → Option Data
leaf_in (mapping_of d) x y = option_and_then (get y) (get x d)
leaf_in _ x y = None

-- ---- conditions

-- At a condition's stack. In its operands stand no resources, conditions and imports.
abbrev pub operand_source : Values → Constructs → List ℕ → Source
operand_source v cs stack = record {
  pseudo_text = pseudo_value v stack;
  target = λ n. parameter_meaning v (cs.stack n) (cs.logical n) (cs.element n);
  attribute = λ n a. Undefined;
  condition = λ c. None;
  leaf = λ m x y. leaf_in (cs.element m) x y;
  outside = λ e. None;
}

-- What is no condition names itself, and so has no truth.
abbrev pub condition_in : ℕ → Element → Condition
condition_in n (condition_of c) = c
condition_in n _ = named n

abbrev pub source_at : Values → Constructs → ℕ → Source
source_at v cs c = operand_source v cs (cs.stack c)

abbrev pub condition_at : Constructs → ℕ → Condition
condition_at cs n = condition_in n (cs.element n)

-- Names are opened at most `most` times, one inside another.
abbrev pub truth : Values → Constructs → ℕ → ℕ → Option Bool
truth v cs most c = truth_within (λ n e. text_in (meaning (source_at v cs n) e)) (condition_at cs) most c

-- ---- resources

-- True where it is made.
abbrev pub presence_of : (ℕ → Option Bool) → Option ℕ → Option Bool
presence_of truth_at None = Some true
presence_of truth_at (Some c) = truth_at c

abbrev pub means_made : Option Bool → List ℕ → Meaning
means_made (Some true) t = Means (string t)
means_made _ t = Undefined

-- What `Ref` means of it.
abbrev pub target_meaning : Values → (ℕ → Option Bool) → List ℕ → List ℕ → Element → Meaning
target_meaning v truth_at stack logical (parameter_of f d) = parameter_meaning v stack logical (parameter_of f d)
target_meaning v truth_at stack logical (resource_of guard) = means_made (presence_of truth_at guard) (physical_text v stack logical)
target_meaning v truth_at stack logical _ = Undefined

-- What `Fn::GetAtt` means of it.
abbrev pub attribute_meaning : Values → (ℕ → Option Bool) → List ℕ → List ℕ → List ℕ → Element → Meaning
attribute_meaning v truth_at stack logical a (resource_of guard) = means_made (presence_of truth_at guard) (attribute_text v stack logical a)
attribute_meaning v truth_at stack logical a _ = Undefined

-- ---- all of it, at the stack of an expression's owner

abbrev pub source_of : Values → Constructs → ℕ → List ℕ → Source
source_of v cs most stack = record {
  pseudo_text = pseudo_value v stack;
  target = λ n. target_meaning v (truth v cs most) (cs.stack n) (cs.logical n) (cs.element n);
  attribute = λ n a. attribute_meaning v (truth v cs most) (cs.stack n) (cs.logical n) a (cs.element n);
  condition = λ c. truth v cs most c;
  leaf = λ m x y. leaf_in (cs.element m) x y;
  outside = v.export;
}
