-- In each stack of an assembly, after those before it, a rendered expression has the outcome that it means (own; exports and imports
-- are CloudFormation's).
use Rattle.std.specs.Prelude.{◌≡◌, ◌≤◌, ℕ, List, [], ◌∷◌, ◌++◌, length, false, Option, Some, None, option_map, option_and_then, codes, ⊤}
use Rattle.serde_json.specs.Data.{Data, string, array, Items, no_items, item}
use Rattle.serde_json.specs.Find.{get, get_member}
use Rattle.cdk_eval.specs.declared.fault.EvalFault.TheVariants.{NoExport}
use Rattle.cdk_eval.specs.Values.{Values}
use Rattle.cdk_eval.specs.Outcomes.{text_or}
use Rattle.cdk_eval.specs.Template.{outcome}
use Rattle.cdk_eval.specs.Reach.{is_among}
use Rattle.cdk_eval.specs.Sections.{section, scope}
use Rattle.cdk_eval.specs.Stack.{Stack, stack_outcome, exports_after}
use Rattle.cdk_eval.specs.Assembly.{entries, literal_names, outside_exports, stack_outcomes}
use Rattle.cdk_plain.specs.Plain.{Plain, IsWell}
use Rattle.cdk_meaning.specs.Mentions.{Mention, to_target, to_attribute, to_condition, to_mapping, to_import, mentions}
use Rattle.cdk_meaning.specs.Source.{Meaning, Means, Source}
use Rattle.cdk_meaning.specs.Meaning.{text_in, items_in, joined_items, meaning}
use Rattle.cdk_meaning.specs.Agreement.{Agrees}
use Rattle.cdk_plain.specs.Rendered.{Home, Local, Import, ImportList, list_delimiter, join_json, import_json, ref_json, attribute_json, rendered}
use Rattle.cdk_meaning.specs.Names.{AreDistinct, IsIn, Each}
use Rattle.cdk_meaning.specs.Constructs.{text_form, number_form, list_form, Element, parameter_of, resource_of, Constructs, source_of}
use Rattle.cdk_meaning.specs.StackTemplate.{Parts, homes_of, IsTemplateOf}
use Rattle.cdk_meaning.specs.ListsKept.{has_bar}

-- ---- stacks one after another

-- The exports that are there after these stacks.
abbrev pub exports_left : Values → (List ℕ → Option (List ℕ)) → List Stack → List ℕ → Option (List ℕ)
exports_left v exports [] = exports
exports_left v exports (s ∷ ss) = exports_left v (exports_after v exports s) ss

-- A stack is evaluated under the exports that those before it left.
abbrev pub StacksFollow : Type 0
StacksFollow =
    (v : Values) (exports : List ℕ → Option (List ℕ)) (before : List Stack) (s : Stack) (later : List Stack)
    → stack_outcomes v exports (before ++ s ∷ later) ≡ stack_outcomes v exports before ++ stack_outcome v (exports_left v exports before) s ∷ stack_outcomes v (exports_after v (exports_left v exports before) s) later

-- ---- exports of constructs

-- an output has no export, or one with a literal name
abbrev pub IsLiteralName : Option Data → Type 0
IsLiteralName None = ⊤
IsLiteralName (Some (string n)) = ⊤
IsLiteralName (Some _) = ⊥

abbrev pub name_of : Data → Option Data
name_of o = option_and_then (get (codes "Name")) (get (codes "Export") o)

abbrev pub NamesAreLiteral : Stack → Type 0
NamesAreLiteral s = Each (λ o. IsLiteralName (name_of o)) (entries (section (codes "Outputs") s.template))

abbrev pub guard_in : Element → Option ℕ
guard_in (resource_of guard) = guard
guard_in _ = None

-- A stack that is built of constructs stands before. Among those that `own` picks is the construct `n`, and an output of the stack
-- exports `local`, a value that names it, under the name `e`; it is made where the construct is.
pub record IsExported (cs : Constructs) (most : ℕ) (before : List Stack) (own : Parts → List ℕ) (n : ℕ) (local : Data) (e : List ℕ) : Type 0 where
  pub producer : Stack
  pub stands_before : IsIn producer before
  pub parts : Parts
  pub targets : ℕ → Home
  pub attributes : ℕ → List ℕ → Home
  pub entry : ℕ → Data
  pub built_of : IsTemplateOf cs parts (homes_of cs targets attributes) entry producer.name producer.template
  pub few : length parts.conditions ≤ most
  pub owned : IsIn n (own parts)
  pub key : List ℕ
  pub output : Data
  pub found : get_member key (section (codes "Outputs") producer.template) ≡ Some output
  pub value : get (codes "Value") output ≡ Some local
  pub name : name_of output ≡ Some (string e)
  pub guard : get (codes "Condition") output ≡ option_map (λ c. string (cs.logical c)) (guard_in (cs.element n))

-- ---- what is exported and what is mentioned

-- the parameters and resources of a stack, which `Ref` may name
abbrev pub targets_in : Parts → List ℕ
targets_in p = p.parameters ++ p.resources

-- and its resources, which `Fn::GetAtt` may name
abbrev pub resources_in : Parts → List ℕ
resources_in p = p.resources

abbrev pub IsTextElement : Element → Type 0
IsTextElement (parameter_of text_form d) = ⊤
IsTextElement (parameter_of number_form d) = ⊤
IsTextElement (parameter_of list_form d) = ⊥
IsTextElement (resource_of guard) = ⊤
IsTextElement _ = ⊥

abbrev pub IsListElement : Element → Type 0
IsListElement (parameter_of list_form d) = ⊤
IsListElement _ = ⊥

-- no item of the list holds a `|`
abbrev pub ItemsHaveNoBar : Items → Type 0
ItemsHaveNoBar no_items = ⊤
ItemsHaveNoBar (item (string s) ds) = (has_bar s ≡ false) × ItemsHaveNoBar ds
ItemsHaveNoBar (item d ds) = ⊥

abbrev pub HasNoBar : Meaning → Type 0
HasNoBar (Means (array ds)) = ItemsHaveNoBar ds
HasNoBar _ = ⊤

-- the exports that a stack between these is evaluated under
abbrev pub exports_before : Values → List Stack → Stack → List Stack → List ℕ → Option (List ℕ)
exports_before v before s later = exports_left v (outside_exports v (before ++ s ∷ later)) before

-- what the import of `e` is in the stack, where `e` exports the `Ref` of `n`, its items joined, or an attribute of it
pub record IsImport (v : Values) (cs : Constructs) (most : ℕ) (before : List Stack) (s : Stack) (later : List Stack) (n : ℕ) (e : List ℕ) : Type 0 where
  pub of_ref : IsExported cs most before targets_in n (ref_json (Local (cs.logical n))) e
      → outcome (scope v s.name s.template (exports_before v before s later)) (import_json e) ≡ text_or NoExport (text_in ((source_of v cs most s.name).target n))
  pub of_list : IsExported cs most before targets_in n (join_json list_delimiter (ref_json (Local (cs.logical n)))) e
      → outcome (scope v s.name s.template (exports_before v before s later)) (import_json e) ≡ text_or NoExport (text_in (joined_items list_delimiter (items_in ((source_of v cs most s.name).target n))))
  pub of_attribute : (a : List ℕ) → IsExported cs most before resources_in n (attribute_json a (Local (cs.logical n))) e
      → outcome (scope v s.name s.template (exports_before v before s later)) (import_json e) ≡ text_or NoExport (text_in ((source_of v cs most s.name).attribute n a))

-- `Ref`: of the stack by its logical name, or of a stack before by its export; of a list, whose items hold no `|`, by that of its
-- joined text
abbrev pub TargetIsThere : Constructs → ℕ → List Stack → Parts → ℕ → Home → Meaning → Type 0
TargetIsThere cs most before p n (Local k) m = (k ≡ cs.logical n) × IsIn n (targets_in p)
TargetIsThere cs most before p n (Import e) m = IsTextElement (cs.element n) × IsExported cs most before targets_in n (ref_json (Local (cs.logical n))) e
TargetIsThere cs most before p n (ImportList e) m =
    IsListElement (cs.element n) × HasNoBar m × IsExported cs most before targets_in n (join_json list_delimiter (ref_json (Local (cs.logical n)))) e

abbrev pub AttributeIsThere : Constructs → ℕ → List Stack → Parts → ℕ → List ℕ → Home → Type 0
AttributeIsThere cs most before p n a (Local k) = (k ≡ cs.logical n) × IsIn n (resources_in p)
AttributeIsThere cs most before p n a (Import e) = IsExported cs most before resources_in n (attribute_json a (Local (cs.logical n))) e
AttributeIsThere cs most before p n a (ImportList e) = ⊥

-- An export of another application has a name that no stack of this one exports.
abbrev pub MentionIsThere : Constructs → ℕ → Source → List Stack → List (List ℕ) → Parts → (ℕ → Home) → (ℕ → List ℕ → Home) → Mention → Type 0
MentionIsThere cs most src before names p target attribute (to_target n) = TargetIsThere cs most before p n (target n) (src.target n)
MentionIsThere cs most src before names p target attribute (to_attribute n a) = AttributeIsThere cs most before p n a (attribute n a)
MentionIsThere cs most src before names p target attribute (to_condition c) = IsIn c p.conditions
MentionIsThere cs most src before names p target attribute (to_mapping m) = IsIn m p.mappings
MentionIsThere cs most src before names p target attribute (to_import e) = is_among e names ≡ false

-- The import of an export of a stack before is what the construct means that the export names, and `NoExport` where that is undefined.
abbrev pub ImportsStand : Type 0
ImportsStand =
    (v : Values) (cs : Constructs) (most : ℕ) (before : List Stack) (s : Stack) (later : List Stack)
    → Each NamesAreLiteral before
    → AreDistinct (literal_names before)
    → (n : ℕ) (e : List ℕ) → IsImport v cs most before s later n e

-- Export names are literal, and those of the stacks before differ. Then, under all values, in a stack that is built of its constructs.
abbrev pub AssembliesKeepMeaning : Type 0
AssembliesKeepMeaning =
    (v : Values) (cs : Constructs) (most : ℕ) (before : List Stack) (s : Stack) (later : List Stack)
    → Each NamesAreLiteral before
    → AreDistinct (literal_names before)
    → (p : Parts) (target : ℕ → Home) (attribute : ℕ → List ℕ → Home) (entry : ℕ → Data)
    → IsTemplateOf cs p (homes_of cs target attribute) entry s.name s.template → length p.conditions ≤ most
    → (e : Plain) → IsWell e → Each (MentionIsThere cs most (source_of v cs most s.name) before (literal_names (before ++ s ∷ later)) p target attribute) (mentions e)
    → Agrees (outcome (scope v s.name s.template (exports_before v before s later)) (rendered (homes_of cs target attribute) e)) (meaning (source_of v cs most s.name) e)
