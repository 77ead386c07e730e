-- The forms of the values file, of a template and of an assembly's manifest: all places that miss what is asked there,
-- in pre-order, keys in byte order (own profile of CloudFormation's template anatomy and of CDK's cloud assembly).
use Rattle.std.specs.Prelude.{ℕ, ◌+◌, ◌==◌, ◌&&◌, List, [], ◌∷◌, ◌++◌, map, Bool, true, false, not, Option, Some, None, is_some, option_and_then, if◌then◌else◌, bytes_eq, codes, decimal}
use Rattle.std.specs.List.{list_any, list_all}
use Rattle.serde_json.specs.Data.{Data, null, boolean, number, string, array, object, Items, no_items, item, Members, no_members, member}
use Rattle.serde_json.specs.Find.{get, as_str, as_array, as_object}
use Rattle.cdk_base.specs.Json.{text_of}
use Rattle.cdk_base.specs.Pointer.{step_to}
use Rattle.cdk_eval.specs.declared.role.Role.{Role}
use Rattle.cdk_eval.specs.declared.role.Role.TheVariants.{Anything, Refused, AnyText, FileName, AnyObject, Texts, ValuesFile, PhysicalStacks, PhysicalNames, PhysicalEntry, ParameterStacks, Pseudo, Template, Parameters, Parameter, ParameterDefault, Mappings, Mapping, Conditions, Resources, Resource, Outputs, Output, Export, Manifest, Artifacts, Artifact, StackArtifact, StackProperties, Dependencies, NestedAssembly, NestedProperties, OtherArtifact}

-- ---- what a place asks for

abbrev pub is_file_name : List ℕ → Bool
is_file_name s = not (list_any (bytes_eq s) ([] ∷ codes "." ∷ codes ".." ∷ [])) && list_all (λ c. not (c == 47)) s

abbrev pub is_file_text : Option (List ℕ) → Bool
is_file_text None = false
is_file_text (Some s) = is_file_name s

-- the members that an object has to have; one that is missing is told of the object
abbrev pub required : Role → List (List ℕ)
required Parameter = codes "Type" ∷ []
required Resource = codes "Type" ∷ []
required Output = codes "Value" ∷ []
required Export = codes "Name" ∷ []
required (Manifest may_nest) = codes "artifacts" ∷ []
required StackArtifact = codes "type" ∷ codes "properties" ∷ []
required StackProperties = codes "templateFile" ∷ []
required (NestedAssembly may_nest) = codes "type" ∷ codes "properties" ∷ []
required (NestedProperties may_nest) = codes "directoryName" ∷ []
required OtherArtifact = codes "type" ∷ []
required _ = []

abbrev pub has_all : List (List ℕ) → Data → Bool
has_all ks d = list_all (λ k. is_some (get k d)) ks

abbrev pub fits : Role → Data → Bool
fits Anything d = true
fits Refused d = false
fits AnyText d = is_some (as_str d)
fits FileName d = is_file_text (as_str d)
fits ParameterDefault d = is_some (text_of d)
fits Dependencies d = is_some (as_array d)
fits role d = is_some (as_object d) && has_all (required role) d

-- an artifact's role turns on its type
abbrev pub artifact_of_type : Bool → Option (List ℕ) → Role
artifact_of_type may_nest None = OtherArtifact
artifact_of_type may_nest (Some t) =
    if bytes_eq t (codes "aws:cloudformation:stack") then StackArtifact
    else (if bytes_eq t (codes "cdk:cloud-assembly") then NestedAssembly may_nest
    else OtherArtifact)

abbrev pub settled : Role → Data → Role
settled (Artifact may_nest) d = artifact_of_type may_nest (option_and_then as_str (get (codes "type") d))
settled role d = role

-- ---- what the parts of a place ask for

abbrev pub item_role : Role → Role
item_role Dependencies = AnyText
item_role _ = Anything

-- the role of a key in a table, or another
abbrev pub role_in : List (List ℕ × Role) → Role → List ℕ → Role
role_in [] other k = other
role_in (x ∷ xs) other k = if bytes_eq x.0 k then x.1 else role_in xs other k

abbrev pub member_role : Role → List ℕ → Role
member_role Texts k = AnyText
member_role ValuesFile k = role_in ((codes "physical", PhysicalStacks) ∷ (codes "parameters", ParameterStacks) ∷ (codes "pseudo", Pseudo) ∷ (codes "exports", Texts) ∷ []) Refused k
member_role PhysicalStacks k = PhysicalNames
member_role PhysicalNames k = PhysicalEntry
member_role PhysicalEntry k = role_in ((codes "Ref", AnyText) ∷ (codes "GetAtt", Texts) ∷ []) Refused k
member_role ParameterStacks k = Texts
member_role Pseudo k = role_in ((codes "AWS::AccountId", AnyText) ∷ (codes "AWS::Partition", AnyText) ∷ (codes "AWS::Region", AnyText) ∷ (codes "AWS::URLSuffix", AnyText) ∷ []) Refused k
member_role Template k = role_in ((codes "Parameters", Parameters) ∷ (codes "Mappings", Mappings) ∷ (codes "Conditions", Conditions) ∷ (codes "Resources", Resources) ∷ (codes "Outputs", Outputs) ∷ []) Anything k
member_role Parameters k = Parameter
member_role Parameter k = role_in ((codes "Type", AnyText) ∷ (codes "Default", ParameterDefault) ∷ []) Anything k
member_role Mappings k = Mapping
member_role Mapping k = AnyObject
member_role Conditions k = AnyObject
member_role Resources k = Resource
member_role Resource k = role_in ((codes "Type", AnyText) ∷ (codes "Properties", AnyObject) ∷ (codes "Condition", AnyText) ∷ []) Anything k
member_role Outputs k = Output
member_role Output k = role_in ((codes "Condition", AnyText) ∷ (codes "Export", Export) ∷ []) Anything k
member_role (Manifest may_nest) k = role_in ((codes "artifacts", Artifacts may_nest) ∷ []) Anything k
member_role (Artifacts may_nest) k = Artifact may_nest
member_role StackArtifact k = role_in ((codes "type", AnyText) ∷ (codes "properties", StackProperties) ∷ (codes "dependencies", Dependencies) ∷ []) Anything k
member_role StackProperties k = role_in ((codes "templateFile", FileName) ∷ (codes "stackName", AnyText) ∷ []) Anything k
member_role (NestedAssembly may_nest) k = role_in ((codes "type", AnyText) ∷ (codes "properties", NestedProperties may_nest) ∷ []) Anything k
member_role (NestedProperties may_nest) k = role_in ((codes "directoryName", if may_nest then FileName else Refused) ∷ []) Anything k
member_role OtherArtifact k = role_in ((codes "type", AnyText) ∷ []) Anything k
member_role _ k = Anything

-- ---- the places, as pointers from the value on

-- the value's own place where it doesn't fit, and those inside
abbrev pub place : Role → Data → List (List ℕ) → List (List ℕ)
place role d places = if fits role d then places else [] ∷ places

abbrev mutual
  pub inside : Role → Data → List (List ℕ)
  inside role null = []
  inside role (boolean b) = []
  inside role (number n) = []
  inside role (string s) = []
  inside role (array ds) = in_items (item_role role) 0 ds
  inside role (object ms) = in_members role ms

  pub in_items : Role → ℕ → Items → List (List ℕ)
  in_items role n no_items = []
  in_items role n (item d ds) = map (step_to (decimal n)) (place role d (inside role d)) ++ in_items role (n + 1) ds

  pub in_members : Role → Members → List (List ℕ)
  in_members role no_members = []
  in_members role (member k d ms) = map (step_to k) (place (settled (member_role role k) d) d (inside (settled (member_role role k) d) d)) ++ in_members role ms

abbrev pub first_of : List (List ℕ) → Option (List ℕ)
first_of [] = None
first_of (x ∷ xs) = Some x

abbrev pub misses : Role → Data → List (List ℕ)
misses role d = place (settled role d) d (inside (settled role d) d)

-- the first place that misses its form
abbrev pub first_miss : Role → Data → Option (List ℕ)
first_miss role d = first_of (misses role d)
