-- What a stack of an assembly comes to is what its constructs mean: the presence and the properties of its resources, and its outputs
-- (own).
use Rattle.std.specs.Prelude.{◌≡◌, ◌≤◌, ℕ, List, [], ◌∷◌, ◌++◌, length, Bool, true, false, Option, Some, None, option_map, codes, ⊤}
use Rattle.serde_json.specs.Data.{Data, string}
use Rattle.serde_json.specs.Find.{get, get_member}
use Rattle.cdk_eval.specs.Values.{Values}
use Rattle.cdk_eval.specs.Outcomes.{Outcome, OutputOutcome, OutputText, OutputNotMade, OutputFault}
use Rattle.cdk_eval.specs.Sections.{section}
use Rattle.cdk_eval.specs.Stack.{Stack, ResourceOutcome, stack_outcome}
use Rattle.cdk_eval.specs.Assembly.{literal_names}
use Rattle.cdk_plain.specs.Plain.{Plain, IsWell, Fields, no_fields, field, FieldsAreWell}
use Rattle.cdk_meaning.specs.Mentions.{mentions, field_mentions}
use Rattle.cdk_meaning.specs.Source.{Meaning, Source}
use Rattle.cdk_meaning.specs.Meaning.{text_in, meaning}
use Rattle.cdk_meaning.specs.Agreement.{Agrees, seen_truth}
use Rattle.cdk_plain.specs.Rendered.{Home, rendered, rendered_fields}
use Rattle.cdk_meaning.specs.Names.{AreDistinct, IsIn, Each}
use Rattle.cdk_meaning.specs.Constructs.{Constructs, presence_of, truth, source_of}
use Rattle.cdk_meaning.specs.StackTemplate.{Parts, IsGuardIn, homes_of, IsTemplateOf}
use Rattle.cdk_meaning.specs.AssemblyKept.{IsLiteralName, name_of, NamesAreLiteral, guard_in, exports_before, MentionIsThere}

-- ---- resources

-- Key by key, in order, an outcome for each property, which agrees with what it means.
abbrev pub AgreeAll : Source → Fields → List (List ℕ × Outcome) → Type 0
AgreeAll src no_fields [] = ⊤
AgreeAll src no_fields (x ∷ xs) = ⊥
AgreeAll src (field k p fs) [] = ⊥
AgreeAll src (field k p fs) (x ∷ xs) = (x.0 ≡ k) × Agrees x.1 (meaning src p) × AgreeAll src fs xs

-- Among the outcomes is one of that logical name, made as it is meant to be, and where it is made with its properties.
pub record IsResourceTold (src : Source) (presence : Option Bool) (fs : Fields) (logical : List ℕ) (rs : List ResourceOutcome) : Type 0 where
  pub own : ResourceOutcome
  pub told : IsIn own rs
  pub named : own.logical ≡ logical
  pub made : seen_truth own.presence ≡ presence
  pub properties : presence ≡ Some true → AgreeAll src fs own.properties

-- There are as many outcomes as resources, and one for each.
pub record AreResourcesTold (v : Values) (cs : Constructs) (most : ℕ) (before : List Stack) (s : Stack) (later : List Stack) (p : Parts) (target : ℕ → Home) (attribute : ℕ → List ℕ → Home) (entry : ℕ → Data) : Type 0 where
  pub counted : length (stack_outcome v (exports_before v before s later) s).resources ≡ length p.resources
  pub each : (n : ℕ) → IsIn n p.resources → (fs : Fields) → FieldsAreWell fs → section (codes "Properties") (entry n) ≡ rendered_fields (homes_of cs target attribute) fs
      → Each (MentionIsThere cs most (source_of v cs most s.name) before (literal_names (before ++ s ∷ later)) p target attribute) (field_mentions fs)
      → IsResourceTold (source_of v cs most s.name) (presence_of (truth v cs most) (guard_in (cs.element n))) fs (cs.logical n) (stack_outcome v (exports_before v before s later) s).resources

abbrev pub ResourcesKeepMeaning : Type 0
ResourcesKeepMeaning =
    (v : Values) (cs : Constructs) (most : ℕ) (before : List Stack) (s : Stack) (later : List Stack)
    → Each NamesAreLiteral before
    → AreDistinct (literal_names before)
    → (p : Parts) (target : ℕ → Home) (attribute : ℕ → List ℕ → Home) (entry : ℕ → Data)
    → IsTemplateOf cs p (homes_of cs target attribute) entry s.name s.template → length p.conditions ≤ most
    → AreResourcesTold v cs most before s later p target attribute entry

-- ---- outputs

pub data OutputMeaning : Type 0 where
  MeansText : List ℕ → OutputMeaning
  MeansNotMade : OutputMeaning
  MeansUndefined : OutputMeaning

abbrev pub means_told : Option (List ℕ) → OutputMeaning
means_told None = MeansUndefined
means_told (Some t) = MeansText t

-- The text of its value, where it is made.
abbrev pub output_meaning : Option Bool → Meaning → OutputMeaning
output_meaning None m = MeansUndefined
output_meaning (Some false) m = MeansNotMade
output_meaning (Some true) m = means_told (text_in m)

-- An output's outcome, its fault forgotten.
abbrev pub seen_output : OutputOutcome → OutputMeaning
seen_output (OutputText t) = MeansText t
seen_output OutputNotMade = MeansNotMade
seen_output (OutputFault f) = MeansUndefined

pub record IsOutputTold (m : OutputMeaning) (logical : List ℕ) (os : List (List ℕ × OutputOutcome)) : Type 0 where
  pub own : OutputOutcome
  pub told : IsIn (logical, own) os
  pub means : seen_output own ≡ m

-- An output of the application, by its entry: the condition is the stack's, the export's name, where there is one, is literal.
abbrev pub OutputsKeepMeaning : Type 0
OutputsKeepMeaning =
    (v : Values) (cs : Constructs) (most : ℕ) (before : List Stack) (s : Stack) (later : List Stack)
    → Each NamesAreLiteral before
    → AreDistinct (literal_names before)
    → (p : Parts) (target : ℕ → Home) (attribute : ℕ → List ℕ → Home) (entry : ℕ → Data)
    → IsTemplateOf cs p (homes_of cs target attribute) entry s.name s.template → length p.conditions ≤ most
    → (logical : List ℕ) (output : Data) (guard : Option ℕ) (e : Plain)
    → get_member logical (section (codes "Outputs") s.template) ≡ Some output
    → get (codes "Condition") output ≡ option_map (λ c. string (cs.logical c)) guard → IsGuardIn p.conditions guard
    → IsLiteralName (name_of output)
    → get (codes "Value") output ≡ Some (rendered (homes_of cs target attribute) e)
    → IsWell e → Each (MentionIsThere cs most (source_of v cs most s.name) before (literal_names (before ++ s ∷ later)) p target attribute) (mentions e)
    → IsOutputTold (output_meaning (presence_of (truth v cs most) guard) (meaning (source_of v cs most s.name) e)) logical (stack_outcome v (exports_before v before s later) s).outputs
