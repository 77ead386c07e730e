-- In a tree of one stack, with its own spellings and the sections of its own template, what an expression's plain form mentions is
-- there (own; what a template may mention is CloudFormation's).
use Rattle.std.specs.Prelude.{◌≡◌, ◌<◌, ℕ, List, [], length, true, false, Option, Some, None, is_some, option_and_then}
use Rattle.serde_json.specs.Data.{Data}
use Rattle.cdk_base.specs.Json.{parsed}
use Rattle.cdk_base.specs.declared.Setting.{Setting}
use Rattle.cdk_elements.specs.Elements.{constructs_in, logical_of, name_of, own_homes, parts_of}
use Rattle.cdk_expansion.specs.Own.{own_of, value_in}
use Rattle.cdk_language.specs.Application.{application_of, with_settings}
use Rattle.cdk_language.specs.Construct as language
use Rattle.cdk_language.specs.Construct.{Application, Body}
use Rattle.cdk_language.specs.Expression.{Expression}
use Rattle.cdk_language.specs.Findings.{findings}
use Rattle.cdk_lazies.specs.CycleFindings.{cycle_findings}
use Rattle.cdk_meaning.specs.AssemblyKept.{MentionIsThere}
use Rattle.cdk_meaning.specs.Constructs.{condition_at}
use Rattle.cdk_meaning.specs.Mentions.{mentions, names_in, operand_mentions}
use Rattle.cdk_meaning.specs.Names.{Each, IsIn}
use Rattle.cdk_meaning.specs.Source.{Source}
use Rattle.cdk_meaning.specs.StackTemplate.{IsGuardIn, IsOperandMention}
use Rattle.cdk_meaning.specs.Truth.{reaches}
use Rattle.cdk_plain.specs.Rendered.{Local}
use Rattle.cdk_tokens.specs.Whole.{marking, tokens_of}
use Rattle.cdk_tree.specs.PlaceFindings.{is_element}
use Rattle.cdk_tree.specs.Placed.{Placed, construct_at, constructs_of, find_path}
use Rattle.cdk_premises.specs.OneTree.{IsOneTree, IsRooted}
use Rattle.cdk_premises.specs.Operands.{OperandsArePlain}

-- ---- where elements stand

abbrev pub ElementsStandInTheStack : Type 0
ElementsStandInTheStack = (cs : List Placed) (stack : ℕ) → IsOneTree cs stack → (n : ℕ) → n < length cs → is_element (construct_at cs n).body ≡ true
    → ((construct_at cs n).stack ≡ Some stack) × ((constructs_in cs).stack n ≡ name_of cs stack)

-- ---- values

-- What the value of a resource, an output or a lazy mentions is there, however often lazies are opened. No stack exports anything.
abbrev pub ValuesMentionTheirs : Type 0
ValuesMentionTheirs = (cs : List Placed) (stack : ℕ) → IsOneTree cs stack → (most : ℕ) (src : Source) (names : List (List ℕ)) → names ≡ []
    → (k n : ℕ) (e : Expression) → n < length cs → value_in (construct_at cs n).body ≡ Some e
    → Each (MentionIsThere (constructs_in cs) most src [] names (parts_of cs stack) (λ m. Local (logical_of cs m)) (λ m a. Local (logical_of cs m))) (mentions (own_of k cs n e))

-- ---- conditions

-- Each condition names conditions of the stack.
abbrev pub ConditionsAreClosed : Type 0
ConditionsAreClosed = (cs : List Placed) (stack : ℕ) → IsOneTree cs stack
    → Each (λ c. Each (λ d. IsIn d (parts_of cs stack).conditions) (names_in (condition_at (constructs_in cs) c))) (parts_of cs stack).conditions

-- Its operands mention the stack's parameters and mappings alone.
abbrev pub OperandsMentionTheirs : Type 0
OperandsMentionTheirs = (cs : List Placed) (stack : ℕ) → IsOneTree cs stack → OperandsArePlain cs
    → Each (λ c. Each (IsOperandMention (constructs_in cs) (parts_of cs stack) (own_homes cs)) (operand_mentions (condition_at (constructs_in cs) c))) (parts_of cs stack).conditions

-- None reaches itself, where no cycle was found.
abbrev pub ConditionsAreFree : Type 0
ConditionsAreFree = (cs : List Placed) (stack : ℕ) → IsOneTree cs stack → cycle_findings cs (tokens_of cs) (marking cs) ≡ []
    → Each (λ c. reaches (condition_at (constructs_in cs)) (length (parts_of cs stack).conditions) c c ≡ false) (parts_of cs stack).conditions

-- ---- guards

-- the path of the condition under which a resource or output is made
abbrev pub guard_of : Body → Option (List ℕ)
guard_of (language.resource r) = r.condition
guard_of (language.output o) = o.condition
guard_of b = None

-- one that is given is found, and is a condition of the stack
pub record IsGuarded (cs : List Placed) (stack : ℕ) (guard : Option (List ℕ)) : Type 0 where
  pub there : IsGuardIn (parts_of cs stack).conditions (option_and_then (find_path cs) guard)
  pub found : is_some (option_and_then (find_path cs) guard) ≡ is_some guard

abbrev pub GuardsAreConditions : Type 0
GuardsAreConditions = (cs : List Placed) (stack : ℕ) → IsOneTree cs stack → (n : ℕ) → n < length cs → IsGuarded cs stack (guard_of (construct_at cs n).body)

-- ---- what reading gives

-- also with settings laid over the root's context
abbrev pub ApplicationsAreRooted : Type 0
ApplicationsAreRooted = (d : Data) (a : Application) (ss : List Setting) → application_of d ≡ Some a → IsRooted a × IsRooted (with_settings a ss)

-- In an application of bytes in which nothing is found operands have only forms that they may have.
abbrev pub OperandsAreReadPlain : Type 0
OperandsAreReadPlain = (bytes : List ℕ) (d : Data) (a : Application) (ss : List Setting) → parsed bytes ≡ Some d → findings d ≡ [] → application_of d ≡ Some a
    → OperandsArePlain (constructs_of a) × OperandsArePlain (constructs_of (with_settings a ss))
