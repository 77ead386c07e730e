-- How deep rendered values nest, and that what is rendered are the constructs' own expressions (own).
use Rattle.std.specs.Prelude.{◌≡◌, ◌≤◌, ℕ, suc, ◌+◌, ◌*◌, List, [], Some}
use Rattle.serde_json.specs.Data as json
use Rattle.serde_json.specs.Data.{Data}
use Rattle.cdk_elements.specs.Elements.{own_condition, own_value}
use Rattle.cdk_expansion.specs.Conditions.{condition_of, condition_plain}
use Rattle.cdk_expansion.specs.Laws.{IsSound}
use Rattle.cdk_expansion.specs.Own.{own_of, value_in}
use Rattle.cdk_keeping.specs.Keeping.{IsRendering}
use Rattle.cdk_language.specs.Condition.{Condition}
use Rattle.cdk_language.specs.Construct as language
use Rattle.cdk_language.specs.Construct.{Body}
use Rattle.cdk_language.specs.Expression.{Expression}
use Rattle.cdk_lazies.specs.CycleFindings.{cycle_findings}
use Rattle.cdk_leaves.specs.Ready.{Scope}
use Rattle.cdk_plain.specs.Plain as plain
use Rattle.cdk_plain.specs.Plain.{Plain}
use Rattle.cdk_plain.specs.Rendered.{Homes, rendered, rendered_condition}
use Rattle.cdk_resolve.specs.Conditions.{IsConditionRendering}
use Rattle.cdk_value_measures.specs.Size.{condition_depth, depth}
use Rattle.cdk_value_measures.specs.Constructs.{lazy_count}
use Rattle.cdk_sizes.specs.SizeFindings.{greatest_depth, size_findings}
use Rattle.cdk_tokens.specs.Whole.{marking, tokens_of, value_at}
use Rattle.cdk_tree.specs.Placed.{Placed, construct_at}
use Rattle.cdk_premises.specs.Own.{operand_of}
use Rattle.cdk_premises.specs.Room.{condition_room, room, spare}

-- ---- depths

-- Each level of a plain expression takes three of its template JSON at most, however its targets are spelled.
abbrev pub RenderedFits : Type 0
RenderedFits = (h : Homes) (p : Plain) → json.depth (rendered h p) + spare p ≤ 3 * depth p

abbrev pub RenderedHasRoom : Type 0
RenderedHasRoom = (h : Homes) (p : Plain) → depth p ≤ greatest_depth → json.depth (rendered h p) ≤ room p

-- So does each level of a condition, and one level is left.
abbrev pub ConditionsFit : Type 0
ConditionsFit = (h : Homes) (c : plain.Condition) → suc (json.depth (rendered_condition h c)) ≤ 3 * condition_depth c

abbrev pub ConditionsHaveRoom : Type 0
ConditionsHaveRoom = (h : Homes) (c : plain.Condition) → condition_depth c ≤ greatest_depth → json.depth (rendered_condition h c) ≤ condition_room

-- ---- the constructs' own expressions

-- The plain form of a condition's marked operands is that of the operands themselves.
abbrev pub ConditionFormsAreOwn : Type 0
ConditionFormsAreOwn = (cs : List Placed) → IsSound cs → (k n : ℕ) (c : Condition) → (construct_at cs n).body ≡ language.condition_body c
    → condition_of k cs (tokens_of cs) (marking cs) n c ≡ condition_plain cs (operand_of k cs n c) 0 c

-- no lazy and no condition reaches itself
abbrev pub HasNoCycle : List Placed → Type 0
HasNoCycle cs = cycle_findings cs (tokens_of cs) (marking cs) ≡ []

-- Lazies need not be opened more often than there are lazies.
abbrev pub ValuesNeedNoMore : Type 0
ValuesNeedNoMore = (cs : List Placed) → IsSound cs → HasNoCycle cs → (k n : ℕ) (e : Expression) → lazy_count cs ≤ k
    → value_in (construct_at cs n).body ≡ Some e → own_of k cs n e ≡ own_value cs n e

abbrev pub ConditionsNeedNoMore : Type 0
ConditionsNeedNoMore = (cs : List Placed) → IsSound cs → HasNoCycle cs → (k n : ℕ) (c : Condition) → lazy_count cs ≤ k
    → (construct_at cs n).body ≡ language.condition_body c → condition_of k cs (tokens_of cs) (marking cs) n c ≡ own_condition cs n c

-- the scope is one of the application's tokens and marked values, with any spellings and any order
pub record IsScopeOf (s : Scope) (cs : List Placed) : Type 0 where
  pub tokens : s.tokens ≡ tokens_of cs
  pub bodies : s.bodies ≡ marking cs

-- What is rendered of a construct's marked value is the template JSON of its expression.
abbrev pub RenderingsAreOwn : Type 0
RenderingsAreOwn = (cs : List Placed) → IsSound cs → HasNoCycle cs → (s : Scope) → IsScopeOf s cs → (n : ℕ) (e : Expression) (d r : Data)
    → value_in (construct_at cs n).body ≡ Some e → value_at (marking cs) n ≡ Some d → IsRendering s d r → r ≡ rendered s.homes (own_value cs n e)

-- and so it is with a condition
abbrev pub ConditionRenderingsAreOwn : Type 0
ConditionRenderingsAreOwn = (cs : List Placed) → IsSound cs → HasNoCycle cs → (s : Scope) → IsScopeOf s cs → (n : ℕ) (c : Condition) (r : Data)
    → (construct_at cs n).body ≡ language.condition_body c → IsConditionRendering s cs n c r → r ≡ rendered_condition s.homes (own_condition cs n c)

-- ---- depths of what was checked

-- the JSON of what the construct n, with that body, shows in a template
abbrev pub BodyFits : Homes → List Placed → ℕ → Body → Type 0
BodyFits h cs n (language.resource r) = json.depth (rendered h (own_value cs n r.properties)) ≤ room (own_value cs n r.properties)
BodyFits h cs n (language.output o) = json.depth (rendered h (own_value cs n o.value)) ≤ room (own_value cs n o.value)
BodyFits h cs n (language.condition_body c) = json.depth (rendered_condition h (own_condition cs n c)) ≤ condition_room
BodyFits h cs n b = Unit {0}

-- Where the check of sizes finds nothing, what is rendered has room, however targets are spelled.
abbrev pub ValuesFit : Type 0
ValuesFit = (cs : List Placed) → IsSound cs → HasNoCycle cs → size_findings cs (tokens_of cs) (marking cs) ≡ [] → (h : Homes) (n : ℕ) → BodyFits h cs n (construct_at cs n).body
