-- What is rendered with the homes of the one stack is what its own constructs' spellings give (own).
use Rattle.std.specs.Prelude.{◌≡◌, ℕ, List}
use Rattle.serde_json.specs.Data.{Data}
use Rattle.cdk_elements.specs.Elements.{own_homes}
use Rattle.cdk_expansion.specs.Conditions.{condition_of}
use Rattle.cdk_expansion.specs.Expanded.{plain_of}
use Rattle.cdk_homes.specs.Homes.{Entry}
use Rattle.cdk_language.specs.Condition.{Condition}
use Rattle.cdk_plain.specs.Rendered.{rendered, rendered_condition}
use Rattle.cdk_spelling.specs.Spelled.{homes_for}
use Rattle.cdk_tokens.specs.Token.{Token}
use Rattle.cdk_tokens.specs.Whole.{MarkedBody}
use Rattle.cdk_tree.specs.Placed.{Placed}
use Rattle.cdk_local_homes.specs.Local.{AreLocal}

-- of a marked value: each attribute in its plain form is a token's
abbrev pub LocalHomesRender : Type 0
LocalHomesRender = (es : List Entry) (cs : List Placed) (ts : List Token) (ms : List MarkedBody) (stack : ℕ) → AreLocal es cs ts stack
    → (k : ℕ) (d : Data) → rendered (homes_for es stack) (plain_of k ts ms d) ≡ rendered (own_homes cs) (plain_of k ts ms d)

-- and of the condition n
abbrev pub LocalHomesRenderConditions : Type 0
LocalHomesRenderConditions = (es : List Entry) (cs : List Placed) (ts : List Token) (ms : List MarkedBody) (stack : ℕ) → AreLocal es cs ts stack
    → (k n : ℕ) (c : Condition) → rendered_condition (homes_for es stack) (condition_of k cs ts ms n c) ≡ rendered_condition (own_homes cs) (condition_of k cs ts ms n c)
