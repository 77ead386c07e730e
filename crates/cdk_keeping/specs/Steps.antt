-- How a loop keeps lazies: those that wait, the last first, each once all that it mentions is kept.
use Rattle.std.specs.Prelude.{◌≡◌, ◌==◌, ◌++◌, ℕ, List, [], ◌∷◌, filter, is_none, if◌then◌else◌, Option, Some, None, option_and_then}
use Rattle.serde_json.specs.Data.{Data, string, array}
use Rattle.cdk_expansion.specs.Mentions.{lazy_value}
use Rattle.cdk_leaves.specs.Lazies.{Results}
use Rattle.cdk_leaves.specs.Ready.{Scope}
use Rattle.cdk_markers.specs.Cut.{cut_of}
use Rattle.cdk_markers.specs.ListKey.{list_key_of}
use Rattle.cdk_markers.specs.Pieces.{Piece, key}
use Rattle.cdk_rendering.specs.Missing.{value_missing}
use Rattle.cdk_rendering.specs.TokenJson.{value_json}
use Rattle.cdk_rendering.specs.Views.{json_in, missing_in}
use Rattle.cdk_tokens.specs.Token as token
use Rattle.cdk_tokens.specs.Token.{Form, Token}
use Rattle.cdk_tokens.specs.Values.{token_at}

-- ---- a value that is one token of a lazy, and nothing else

abbrev pub form_lazy : Form → Option ℕ
form_lazy (token.lazy n) = Some n
form_lazy f = None

abbrev pub key_lazy : List Token → List ℕ → Option ℕ
key_lazy ts k = option_and_then (λ t. form_lazy t.form) (token_at ts k)

abbrev pub only_key : List Piece → Option (List ℕ)
only_key (key k ∷ []) = Some k
only_key ps = None

abbrev pub value_lazy : List Token → Data → Option ℕ
value_lazy ts (string s) = option_and_then (key_lazy ts) (only_key (cut_of s))
value_lazy ts (array ds) = option_and_then (key_lazy ts) (list_key_of (array ds))
value_lazy ts d = None

-- ---- the lazies that wait

-- those that aren't kept
abbrev pub unkept : Results → List ℕ → List ℕ
unkept kept ns = filter (λ n. is_none (kept n)) ns

-- the results with that of the lazy
abbrev pub with_result : Results → ℕ → Data → Results
with_result kept n d m = if m == n then Some d else kept m

-- Where nothing is missing the lazy is kept with the JSON; else it waits, and what is missing behind it.
abbrev pub StepsOver : List ℕ → Data → ℕ → Results → List ℕ → Results → List ℕ → Type 0
StepsOver [] d n before old after new = ((m : ℕ) → after m ≡ with_result before n d m) × (new ≡ old)
StepsOver (x ∷ xs) d n before old after new = ((m : ℕ) → after m ≡ before m) × (new ≡ old ++ n ∷ x ∷ xs)

-- of the lazy and its own value
abbrev pub Steps : Scope → ℕ → Results → List ℕ → Results → List ℕ → Type 0
Steps s n before old after new =
    StepsOver (value_missing (missing_in s before) (lazy_value s.bodies n)) (value_json (json_in s before) (lazy_value s.bodies n)) n before old after new
