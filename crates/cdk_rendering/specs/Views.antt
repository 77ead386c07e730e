-- What walks over marked values know of tokens.
use Rattle.std.specs.Prelude.{ℕ, List}
use Rattle.serde_json.specs.Data.{Data}
use Rattle.cdk_leaves.specs.Lazies.{Results, shown}
use Rattle.cdk_leaves.specs.Ready.{Scope}
use Rattle.cdk_rendering.specs.Folding as folding
use Rattle.cdk_rendering.specs.Folding.{Known}
use Rattle.cdk_rendering.specs.Missing.{form_missing}
use Rattle.cdk_rendering.specs.TokenJson.{form_json}

-- ---- what the keys of the tokens below a bound are known to be

abbrev pub json_below : Scope → Results → ℕ → Known Data
json_below s kept below = folding.known_below (form_json s.homes (shown kept)) s.tokens below

abbrev pub missing_below : Scope → Results → ℕ → Known (List ℕ)
missing_below s kept below = folding.known_below (form_missing kept) s.tokens below

-- and those of all tokens

abbrev pub json_in : Scope → Results → Known Data
json_in s kept = folding.known_in (form_json s.homes (shown kept)) s.tokens

abbrev pub missing_in : Scope → Results → Known (List ℕ)
missing_in s kept = folding.known_in (form_missing kept) s.tokens
