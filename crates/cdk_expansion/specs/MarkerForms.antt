-- Marking makes right markers.
use Rattle.std.specs.Prelude.{◌≡◌, ℕ, List, false, Some}
use Rattle.serde_json.specs.Data.{Data}
use Rattle.cdk_tree.specs.Placed.{Placed}
use Rattle.cdk_tokens.specs.Values.{has_list_mix, has_unknown_token}
use Rattle.cdk_tokens.specs.Whole.{marking, operand_at, tokens_of, value_at}
use Rattle.cdk_expansion.specs.Laws.{IsSound}

-- each marker is that of a token of its kind, and a list's marker stands alone
pub record HasRightMarkers (cs : List Placed) (d : Data) : Type 0 where
  pub known : has_unknown_token (tokens_of cs) d ≡ false
  pub apart : has_list_mix d ≡ false

-- in the value of each construct
abbrev pub ValuesHaveRightMarkers : Type 0
ValuesHaveRightMarkers = (cs : List Placed) → IsSound cs → (at : ℕ) (d : Data) → value_at (marking cs) at ≡ Some d → HasRightMarkers cs d

-- and in each operand of a condition
abbrev pub OperandsHaveRightMarkers : Type 0
OperandsHaveRightMarkers = (cs : List Placed) → IsSound cs → (at n : ℕ) (d : Data) → operand_at (marking cs) at n ≡ Some d → HasRightMarkers cs d
