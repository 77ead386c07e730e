-- The lines on the error stream, one for each refusal, and what a write of a line leaves (own).
use Rattle.std.specs.Prelude.{◌≤◌, ◌⊎◌, ◌≡◌, ℕ, List, [], ◌∷◌, ◌++◌, Option, codes, decimal}
use Rattle.json.specs.Print.{quoted}
use Rattle.cdk_base.specs.declared.code.Code.{Code}
use Rattle.cdk_base.specs.Codes.{code_number, code_name}
use Rattle.cdk_outside.specs.Outside.{Rose, with_bytes, AppendsPart}

unfoldable pub bad_words_line : List ℕ
bad_words_line = codes "cdkcore: bad words\n"

unfoldable pub memory_line : List ℕ
memory_line = codes "cdkcore: out of memory\n"

-- names and places are compact JSON texts
unfoldable pub read_line : List ℕ → List ℕ
read_line name = codes "cdkcore: cannot read " ++ (quoted name ++ 10 ∷ [])

unfoldable pub write_line : List ℕ → List ℕ
write_line name = codes "cdkcore: cannot write " ++ (quoted name ++ 10 ∷ [])

unfoldable pub error_line : Code → List ℕ → List ℕ
error_line code place =
    codes "cdkcore: error " ++ (decimal (code_number code) ++ 32 ∷ (code_name code ++ 32 ∷ (quoted place ++ 10 ∷ [])))

-- of an assembly or a values file: what is wrong with it, which file, and the place in it
unfoldable pub input_line : List ℕ → List ℕ → List ℕ → List ℕ
input_line kind file place = codes "cdkcore: input " ++ (kind ++ 32 ∷ (quoted file ++ 32 ∷ (quoted place ++ 10 ∷ [])))

-- The line is appended, or where a write on the stream has failed a part of it.
abbrev pub Says : Option (List ℕ) → Option (List ℕ) → ℕ → ℕ → List ℕ → Type 0
Says old new before now line =
    (before ≤ now) × ((new ≡ with_bytes line old) ⊎ (Rose before now × AppendsPart old new line))
