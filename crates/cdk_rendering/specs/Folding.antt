-- What is found of the tokens of a table, one after another, each from what is found of those before it.
use Rattle.std.specs.Prelude.{ℕ, List, [], ◌∷◌, ◌++◌, slice_get, take, Option, option_and_then}
use Rattle.cdk_tokens.specs.Token.{Form, Token, find_token}

-- what is found of keys
abbrev pub Known : Type 0 → Type 0
Known A = List ℕ → Option A

-- of the keys of the tokens of which something is found
abbrev pub known_by : {A : Type 0} → List Token → List A → Known A
known_by ts found k = option_and_then (slice_get found) (find_token ts k)

-- `form` tells what is found of a form, from what is found of the keys in its arguments

module _ {A : Type 0} (form : Known A → Form → A) where
  abbrev pub found_after : List Token → List A → List Token → List A
  found_after ts done [] = done
  found_after ts done (t ∷ rest) = found_after ts (done ++ form (known_by ts done) t.form ∷ []) rest

  abbrev pub found_of_all : List Token → List A
  found_of_all ts = found_after ts [] ts

  -- of the keys of the first tokens
  abbrev pub known_below : List Token → ℕ → Known A
  known_below ts n = known_by ts (take n (found_of_all ts))

  abbrev pub known_in : List Token → Known A
  known_in ts = known_by ts (found_of_all ts)
