-- The settings among the words of a command: `KEY=VALUE` (own).
use Rattle.std.specs.Prelude.{◌≡◌, ℕ, Bool, false, ◌&&◌, true, not, ◌==◌, if◌then◌else◌, List, [], ◌∷◌, ◌++◌, map, Option, Some, None, option_map}
use Rattle.std.specs.List.{list_any}
use Rattle.cdk_base.specs.declared.Setting.{Setting}

-- a plain word isn't empty and doesn't begin with `-`
abbrev pub is_plain_word : List ℕ → Bool
is_plain_word [] = false
is_plain_word (c ∷ cs) = not (c == 45)

-- what stands before the first `=` and after it; none where there is no `=`
abbrev pub around_equals : List ℕ → Option (List ℕ × List ℕ)
around_equals [] = None
around_equals (c ∷ cs) = if c == 61 then Some ([], cs) else option_map (λ p. (c ∷ p.0, p.1)) (around_equals cs)

abbrev pub has_key : Option (List ℕ × List ℕ) → Bool
has_key (Some ((c ∷ cs), value)) = true
has_key _ = false

-- a setting's word is plain, and has a `=` with a key before it
abbrev pub is_setting_word : List ℕ → Bool
is_setting_word word = is_plain_word word && has_key (around_equals word)

-- a word without a `=` is a key of the empty value
abbrev pub setting_with : List ℕ → Option (List ℕ × List ℕ) → Setting
setting_with word (Some p) = record { key = p.0; value = p.1 }
setting_with word None = record { key = word; value = [] }

-- the setting of a word, cut at its first `=`
abbrev pub setting_in : List ℕ → Setting
setting_in word = setting_with word (around_equals word)

-- the settings of words, in their order
abbrev pub settings_in : List (List ℕ) → List Setting
settings_in = map setting_in

-- ---- what the cut is

-- a setting written as a word
abbrev pub spelled : Setting → List ℕ
spelled s = s.key ++ (61 ∷ s.value)

-- the key has no `=`
abbrev pub HasPlainKey : Setting → Type 0
HasPlainKey s = list_any (λ c. c == 61) s.key ≡ false
