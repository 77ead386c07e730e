-- What follows from the rules of names, for the crates above (own).
use Rattle.std.specs.Prelude.{◌≡◌, ℕ, ◌+◌, ◌≤◌, min, List, ◌∷◌, length, IsTrue, IfSome, IsSomeAnd, IsAscii}
use Rattle.std.specs.Char.{is_ascii_alphabetic, is_ascii_alphanumeric}
use Rattle.std.specs.List.{list_all}
use Rattle.cdk_names.specs.Names.{is_visible, is_shown, unique_id}
use Rattle.cdk_names.specs.Forms.{is_logical, is_stack_name, export_name}

-- letters and digits of ASCII alone, at most 255
pub record IsAlphanumericName (name : List ℕ) : Type 0 where
  pub fits : length name ≤ 255
  pub alphanumeric : IsTrue (list_all is_ascii_alphanumeric name)

abbrev pub UniqueIdsAreAlphanumeric : Type 0
UniqueIdsAreAlphanumeric = (components : List (List ℕ)) → IfSome (unique_id components) IsAlphanumericName

-- a first component that begins with a letter and is in the human part makes the unique id a logical name
abbrev pub LetterFirstIsLogical : Type 0
LetterFirstIsLogical = (letter : ℕ) (more : List ℕ) (components : List (List ℕ)) → IsTrue (is_ascii_alphabetic letter) → IsTrue (is_visible (letter ∷ more)) → IsTrue (is_shown (letter ∷ more))
    → IsSomeAnd (unique_id ((letter ∷ more) ∷ components)) (λ name. IsTrue (is_logical name))

abbrev pub LogicalNamesAreAlphanumeric : Type 0
LogicalNamesAreAlphanumeric = (name : List ℕ) → IsTrue (is_logical name) → IsAlphanumericName name × IsAscii name

abbrev pub StackNamesAreAscii : Type 0
StackNamesAreAscii = (name : List ℕ) → IsTrue (is_stack_name name) → (length name ≤ 128) × IsAscii name

-- an export name is cut only as far as it must be
abbrev pub ExportNamesFit : Type 0
ExportNamesFit = (stack logical : List ℕ) → length stack ≤ 128 → length (export_name stack logical) ≡ min 255 (length stack + 1 + length logical)
