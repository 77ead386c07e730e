-- How the one stack of an application spells its own constructs (AWS CDK: by their logical names).
use Rattle.std.specs.Prelude.{◌≡◌, ◌<◌, ◌≤◌, ◌==◌, ◌&&◌, ℕ, List, Bool, false, if◌then◌else◌, Option, Some, None, bytes_eq}
use Rattle.std.specs.List.{list_any}
use Rattle.std.specs.Option.{option_or}
use Rattle.cdk_elements.specs.Elements.{logical_of}
use Rattle.cdk_homes.specs.Homes.{Entry, spelled}
use Rattle.cdk_homes.specs.declared.target.Home.{Home}
use Rattle.cdk_homes.specs.declared.target.Home.TheVariants as ways
use Rattle.cdk_homes.specs.declared.target.Target.{Target}
use Rattle.cdk_tokens.specs.Token as token
use Rattle.cdk_tokens.specs.Token.{Form, Token}
use Rattle.cdk_tree.specs.PlaceFindings.{is_element}
use Rattle.cdk_tree.specs.Placed.{Placed, construct_at}

-- ---- attributes that are mentioned

-- the construct and the attribute of it that the form is
abbrev pub attribute_in : Form → Option (ℕ × List ℕ)
attribute_in (token.get_att n a) = Some (n, a)
attribute_in f = None

-- as what is spelled
abbrev pub target_of : ℕ × List ℕ → ℕ × Option (List ℕ)
target_of t = (t.0, Some t.1)

abbrev pub target_view : Target → ℕ × Option (List ℕ)
target_view t = (t.at, t.attribute)

-- it is that of the construct n
abbrev pub is_attribute : ℕ → List ℕ → Option (ℕ × List ℕ) → Bool
is_attribute n a None = false
is_attribute n a (Some t) = t.0 == n && bytes_eq t.1 a

-- one of the tokens is
abbrev pub has_attribute : List Token → ℕ → List ℕ → Bool
has_attribute ts n a = list_any (λ t. is_attribute n a (attribute_in t.form)) ts

-- ---- spellings

-- by its logical name, where it is spelled
abbrev pub local_spelling : List Placed → ℕ → Bool → Option (List ℕ × Home)
local_spelling cs n is_spelled = if is_spelled then Some (logical_of cs n, ways.Local) else None

-- The stack spells each element, and each attribute of a construct that a token is; no other stack spells anything.
pub record AreLocal (es : List Entry) (cs : List Placed) (ts : List Token) (stack : ℕ) : Type 0 where
  pub elements : (n : ℕ) → spelled es stack n None ≡ local_spelling cs n (is_element (construct_at cs n).body)
  pub attributes : (n : ℕ) (a : List ℕ) → spelled es stack n (Some a) ≡ local_spelling cs n (has_attribute ts n a)
  pub others : (consumer n : ℕ) (attribute : Option (List ℕ)) → (consumer ≡ stack → ⊥) → spelled es consumer n attribute ≡ None

-- ---- on the way there

-- only the elements below the number are spelled
pub record HasElementsBelow (es : List Entry) (cs : List Placed) (stack below : ℕ) : Type 0 where
  pub elements : (n : ℕ) → n < below → spelled es stack n None ≡ local_spelling cs n (is_element (construct_at cs n).body)
  pub later : (n : ℕ) → below ≤ n → spelled es stack n None ≡ None
  pub attributes : (n : ℕ) (a : List ℕ) → spelled es stack n (Some a) ≡ None
  pub others : (consumer n : ℕ) (attribute : Option (List ℕ)) → (consumer ≡ stack → ⊥) → spelled es consumer n attribute ≡ None

-- the pair has the spelling that it had, else this one; every other pair has what it had
pub record PutsOnce (old new : List Entry) (consumer at : ℕ) (attribute : Option (List ℕ)) (name : List ℕ) : Type 0 where
  pub there : spelled new consumer at attribute ≡ option_or (spelled old consumer at attribute) (Some (name, ways.Local))
  pub others : (c n : ℕ) (t : Option (List ℕ)) → ((consumer ≡ c) × (at ≡ n) × (attribute ≡ t) → ⊥) → spelled new c n t ≡ spelled old c n t
