-- How targets are spelled in the stacks that use them (after AWS CDK's references between stacks; own).
use Rattle.std.specs.Prelude.{ℕ, ◌==◌, ◌&&◌, List, Bool, true, false, Option, Some, None, option_map}
use Rattle.std.specs.List.{find}
use Rattle.std.specs.Str.{bytes_eq}
use Rattle.cdk_homes.specs.declared.target.Home.{Home}

-- a target in a consuming stack, and how it is spelled there
pub record Entry : Type 0 where
  pub consumer : ℕ
  pub at : ℕ
  pub attribute : Option (List ℕ)
  pub name : List ℕ
  pub how : Home

abbrev pub is_attribute : Option (List ℕ) → Option (List ℕ) → Bool
is_attribute None None = true
is_attribute (Some x) (Some y) = bytes_eq x y
is_attribute s t = false

-- the two are one target in one consumer
abbrev pub is_pair : ℕ → ℕ → Option (List ℕ) → ℕ → ℕ → Option (List ℕ) → Bool
is_pair consumer at attribute c a t = (consumer == c && at == a) && is_attribute attribute t

abbrev pub is_of : ℕ → ℕ → Option (List ℕ) → Entry → Bool
is_of c a t e = is_pair e.consumer e.at e.attribute c a t

abbrev pub spelling_of : Entry → List ℕ × Home
spelling_of e = (e.name, e.how)

-- the name and the home of the first entry of the pair
abbrev pub spelled : List Entry → ℕ → ℕ → Option (List ℕ) → Option (List ℕ × Home)
spelled entries consumer at attribute = option_map spelling_of (find (is_of consumer at attribute) entries)
