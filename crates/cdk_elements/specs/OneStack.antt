-- Applications of one stack, which stands in no stage and depends on nothing (own).
use Rattle.std.specs.Prelude.{◌≡◌, ◌≤◌, ℕ, ◌&&◌, List, [], ◌∷◌, length, Bool, true, false, IsTrue, is_none}
use Rattle.std.specs.List.{list_all}
use Rattle.cdk_language.specs.Construct as language
use Rattle.cdk_language.specs.Construct.{Body}
use Rattle.cdk_meaning.specs.Names.{Each}
use Rattle.cdk_tree.specs.Placed.{Placed}
use Rattle.cdk_elements.specs.Kinds.{stacks_of}

abbrev pub has_none : {A : Type 0} → List A → Bool
has_none [] = true
has_none (x ∷ xs) = false

-- no stage, and no output with an export's name
abbrev pub is_alone_body : Body → Bool
is_alone_body language.stage = false
is_alone_body (language.output o) = is_none o.export
is_alone_body b = true

-- it waits for nothing, and nothing visits it
abbrev pub is_alone : Placed → Bool
is_alone c = (has_none c.head.depends && has_none c.head.aspects) && is_alone_body c.body

pub record AreOneStack (cs : List Placed) : Type 0 where
  pub alone : IsTrue (list_all is_alone cs)
  -- no stage around
  pub staged : Each (λ c. c.stage ≡ 0) cs
  pub few : length (stacks_of cs) ≤ 1
