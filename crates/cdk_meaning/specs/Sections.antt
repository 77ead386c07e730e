-- A section of a template: the entries of constructs by their names (CloudFormation's template anatomy).
use Rattle.std.specs.Prelude.{◌≡◌, ℕ, List, [], ◌∷◌, length, map, Some, false, None}
use Rattle.serde_json.specs.Data.{Data, Members, no_members, put}
use Rattle.serde_json.specs.Find.{get_member}
use Rattle.cdk_base.specs.Pretty.{IsCanonical, MembersAreCanonical}
use Rattle.cdk_eval.specs.Conditions.{count}
use Rattle.cdk_eval.specs.Reach.{is_among}
use Rattle.cdk_meaning.specs.Names.{AreDistinct, IsIn, Each}

-- By its name each construct's entry is found, no other name is there, and there are as many entries as constructs.
pub record IsSection (name : ℕ → List ℕ) (entry : ℕ → Data) (ns : List ℕ) (ms : Members) : Type 0 where
  pub found : (n : ℕ) → IsIn n ns → get_member (name n) ms ≡ Some (entry n)
  pub lacks : (k : List ℕ) → is_among k (map name ns) ≡ false → get_member k ms ≡ None
  pub counted : count ms ≡ length ns

-- the entries put in, the last construct's first
abbrev pub built : (ℕ → List ℕ) → (ℕ → Data) → List ℕ → Members
built name entry [] = no_members
built name entry (n ∷ ns) = put (name n) (entry n) (built name entry ns)

-- the entries put in after others, the first construct's first
abbrev pub filled : (ℕ → List ℕ) → (ℕ → Data) → List ℕ → Members → Members
filled name entry [] ms = ms
filled name entry (n ∷ ns) ms = filled name entry ns (put (name n) (entry n) ms)

-- Where names differ, entries that are put in are a section, from whichever end, and canonical where they are.
pub record SectionHolds (name : ℕ → List ℕ) (entry : ℕ → Data) (ns : List ℕ) : Type 0 where
  pub from_the_last : IsSection name entry ns (built name entry ns)
  pub from_the_first : IsSection name entry ns (filled name entry ns no_members)
  pub ordered : Each (λ n. IsCanonical (entry n)) ns → MembersAreCanonical (built name entry ns) × MembersAreCanonical (filled name entry ns no_members)

abbrev pub SectionsHold : Type 0
SectionsHold = (name : ℕ → List ℕ) (entry : ℕ → Data) (ns : List ℕ) → AreDistinct (map name ns) → SectionHolds name entry ns
