-- What follows of an application that was read without a finding (own): its tree is formed, and so what is rendered of it is a value that
-- JSON can hold and that reads back from its text.
use Rattle.std.specs.Prelude.{◌≡◌, ◌<◌, ◌≤◌, ℕ, List, [], length, Some}
use Rattle.serde_json.specs.Data.{Data, Members, depth, object}
use Rattle.cdk_base.specs.Json.{parsed}
use Rattle.cdk_base.specs.Pretty.{IsCanonical}
use Rattle.cdk_base.specs.declared.Setting.{Setting}
use Rattle.cdk_elements.specs.Elements.{own_condition}
use Rattle.cdk_expansion.specs.Laws.{IsSound}
use Rattle.cdk_expansion.specs.Own.{own_of, value_in}
use Rattle.cdk_premises.specs.Formed.{TreeIsFormed}
use Rattle.cdk_premises.specs.FormedConstruct.{IsFormedConstruct}
use Rattle.cdk_language.specs.Application.{application_of, with_settings}
use Rattle.cdk_language.specs.Condition.{Condition}
use Rattle.cdk_language.specs.Construct as construct
use Rattle.cdk_language.specs.Construct.{Application, ResourceBody}
use Rattle.cdk_language.specs.Expression.{Expression}
use Rattle.cdk_language.specs.Findings.{findings, setting_findings}
use Rattle.cdk_meaning.specs.Canonical.{HasOrderedOperands, IsOrdered}
use Rattle.cdk_meaning.specs.StackTemplate.{IsMapping}
use Rattle.cdk_plain.specs.Plain as plain
use Rattle.cdk_plain.specs.Plain.{IsWell, IsWellCondition, object_of}
use Rattle.cdk_plain.specs.Rendered.{Homes, one, rendered, rendered_condition}
use Rattle.cdk_tree.specs.Placed.{Placed, construct_at, constructs_of}

-- ---- reading

-- the constructs of the application of bytes in which nothing is found are formed, each for itself
abbrev pub ApplicationsAreFormed : Type 0
ApplicationsAreFormed = (bytes : List ℕ) (d : Data) (a : Application) → parsed bytes ≡ Some d → findings d ≡ [] → application_of d ≡ Some a → IsFormedConstruct a

-- and so is its tree
abbrev pub TreesAreFormed : Type 0
TreesAreFormed = (bytes : List ℕ) (d : Data) (a : Application) → parsed bytes ≡ Some d → findings d ≡ [] → application_of d ≡ Some a → TreeIsFormed (constructs_of a)

-- also with settings laid over its root's context in which nothing is found
abbrev pub TreesStayFormed : Type 0
TreesStayFormed = (bytes : List ℕ) (d : Data) (a : Application) (ss : List Setting)
    → parsed bytes ≡ Some d → findings d ≡ [] → application_of d ≡ Some a → setting_findings ss ≡ [] → TreeIsFormed (constructs_of (with_settings a ss))

-- ---- values

-- The plain form of a construct's value is well and ordered, however often lazies are opened.
abbrev pub FormsAreWell : Type 0
FormsAreWell = (cs : List Placed) → IsSound cs → TreeIsFormed cs → (k n : ℕ) (e : Expression) → n < length cs → value_in (construct_at cs n).body ≡ Some e
    → IsWell (own_of k cs n e) × IsOrdered (own_of k cs n e)

-- So what is rendered of it is canonical, however targets are spelled.
abbrev pub FormsAreCanonical : Type 0
FormsAreCanonical = (cs : List Placed) → IsSound cs → TreeIsFormed cs → (k n : ℕ) (e : Expression) → n < length cs → value_in (construct_at cs n).body ≡ Some e
    → (h : Homes) → IsCanonical (rendered h (own_of k cs n e))

-- The plain form of a resource's properties is an object, and so is what is rendered of it.
abbrev pub PropertiesAreObjects : Type 0
PropertiesAreObjects = (cs : List Placed) → TreeIsFormed cs → (k n : ℕ) (r : ResourceBody) → n < length cs → (construct_at cs n).body ≡ construct.resource r
    → ((fs : plain.Fields) × (own_of k cs n r.properties ≡ object_of fs)) × ((h : Homes) → (ms : Members) × (rendered h (own_of k cs n r.properties) ≡ object ms))

-- ---- conditions

-- The plain form of a condition is well, and its operands are ordered.
abbrev pub ConditionsAreWell : Type 0
ConditionsAreWell = (cs : List Placed) → IsSound cs → TreeIsFormed cs → (n : ℕ) (c : Condition) → n < length cs → (construct_at cs n).body ≡ construct.condition_body c
    → IsWellCondition (own_condition cs n c) × HasOrderedOperands (own_condition cs n c)

-- So what is rendered of it is canonical.
abbrev pub ConditionsAreCanonical : Type 0
ConditionsAreCanonical = (cs : List Placed) → IsSound cs → TreeIsFormed cs → (n : ℕ) (c : Condition) → n < length cs → (construct_at cs n).body ≡ construct.condition_body c
    → (h : Homes) → IsCanonical (rendered_condition h (own_condition cs n c))

-- What is rendered of any condition is an object of one member.
abbrev pub ConditionsHaveOneMember : Type 0
ConditionsHaveOneMember = (h : Homes) (c : plain.Condition) → (k : List ℕ) × (d : Data) × (rendered_condition h c ≡ one k d)

-- ---- mappings

-- A mapping is an object of objects of leaves, canonical and no deeper than that.
abbrev pub MappingsAreWell : Type 0
MappingsAreWell = (cs : List Placed) → TreeIsFormed cs → (n : ℕ) (m : Members) → n < length cs → (construct_at cs n).body ≡ construct.mapping m
    → IsMapping (object m) × IsCanonical (object m) × (depth (object m) ≤ 2)
