-- What follows of an application that was read without a finding (own): its tree is clean.
use Rattle.std.specs.Prelude.{◌≡◌, ℕ, List, [], Some}
use Rattle.serde_json.specs.Data.{Data}
use Rattle.cdk_base.specs.Json.{parsed}
use Rattle.cdk_base.specs.declared.Setting.{Setting}
use Rattle.cdk_premises.specs.CleanConstruct.{IsCleanConstruct}
use Rattle.cdk_expansion.specs.Clean.{TreeIsClean}
use Rattle.cdk_language.specs.Application.{application_of, with_settings}
use Rattle.cdk_language.specs.Construct.{Application}
use Rattle.cdk_language.specs.Findings.{findings, setting_findings}
use Rattle.cdk_tree.specs.Placed.{constructs_of}

-- the constructs of the application of bytes in which nothing is found are clean, each for itself
abbrev pub ApplicationsAreClean : Type 0
ApplicationsAreClean = (bytes : List ℕ) (d : Data) (a : Application) → parsed bytes ≡ Some d → findings d ≡ [] → application_of d ≡ Some a → IsCleanConstruct a

-- and so is its tree
abbrev pub TreesAreClean : Type 0
TreesAreClean = (bytes : List ℕ) (d : Data) (a : Application) → parsed bytes ≡ Some d → findings d ≡ [] → application_of d ≡ Some a → TreeIsClean (constructs_of a)

-- also with settings laid over its root's context in which nothing is found
abbrev pub TreesStayClean : Type 0
TreesStayClean = (bytes : List ℕ) (d : Data) (a : Application) (ss : List Setting)
    → parsed bytes ≡ Some d → findings d ≡ [] → application_of d ≡ Some a → setting_findings ss ≡ [] → TreeIsClean (constructs_of (with_settings a ss))
