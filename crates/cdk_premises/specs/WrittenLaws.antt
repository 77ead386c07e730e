-- What follows of an application that was read, and of one that is carried so far (own).
use Rattle.std.specs.Prelude.{◌≡◌, true, Some}
use Rattle.serde_json.specs.Data.{Data}
use Rattle.cdk_carried.specs.Carried.{is_carried}
use Rattle.cdk_elements.specs.OneStack.{AreOneStack}
use Rattle.cdk_language.specs.Application.{application_of}
use Rattle.cdk_language.specs.Construct as construct
use Rattle.cdk_language.specs.Construct.{Application}
use Rattle.cdk_tree.specs.Placed.{construct_at, constructs_of}

-- the constructs of an application that is carried so far are one stack
abbrev pub CarriedConstructsAreOneStack : Type 0
CarriedConstructsAreOneStack = (a : Application) → is_carried a ≡ true → AreOneStack (constructs_of a)

-- The first construct of an application that was read is the root, which is no element.
abbrev pub RootsAreRoots : Type 0
RootsAreRoots = (d : Data) (a : Application) → application_of d ≡ Some a → (construct_at (constructs_of a) 0).body ≡ construct.root
