-- What is read as an application has the root's body at its root.
use Rattle.std.proofs.Common.{◌≡◌, [], option_map, refl, subst}
use Rattle.serde_json.specs.Data.{Data}
use Rattle.serde_json.specs.Find.{as_object}
use Rattle.cdk_language.specs.Application.{application_of, children_in, head_in, root_in}
use Rattle.cdk_language.specs.Construct as construct
use Rattle.cdk_language.specs.Construct.{Application}
use Rattle.cdk_tree.specs.Placed.{construct_at, constructs_of}
use Rattle.cdk_premises.specs.WrittenLaws.{RootsAreRoots}
use Rattle.cdk_premises.proofs.ReadExpressions.{All, made, made_then}

abbrev IsRooted : Application → Type 0
IsRooted a = (construct_at (constructs_of a) 0).body ≡ construct.root

rooted : (d : Data) → All IsRooted (application_of d)
rooted d =
    made_then IsRooted root_in (as_object d)
    (λ ms. made_then IsRooted (λ h. option_map (construct.construct h construct.root) (children_in ms)) (head_in ms [])
    (λ h. made IsRooted (construct.construct h construct.root) (children_in ms) (λ cs. refl)))

pub roots_are_roots : RootsAreRoots
roots_are_roots d a is = subst (All IsRooted) is (rooted d)
