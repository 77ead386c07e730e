-- What is told of the values of a tree.
use Rattle.std.specs.Prelude.{◌≡◌, List, [], ◌∷◌, Result, Ok, Err}
use Rattle.cdk_base.specs.declared.fault.Fault.{Fault}
use Rattle.cdk_language.specs.declared.finding.Finding.{Finding}
use Rattle.cdk_sizes.specs.SizeFindings.{size_findings}
use Rattle.cdk_tokens.specs.Token.{Token}
use Rattle.cdk_tokens.specs.Whole.{MarkedBody}
use Rattle.cdk_tree.specs.Placed.{Placed}
use Rattle.cdk_values.specs.Findings.{value_findings}
use Rattle.cdk_passes.specs.Faults.{IsFaultOf, first_of, told}

-- what is wrong with values, and then which grow too large or too deep
abbrev pub values_and_sizes : List Placed → List Token → List MarkedBody → List (List Finding)
values_and_sizes cs ts ms = told cs (value_findings ts ms cs) ∷ told cs (size_findings cs ts ms) ∷ []

-- nothing is found, or the first fault
abbrev pub ChecksValuesAndSizes : List Placed → List Token → List MarkedBody → Result (Unit {0}) Fault → Type 0
ChecksValuesAndSizes cs ts ms (Ok u) = (value_findings ts ms cs ≡ []) × (size_findings cs ts ms ≡ [])
ChecksValuesAndSizes cs ts ms (Err fault) = IsFaultOf (first_of (values_and_sizes cs ts ms)) fault
