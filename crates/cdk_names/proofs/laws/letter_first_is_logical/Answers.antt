use Rattle.cdk_names.proofs.FormLaws.{letter_first_lem}
use Rattle.cdk_names.proofs.laws.letter_first_is_logical.Goals as goal

pub returns : goal.returns
returns c = letter_first_lem
