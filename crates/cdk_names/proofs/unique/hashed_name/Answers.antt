use Rattle.cdk_names.proofs.Parts.{length_taken}
use Rattle.cdk_names.proofs.unique.hashed_name.Goals as goal

pub push_hash-requires : goal.push_hash-requires
push_hash-requires c = length_taken 240 _ _ c.push_human.ensures
