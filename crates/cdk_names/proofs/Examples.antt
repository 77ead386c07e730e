-- Names that are known, computed by the definitions.
use Rattle.std.proofs.Common.{◌≡◌, [], ◌∷◌, ◌++◌, replicate, codes, Some, None, true, false, refl}
use Rattle.md5.specs.Md5.{block_words, rounds, compress, hash_after, digest_bytes, md5}
use Rattle.cdk_names.specs.Names.{unique_id}
use Rattle.cdk_names.specs.Forms.{export_name, is_logical, is_stack_name}

pub my_bucket : unique_id (codes "MyBucket" ∷ codes "Resource" ∷ []) ≡ Some (codes "MyBucketF68F3FF0")
unfolding block_words rounds compress hash_after digest_bytes md5
my_bucket = refl

pub bucket : unique_id (codes "Bucket" ∷ codes "Resource" ∷ []) ≡ Some (codes "Bucket83908E77")
unfolding block_words rounds compress hash_after digest_bytes md5
bucket = refl

-- `Bar` ends `FooBar`, so the human part has it once
pub repeated : unique_id (codes "FooBar" ∷ codes "Bar" ∷ []) ≡ Some (codes "FooBarAF11DA55")
unfolding block_words rounds compress hash_after digest_bytes md5
repeated = refl

-- the hash is of `A/B`
pub default_not_hashed : unique_id (codes "A" ∷ codes "Default" ∷ codes "B" ∷ []) ≡ Some (codes "ABE649FC2C")
unfolding block_words rounds compress hash_after digest_bytes md5
default_not_hashed = refl

pub letters_alone : unique_id (codes "A-B" ∷ []) ≡ Some (codes "AB")
letters_alone = refl

pub default_dropped : unique_id (codes "Default" ∷ codes "A" ∷ []) ≡ Some (codes "A")
default_dropped = refl

pub nothing_left : unique_id (codes "Default" ∷ []) ≡ None
nothing_left = refl

pub no_components : unique_id [] ≡ None
no_components = refl

pub empty_name : unique_id (codes "-" ∷ []) ≡ Some []
empty_name = refl

pub longest : unique_id (replicate 255 65 ∷ []) ≡ Some (replicate 255 65)
longest = refl

pub too_long : unique_id (replicate 256 65 ∷ []) ≡ Some (replicate 240 65 ++ codes "B3EFB0EB")
unfolding block_words rounds compress hash_after digest_bytes md5
too_long = refl

-- the human part may be empty, so that the name is the hash, of `-/--`
pub no_human_part : unique_id (codes "-" ∷ codes "--" ∷ []) ≡ Some (codes "ADB21D13")
unfolding block_words rounds compress hash_after digest_bytes md5
no_human_part = refl

-- the output of a generated export
pub generated_output : unique_id (codes "Exports" ∷ codes "Output{\"Fn::GetAtt\":[\"Bucket\",\"Arn\"]}" ∷ []) ≡ Some (codes "ExportsOutputFnGetAttBucketArn436138FE")
unfolding block_words rounds compress hash_after digest_bytes md5
generated_output = refl

-- ---- exports

pub whole_export : export_name (codes "Data") (codes "ExportsOutputRefQ") ≡ codes "Data:ExportsOutputRefQ"
whole_export = refl

pub export_that_just_fits : export_name (replicate 128 83) (codes "A" ++ replicate 125 66) ≡ replicate 128 83 ++ codes ":A" ++ replicate 125 66
export_that_just_fits = refl

-- the `A` at the left is cut off
pub export_that_is_cut : export_name (replicate 128 83) (codes "A" ++ replicate 126 66) ≡ replicate 128 83 ++ codes ":" ++ replicate 126 66
export_that_is_cut = refl

-- ---- forms

pub logical_name : is_logical (codes "MyBucketF68F3FF0") ≡ true
logical_name = refl

pub no_logical_name : is_logical [] ≡ false
no_logical_name = refl

pub digit_first : is_logical (codes "1A") ≡ false
digit_first = refl

pub dash_in_logical_name : is_logical (codes "A-B") ≡ false
dash_in_logical_name = refl

pub logical_name_limit : is_logical (replicate 255 65) ≡ true
logical_name_limit = refl

pub logical_name_over : is_logical (replicate 256 65) ≡ false
logical_name_over = refl

pub stack_name : is_stack_name (codes "Prod-Api2") ≡ true
stack_name = refl

pub dash_first : is_stack_name (codes "-A") ≡ false
dash_first = refl

pub stack_name_limit : is_stack_name (replicate 128 65) ≡ true
stack_name_limit = refl

pub stack_name_over : is_stack_name (replicate 129 65) ≡ false
stack_name_over = refl
