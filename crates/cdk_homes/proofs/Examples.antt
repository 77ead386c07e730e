-- Small lists of entries: what is spelled, and what a new entry changes.
use Rattle.std.proofs.Common.{◌≡◌, List, [], ◌∷◌, ◌++◌, codes, Some, None, refl, arith}
use Rattle.cdk_homes.specs.Homes.{Entry, spelled}
use Rattle.cdk_homes.specs.declared.target.Home.TheVariants.{Local, Import, ImportList}
use Rattle.cdk_homes.proofs.EntryLemmas.{others_keep_theirs, put_is_spelled}

-- in stack 1 the bucket 2 by its logical name; in stack 4 the bucket and its attribute by exports
abbrev three : List Entry
three =
    record { consumer = 1; at = 2; attribute = None; name = codes "Bucket"; how = Local }
    ∷ record { consumer = 4; at = 2; attribute = None; name = codes "Data:Bucket"; how = Import }
    ∷ record { consumer = 4; at = 2; attribute = Some (codes "Arn"); name = codes "Data:BucketArn"; how = Import } ∷ []

abbrev names : Entry
names = record { consumer = 4; at = 3; attribute = None; name = codes "Data:Names"; how = ImportList }

-- each consumer has its own spelling, and an attribute another than its resource
own_stack : spelled three 1 2 None ≡ Some (codes "Bucket", Local)
own_stack = refl

other_stack : spelled three 4 2 None ≡ Some (codes "Data:Bucket", Import)
other_stack = refl

attribute : spelled three 4 2 (Some (codes "Arn")) ≡ Some (codes "Data:BucketArn", Import)
attribute = refl

-- not put: the attribute in the own stack, another attribute, another target
no_attribute : spelled three 1 2 (Some (codes "Arn")) ≡ None
no_attribute = refl

other_attribute : spelled three 4 2 (Some (codes "Name")) ≡ None
other_attribute = refl

not_yet : spelled three 4 3 None ≡ None
not_yet = refl

-- the law at a new entry: its pair is spelled so, and another target of the consumer keeps its spelling
put_list : spelled (three ++ names ∷ []) 4 3 None ≡ Some (codes "Data:Names", ImportList)
put_list = put_is_spelled three names refl

kept_attribute : spelled (three ++ names ∷ []) 4 2 (Some (codes "Arn")) ≡ Some (codes "Data:BucketArn", Import)
kept_attribute = others_keep_theirs three names 4 2 (Some (codes "Arn")) (λ same. omega (arith, same.1))

-- and the same target stays without one in another consumer
none_elsewhere : spelled (three ++ names ∷ []) 1 3 None ≡ None
none_elsewhere = others_keep_theirs three names 1 3 None (λ same. omega (arith, same.0))
