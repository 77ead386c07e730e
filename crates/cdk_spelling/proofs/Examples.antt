-- Worked spellings and parts of texts, by computation.
use Rattle.std.proofs.Common.{◌≡◌, List, [], ◌∷◌, codes, Some, None, refl}
use Rattle.std.specs.Fmt.{digits}
use Rattle.serde_json.specs.Data.{unsigned, Data, number, string, array, no_items, item}
use Rattle.cdk_homes.specs.Homes.{Entry}
use Rattle.cdk_homes.specs.declared.target.Home.TheVariants.{Local, Import, ImportList}
use Rattle.cdk_plain.specs.Rendered.{one, two, join_json, split_json, import_json, ref_json, attribute_json}
use Rattle.cdk_spelling.specs.Assembled.{assembled_items}
use Rattle.cdk_spelling.specs.Spelled.{homes_for}

-- ---- spellings

-- in stack 1 the bucket 2 and the condition 3 by their logical names; in stack 4 the bucket's attribute and the list 5 by exports
abbrev entries : List Entry
entries =
    record { consumer = 1; at = 2; attribute = None; name = codes "Bucket"; how = Local }
    ∷ record { consumer = 1; at = 3; attribute = None; name = codes "IsProd"; how = Local }
    ∷ record { consumer = 4; at = 2; attribute = Some (codes "Arn"); name = codes "Data:Arn"; how = Import }
    ∷ record { consumer = 4; at = 5; attribute = None; name = codes "Data:Names"; how = ImportList } ∷ []

own_stack : ref_json ((homes_for entries 1).target 2) ≡ one (codes "Ref") (string (codes "Bucket"))
own_stack = refl

condition : (homes_for entries 1).condition 3 ≡ codes "IsProd"
condition = refl

other_stack : attribute_json (codes "Arn") ((homes_for entries 4).attribute 2 (codes "Arn")) ≡ import_json (codes "Data:Arn")
other_stack = refl

-- an export's text is cut where it stands for a list
list_of_names : ref_json ((homes_for entries 4).target 5) ≡ split_json (codes "||") (import_json (codes "Data:Names"))
list_of_names = refl

-- never put for this stack
not_put : attribute_json (codes "Arn") ((homes_for entries 1).attribute 2 (codes "Arn")) ≡ one (codes "Fn::GetAtt") (two (string []) (string (codes "Arn")))
not_put = refl

no_mapping : (homes_for entries 4).mapping 3 ≡ []
no_mapping = refl

-- ---- parts of a text

abbrev bucket : Data
bucket = one (codes "Ref") (string (codes "Bucket"))

no_part : assembled_items no_items ≡ string []
no_part = refl

-- a part alone is no text: it stays what it is
one_number : assembled_items (item (number (unsigned 5)) no_items) ≡ number (unsigned 5)
one_number = refl

one_reference : assembled_items (item bucket no_items) ≡ bucket
one_reference = refl

literals_meet : assembled_items (item (string (codes "port-")) (item (number (unsigned 80)) no_items)) ≡ string (codes "port-80")
unfolding digits
literals_meet = refl

-- the items of a join of the empty delimiter meet the texts around it
join_gives_way :
    assembled_items (item (string (codes "a")) (item (join_json [] (array (item (string (codes "b")) (item bucket no_items)))) (item (string []) no_items)))
    ≡ join_json [] (array (item (string (codes "ab")) (item bucket no_items)))
join_gives_way = refl

-- of another delimiter it is a part
join_of_commas : assembled_items (item (string (codes "a")) (item (join_json (codes ",") (array (item (string (codes "b")) no_items))) no_items))
    ≡ join_json [] (array (item (string (codes "a")) (item (join_json (codes ",") (array (item (string (codes "b")) no_items))) no_items)))
join_of_commas = refl
