-- Small applications: their manifests and tree files, as JSON values computed by the definitions.
use Rattle.std.proofs.Common.{◌≡◌, ℕ, List, codes, Option, option_map, option_and_then, refl}
use Rattle.std.specs.Fmt.{digits}
use Rattle.serde_json.specs.Data.{Data, null, string, object, Members, no_members, put}
use Rattle.serde_json.specs.Read.{read}
use Rattle.serde_json.proofs.OnLiterals.{serde_json_on_literals}
use Rattle.md5.specs.Md5.{block_words, rounds, compress, hash_after, digest_bytes, md5}
use Rattle.cdk_language.specs.Application.{application_of}
use Rattle.cdk_language.specs.Construct.{Application}
use Rattle.cdk_language.specs.Expression as expressions
use Rattle.cdk_language.specs.Expression.{Expression, Fields}
use Rattle.cdk_tree.specs.Placed.{constructs_of}
use Rattle.cdk_manifest.specs.Manifest.{manifest_of, telling_of}
use Rattle.cdk_manifest.specs.TreeFile.{tree_file_of}

-- texts and objects of them
abbrev mutual
  pub text_value : Expression → Data
  text_value (expressions.text t) = string t
  text_value (expressions.object fs) = object (text_fields fs)
  text_value e = null

  text_fields : Fields → Members
  text_fields expressions.no_fields = no_members
  text_fields (expressions.field k e fs) = put k (text_value e) (text_fields fs)

abbrev application : List ℕ → Option Application
application s = option_and_then application_of (read s)

abbrev manifest_at : List ℕ → ℕ → Option Data
manifest_at s stage = option_map (λ a. manifest_of (constructs_of a) (telling_of (constructs_of a)) stage) (application s)

abbrev tree_file_in : List ℕ → Option Data
tree_file_in s = option_map (tree_file_of (λ n. text_value)) (application s)

-- the bucket's application
bucket_manifest : manifest_at (codes "{\"app\":\"1\",\"children\":[{\"kind\":\"stack\",\"id\":\"S\",\"children\":[{\"kind\":\"resource\",\"id\":\"Bucket\",\"type\":\"AWS::S3::Bucket\",\"properties\":{\"BucketName\":\"logs\"}}]}]}") 0
    ≡ read (codes "{\"artifacts\":{\"S\":{\"dependencies\":[],\"displayName\":\"S\",\"environment\":\"aws://unknown-account/unknown-region\",\"metadata\":{\"/S/Bucket\":[{\"data\":\"Bucket\",\"type\":\"aws:cdk:logicalId\"}]},\"properties\":{\"stackName\":\"S\",\"templateFile\":\"S.template.json\"},\"type\":\"aws:cloudformation:stack\"},\"Tree\":{\"properties\":{\"file\":\"tree.json\"},\"type\":\"cdk:tree\"}},\"version\":\"36.0.0\"}")
unfolding serde_json_on_literals digits
bucket_manifest = refl

-- its tree file
bucket_tree : tree_file_in (codes "{\"app\":\"1\",\"children\":[{\"kind\":\"stack\",\"id\":\"S\",\"children\":[{\"kind\":\"resource\",\"id\":\"Bucket\",\"type\":\"AWS::S3::Bucket\",\"properties\":{\"BucketName\":\"logs\"}}]}]}")
    ≡ read (codes "{\"tree\":{\"children\":{\"S\":{\"children\":{\"Bucket\":{\"attributes\":{\"aws:cdk:cloudformation:props\":{\"BucketName\":\"logs\"},\"aws:cdk:cloudformation:type\":\"AWS::S3::Bucket\"},\"id\":\"Bucket\",\"path\":\"S/Bucket\"}},\"id\":\"S\",\"path\":\"S\"}},\"id\":\"App\",\"path\":\"\"},\"version\":\"tree-0.1\"}")
unfolding serde_json_on_literals digits
bucket_tree = refl

-- an application without constructs
empty_manifest : manifest_at (codes "{\"app\":\"2\",\"children\":[]}") 0
    ≡ read (codes "{\"artifacts\":{\"Tree\":{\"properties\":{\"file\":\"tree.json\"},\"type\":\"cdk:tree\"}},\"version\":\"36.0.0\"}")
unfolding serde_json_on_literals digits
empty_manifest = refl

-- its root alone
empty_tree : tree_file_in (codes "{\"app\":\"2\",\"children\":[]}")
    ≡ read (codes "{\"tree\":{\"id\":\"App\",\"path\":\"\"},\"version\":\"tree-0.1\"}")
unfolding serde_json_on_literals digits
empty_tree = refl

-- keys are whole paths, groups and lazies are no elements, a kept name stays
inner_manifest : manifest_at (codes "{\"app\":\"2\",\"children\":[{\"kind\":\"stack\",\"id\":\"S\",\"children\":[{\"kind\":\"resource\",\"id\":\"Z\",\"type\":\"T::Z\",\"properties\":{}},{\"kind\":\"group\",\"id\":\"G\",\"children\":[{\"kind\":\"resource\",\"id\":\"A\",\"type\":\"T::A\",\"properties\":{\"N\":\"v\"},\"logicalId\":\"Kept\"},{\"kind\":\"lazy\",\"id\":\"L\",\"value\":\"x\"}]},{\"kind\":\"parameter\",\"id\":\"P\",\"type\":\"String\"}]},{\"kind\":\"group\",\"id\":\"Empty\",\"children\":[]}]}") 0
    ≡ read (codes "{\"artifacts\":{\"S\":{\"dependencies\":[],\"displayName\":\"S\",\"environment\":\"aws://unknown-account/unknown-region\",\"metadata\":{\"/S/G/A\":[{\"data\":\"Kept\",\"type\":\"aws:cdk:logicalId\"}],\"/S/P\":[{\"data\":\"P\",\"type\":\"aws:cdk:logicalId\"}],\"/S/Z\":[{\"data\":\"Z\",\"type\":\"aws:cdk:logicalId\"}]},\"properties\":{\"stackName\":\"S\",\"templateFile\":\"S.template.json\"},\"type\":\"aws:cloudformation:stack\"},\"Tree\":{\"properties\":{\"file\":\"tree.json\"},\"type\":\"cdk:tree\"}},\"version\":\"36.0.0\"}")
unfolding serde_json_on_literals digits
inner_manifest = refl

-- an element of each kind
kinds_manifest : manifest_at (codes "{\"app\":\"2\",\"children\":[{\"kind\":\"stack\",\"id\":\"S\",\"children\":[{\"kind\":\"resource\",\"id\":\"R\",\"type\":\"T\"},{\"kind\":\"parameter\",\"id\":\"P\",\"type\":\"String\"},{\"kind\":\"condition\",\"id\":\"C\",\"expression\":{\"Fn::Equals\":[\"a\",{\"Ref\":\"S/P\"}]}},{\"kind\":\"mapping\",\"id\":\"M\",\"mappings\":{\"r\":{\"c\":\"v\"}}},{\"kind\":\"output\",\"id\":\"O\",\"value\":{\"Ref\":\"S/R\"}},{\"kind\":\"lazy\",\"id\":\"L\",\"value\":\"x\"}]}]}") 0
    ≡ read (codes "{\"artifacts\":{\"S\":{\"dependencies\":[],\"displayName\":\"S\",\"environment\":\"aws://unknown-account/unknown-region\",\"metadata\":{\"/S/C\":[{\"data\":\"C\",\"type\":\"aws:cdk:logicalId\"}],\"/S/M\":[{\"data\":\"M\",\"type\":\"aws:cdk:logicalId\"}],\"/S/O\":[{\"data\":\"O\",\"type\":\"aws:cdk:logicalId\"}],\"/S/P\":[{\"data\":\"P\",\"type\":\"aws:cdk:logicalId\"}],\"/S/R\":[{\"data\":\"R\",\"type\":\"aws:cdk:logicalId\"}]},\"properties\":{\"stackName\":\"S\",\"templateFile\":\"S.template.json\"},\"type\":\"aws:cloudformation:stack\"},\"Tree\":{\"properties\":{\"file\":\"tree.json\"},\"type\":\"cdk:tree\"}},\"version\":\"36.0.0\"}")
unfolding serde_json_on_literals digits
kinds_manifest = refl

-- every construct has a node, children stand by their ids
inner_tree : tree_file_in (codes "{\"app\":\"2\",\"children\":[{\"kind\":\"stack\",\"id\":\"S\",\"children\":[{\"kind\":\"resource\",\"id\":\"Z\",\"type\":\"T::Z\",\"properties\":{}},{\"kind\":\"group\",\"id\":\"G\",\"children\":[{\"kind\":\"resource\",\"id\":\"A\",\"type\":\"T::A\",\"properties\":{\"N\":\"v\"},\"logicalId\":\"Kept\"},{\"kind\":\"lazy\",\"id\":\"L\",\"value\":\"x\"}]},{\"kind\":\"parameter\",\"id\":\"P\",\"type\":\"String\"}]},{\"kind\":\"group\",\"id\":\"Empty\",\"children\":[]}]}")
    ≡ read (codes "{\"tree\":{\"children\":{\"Empty\":{\"id\":\"Empty\",\"path\":\"Empty\"},\"S\":{\"children\":{\"G\":{\"children\":{\"A\":{\"attributes\":{\"aws:cdk:cloudformation:props\":{\"N\":\"v\"},\"aws:cdk:cloudformation:type\":\"T::A\"},\"id\":\"A\",\"path\":\"S/G/A\"},\"L\":{\"id\":\"L\",\"path\":\"S/G/L\"}},\"id\":\"G\",\"path\":\"S/G\"},\"P\":{\"id\":\"P\",\"path\":\"S/P\"},\"Z\":{\"attributes\":{\"aws:cdk:cloudformation:props\":{},\"aws:cdk:cloudformation:type\":\"T::Z\"},\"id\":\"Z\",\"path\":\"S/Z\"}},\"id\":\"S\",\"path\":\"S\"}},\"id\":\"App\",\"path\":\"\"},\"version\":\"tree-0.1\"}")
unfolding serde_json_on_literals digits
inner_tree = refl

-- a stage is a nested assembly, and its stacks stand there
root_of_staged : manifest_at (codes "{\"app\":\"2\",\"children\":[{\"kind\":\"stage\",\"id\":\"G\",\"children\":[{\"kind\":\"stack\",\"id\":\"X\",\"children\":[{\"kind\":\"resource\",\"id\":\"R\",\"type\":\"T\",\"properties\":{}}]}]},{\"kind\":\"stack\",\"id\":\"S\",\"children\":[]}]}") 0
    ≡ read (codes "{\"artifacts\":{\"S\":{\"dependencies\":[],\"displayName\":\"S\",\"environment\":\"aws://unknown-account/unknown-region\",\"metadata\":{},\"properties\":{\"stackName\":\"S\",\"templateFile\":\"S.template.json\"},\"type\":\"aws:cloudformation:stack\"},\"Tree\":{\"properties\":{\"file\":\"tree.json\"},\"type\":\"cdk:tree\"},\"assembly-G\":{\"properties\":{\"directoryName\":\"assembly-G\"},\"type\":\"cdk:cloud-assembly\"}},\"version\":\"36.0.0\"}")
unfolding serde_json_on_literals digits block_words rounds compress hash_after digest_bytes md5
root_of_staged = refl

-- in the stage's own assembly there is no tree file; the artifact id ends in the first digits of the MD5 of `G/X`
of_a_stage : manifest_at (codes "{\"app\":\"2\",\"children\":[{\"kind\":\"stage\",\"id\":\"G\",\"children\":[{\"kind\":\"stack\",\"id\":\"X\",\"children\":[{\"kind\":\"resource\",\"id\":\"R\",\"type\":\"T\",\"properties\":{}}]}]},{\"kind\":\"stack\",\"id\":\"S\",\"children\":[]}]}") 1
    ≡ read (codes "{\"artifacts\":{\"GX0E598EA5\":{\"dependencies\":[],\"displayName\":\"G/X\",\"environment\":\"aws://unknown-account/unknown-region\",\"metadata\":{\"/G/X/R\":[{\"data\":\"R\",\"type\":\"aws:cdk:logicalId\"}]},\"properties\":{\"stackName\":\"G-X\",\"templateFile\":\"GX0E598EA5.template.json\"},\"type\":\"aws:cloudformation:stack\"}},\"version\":\"36.0.0\"}")
unfolding serde_json_on_literals digits block_words rounds compress hash_after digest_bytes md5
of_a_stage = refl

-- the tree goes through stages
staged_tree : tree_file_in (codes "{\"app\":\"2\",\"children\":[{\"kind\":\"stage\",\"id\":\"G\",\"children\":[{\"kind\":\"stack\",\"id\":\"X\",\"children\":[{\"kind\":\"resource\",\"id\":\"R\",\"type\":\"T\",\"properties\":{}}]}]},{\"kind\":\"stack\",\"id\":\"S\",\"children\":[]}]}")
    ≡ read (codes "{\"tree\":{\"children\":{\"G\":{\"children\":{\"X\":{\"children\":{\"R\":{\"attributes\":{\"aws:cdk:cloudformation:props\":{},\"aws:cdk:cloudformation:type\":\"T\"},\"id\":\"R\",\"path\":\"G/X/R\"}},\"id\":\"X\",\"path\":\"G/X\"}},\"id\":\"G\",\"path\":\"G\"},\"S\":{\"id\":\"S\",\"path\":\"S\"}},\"id\":\"App\",\"path\":\"\"},\"version\":\"tree-0.1\"}")
unfolding serde_json_on_literals digits
staged_tree = refl
