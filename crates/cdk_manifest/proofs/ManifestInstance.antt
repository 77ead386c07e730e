-- The laws of manifests at an application: a bucket, a parameter and an output in a stack in a group.
use Rattle.std.proofs.Common.{◌≡◌, ℕ, List, [], ◌∷◌, codes, Some, None, refl, arith}
use Rattle.serde_json.specs.Data.{Data, no_members}
use Rattle.md5.specs.Md5.{block_words, rounds, compress, hash_after, digest_bytes, md5}
use Rattle.cdk_elements.specs.OneStack.{AreOneStack}
use Rattle.cdk_eval.specs.Manifest as evaluated
use Rattle.cdk_language.specs.Construct as language
use Rattle.cdk_language.specs.Construct.{Head}
use Rattle.cdk_language.specs.Expression as expressions
use Rattle.cdk_language.specs.declared.construct.ParameterForm.TheVariants as forms
use Rattle.cdk_stacks.specs.Claims.{name_findings}
use Rattle.cdk_tree.specs.Placed.{Placed, constructs_of}
use Rattle.cdk_manifest.specs.Manifest.{manifest_of, telling_of}
use Rattle.cdk_manifest.specs.ManifestLaws.{IsWholeManifest}
use Rattle.cdk_manifest.proofs.ToldStacks.{manifests_tell_stacks}
use Rattle.cdk_manifest.proofs.WholeManifest.{manifests_are_whole}

abbrev named : List ℕ → Head
named id = record { id = id; context = no_members; aspects = []; depends = []; logical = None }

abbrev bucket : language.Construct
bucket = language.construct (named (codes "Bucket")) (language.resource (record {
  resource_type = codes "AWS::S3::Bucket";
  properties = expressions.object (expressions.field (codes "BucketName") (expressions.text (codes "logs")) expressions.no_fields);
  condition = None;
  deletion = None;
  replace = None;
})) language.no_constructs

abbrev size : language.Construct
size = language.construct (named (codes "Size")) (language.parameter (record { form = forms.Number; default = Some (codes "3"); description = None })) language.no_constructs

abbrev name : language.Construct
name = language.construct (named (codes "Name")) (language.output (record { value = expressions.ref (codes "Core/S/Bucket"); description = None; export = None; condition = None })) language.no_constructs

abbrev core : language.Construct
core = language.construct (named (codes "S")) (language.stack None) (language.child bucket (language.child size (language.child name language.no_constructs)))

abbrev around : List ℕ → language.Body → language.Construct → language.Construct
around id body inner = language.construct (named id) body (language.child inner language.no_constructs)

abbrev constructs : List Placed
constructs = constructs_of (around [] language.root (around (codes "Core") language.group core))

are_one_stack : AreOneStack constructs
are_one_stack = record { alone = refl; staged = (refl, (refl, (refl, (refl, (refl, (refl, tt)))))); few = omega arith }

nothing_wrong : name_findings constructs ≡ []
unfolding block_words rounds compress hash_after digest_bytes md5
nothing_wrong = refl

abbrev manifest : Data
manifest = manifest_of constructs (telling_of constructs) 0

manifest_is_whole : IsWholeManifest manifest
manifest_is_whole = manifests_are_whole constructs are_one_stack nothing_wrong

-- the artifact id ends in the first digits of the MD5 of `Core/S`
stack_is_told : evaluated.stacks_of manifest ≡ record { id = codes "CoreS443BCBA0"; name = codes "S"; file = codes "CoreS443BCBA0.template.json"; dependencies = [] } ∷ []
unfolding block_words rounds compress hash_after digest_bytes md5
stack_is_told = (manifests_tell_stacks constructs are_one_stack nothing_wrong).stacks
