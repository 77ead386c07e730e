-- The files of an application come to what its construct tree means.
use Rattle.std.proofs.Common.{◌≡◌, true, None, Ok}
use Rattle.std.specs.Prelude.{codes}
use Rattle.cdk_elements.specs.Kinds.{stacks_of}
use Rattle.cdk_eval.specs.declared.role.Role.TheVariants.{Template, Manifest}
use Rattle.cdk_eval.specs.Reading.{document_at, path_in}
use Rattle.cdk_manifest.proofs.ToldStacks.{manifests_tell_stacks}
use Rattle.cdk_manifest.proofs.WholeManifest.{manifests_are_whole}
use Rattle.cdk_meaning.proofs.NameLists.{each_at, each_more}
use Rattle.cdk_premises.specs.MentionsLaws.{ConditionsAreFree}
use Rattle.cdk_premises.specs.RenderedLaws.{ValuesFit}
use Rattle.cdk_template.specs.Own.{spelling_of}
use Rattle.cdk_template.specs.Template.{template_of}
use Rattle.cdk_template.proofs.WholeTemplates.{templates_are_whole}
use Rattle.cdk_tree.specs.Placed.{construct_at, is_stack}
use Rattle.cdk_tree_meaning.specs.Law.{IsHeld, TreesKeepMeaning, manifest_document, template_name}
use Rattle.cdk_tree_meaning.proofs.Reading.{found_read, read_as_stacks}
use Rattle.cdk_tree_meaning.proofs.Told.{tree_agrees}
use Rattle.cdk_tree_meaning.proofs.Trees.{each_stack}
use Rattle.cdk_tree_meaning.proofs.Whole.{values_are_whole}

pub trees_keep_meaning_law : ValuesFit → ConditionsAreFree → TreesKeepMeaning
trees_keep_meaning_law fit free cs c files directory held =
    let whole = manifests_are_whole cs c.one c.named in
    let told = manifests_tell_stacks cs c.one c.named in
    let values = values_are_whole fit cs c in
    let are_stacks = each_stack cs (λ n. is_stack (construct_at cs n).body ≡ true) (λ n is. is) in
    let manifest = found_read files directory (Manifest true) (manifest_document cs) (path_in directory (codes "manifest.json")) held.manifest whole.canonical whole.shallow whole.formed in
    let templates = each_more
    (λ n. IsHeld files (path_in directory (template_name cs n)) (template_of cs (spelling_of cs) n))
    (λ n. document_at None files Template (path_in directory (template_name cs n)) ≡ Ok (template_of cs (spelling_of cs) n))
    (stacks_of cs)
    (λ n i h.
    let t = templates_are_whole cs n values c.named (each_at (λ n. is_stack (construct_at cs n).body ≡ true) n (stacks_of cs) are_stacks i) in
    found_read files directory Template (template_of cs (spelling_of cs) n) (path_in directory (template_name cs n)) h t.canonical t.shallow t.formed)
    held.templates in
    (read_as_stacks files directory cs (stacks_of cs) (manifest_document cs) c.one.few manifest told.stacks told.nested templates, λ v. tree_agrees free v cs c)
