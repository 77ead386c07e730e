use Rattle.std.proofs.Common.{◌≡◌, ap, sym, ◌∙◌}
use Rattle.serde_json.specs.View.{view}
use Rattle.cdk_language.specs.Construct as language
use Rattle.cdk_language.specs.Construct.{kind_view, resource_view}
use Rattle.cdk_tree.specs.Placed.{construct_at}
use Rattle.cdk_tree.specs.TreeView.{constructs}
use Rattle.cdk_manifest.specs.TreeFile.{resource_attributes}
use Rattle.cdk_manifest.proofs.TreeLemmas.{attributes-resource}
use Rattle.cdk_manifest.proofs.nodes.attributes.Goals as goal

pub returns : goal.returns
returns c value are =
    let cs = constructs c.args.tree.now in
    let r = resource_view c.in-Resource.resource in
    let body : language.resource r ≡ (construct_at cs c.args.at).body = ap kind_view (sym c.in-Resource.is) ∙ c.node.ensures.body in
    attributes-resource c.args.values.now value cs c.args.at r (view c.in_ok-attributes.attributes) are c.requires.within body
    (c.in_ok-attributes.ensures ∙ ap (λ d. resource_attributes d c.as_str-resource_type.result.now) c.value_of.ensures ∙ ap (resource_attributes _) c.as_str-resource_type.ensures)
