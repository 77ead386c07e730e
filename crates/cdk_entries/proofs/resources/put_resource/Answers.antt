use Rattle.std.proofs.Common.{◌≡◌, Option, codes, ap, ◌∙◌}
use Rattle.std.proofs.lemmas.Result.{on_ok_weaker}
use Rattle.std.specs.Prelude.{option_map}
use Rattle.serde_json.specs.Data.{Data, no_members, put, string}
use Rattle.serde_json.specs.View.{members_view, view}
use Rattle.cdk_language.specs.Construct.{resource_view}
use Rattle.cdk_entries.specs.Naming.{constructs_in, named_at}
use Rattle.cdk_entries.specs.Entries.{path_metadata, policy_name, resource_with}
use Rattle.cdk_entries.specs.Members.{members_of, put_given, unless_empty}
use Rattle.cdk_entries.proofs.MemberLemmas.{resource_put}
use Rattle.cdk_entries.proofs.resources.put_resource.Goals as goal
use Rattle.cdk_tree.specs.Placed.{construct_at}

pub returns : goal.returns
returns c =
    let cs = constructs_in c.args.named.now in
    let r = resource_view c.args.resource.now in
    let path = (construct_at cs c.args.at).path in
    let condition : Option Data = option_map (λ t. string (named_at cs t)) r.condition in
    let deletion : Option Data = option_map (λ p. string (policy_name p)) r.deletion in
    let replace : Option Data = option_map (λ p. string (policy_name p)) r.replace in
    let properties : Option Data = unless_empty (members_of (view c.args.properties)) in
    let m₁ = members_view c.put_members_of.new.members.entries in
    let m₂ = members_view c.put_policy.new.members.entries in
    let m₃ = members_view c.put_text.new.members.entries in
    let m₄ = members_view c.put_object_of_text.new.members.entries in
    let m₅ = members_view c.put_policy-2.new.members.entries in
    let m₆ = members_view c.put_condition.new.members.entries in
    let e₁ : m₁ ≡ put_given (codes "Properties") properties no_members = c.in_ok-put_members_of.ensures ∙ ap (put_given (codes "Properties") properties) c.requires.empty in
    let e₂ : m₂ ≡ put_given (codes "UpdateReplacePolicy") replace m₁ = c.in_ok-put_policy.ensures in
    let e₃ : m₃ ≡ put (codes "Type") (string r.resource_type) m₂ = c.in_ok-put_text.ensures ∙ ap (λ t. put (codes "Type") (string t) m₂) c.as_str.ensures in
    let e₄ : m₄ ≡ put (codes "Metadata") (path_metadata path) m₃ = c.in_ok-put_object_of_text.ensures ∙ ap (λ t. put (codes "Metadata") (path_metadata t) m₃) c.path_of-path.ensures in
    let e₅ : m₅ ≡ put_given (codes "DeletionPolicy") deletion m₄ = c.in_ok-put_policy-2.ensures in
    on_ok_weaker {P = m₆ ≡ put_given (codes "Condition") condition m₅} {Q = m₆ ≡ resource_with (named_at cs) path r (view c.args.properties)} c.put_condition.result
    (λ e₆. resource_put condition deletion properties replace (path_metadata path) (string r.resource_type) e₁ e₂ e₃ e₄ e₅ e₆)
    c.put_condition.ensures
