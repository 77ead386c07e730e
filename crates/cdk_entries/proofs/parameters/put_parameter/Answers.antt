use Rattle.std.proofs.Common.{◌≡◌, Option, codes, ap, ◌∙◌}
use Rattle.std.proofs.lemmas.Result.{on_ok_weaker}
use Rattle.std.specs.Prelude.{option_map}
use Rattle.serde_json.specs.Data.{Data, no_members, object, put, string}
use Rattle.serde_json.specs.View.{members_view}
use Rattle.cdk_language.specs.Construct.{parameter_view}
use Rattle.cdk_entries.specs.Entries.{form_name, parameter_entry}
use Rattle.cdk_entries.specs.Members.{put_given}
use Rattle.cdk_entries.proofs.MemberLemmas.{parameter_put}
use Rattle.cdk_entries.proofs.parameters.put_parameter.Goals as goal

pub returns : goal.returns
returns c =
    let p = parameter_view c.args.parameter.now in
    let form = string (form_name p.form) in
    let description : Option Data = option_map string p.description in
    let default : Option Data = option_map string p.default in
    let m₁ = members_view c.put_text.new.members.entries in
    let m₂ = members_view c.put_text_given.new.members.entries in
    let m₃ = members_view c.put_text_given-2.new.members.entries in
    let e₁ : m₁ ≡ put (codes "Type") form no_members =
    c.in_ok-put_text.ensures ∙ ap (λ t. put (codes "Type") (string t) (members_view c.args.entry.now.entries)) c.form_name.ensures ∙ ap (put (codes "Type") form) c.requires.empty in
    let e₂ : m₂ ≡ put_given (codes "Description") description m₁ = c.in_ok-put_text_given.ensures in
    on_ok_weaker {P = m₃ ≡ put_given (codes "Default") default m₂} {Q = object m₃ ≡ parameter_entry p} c.put_text_given-2.result
    (λ e₃. ap object (parameter_put default description form e₁ e₂ e₃))
    c.put_text_given-2.ensures
