use Rattle.std.proofs.Common.{◌≡◌, ℕ, List, codes, sym, ap, ◌∙◌}
use Rattle.std.proofs.lemmas.Result.{on_ok_weaker}
use Rattle.std.specs.Prelude.{option_map}
use Rattle.serde_json.specs.Data.{Data, put, string}
use Rattle.serde_json.specs.View.{members_view}
use Rattle.cdk_elements.specs.Elements.{logical_of}
use Rattle.cdk_entries.specs.Members.{put_given}
use Rattle.cdk_entries.specs.Naming.{constructs_in, named_at}
use Rattle.cdk_entries.proofs.naming.put_condition.Goals as goal
use Rattle.cdk_tokens.specs.Marking.{target}

pub returns : goal.returns
returns c =
    let cs = constructs_in c.args.named.now in
    let ms = members_view c.args.members.now.entries in
    let new = members_view c.put_text.new.members.entries in
    let name = c.logical_name-name.result.now in
    let named : List ℕ → Data = λ t. string (named_at cs t) in
    let is_named : string name ≡ string (logical_of cs (target cs c.in-Some.path)) = ap string (c.logical_name-name.ensures ∙ ap (logical_of cs) (c.target-condition.ensures ∙ ap (target cs) c.as_str.ensures)) in
    on_ok_weaker {P = new ≡ put (codes "Condition") (string name) ms} {Q = new ≡ put_given (codes "Condition") (option_map named c.args.path.now) ms} c.put_text.result
    (λ puts. puts ∙ ap (λ d. put (codes "Condition") d ms) is_named ∙ ap (λ o. put_given (codes "Condition") (option_map named o) ms) (sym c.in-Some.is))
    c.put_text.ensures
