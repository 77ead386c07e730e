use Rattle.std.proofs.Common.{◌≡◌, btree_map_len, sym, ap, ◌∙◌, true≢false}
use Rattle.serde_json.specs.Data.{put}
use Rattle.serde_json.specs.View.{members_view}
use Rattle.serde_json.proofs.Views.{view-Object}
use Rattle.cdk_entries.proofs.ObjectLemmas.{put_some}
use Rattle.cdk_entries.proofs.members.put_object_unless_empty.Goals as goal

pub returns : goal.returns
returns c =
    let k = c.args.key.now in
    let ms = members_view c.args.members.now.entries in
    let some : btree_map_len c.args.inner ≡ 0 → ⊥ = λ none. true≢false (sym (c.is_empty.ensures.1 none) ∙ c.if-is_empty.false) in
    c.in_ok-put.ensures.ok ∙ ap (λ d. put k d ms) (view-Object c.args.inner) ∙ put_some k c.args.inner ms some
