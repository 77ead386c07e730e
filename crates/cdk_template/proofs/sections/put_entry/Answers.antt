use Rattle.std.proofs.Common.{◌≡◌, true, sym, ap, ◌∙◌}
use Rattle.std.proofs.lemmas.Result.{on_ok_weaker}
use Rattle.serde_json.specs.Data.{put}
use Rattle.serde_json.specs.View.{members_view, view}
use Rattle.cdk_elements.specs.Elements.{logical_of}
use Rattle.cdk_elements.specs.Kinds.{is_in}
use Rattle.cdk_entries.specs.Naming as naming
use Rattle.cdk_template.specs.Entries.{has_kind, with_entry}
use Rattle.cdk_template.specs.Own.{spelling_of}
use Rattle.cdk_template.specs.Sources.{constructs_in}
use Rattle.cdk_template.proofs.EntryLemmas.{own_entry}
use Rattle.cdk_template.proofs.sections.put_entry.Goals as goal
use Rattle.cdk_tree.specs.Placed.{construct_at}

pub returns-clause-entries : goal.returns-clause-entries
returns-clause-entries c =
    let cs = constructs_in c.args.sources.now in
    let s = spelling_of cs in
    let n = c.args.at in
    let stack = c.args.stack in
    let kind = has_kind c.args.section in
    let ms = members_view c.args.entries.now.entries in
    let new = members_view c.put_named.new.entries.entries in
    let entry = view c.in_ok-entry.entry in
    let inside : is_in stack (construct_at cs n).stack ≡ true = sym c.if-not-is_in.ensures in
    let held : kind (construct_at cs n).body ≡ true = sym (c.if-not-holds.ensures ∙ ap kind c.node.ensures.body) in
    let same : naming.constructs_in c.named.result ≡ cs = ap naming.constructs_in c.named.ensures in
    on_ok_weaker {P = new ≡ put (logical_of (naming.constructs_in c.named.result) n) entry ms} {Q = new ≡ with_entry cs s stack kind n ms} c.put_named.result
    (λ puts. puts ∙ ap (λ ds. put (logical_of ds n) entry ms) same ∙ ap (λ d. put (logical_of cs n) d ms) c.in_ok-entry.ensures.value ∙ own_entry cs s stack kind n ms inside held)
    c.put_named.ensures
