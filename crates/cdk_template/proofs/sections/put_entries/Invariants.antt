use Rattle.std.proofs.Common.{◌≡◌, ◌-◌, length}
use Rattle.std.specs.List.{range_with_len}
use Rattle.serde_json.specs.View.{members_view}
use Rattle.cdk_template.specs.Entries.{has_kind}
use Rattle.cdk_template.specs.Own.{spelling_of}
use Rattle.cdk_template.specs.Sources.{RendersOwn, constructs_in}
use Rattle.cdk_template.specs.Template.{section_of}
use Rattle.cdk_template.proofs.EntryLemmas.{put_in}
use Rattle.cdk_template.proofs.sections.put_entries.Given as goal

abbrev pub invariant-loop-number : goal.invariant-loop-number
invariant-loop-number l =
    let cs = constructs_in l.sources in
    let s = spelling_of cs in
    let kind = has_kind l.section in
    record { filled : section_of cs s l.stack kind ≡ put_in cs s l.stack kind (range_with_len l.number (length cs - l.number)) (members_view l.entries.entries); kept : RendersOwn cs l.kept }
