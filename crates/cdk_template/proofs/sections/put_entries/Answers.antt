use Rattle.std.proofs.Common.{◌≡◌, ◌<◌, ◌+◌, ◌-◌, length, sym, ap, ◌∙◌, arith}
use Rattle.std.specs.Prelude.{nat_lt}
use Rattle.std.specs.List.{range_with_len}
use Rattle.serde_json.specs.Data.{no_members}
use Rattle.serde_json.specs.View.{members_view}
use Rattle.cdk_stacks.proofs.Tests.{range_rest}
use Rattle.cdk_stacks.proofs.Within.{id_is}
use Rattle.cdk_template.specs.Entries.{has_kind, with_entry}
use Rattle.cdk_template.specs.Own.{spelling_of}
use Rattle.cdk_template.specs.Sources.{constructs_in}
use Rattle.cdk_template.proofs.EntryLemmas.{filled_more, put_in}
use Rattle.cdk_template.proofs.sections.put_entries.Goals as goal

pub loop-number-init : goal.loop-number-init
loop-number-init c =
    let cs = constructs_in c.args.sources.now in
    let s = spelling_of cs in
    let stack = c.args.stack in
    let kind = has_kind c.args.section in
    let all : length cs ≡ length cs - 0 = omega arith in
    record {
      filled = ap (λ k. put_in cs s stack kind (range_with_len 0 k) no_members) all ∙ ap (put_in cs s stack kind (range_with_len 0 (length cs - 0))) (sym c.requires.empty);
      kept = c.requires.kept;
    }

pub loop-number-preserved : goal.loop-number-preserved
loop-number-preserved c =
    let cs = constructs_in c.args.sources.now in
    let s = spelling_of cs in
    let n = c.loop-number.number in
    let stack = c.args.stack in
    let kind = has_kind c.args.section in
    let ms = members_view c.loop-number.entries.entries in
    let rest = range_with_len (n + 1) (length cs - (n + 1)) in
    let within : n < length cs = omega (arith, c.len-number-end.ensures) in
    let at : c.in-Some.at ≡ n = id_is (nat_lt n (length cs)) n c.in-Some.at c.in-Some.ensures in
    record {
      filled = c.loop-number.invariant.filled ∙ ap (λ ns. put_in cs s stack kind ns ms) (range_rest n (length cs) within) ∙ filled_more cs s stack kind n rest ms
          ∙ ap (put_in cs s stack kind rest) (ap (λ k. with_entry cs s stack kind k ms) (sym at) ∙ sym c.in_ok-put_entry.ensures.entries);
      kept = c.in_ok-put_entry.ensures.kept;
    }
