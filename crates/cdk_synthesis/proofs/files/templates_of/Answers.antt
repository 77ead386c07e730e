use Rattle.std.proofs.Common.{◌≡◌, ◌<◌, ◌+◌, ◌-◌, ◌++◌, ◌∷◌, length, sym, ap, ◌∙◌, arith}
use Rattle.std.specs.Prelude.{nat_lt}
use Rattle.std.specs.List.{range_with_len}
use Rattle.cdk_stacks.proofs.Tests.{range_end, range_rest}
use Rattle.cdk_stacks.proofs.Within.{id_is}
use Rattle.cdk_template.specs.Markers.{marker_findings}
use Rattle.cdk_template.specs.Sources.{constructs_in}
use Rattle.cdk_synthesis.specs.Assembly.{with_template}
use Rattle.cdk_synthesis.specs.Files.{markers_among}
use Rattle.cdk_synthesis.proofs.FileLemmas.{one_more_marked, one_more_template, one_more_unmarked, same_first, templates_among, with_none}
use Rattle.cdk_synthesis.proofs.files.templates_of.Goals as goal

pub returns-in-Err-clause-files : goal.returns-in-Err-clause-files
returns-in-Err-clause-files c =
    let cs = constructs_in c.args.sources.now in
    let n = c.in-Some.at in
    let number = c.loop-number.number in
    let rest = range_with_len (number + 1) (length cs - (number + 1)) in
    let within : number < length cs = omega (arith, c.len-number-end.ensures) in
    let at : n ≡ number = id_is (nat_lt number (length cs)) number n c.in-Some.ensures in
    same_first (marker_findings cs) (markers_among cs (n ∷ rest)) c.in-Err.error
    (c.loop-number.invariant.markers ∙ ap (markers_among cs) (range_rest number (length cs) within) ∙ ap (λ k. markers_among cs (k ∷ rest)) (sym at))
    (one_more_marked cs n rest c.in-Err.error c.in-Err.ensures.files)

pub loop-number-preserved : goal.loop-number-preserved
loop-number-preserved c =
    let cs = constructs_in c.args.sources.now in
    let n = c.in-Some.at in
    let number = c.loop-number.number in
    let rest = range_with_len (number + 1) (length cs - (number + 1)) in
    let within : number < length cs = omega (arith, c.len-number-end.ensures) in
    let at : n ≡ number = id_is (nat_lt number (length cs)) number n c.in-Some.ensures in
    record {
      templates = c.loop-number.invariant.templates
          ∙ ap (λ ns. c.loop-number.files ++ templates_among cs ns) (range_rest number (length cs) within)
          ∙ one_more_template cs number rest c.loop-number.files
          ∙ ap (λ fs. fs ++ templates_among cs rest) (ap (λ k. with_template cs k c.loop-number.files) (sym at) ∙ sym c.in_default-put_template.ensures.files.0);
      markers = c.loop-number.invariant.markers
          ∙ ap (markers_among cs) (range_rest number (length cs) within)
          ∙ ap (λ k. markers_among cs (k ∷ rest)) (sym at)
          ∙ one_more_unmarked cs n rest c.in_default-put_template.ensures.files.1;
      utf8 = c.in_default-put_template.ensures.utf8 c.loop-number.invariant.utf8;
    }

pub returns-clause-files : goal.returns-clause-files
returns-clause-files c =
    let cs = constructs_in c.args.sources.now in
    let number = c.loop-number.number in
    let done : number ≡ length cs = omega (arith, c.len-number-end.ensures) in
    let none = range_end number (length cs) done in (
      sym (c.loop-number.invariant.templates ∙ ap (λ ns. c.loop-number.files ++ templates_among cs ns) none ∙ with_none c.loop-number.files),
      c.loop-number.invariant.markers ∙ ap (markers_among cs) none,
    )
