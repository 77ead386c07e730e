use Rattle.std.proofs.Common.{◌≡◌, ◌-◌, ◌++◌, length, map}
use Rattle.std.specs.List.{range_with_len}
use Rattle.cdk_elements.specs.Kinds.{stacks_of}
use Rattle.cdk_template.specs.Markers.{marker_findings}
use Rattle.cdk_template.specs.Sources.{constructs_in}
use Rattle.cdk_synthesis.specs.Assembly.{AllUtf8, template_of_stack}
use Rattle.cdk_synthesis.specs.Files.{markers_among}
use Rattle.cdk_synthesis.proofs.FileLemmas.{templates_among}
use Rattle.cdk_synthesis.proofs.files.templates_of.Given as goal

abbrev pub invariant-loop-number : goal.invariant-loop-number
invariant-loop-number l =
    let cs = constructs_in l.sources in
    record {
      templates : map (template_of_stack cs) (stacks_of cs) ≡ l.files ++ templates_among cs (range_with_len l.number (length cs - l.number));
      markers : marker_findings cs ≡ markers_among cs (range_with_len l.number (length cs - l.number));
      utf8 : AllUtf8 l.files;
    }
