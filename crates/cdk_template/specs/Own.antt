-- How the constructs of the one stack are spelled in its template (own).
use Rattle.std.specs.Prelude.{List, []}
use Rattle.cdk_elements.specs.Elements.{logical_of, own_condition, own_homes, own_value}
use Rattle.cdk_entries.specs.Naming.{named_at}
use Rattle.cdk_plain.specs.Rendered.{rendered, rendered_condition}
use Rattle.cdk_template.specs.Template.{Spelling}
use Rattle.cdk_tree.specs.Placed.{Placed}

-- No resource waits for another, and nothing is generated.
abbrev pub spelling_of : List Placed → Spelling
spelling_of cs = record {
  logical = logical_of cs;
  value = λ n e. rendered (own_homes cs) (own_value cs n e);
  condition = λ n c. rendered_condition (own_homes cs) (own_condition cs n c);
  depends_on = λ n. [];
  named = named_at cs;
  generated = [];
}
