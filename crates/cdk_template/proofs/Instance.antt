-- The law at one small application.
use Rattle.std.proofs.Common.{◌≡◌, ◌<◌, ℕ, zero, suc, List, [], codes, length, pos, true, Option, Some, None, refl, arith}
use Rattle.serde_json.specs.Data.{no_members}
use Rattle.cdk_base.specs.Marker.{IsMarkerFree}
use Rattle.cdk_eval.specs.Conditions.{count}
use Rattle.cdk_language.specs.Construct.{Application, Head, child, construct, group, no_constructs, resource, root, stack}
use Rattle.cdk_language.specs.Expression.{Expression, expression, field, list, no_expressions, no_fields, object, text, truth, whole}
use Rattle.cdk_stacks.specs.Claims.{name_findings}
use Rattle.cdk_template.specs.Laws.{HasWholeValue, HasWholeValues, IsWholeTemplate}
use Rattle.cdk_template.specs.Markers.{marker_findings}
use Rattle.cdk_template.specs.Own.{spelling_of}
use Rattle.cdk_template.specs.Template.{section_of, template_of}
use Rattle.cdk_template.proofs.SectionLemmas.{is_section, resources_are_elements}
use Rattle.cdk_template.proofs.WholeTemplates.{templates_are_unmarked, templates_are_whole}
use Rattle.cdk_tree.specs.Expected.{is_resource}
use Rattle.cdk_tree.specs.Placed.{Placed, construct_at, constructs_of}

abbrev properties : Expression
properties = object (field (codes "Tags") (list (expression (text (codes "x")) (expression (whole (pos 1)) (expression (truth true) no_expressions)))) (field (codes "Empty") (object no_fields) no_fields))

-- a stack with a group that has a resource of a kept name
abbrev head : List ℕ → Option (List ℕ) → Head
head id kept = record { id = id; context = no_members; aspects = []; depends = []; logical = kept }

abbrev application : Application
application =
    construct (head [] None) root (child (construct (head (codes "S") None) (stack (Some (codes "d"))) (child (construct (head (codes "G") None) group (child (construct (head (codes "R") (Some (codes "Kept")))
    (resource (record { resource_type = codes "AWS::S3::Bucket"; properties = properties; condition = None; deletion = None; replace = None })) no_constructs) no_constructs)) no_constructs)) no_constructs)

abbrev placed : List Placed
placed = constructs_of application

each_whole : (n : ℕ) → n < length placed → HasWholeValue (spelling_of placed) n (construct_at placed n).body
each_whole zero h = tt
each_whole (suc zero) h = tt
each_whole (suc (suc zero)) h = tt
each_whole (suc (suc (suc zero))) h = record {
  whole = record { canonical = (tt, ((refl, tt), ((tt, (omega arith, (tt, tt))), (tt, tt)))); shallow = omega arith };
  formed = refl;
}
each_whole (suc (suc (suc (suc n)))) h = let four : length placed ≡ 4 = refl in absurd (omega arith)

whole_values : HasWholeValues placed
whole_values = record { each = each_whole }

no_findings : name_findings placed ≡ []
no_findings = refl

no_markers : marker_findings placed ≡ []
no_markers = refl

whole_template : IsWholeTemplate (template_of placed (spelling_of placed) 1)
whole_template = templates_are_whole placed 1 whole_values no_findings refl

unmarked_template : IsMarkerFree (template_of placed (spelling_of placed) 1)
unmarked_template = templates_are_unmarked placed 1 no_markers refl

one_resource : count (section_of placed (spelling_of placed) 1 is_resource) ≡ 1
one_resource = (is_section placed 1 is_resource resources_are_elements no_findings).counted
