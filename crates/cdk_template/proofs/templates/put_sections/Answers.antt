use Rattle.std.proofs.Common.{◌≡◌, Option, codes, ap, ◌∙◌}
use Rattle.std.proofs.lemmas.Result.{on_ok_weaker}
use Rattle.serde_json.specs.Data.{Data, no_members, object}
use Rattle.serde_json.specs.View.{members_view}
use Rattle.cdk_template.specs.Entries.{has_kind, with_section}
use Rattle.cdk_template.specs.Own.{spelling_of}
use Rattle.cdk_template.specs.Sources.{constructs_in}
use Rattle.cdk_template.specs.Template.{section_of, template_of}
use Rattle.cdk_entries.specs.Entries.{description_of}
use Rattle.cdk_entries.specs.Members.{non_empty, put_given, unless_empty}
use Rattle.cdk_template.specs.declared.section.Section.{Section}
use Rattle.cdk_template.specs.declared.section.Section.TheVariants.{Conditions, Mappings, Outputs, Parameters, Resources}
use Rattle.cdk_template.proofs.MemberLemmas.{sections_put}
use Rattle.cdk_template.proofs.templates.put_sections.Goals as goal
use Rattle.cdk_tree.specs.Placed.{construct_at}

pub returns : goal.returns
returns c =
    let cs = constructs_in c.args.sources.now in
    let s = spelling_of cs in
    let stack = c.args.stack in
    let with = with_section cs s stack in
    let part : Section → Option Data = λ section. unless_empty (section_of cs s stack (has_kind section)) in
    let text : Option Data = non_empty (description_of (construct_at cs stack).body) in
    let m₁ = members_view c.put_section.new.sections.entries in
    let m₂ = members_view c.put_section-2.new.sections.entries in
    let m₃ = members_view c.put_section-3.new.sections.entries in
    let m₄ = members_view c.put_section-4.new.sections.entries in
    let m₅ = members_view c.put_description.new.sections.entries in
    let m₆ = members_view c.put_section-5.new.sections.entries in
    let resources : m₁ ≡ with Resources no_members = c.in_ok-put_section.ensures.sections ∙ ap (with Resources) c.requires.empty in
    let parameters : m₂ ≡ with Parameters m₁ = c.in_ok-put_section-2.ensures.sections in
    let outputs : m₃ ≡ with Outputs m₂ = c.in_ok-put_section-3.ensures.sections in
    let mappings : m₄ ≡ with Mappings m₃ = c.in_ok-put_section-4.ensures.sections in
    let description : m₅ ≡ put_given (codes "Description") text m₄ =
    c.in_ok-put_description.ensures ∙ ap (λ body. put_given (codes "Description") (non_empty (description_of body)) m₄) c.node.ensures.body in
    on_ok_weaker {P = m₆ ≡ with Conditions m₅} {Q = object m₆ ≡ template_of cs s stack} c.put_section-5.result
    (λ conditions. ap object (sections_put (part Conditions) text (part Mappings) (part Outputs) (part Parameters) (part Resources) resources parameters outputs mappings description conditions))
    c.put_section-5.ensures.sections
