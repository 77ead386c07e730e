-- What `Ref` of a resource gives in the code's scopes.
use Rattle.std.specs.Prelude.{ℕ, List, codes}
use Rattle.serde_json.specs.Data.{Data}
use Rattle.serde_json.specs.Find.{get_member}
use Rattle.serde_json.specs.View.{view}
use Rattle.cdk_eval.specs.Outcomes.{Outcome}
use Rattle.cdk_eval.specs.Sections.{section, operand_resource, resource_outcome}
use Rattle.cdk_eval.specs.Values.{Values, physical_text}
use Rattle.cdk_eval.specs.Views.{values_view}
use Rattle.cdk_scopes.specs.declared.scope.Place.{Place}
use Rattle.cdk_scopes.specs.declared.scope.Place.TheVariants.{Operand, Body}
use Rattle.cdk_scopes.specs.declared.scope.Scope.{Scope}

-- `Ref` of a name that is no pseudo parameter and no parameter
abbrev pub resource_in : Values → List ℕ → Data → Place → List ℕ → Outcome
resource_in v n t Operand l = operand_resource (get_member l (section (codes "Resources") t))
resource_in v n t (Body truths exports) l = resource_outcome v n t (physical_text v n l) (get_member l (section (codes "Resources") t))

abbrev pub resource_at : Scope → List ℕ → Outcome
resource_at s l = resource_in (values_view s.values.now) s.stack.now (view s.template.now) s.place l
