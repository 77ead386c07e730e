-- What a resource that a template has gives for a text of it.
use Rattle.std.proofs.Common.{◌≡◌, ℕ, List, Option, Some, None, codes, refl, sym, ap, ◌∙◌}
use Rattle.serde_json.specs.Data.{Data, null, boolean, number, string, array, object}
use Rattle.serde_json.specs.Find.{get, get_member}
use Rattle.cdk_eval.specs.declared.fault.EvalFault.{EvalFault}
use Rattle.cdk_eval.specs.declared.fault.EvalFault.TheVariants.{UnknownName}
use Rattle.cdk_eval.specs.Outcomes.{Fault}
use Rattle.cdk_eval.specs.Sections.{section, made_text, presence_by, operand_resource, resource_outcome}
use Rattle.cdk_eval.specs.Values.{Values, physical_text}
use Rattle.cdk_scopes.specs.Scopes.{AreTruths, truth_in, stated_truth, presence_of, text_unless}
use Rattle.cdk_intrinsics.specs.Names.{resource_in}
use Rattle.cdk_scopes.specs.declared.scope.Place.{Place}
use Rattle.cdk_scopes.specs.declared.scope.Place.TheVariants.{Operand, Body}
use Rattle.cdk_scopes.specs.declared.truths.Truths.{Truths}

module _ (v : Values) (n : List ℕ) (t : Data) (ts : Truths) (sound : AreTruths v n t ts) where
  presence_same : (o : Option Data) → stated_truth (truth_in ts) o ≡ presence_by v n t o
  presence_same None = refl
  presence_same (Some null) = refl
  presence_same (Some (boolean b)) = refl
  presence_same (Some (number x)) = refl
  presence_same (Some (string c)) = sound c
  presence_same (Some (array ds)) = refl
  presence_same (Some (object ms)) = refl

  pub text_made : (x : List ℕ) (r : Data) (f : Option EvalFault) (o : Option Data) → ((y : List ℕ) → made_text (presence_of ts r) y ≡ text_unless f y) → Some r ≡ o → text_unless f x ≡ resource_outcome v n t x o
  text_made x r f o same e = sym (same x) ∙ ap (λ q. made_text q x) (presence_same (get (codes "Condition") r)) ∙ ap (resource_outcome v n t x) e

pub absent : (v : Values) (n : List ℕ) (t : Data) (p : Place) (l : List ℕ) → None ≡ get_member l (section (codes "Resources") t) → Fault UnknownName ≡ resource_in v n t p l
absent v n t Operand l e = ap operand_resource e
absent v n t (Body truths exports) l e = ap (resource_outcome v n t (physical_text v n l)) e
