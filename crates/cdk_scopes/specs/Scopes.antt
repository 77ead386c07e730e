-- What the code's scopes stand for.
use Rattle.std.specs.Prelude.{◌≡◌, ℕ, List, Bool, true, Option, Some, None, if◌then◌else◌, is_some, option_map, codes, string_bytes}
use Rattle.std.specs.Option.{option_or}
use Rattle.std.specs.Ordering.{nat_cmp}
use Rattle.std.specs.Cmp.Lexicographic.{slice_cmp}
use Rattle.std.specs.BTreeMap.{BTreeMap, get_by, get_by_text}
use denote.Ref.{Bor}
use Rattle.serde_json.specs.Data.{Data, string}
use Rattle.serde_json.specs.Find.{get}
use Rattle.serde_json.specs.View.{view}
use Rattle.cdk_eval.specs.declared.fault.EvalFault.{EvalFault}
use Rattle.cdk_eval.specs.declared.fault.EvalFault.TheVariants.{UnknownName, BadIntrinsic}
use Rattle.cdk_eval.specs.declared.values.Values.{Values as RustValues}
use Rattle.cdk_eval.specs.Outcomes.{Outcome, Value, Fault, Truth, Holds, Untold}
use Rattle.cdk_eval.specs.Sections.{condition_truth, operand_scope, scope}
use Rattle.cdk_eval.specs.Template.{Scope as SpecScope}
use Rattle.cdk_eval.specs.Values.{Values}
use Rattle.cdk_eval.specs.Views.{truth_view, values_view}
use Rattle.cdk_scopes.specs.declared.name_set.NameSet.{NameSet}
use Rattle.cdk_scopes.specs.declared.truths.Kept.{Kept}
use Rattle.cdk_scopes.specs.declared.truths.Truths.{Truths}
use Rattle.cdk_scopes.specs.declared.exports.Exports.{Exports}
use Rattle.cdk_scopes.specs.declared.scope.Place.{Place}
use Rattle.cdk_scopes.specs.declared.scope.Place.TheVariants.{Operand, Body}
use Rattle.cdk_scopes.specs.declared.scope.Scope.{Scope}

-- ---- conditions

abbrev pub kept_at : BTreeMap (Bor (List ℕ)) Kept → List ℕ → Option Kept
kept_at m c = get_by (λ k. slice_cmp nat_cmp c k.now) m

abbrev pub kept_truth : Option Kept → Truth
kept_truth None = Untold UnknownName
kept_truth (Some k) = truth_view k.truth

abbrev pub truth_in : Truths → List ℕ → Truth
truth_in t c = kept_truth (kept_at t.kept c)

-- of a resource or an output by its `Condition`
abbrev pub stated_truth : (List ℕ → Truth) → Option Data → Truth
stated_truth f None = Holds true
stated_truth f (Some (string c)) = f c
stated_truth f (Some _) = Untold BadIntrinsic

abbrev pub presence_of : Truths → Data → Truth
presence_of t d = stated_truth (truth_in t) (get (codes "Condition") d)

-- the outcome of a text that is barred by a fault, or not
abbrev pub text_unless : Option EvalFault → List ℕ → Outcome
text_unless None t = Value (string t)
text_unless (Some f) t = Fault f

-- ---- exports

abbrev pub has_name : NameSet → List ℕ → Bool
has_name s n = is_some (get_by (λ k. slice_cmp nat_cmp n k.now) s.names)

abbrev pub outside_of : RustValues → NameSet → List ℕ → Option (List ℕ)
outside_of v literal e = if has_name literal e then None else (values_view v).export e

abbrev pub exports_view : Exports → List ℕ → Option (List ℕ)
exports_view x e = option_or (outside_of x.outside.now x.literal e) (option_map string_bytes (get_by_text x.made e))

-- ---- scopes

abbrev pub scope_at : Values → List ℕ → Data → Place → SpecScope
scope_at v n t Operand = operand_scope v n t
scope_at v n t (Body truths exports) = scope v n t (exports_view exports.now)

abbrev pub scope_view : Scope → SpecScope
scope_view s = scope_at (values_view s.values.now) s.stack.now (view s.template.now) s.place

-- the truths are those of the stack's conditions
abbrev pub AreTruths : Values → List ℕ → Data → Truths → Type 0
AreTruths v n t ts = (c : List ℕ) → truth_in ts c ≡ condition_truth v n t c

abbrev pub IsSoundAt : Values → List ℕ → Data → Place → Type 0
IsSoundAt v n t Operand = Unit {0}
IsSoundAt v n t (Body truths exports) = AreTruths v n t truths.now

abbrev pub IsSound : Scope → Type 0
IsSound s = IsSoundAt (values_view s.values.now) s.stack.now (view s.template.now) s.place
