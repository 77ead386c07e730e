-- What the reader has found of the form of expressions, conditions, mappings and contexts (CloudFormation's intrinsic functions, condition
-- functions and mappings; that the keys of an object ascend by their bytes is own).
use Rattle.std.specs.Prelude.{◌≡◌, ◌<◌, ◌≤◌, ◌^◌, ℕ, suc, List, length, false, Option, Some, None, ⊤}
use Rattle.serde_json.specs.Data.{Data, Members, object}
use Rattle.cdk_base.specs.Json.{is_intrinsic_key}
use Rattle.cdk_base.specs.Pretty.{IsCanonical}
use Rattle.cdk_language.specs.Condition as condition
use Rattle.cdk_language.specs.Condition.{Condition, Conditions}
use Rattle.cdk_language.specs.Construct as construct
use Rattle.cdk_language.specs.Construct.{Body}
use Rattle.cdk_language.specs.Expression as expression
use Rattle.cdk_language.specs.Expression.{Expression, Expressions, Fields}
use Rattle.cdk_meaning.specs.Literals.{IsLiteral}
use Rattle.cdk_meaning.specs.StackTemplate.{IsMapping}
use Rattle.cdk_plain.specs.Plain.{IsNonEmpty}
use Rattle.cdk_tree.specs.Placed.{Placed, construct_at, found_value}
use Rattle.cdk_premises.specs.Written.{IsObject}

-- what a context may be: a literal of a template, in which the keys of each object ascend
abbrev pub IsFormedValue : Data → Type 0
IsFormedValue d = IsLiteral d × IsCanonical d

abbrev pub IsFormedIfFound : Option Data → Type 0
IsFormedIfFound None = ⊤
IsFormedIfFound (Some d) = IsFormedValue d

-- ---- expressions

-- Of the construct `at`: indexes are within 64 bits, the delimiter of a split is not empty, no key of an object makes it an intrinsic, and
-- so with what its contexts find. The keys of an object may stand in any order.
abbrev mutual
  pub IsFormed : List Placed → ℕ → Expression → Type 0
  IsFormed cs at (expression.list es) = AreFormed cs at es
  IsFormed cs at (expression.object fs) = FieldsAreFormed cs at fs
  IsFormed cs at (expression.concat es) = AreFormed cs at es
  IsFormed cs at (expression.join d e) = IsFormed cs at e
  IsFormed cs at (expression.select i e) = (i < 2 ^ 64) × IsFormed cs at e
  IsFormed cs at (expression.split d e) = IsNonEmpty d × IsFormed cs at e
  IsFormed cs at (expression.choice c x y) = IsFormed cs at x × IsFormed cs at y
  IsFormed cs at (expression.find_in_map m x y) = IsFormed cs at x × IsFormed cs at y
  IsFormed cs at (expression.context k d) = IsFormedIfFound (found_value (construct_at cs at).contexts k d)
  IsFormed cs at e = ⊤

  pub AreFormed : List Placed → ℕ → Expressions → Type 0
  AreFormed cs at expression.no_expressions = ⊤
  AreFormed cs at (expression.expression e es) = IsFormed cs at e × AreFormed cs at es

  pub FieldsAreFormed : List Placed → ℕ → Fields → Type 0
  FieldsAreFormed cs at expression.no_fields = ⊤
  FieldsAreFormed cs at (expression.field k e fs) = (is_intrinsic_key k ≡ false) × IsFormed cs at e × FieldsAreFormed cs at fs

-- ---- conditions

abbrev pub part_count : Conditions → ℕ
part_count condition.no_conditions = 0
part_count (condition.condition c cs) = suc (part_count cs)

-- `Fn::And` and `Fn::Or` have 2 to 10 parts.
abbrev pub AreFew : Conditions → Type 0
AreFew cs = (2 ≤ part_count cs) × (part_count cs ≤ 10)

abbrev mutual
  pub IsFormedCondition : List Placed → ℕ → Condition → Type 0
  IsFormedCondition cs at (condition.equals x y) = IsFormed cs at x × IsFormed cs at y
  IsFormedCondition cs at (condition.all_of ds) = AreFew ds × AreFormedConditions cs at ds
  IsFormedCondition cs at (condition.any_of ds) = AreFew ds × AreFormedConditions cs at ds
  IsFormedCondition cs at (condition.negated d) = IsFormedCondition cs at d
  IsFormedCondition cs at (condition.named t) = ⊤

  pub AreFormedConditions : List Placed → ℕ → Conditions → Type 0
  AreFormedConditions cs at condition.no_conditions = ⊤
  AreFormedConditions cs at (condition.condition d ds) = IsFormedCondition cs at d × AreFormedConditions cs at ds

-- ---- constructs

-- an object of objects of leaves, in which keys ascend
abbrev pub IsFormedMapping : Members → Type 0
IsFormedMapping m = IsMapping (object m) × IsCanonical (object m)

-- properties are an object
abbrev pub IsFormedBody : List Placed → ℕ → Body → Type 0
IsFormedBody cs at (construct.resource r) = IsObject r.properties × IsFormed cs at r.properties
IsFormedBody cs at (construct.condition_body c) = IsFormedCondition cs at c
IsFormedBody cs at (construct.mapping m) = IsFormedMapping m
IsFormedBody cs at (construct.output o) = IsFormed cs at o.value
IsFormedBody cs at (construct.lazy e) = IsFormed cs at e
IsFormedBody cs at b = ⊤

-- of all constructs
abbrev pub TreeIsFormed : List Placed → Type 0
TreeIsFormed cs = (n : ℕ) → n < length cs → IsFormedBody cs n (construct_at cs n).body
