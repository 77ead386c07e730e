-- Literals of a template: values that evaluation leaves as they are (CloudFormation: what is no intrinsic function stands for itself).
use Rattle.std.specs.Prelude.{◌≡◌, true, false, ⊤}
use Rattle.serde_json.specs.Data.{Data, null, boolean, number, string, array, object, Items, no_items, item, Members, no_members, member}
use Rattle.cdk_base.specs.Json.{is_whole, is_intrinsic_key}
use Rattle.cdk_eval.specs.Outcomes.{Value}
use Rattle.cdk_eval.specs.Template.{Scope, outcome}
use Rattle.cdk_plain.specs.Plain.{num_of, Plain, text, whole, truth, list_of, object_of, Plains, no_plains, plain, Fields, no_fields, field}
use Rattle.cdk_meaning.specs.Source.{Means, Source}
use Rattle.cdk_meaning.specs.Meaning.{meaning}
use Rattle.cdk_plain.specs.Rendered.{Homes, rendered}

-- No null, only whole numbers of 64 bits, and no key that makes an intrinsic.
abbrev mutual
  pub IsLiteral : Data → Type 0
  IsLiteral null = ⊥
  IsLiteral (boolean b) = ⊤
  IsLiteral (number n) = is_whole n ≡ true
  IsLiteral (string s) = ⊤
  IsLiteral (array ds) = AreLiterals ds
  IsLiteral (object ms) = MembersAreLiterals ms

  pub AreLiterals : Items → Type 0
  AreLiterals no_items = ⊤
  AreLiterals (item d ds) = IsLiteral d × AreLiterals ds

  pub MembersAreLiterals : Members → Type 0
  MembersAreLiterals no_members = ⊤
  MembersAreLiterals (member k d ms) = (is_intrinsic_key k ≡ false) × IsLiteral d × MembersAreLiterals ms

-- In every template, under all values, a literal's outcome is the literal.
abbrev pub LiteralsStand : Type 0
LiteralsStand = (t : Scope) (d : Data) → IsLiteral d → outcome t d ≡ Value d

-- A plain expression of literals alone.
abbrev mutual
  pub IsPlainLiteral : Plain → Type 0
  IsPlainLiteral (text s) = ⊤
  IsPlainLiteral (whole z) = is_whole (num_of z) ≡ true
  IsPlainLiteral (truth b) = ⊤
  IsPlainLiteral (list_of ps) = ArePlainLiterals ps
  IsPlainLiteral (object_of fs) = FieldsArePlainLiterals fs
  IsPlainLiteral _ = ⊥

  pub ArePlainLiterals : Plains → Type 0
  ArePlainLiterals no_plains = ⊤
  ArePlainLiterals (plain p ps) = IsPlainLiteral p × ArePlainLiterals ps

  pub FieldsArePlainLiterals : Fields → Type 0
  FieldsArePlainLiterals no_fields = ⊤
  FieldsArePlainLiterals (field k p fs) = (is_intrinsic_key k ≡ false) × IsPlainLiteral p × FieldsArePlainLiterals fs

-- A literal is rendered as itself, and means itself.
abbrev pub LiteralsAreRendered : Type 0
LiteralsAreRendered = (src : Source) (h : Homes) (e : Plain) → IsPlainLiteral e → IsLiteral (rendered h e) × (meaning src e ≡ Means (rendered h e))
