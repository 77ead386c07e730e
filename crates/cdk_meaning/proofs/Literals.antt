-- The outcome of a literal is the literal.
use Rattle.std.proofs.Common.{Some, ◌≡◌, false, refl, ap, ◌∙◌}
use Rattle.std.specs.Prelude.{if◌then◌else◌, ◌||◌}
use Rattle.serde_json.specs.Data.{Data, null, boolean, number, string, array, object, Items, no_items, item, Members, no_members, member}
use Rattle.cdk_eval.specs.declared.fault.EvalFault.TheVariants.{BadIntrinsic}
use Rattle.cdk_eval.specs.Outcomes.{Value, Fault, Lists, Has, array_outcome, object_outcome}
use Rattle.cdk_eval.specs.Template.{Scope, has_intrinsic_key, outcome, item_outcomes, member_outcomes, single_form}
use Rattle.cdk_plain.specs.Plain.{Plain, text, whole, truth, list_of, object_of, Plains, no_plains, plain, Fields, no_fields, field}
use Rattle.cdk_meaning.specs.Source.{Means, Source}
use Rattle.cdk_meaning.specs.Meaning.{means_array, means_object, meaning, meanings, field_meanings}
use Rattle.cdk_plain.specs.Rendered.{Homes, rendered, rendered_items, rendered_fields}
use Rattle.cdk_meaning.specs.Literals.{IsLiteral, AreLiterals, MembersAreLiterals, LiteralsStand, IsPlainLiteral, ArePlainLiterals, FieldsArePlainLiterals, LiteralsAreRendered}

has_none : (ms : Members) → MembersAreLiterals ms → has_intrinsic_key ms ≡ false
has_none no_members h = refl
has_none (member k d ms) h = ap (λ b. b || has_intrinsic_key ms) h.0 ∙ has_none ms h.2

module _ (t : Scope) where
  mutual
    pub literal_stands : (d : Data) → IsLiteral d → outcome t d ≡ Value d
    literal_stands null h = absurd h
    literal_stands (boolean b) h = refl
    literal_stands (number n) h = ap (λ b. if b then Value (number n) else Fault BadIntrinsic) h
    literal_stands (string s) h = refl
    literal_stands (array ds) h = ap array_outcome (literals_stand ds h)
    literal_stands (object ms) h = ap (λ b. if b then single_form t ms else object_outcome (member_outcomes t ms)) (has_none ms h) ∙ ap object_outcome (members_stand ms h)

    literals_stand : (ds : Items) → AreLiterals ds → item_outcomes t ds ≡ Lists ds
    literals_stand no_items h = refl
    literals_stand (item d ds) h = rw (literal_stands d h.0, literals_stand ds h.1)

    members_stand : (ms : Members) → MembersAreLiterals ms → member_outcomes t ms ≡ Has ms
    members_stand no_members h = refl
    members_stand (member k d ms) h = rw (literal_stands d h.1, members_stand ms h.2)

pub literals_stand_law : LiteralsStand
literals_stand_law t d h = literal_stands t d h

module _ (src : Source) (h : Homes) where
  mutual
    pub rendered_literal : (e : Plain) → IsPlainLiteral e → IsLiteral (rendered h e)
    rendered_literal (text s) w = tt
    rendered_literal (whole z) w = w
    rendered_literal (truth b) w = tt
    rendered_literal (list_of ps) w = rendered_literals ps w
    rendered_literal (object_of fs) w = rendered_members fs w
    rendered_literal _ w = absurd w

    rendered_literals : (ps : Plains) → ArePlainLiterals ps → AreLiterals (rendered_items h ps)
    rendered_literals no_plains w = tt
    rendered_literals (plain p ps) w = (rendered_literal p w.0, rendered_literals ps w.1)

    rendered_members : (fs : Fields) → FieldsArePlainLiterals fs → MembersAreLiterals (rendered_fields h fs)
    rendered_members no_fields w = tt
    rendered_members (field k p fs) w = (w.0, rendered_literal p w.1, rendered_members fs w.2)

  mutual
    pub meant_literal : (e : Plain) → IsPlainLiteral e → meaning src e ≡ Means (rendered h e)
    meant_literal (text s) w = refl
    meant_literal (whole z) w = refl
    meant_literal (truth b) w = refl
    meant_literal (list_of ps) w = ap means_array (meant_literals ps w)
    meant_literal (object_of fs) w = ap means_object (meant_members fs w)
    meant_literal _ w = absurd w

    meant_literals : (ps : Plains) → ArePlainLiterals ps → meanings src ps ≡ Some (rendered_items h ps)
    meant_literals no_plains w = refl
    meant_literals (plain p ps) w = rw (meant_literal p w.0, meant_literals ps w.1)

    meant_members : (fs : Fields) → FieldsArePlainLiterals fs → field_meanings src fs ≡ Some (rendered_fields h fs)
    meant_members no_fields w = refl
    meant_members (field k p fs) w = rw (meant_literal p w.1, meant_members fs w.2)

pub literals_are_rendered : LiteralsAreRendered
literals_are_rendered src h e w = (rendered_literal src h e w, meant_literal src h e w)
