-- Rendering keeps meaning: what a rendered expression comes to is what the expression means (own).
use Rattle.std.specs.Prelude.{◌≡◌, ℕ, List, false}
use Rattle.cdk_plain.specs.Plain.{Pseudo, pseudo_name, Plain, IsWell}
use Rattle.cdk_meaning.specs.Mentions.{Mention, to_target, to_attribute, to_condition, to_mapping, to_import, mentions}
use Rattle.cdk_meaning.specs.Source.{Meaning, Source}
use Rattle.cdk_meaning.specs.Meaning.{or_undefined, means_text, cut_at, pseudo_meaning, meaning}
use Rattle.cdk_meaning.specs.Agreement.{Agrees, seen, seen_truth}
use Rattle.cdk_eval.specs.Template.{Scope, ref_outcome, outcome}
use Rattle.cdk_meaning.specs.Names.{Each}
use Rattle.cdk_plain.specs.Rendered.{Home, Local, Import, ImportList, Homes, list_delimiter, rendered}

-- A target's spelling comes to what the target means: by its name, or by an export's text, whole or cut.
abbrev pub TargetKept : Scope → Home → Meaning → Type 0
TargetKept t (Local n) m = seen (ref_outcome t n) ≡ m
TargetKept t (Import e) m = (t.is_operand ≡ false) × (means_text (t.export e) ≡ m)
TargetKept t (ImportList e) m = (t.is_operand ≡ false) × (cut_at list_delimiter (t.export e) ≡ m)

abbrev pub AttributeKept : Scope → List ℕ → Home → Meaning → Type 0
AttributeKept t a (Local n) m = (t.is_operand ≡ false) × (seen (t.attribute n a) ≡ m)
AttributeKept t a (Import e) m = (t.is_operand ≡ false) × (means_text (t.export e) ≡ m)
AttributeKept t a (ImportList e) m = (t.is_operand ≡ false) × (cut_at list_delimiter (t.export e) ≡ m)

-- What is mentioned stands in the template, by its spelling, for what it means. Attributes, conditions and imports stand in no operand
-- of a condition.
abbrev pub MentionKept : Source → Homes → Scope → Mention → Type 0
MentionKept src h t (to_target n) = TargetKept t (h.target n) (src.target n)
MentionKept src h t (to_attribute n a) = AttributeKept t a (h.attribute n a) (src.attribute n a)
MentionKept src h t (to_condition c) = (t.is_operand ≡ false) × (seen_truth (t.condition (h.condition c)) ≡ src.condition c)
MentionKept src h t (to_mapping m) = (x y : List ℕ) → seen (t.leaf (h.mapping m) x y) ≡ or_undefined (src.leaf m x y)
MentionKept src h t (to_import e) = (t.is_operand ≡ false) × (t.export e ≡ src.outside e)

-- All that the list mentions.
abbrev pub Keeps : Source → Homes → Scope → List Mention → Type 0
Keeps src h t xs = Each (MentionKept src h t) xs

abbrev pub PseudosKept : Source → Scope → Type 0
PseudosKept src t = (p : Pseudo) → seen (ref_outcome t (pseudo_name p)) ≡ pseudo_meaning src p

abbrev pub RenderingKeepsMeaning : Type 0
RenderingKeepsMeaning =
    (src : Source) (h : Homes) (t : Scope) → PseudosKept src t → (e : Plain) → IsWell e → Keeps src h t (mentions e)
    → Agrees (outcome t (rendered h e)) (meaning src e)
