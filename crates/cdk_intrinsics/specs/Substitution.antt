-- The parts of a Sub's text under names whose outcomes are kept.
use Rattle.std.specs.Prelude.{◌≡◌, ℕ, List, [], ◌∷◌, ◌++◌, Bool, true, Option, Some, None, option_map, ⊤}
use Rattle.std.specs.Ordering.{nat_cmp}
use Rattle.std.specs.Cmp.Lexicographic.{slice_cmp}
use Rattle.std.specs.BTreeMap.{get_by}
use Rattle.serde_json.specs.Data.{Data, string, array, no_items}
use Rattle.serde_json.specs.View.{items_view}
use Rattle.serde_json.specs.declared.value.Value.{Value as RustValue}
use Rattle.cdk_base.specs.Json.{text_of}
use Rattle.cdk_eval.specs.declared.fault.EvalFault.TheVariants.{NotText, BadIntrinsic}
use Rattle.cdk_eval.specs.Outcomes.{Outcome, Value, Gone, Fault, Listed, Lists, NotListed, first_item, array_outcome, on_items}
use Rattle.cdk_eval.specs.SubText.{SubPart, literal, hole, Asked, spelled, attribute_of, named, asked}
use Rattle.cdk_eval.specs.Template.{Scope, ref_outcome, join_texts, named_or, sub_form, item_parts}
use Rattle.cdk_eval.specs.Texts.{item_texts, join_with}
use Rattle.cdk_eval.specs.Views.{outcome_view}
use Rattle.cdk_scopes.specs.Scopes.{has_name}
use Rattle.cdk_scopes.specs.declared.name_set.NameSet.{NameSet}
use Rattle.cdk_intrinsics.specs.declared.substitution.Named.{Named}
use Rattle.cdk_intrinsics.specs.declared.substitution.Piece.{Piece}
use Rattle.cdk_intrinsics.specs.declared.substitution.Piece.TheVariants as pieces

-- ---- outcomes by name

abbrev pub named_at : Named → List ℕ → Option Outcome
named_at m n = option_map outcome_view (get_by (λ k. slice_cmp nat_cmp n k.now) m.outcomes)

abbrev pub or_found : Outcome → Option Outcome → Outcome
or_found o None = o
or_found o (Some x) = x

-- the outcome of the name that is kept, else this one
abbrev pub look : Named → Outcome → List ℕ → Outcome
look m o n = or_found o (named_at m n)

-- ---- the parts, where the names have outcomes

module _ (s : Scope) (by_name : Outcome → List ℕ → Outcome) where
  abbrev pub asked_by : Asked → Outcome
  asked_by (spelled t) = Value (string t)
  asked_by (attribute_of n a) = s.attribute n a
  asked_by (named n) = by_name (ref_outcome s n) n

  abbrev pub part_by : SubPart → Outcome
  part_by (literal t) = Value (string t)
  part_by (hole n) = asked_by (asked n)

  abbrev pub items_by : List SubPart → Listed
  items_by [] = Lists no_items
  items_by (p ∷ ps) = first_item (part_by p) (items_by ps)

-- the texts of the items, joined
abbrev pub joined_items : Listed → Outcome
joined_items l = on_items (λ ds. join_texts [] (item_texts ds)) (array_outcome l)

-- ---- the names that the parts use

abbrev pub IsUsedAt : (List ℕ → Bool) → Asked → Type 0
IsUsedAt used (spelled t) = ⊤
IsUsedAt used (attribute_of n a) = ⊤
IsUsedAt used (named n) = used n ≡ true

abbrev pub IsUsedIn : (List ℕ → Bool) → SubPart → Type 0
IsUsedIn used (literal t) = ⊤
IsUsedIn used (hole n) = IsUsedAt used (asked n)

abbrev pub AreUsed : (List ℕ → Bool) → List SubPart → Type 0
AreUsed used [] = ⊤
AreUsed used (p ∷ ps) = IsUsedIn used p × AreUsed used ps

-- each used name's outcome is kept, where there is one
abbrev pub HasUsed : NameSet → Named → List (List ℕ × Outcome) → Type 0
HasUsed used m ns = (n : List ℕ) → has_name used n ≡ true → (o : Outcome) → look m o n ≡ named_or o n ns

-- ---- the pieces of the text

-- the piece that an outcome is
abbrev pub IsPieceOf : Piece → Outcome → Type 0
IsPieceOf (pieces.Text t) o = (d : Data) × (o ≡ Value d) × (text_of d ≡ Some t)
IsPieceOf pieces.NoText o = (d : Data) × (o ≡ Value d) × (text_of d ≡ None)
IsPieceOf pieces.Gone o = o ≡ Gone
IsPieceOf (pieces.Fault f) o = o ≡ Fault f

-- the outcome of the parts so far, with their text and whether each has one, and of the items to come
abbrev pub text_and : Bool → List ℕ → Option (List (List ℕ)) → Outcome
text_and true t (Some ts) = Value (string (t ++ join_with [] ts))
text_and _ t _ = Fault NotText

abbrev pub finish : Bool → List ℕ → Listed → Outcome
finish has_text t (Lists ds) = text_and has_text t (item_texts ds)
finish has_text t (NotListed f) = Fault f

-- ---- the arguments

-- values that are no text and object
abbrev pub IsNoSub : List RustValue → Type 0
IsNoSub vs = (s : Scope) → Fault BadIntrinsic ≡ sub_form s (array (items_view vs)) (item_parts s (items_view vs))
