-- The outcome of one value of a template (CloudFormation's intrinsic function reference; the faults and the order in
-- which they come are own). Left to right, keys in byte order, and the first fault is the outcome. An intrinsic's form
-- is looked at first, then all its arguments are evaluated from the left, then their kinds and texts are looked at.
use Rattle.std.specs.Prelude.{ℕ, ◌&&◌, ◌||◌, List, [], ◌∷◌, Bool, false, Option, Some, None, if◌then◌else◌, bytes_eq, codes}
use Rattle.serde_json.specs.Data.{Num, Data, null, boolean, number, string, array, object, Items, no_items, item, Members, no_members, member}
use Rattle.serde_json.specs.Find.{get_item}
use Rattle.cdk_base.specs.Json.{is_whole, is_intrinsic_key}
use Rattle.cdk_eval.specs.declared.fault.EvalFault.TheVariants.{NotText, NoItem, NoExport, BadIntrinsic}
use Rattle.cdk_eval.specs.Values.{is_no_value}
use Rattle.cdk_eval.specs.Outcomes.{Outcome, Value, Gone, Fault, Truth, Listed, Lists, first_item, array_outcome, Fielded, Has, first_member, object_outcome, value_or, text_or, on_items, on_text, before_fault, picked}
use Rattle.cdk_eval.specs.Texts.{item_texts, join_with, cut, index_of}
use Rattle.cdk_eval.specs.SubText.{SubPart, literal, hole, sub_parts, Asked, spelled, attribute_of, named, asked}

-- what the names in a value stand for
pub record Scope : Type 0 where
  -- a pseudo parameter's text; none for other names
  pub pseudo : List ℕ → Option (List ℕ)
  -- what `Ref` gives of a parameter, a resource, or of no name
  pub target : List ℕ → Outcome
  -- what `Fn::GetAtt` gives
  pub attribute : List ℕ → List ℕ → Outcome
  pub condition : List ℕ → Truth
  pub leaf : List ℕ → List ℕ → List ℕ → Outcome
  pub export : List ℕ → Option (List ℕ)
  -- the value stands in an operand of a condition
  pub is_operand : Bool

-- an argument of an intrinsic: as it stands, evaluated, and its members evaluated
pub record Part : Type 0 where
  pub raw : Data
  pub own : Outcome
  pub members : List (List ℕ × Outcome)

abbrev pub part : Data → Outcome → List (List ℕ × Outcome) → Part
part d o ns = record { raw = d; own = o; members = ns }

-- ---- Ref and Fn::GetAtt

abbrev pub text_else : Outcome → Option (List ℕ) → Outcome
text_else o None = o
text_else o (Some t) = Value (string t)

abbrev pub ref_outcome : Scope → List ℕ → Outcome
ref_outcome s n = if is_no_value n then Gone else text_else (s.target n) (s.pseudo n)

abbrev pub ref_form : Scope → Data → Outcome
ref_form s (string n) = ref_outcome s n
ref_form s _ = Fault BadIntrinsic

abbrev pub att_names : Scope → Data → Data → Outcome
att_names s (string n) (string a) = s.attribute n a
att_names s _ _ = Fault BadIntrinsic

abbrev pub att_form : Scope → List Part → Outcome
att_form s (n ∷ a ∷ []) = att_names s n.raw a.raw
att_form s _ = Fault BadIntrinsic

-- ---- Fn::Join, Fn::Select and Fn::Split

abbrev pub join_texts : List ℕ → Option (List (List ℕ)) → Outcome
join_texts d None = Fault NotText
join_texts d (Some ts) = Value (string (join_with d ts))

abbrev pub join_args : Data → Outcome → Outcome
join_args (string d) o = on_items (λ ds. join_texts d (item_texts ds)) o
join_args _ o = Fault BadIntrinsic

abbrev pub join_form : List Part → Outcome
join_form (d ∷ l ∷ []) = join_args d.raw l.own
join_form _ = Fault BadIntrinsic

abbrev pub select_args : Option ℕ → Outcome → Outcome
select_args None o = Fault BadIntrinsic
select_args (Some n) o = on_items (λ ds. value_or NoItem (get_item n ds)) o

abbrev pub select_form : List Part → Outcome
select_form (n ∷ l ∷ []) = select_args (index_of n.raw) l.own
select_form _ = Fault BadIntrinsic

abbrev pub split_args : Data → Outcome → Outcome
split_args (string (c ∷ d)) o = on_text (λ t. Value (array (cut (c ∷ d) 0 [] t))) o
split_args _ o = Fault BadIntrinsic

abbrev pub split_form : List Part → Outcome
split_form (d ∷ x ∷ []) = split_args d.raw x.own
split_form _ = Fault BadIntrinsic

-- ---- Fn::If, Fn::FindInMap and Fn::ImportValue

abbrev pub if_args : Scope → Data → Outcome → Outcome → Outcome
if_args s (string c) x y = picked (s.condition c) x y
if_args s _ x y = Fault BadIntrinsic

abbrev pub if_form : Scope → List Part → Outcome
if_form s (c ∷ x ∷ y ∷ []) = if_args s c.raw x.own y.own
if_form s _ = Fault BadIntrinsic

-- all three are evaluated before the text of the first is looked at
abbrev pub map_form : Scope → List Part → Outcome
map_form s (m ∷ x ∷ y ∷ []) =
    before_fault m.own (before_fault x.own (before_fault y.own (on_text (λ a. on_text (λ b. on_text (λ c. s.leaf a b c) y.own) x.own) m.own)))
map_form s _ = Fault BadIntrinsic

abbrev pub import_form : Scope → Outcome → Outcome
import_form s o = on_text (λ n. text_or NoExport (s.export n)) o

-- ---- Fn::Sub

-- the outcome of the first with that name, else this one
abbrev pub named_or : Outcome → List ℕ → List (List ℕ × Outcome) → Outcome
named_or o k [] = o
named_or o k (n ∷ ns) = if bytes_eq n.0 k then n.1 else named_or o k ns

abbrev pub asked_outcome : Scope → List (List ℕ × Outcome) → Asked → Outcome
asked_outcome s ns (spelled t) = Value (string t)
asked_outcome s ns (attribute_of n a) = s.attribute n a
asked_outcome s ns (named n) = named_or (ref_outcome s n) n ns

abbrev pub sub_part_outcome : Scope → List (List ℕ × Outcome) → SubPart → Outcome
sub_part_outcome s ns (literal t) = Value (string t)
sub_part_outcome s ns (hole n) = asked_outcome s ns (asked n)

abbrev pub sub_items : Scope → List (List ℕ × Outcome) → List SubPart → Listed
sub_items s ns [] = Lists no_items
sub_items s ns (p ∷ ps) = first_item (sub_part_outcome s ns p) (sub_items s ns ps)

-- the parts are the arguments, and their texts are joined
abbrev pub sub_outcome : Scope → List (List ℕ × Outcome) → Option (List SubPart) → Outcome
sub_outcome s ns None = Fault BadIntrinsic
sub_outcome s ns (Some ps) = on_items (λ ds. join_texts [] (item_texts ds)) (array_outcome (sub_items s ns ps))

abbrev pub sub_args : Scope → List (List ℕ × Outcome) → Data → Data → Outcome
sub_args s ns (string t) (object ms) = sub_outcome s ns (sub_parts t)
sub_args s ns _ _ = Fault BadIntrinsic

abbrev pub sub_form : Scope → Data → List Part → Outcome
sub_form s (string t) _ = sub_outcome s [] (sub_parts t)
sub_form s (array ds) (t ∷ v ∷ []) = sub_args s v.members t.raw v.raw
sub_form s _ _ = Fault BadIntrinsic

-- ---- all of them

-- the intrinsics that stand in no operand of a condition; a `Ref` and a part of a `Fn::Sub` turn on what they name
abbrev pub is_barred_key : List ℕ → Bool
is_barred_key k = bytes_eq k (codes "Fn::If") || (bytes_eq k (codes "Fn::ImportValue") || bytes_eq k (codes "Fn::GetAtt"))

-- the intrinsic of this key, at its argument as it stands, evaluated, and in parts
abbrev pub form_outcome : Scope → List ℕ → Data → Outcome → List Part → Outcome
form_outcome s k d o ps =
    if is_barred_key k && s.is_operand then Fault BadIntrinsic
    else (if bytes_eq k (codes "Ref") then ref_form s d
    else (if bytes_eq k (codes "Fn::GetAtt") then att_form s ps
    else (if bytes_eq k (codes "Fn::Join") then join_form ps
    else (if bytes_eq k (codes "Fn::Select") then select_form ps
    else (if bytes_eq k (codes "Fn::Split") then split_form ps
    else (if bytes_eq k (codes "Fn::Sub") then sub_form s d ps
    else (if bytes_eq k (codes "Fn::If") then if_form s ps
    else (if bytes_eq k (codes "Fn::FindInMap") then map_form s ps
    else (if bytes_eq k (codes "Fn::ImportValue") then import_form s o
    else Fault BadIntrinsic)))))))))

abbrev pub has_intrinsic_key : Members → Bool
has_intrinsic_key no_members = false
has_intrinsic_key (member k d ms) = is_intrinsic_key k || has_intrinsic_key ms

abbrev pub number_outcome : Num → Outcome
number_outcome n = if is_whole n then Value (number n) else Fault BadIntrinsic

-- All parts are evaluated here, and the form picks those that count: `Fn::If` its taken branch, `Fn::Sub` the names
-- that its text uses.
abbrev mutual
  pub outcome : Scope → Data → Outcome
  outcome s null = Fault BadIntrinsic
  outcome s (boolean b) = Value (boolean b)
  outcome s (number n) = number_outcome n
  outcome s (string t) = Value (string t)
  outcome s (array ds) = array_outcome (item_outcomes s ds)
  outcome s (object ms) = if has_intrinsic_key ms then single_form s ms else object_outcome (member_outcomes s ms)

  pub item_outcomes : Scope → Items → Listed
  item_outcomes s no_items = Lists no_items
  item_outcomes s (item d ds) = first_item (outcome s d) (item_outcomes s ds)

  pub member_outcomes : Scope → Members → Fielded
  member_outcomes s no_members = Has no_members
  member_outcomes s (member k d ms) = first_member k (outcome s d) (member_outcomes s ms)

  -- of an object with an intrinsic's key: it has no other
  pub single_form : Scope → Members → Outcome
  single_form s no_members = Fault BadIntrinsic
  single_form s (member k d no_members) = form_outcome s k d (outcome s d) (parts s d)
  single_form s (member k d (member l e ms)) = Fault BadIntrinsic

  -- the items of an array
  pub parts : Scope → Data → List Part
  parts s null = []
  parts s (boolean b) = []
  parts s (number n) = []
  parts s (string t) = []
  parts s (array ds) = item_parts s ds
  parts s (object ms) = []

  pub item_parts : Scope → Items → List Part
  item_parts s no_items = []
  item_parts s (item d ds) = part d (outcome s d) (members_of s d) ∷ item_parts s ds

  -- the members of an object, one by one
  pub members_of : Scope → Data → List (List ℕ × Outcome)
  members_of s null = []
  members_of s (boolean b) = []
  members_of s (number n) = []
  members_of s (string t) = []
  members_of s (array ds) = []
  members_of s (object ms) = each_member s ms

  pub each_member : Scope → Members → List (List ℕ × Outcome)
  each_member s no_members = []
  each_member s (member k d ms) = (k, outcome s d) ∷ each_member s ms
