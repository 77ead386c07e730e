-- The meaning of a plain expression, over constructs alone (CloudFormation's intrinsic functions, told of constructs and not of
-- template names).
use Rattle.std.specs.Prelude.{ℕ, List, [], ◌++◌, Bool, true, false, Option, Some, None}
use Rattle.serde_json.specs.Data.{Data, boolean, number, string, array, object, Items, no_items, item, Members, no_members, member}
use Rattle.cdk_base.specs.Json.{text_of}
use Rattle.serde_json.specs.Find.{get_item}
use Rattle.cdk_eval.specs.Texts.{item_texts, join_with, cut}
use Rattle.cdk_plain.specs.Plain.{Pseudo, no_value, num_of, Plain, text, whole, truth, list_of, object_of, pseudo, ref, get_att, concat, join, select, split, choice, find_in_map, import_value, Plains, no_plains, plain, Fields, no_fields, field}
use Rattle.cdk_meaning.specs.Source.{Meaning, Means, MeansNothing, Undefined, Source}

abbrev pub or_undefined : Option Data → Meaning
or_undefined None = Undefined
or_undefined (Some d) = Means d

abbrev pub means_text : Option (List ℕ) → Meaning
means_text None = Undefined
means_text (Some t) = Means (string t)

-- A part before others, where gone parts are dropped.
abbrev pub with_item : Meaning → Option Items → Option Items
with_item (Means d) (Some ds) = Some (item d ds)
with_item MeansNothing (Some ds) = Some ds
with_item _ _ = None

abbrev pub with_member : List ℕ → Meaning → Option Members → Option Members
with_member k (Means d) (Some ms) = Some (member k d ms)
with_member k MeansNothing (Some ms) = Some ms
with_member k _ _ = None

abbrev pub means_array : Option Items → Meaning
means_array None = Undefined
means_array (Some ds) = Means (array ds)

abbrev pub means_object : Option Members → Meaning
means_object None = Undefined
means_object (Some ms) = Means (object ms)

-- The text of a piece of a Concat: the empty one of a piece that is gone.
abbrev pub piece : Meaning → Option (List ℕ)
piece (Means d) = text_of d
piece MeansNothing = Some []
piece Undefined = None

abbrev pub then_text : Option (List ℕ) → Option (List ℕ) → Option (List ℕ)
then_text (Some t) (Some u) = Some (t ++ u)
then_text _ _ = None

-- The text of what is meant; what is gone has none.
abbrev pub text_in : Meaning → Option (List ℕ)
text_in (Means d) = text_of d
text_in MeansNothing = None
text_in Undefined = None

abbrev pub joined_texts : List ℕ → Option (List (List ℕ)) → Meaning
joined_texts d None = Undefined
joined_texts d (Some ts) = Means (string (join_with d ts))

abbrev pub items_in : Meaning → Option Items
items_in (Means (array ds)) = Some ds
items_in _ = None

abbrev pub joined_items : List ℕ → Option Items → Meaning
joined_items d None = Undefined
joined_items d (Some ds) = joined_texts d (item_texts ds)

abbrev pub item_at : ℕ → Option Items → Meaning
item_at n None = Undefined
item_at n (Some ds) = or_undefined (get_item n ds)

abbrev pub cut_at : List ℕ → Option (List ℕ) → Meaning
cut_at d None = Undefined
cut_at d (Some t) = Means (array (cut d 0 [] t))

abbrev pub chosen : Option Bool → Meaning → Meaning → Meaning
chosen None x y = Undefined
chosen (Some true) x y = x
chosen (Some false) x y = y

abbrev pub leaf_at : (List ℕ → List ℕ → Option Data) → Option (List ℕ) → Option (List ℕ) → Meaning
leaf_at leaf (Some x) (Some y) = or_undefined (leaf x y)
leaf_at leaf _ _ = Undefined

abbrev pub pseudo_meaning : Source → Pseudo → Meaning
pseudo_meaning src no_value = MeansNothing
pseudo_meaning src p = Means (string (src.pseudo_text p))

abbrev mutual
  pub meaning : Source → Plain → Meaning
  meaning src (text s) = Means (string s)
  meaning src (whole z) = Means (number (num_of z))
  meaning src (truth b) = Means (boolean b)
  meaning src (list_of ps) = means_array (meanings src ps)
  meaning src (object_of fs) = means_object (field_meanings src fs)
  meaning src (pseudo p) = pseudo_meaning src p
  meaning src (ref t) = src.target t
  meaning src (get_att t a) = src.attribute t a
  meaning src (concat ps) = means_text (pieces_text src ps)
  meaning src (join d e) = joined_items d (items_in (meaning src e))
  meaning src (select n e) = item_at n (items_in (meaning src e))
  meaning src (split d e) = cut_at d (text_in (meaning src e))
  meaning src (choice c x y) = chosen (src.condition c) (meaning src x) (meaning src y)
  meaning src (find_in_map m x y) = leaf_at (src.leaf m) (text_in (meaning src x)) (text_in (meaning src y))
  meaning src (import_value e) = means_text (src.outside e)

  pub meanings : Source → Plains → Option Items
  meanings src no_plains = Some no_items
  meanings src (plain p ps) = with_item (meaning src p) (meanings src ps)

  pub pieces_text : Source → Plains → Option (List ℕ)
  pieces_text src no_plains = Some []
  pieces_text src (plain p ps) = then_text (piece (meaning src p)) (pieces_text src ps)

  pub field_meanings : Source → Fields → Option Members
  field_meanings src no_fields = Some no_members
  field_meanings src (field k p fs) = with_member k (meaning src p) (field_meanings src fs)
