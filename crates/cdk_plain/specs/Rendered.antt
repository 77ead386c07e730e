-- The template JSON of a plain expression, for a consuming stack (CloudFormation's intrinsic functions, as AWS CDK writes them; the
-- merging of joins is own).
use Rattle.std.specs.Prelude.{ℕ, List, [], ◌∷◌, ◌++◌, Option, Some, None, if◌then◌else◌, bytes_eq, codes}
use Rattle.serde_json.specs.Data.{unsigned, Data, boolean, number, string, array, object, Items, no_items, item, Members, no_members, member}
use Rattle.cdk_base.specs.Json.{text_of}
use Rattle.cdk_plain.specs.Plain.{pseudo_name, num_of, Plain, text, whole, truth, list_of, object_of, pseudo, ref, get_att, concat, join, select, split, choice, find_in_map, import_value, Plains, no_plains, plain, Fields, no_fields, field, Condition, equals, all_of, any_of, negation, named, Conditions, no_conditions, condition}

-- How a target is spelled for a stack: by its logical name there, or elsewhere as the import of an export, whose text is cut at each
-- `||` where it stands for a list.
pub data Home : Type 0 where
  Local : List ℕ → Home
  Import : List ℕ → Home
  ImportList : List ℕ → Home

pub record Homes : Type 0 where
  pub target : ℕ → Home
  pub attribute : ℕ → List ℕ → Home
  pub condition : ℕ → List ℕ
  pub mapping : ℕ → List ℕ

abbrev pub one : List ℕ → Data → Data
one k d = object (member k d no_members)

abbrev pub two : Data → Data → Data
two d e = array (item d (item e no_items))

abbrev pub three : Data → Data → Data → Data
three d e f = array (item d (item e (item f no_items)))

abbrev pub join_json : List ℕ → Data → Data
join_json d x = one (codes "Fn::Join") (two (string d) x)

abbrev pub split_json : List ℕ → Data → Data
split_json d x = one (codes "Fn::Split") (two (string d) x)

abbrev pub import_json : List ℕ → Data
import_json e = one (codes "Fn::ImportValue") (string e)

-- What stands between the items of a list that crosses stacks.
abbrev pub list_delimiter : List ℕ
list_delimiter = codes "||"

-- ---- Concat, and a join of the empty delimiter over an array

abbrev pub and_items : Items → Items → Items
and_items no_items es = es
and_items (item d ds) es = item d (and_items ds es)

-- The items of a join of the empty delimiter over an array.
abbrev pub joined_in : Data → Option Items
joined_in (object (member k (array (item (string []) (item (array ds) no_items))) no_members)) = if bytes_eq k (codes "Fn::Join") then Some ds else None
joined_in _ = None

abbrev pub spliced_onto : Option Items → Data → Items → Items
spliced_onto None d es = item d es
spliced_onto (Some ds) d es = and_items ds es

-- Each item that is such a join gives way to its items.
abbrev pub spliced : Items → Items
spliced no_items = no_items
spliced (item d ds) = spliced_onto (joined_in d) d (spliced ds)

-- A text before others.
abbrev pub glued : List ℕ → Items → Items
glued t (item (string s) ds) = item (string (t ++ s)) ds
glued t ds = item (string t) ds

abbrev pub merged_onto : Option (List ℕ) → Data → Items → Items
merged_onto None d ds = item d ds
merged_onto (Some []) d ds = ds
merged_onto (Some (c ∷ t)) d ds = glued (c ∷ t) ds

-- Literals as texts, neighbours merged, empty ones dropped.
abbrev pub merged : Items → Items
merged no_items = no_items
merged (item d ds) = merged_onto (text_of d) d (merged ds)

abbrev pub finished : Items → Data
finished no_items = string []
finished (item (string s) no_items) = string s
finished ds = join_json [] (array ds)

abbrev pub joined : Items → Data
joined ds = finished (merged (spliced ds))

-- A join of any delimiter.
abbrev pub rendered_join : List ℕ → Data → Data
rendered_join [] (array ds) = joined ds
rendered_join d x = join_json d x

-- ---- targets

abbrev pub ref_json : Home → Data
ref_json (Local n) = one (codes "Ref") (string n)
ref_json (Import e) = import_json e
ref_json (ImportList e) = split_json list_delimiter (import_json e)

abbrev pub attribute_json : List ℕ → Home → Data
attribute_json a (Local n) = one (codes "Fn::GetAtt") (two (string n) (string a))
attribute_json a (Import e) = import_json e
attribute_json a (ImportList e) = split_json list_delimiter (import_json e)

-- ---- all forms

abbrev mutual
  pub rendered : Homes → Plain → Data
  rendered h (text s) = string s
  rendered h (whole z) = number (num_of z)
  rendered h (truth b) = boolean b
  rendered h (list_of ps) = array (rendered_items h ps)
  rendered h (object_of fs) = object (rendered_fields h fs)
  rendered h (pseudo p) = one (codes "Ref") (string (pseudo_name p))
  rendered h (ref t) = ref_json (h.target t)
  rendered h (get_att t a) = attribute_json a (h.attribute t a)
  rendered h (concat ps) = joined (rendered_items h ps)
  rendered h (join d e) = rendered_join d (rendered h e)
  rendered h (select n e) = one (codes "Fn::Select") (two (number (unsigned n)) (rendered h e))
  rendered h (split d e) = split_json d (rendered h e)
  rendered h (choice c x y) = one (codes "Fn::If") (three (string (h.condition c)) (rendered h x) (rendered h y))
  rendered h (find_in_map m x y) = one (codes "Fn::FindInMap") (three (string (h.mapping m)) (rendered h x) (rendered h y))
  rendered h (import_value e) = import_json e

  pub rendered_items : Homes → Plains → Items
  rendered_items h no_plains = no_items
  rendered_items h (plain p ps) = item (rendered h p) (rendered_items h ps)

  pub rendered_fields : Homes → Fields → Members
  rendered_fields h no_fields = no_members
  rendered_fields h (field k p fs) = member k (rendered h p) (rendered_fields h fs)

abbrev mutual
  pub rendered_condition : Homes → Condition → Data
  rendered_condition h (equals x y) = one (codes "Fn::Equals") (two (rendered h x) (rendered h y))
  rendered_condition h (all_of cs) = one (codes "Fn::And") (array (rendered_conditions h cs))
  rendered_condition h (any_of cs) = one (codes "Fn::Or") (array (rendered_conditions h cs))
  rendered_condition h (negation c) = one (codes "Fn::Not") (array (item (rendered_condition h c) no_items))
  rendered_condition h (named c) = one (codes "Condition") (string (h.condition c))

  pub rendered_conditions : Homes → Conditions → Items
  rendered_conditions h no_conditions = no_items
  rendered_conditions h (condition c cs) = item (rendered_condition h c) (rendered_conditions h cs)
