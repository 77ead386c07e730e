-- What a plain expression mentions, in every branch (AWS CDK's references of a resolved value).
use Rattle.std.specs.Prelude.{ℕ, List, [], ◌∷◌, ◌++◌}
use Rattle.cdk_plain.specs.Plain.{Plain, text, whole, truth, list_of, object_of, pseudo, ref, get_att, concat, join, select, split, choice, find_in_map, import_value, Plains, no_plains, plain, Fields, no_fields, field, Condition, equals, all_of, any_of, negation, named, Conditions, no_conditions, condition}

pub data Mention : Type 0 where
  to_target : ℕ → Mention
  to_attribute : ℕ → List ℕ → Mention
  to_condition : ℕ → Mention
  to_mapping : ℕ → Mention
  to_import : List ℕ → Mention

abbrev mutual
  pub mentions : Plain → List Mention
  mentions (text s) = []
  mentions (whole z) = []
  mentions (truth b) = []
  mentions (list_of ps) = all_mentions ps
  mentions (object_of fs) = field_mentions fs
  mentions (pseudo s) = []
  mentions (ref t) = to_target t ∷ []
  mentions (get_att t a) = to_attribute t a ∷ []
  mentions (concat ps) = all_mentions ps
  mentions (join d e) = mentions e
  mentions (select n e) = mentions e
  mentions (split d e) = mentions e
  mentions (choice c x y) = to_condition c ∷ [] ++ (mentions x ++ mentions y)
  mentions (find_in_map m x y) = to_mapping m ∷ [] ++ (mentions x ++ mentions y)
  mentions (import_value e) = to_import e ∷ []

  pub all_mentions : Plains → List Mention
  all_mentions no_plains = []
  all_mentions (plain p ps) = mentions p ++ all_mentions ps

  pub field_mentions : Fields → List Mention
  field_mentions no_fields = []
  field_mentions (field k p fs) = mentions p ++ field_mentions fs

-- Of a condition's operands.
abbrev mutual
  pub operand_mentions : Condition → List Mention
  operand_mentions (equals x y) = mentions x ++ mentions y
  operand_mentions (all_of cs) = all_operand_mentions cs
  operand_mentions (any_of cs) = all_operand_mentions cs
  operand_mentions (negation c) = operand_mentions c
  operand_mentions (named c) = []

  pub all_operand_mentions : Conditions → List Mention
  all_operand_mentions no_conditions = []
  all_operand_mentions (condition c cs) = operand_mentions c ++ all_operand_mentions cs

-- The conditions that a condition names.
abbrev mutual
  pub names_in : Condition → List ℕ
  names_in (equals x y) = []
  names_in (all_of cs) = all_names_in cs
  names_in (any_of cs) = all_names_in cs
  names_in (negation c) = names_in c
  names_in (named c) = c ∷ []

  pub all_names_in : Conditions → List ℕ
  all_names_in no_conditions = []
  all_names_in (condition c cs) = names_in c ++ all_names_in cs
