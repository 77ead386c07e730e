-- What the own plain form of an expression mentions: what its references name, and what its lazies mention.
use Rattle.std.proofs.Common.{ℕ, List, [], ◌∷◌, Bool, true, false, nat_cmp, Option, Some, None}
use Rattle.std.specs.Prelude.{ℤ, ⊤}
use Rattle.std.specs.Cmp.Lexicographic.{slice_cmp}
use Rattle.std.specs.Ordering.{match_ordering}
use Rattle.std.specs.declared.cmp.Ordering.{Ordering}
use Rattle.std.specs.declared.cmp.Ordering.TheVariants.{Less, Equal, Greater}
use Rattle.serde_json.specs.Data.{Data, null, boolean, number, string, array, object, Items, no_items, item, Members, no_members, member}
use Rattle.serde_json.specs.Find.{as_integer}
use Rattle.cdk_expansion.specs.Expanded.{number_plain}
use Rattle.cdk_expansion.specs.Own.{all_parts, assembled, literal, literal_fields, literal_plain, literal_plains, merge_literal, merged, other, other_part, own, own_all, own_fields, part_plain, parts, parts_plain, Part, put_field}
use Rattle.cdk_language.specs.Expression as expression
use Rattle.cdk_language.specs.Expression.{Expression, Expressions}
use Rattle.cdk_meaning.proofs.NameLists.{each_back, each_front}
use Rattle.cdk_meaning.specs.Mentions.{Mention, all_mentions, field_mentions, mentions, to_attribute, to_condition, to_import, to_mapping, to_target}
use Rattle.cdk_meaning.specs.Names.{Each}
use Rattle.cdk_plain.specs.Plain.{Fields, Plain, no_fields, field}
use Rattle.cdk_tokens.specs.Marking.{context_value, target}
use Rattle.cdk_tree.specs.Lists.{is_list}
use Rattle.cdk_tree.specs.Placed.{Placed}
use Rattle.cdk_premises.proofs.Lists.{each_append}

module _ (P : Mention → Type 0) where
  -- each mention of the plain form
  abbrev pub MentionsAre : Plain → Type 0
  MentionsAre p = Each P (mentions p)

  -- ---- parts of a Concat

  abbrev PartIs : Part → Type 0
  PartIs (literal s) = ⊤
  PartIs (other p) = MentionsAre p

  abbrev PartsAre : List Part → Type 0
  PartsAre ps = Each PartIs ps

  merged_literal : (s : List ℕ) (ps : List Part) → PartsAre ps → PartsAre (merge_literal s ps)
  merged_literal [] ps h = h
  merged_literal (x ∷ s) [] h = (tt, tt)
  merged_literal (x ∷ s) (literal t ∷ ps) h = (tt, h.1)
  merged_literal (x ∷ s) (other p ∷ ps) h = (tt, h)

  merged_parts : (ps : List Part) → PartsAre ps → PartsAre (merged ps)
  merged_parts [] h = tt
  merged_parts (literal s ∷ ps) h = merged_literal s (merged ps) (merged_parts ps h.1)
  merged_parts (other p ∷ ps) h = (h.0, merged_parts ps h.1)

  one_part : (p : Part) → PartIs p → MentionsAre (part_plain p)
  one_part (literal s) h = tt
  one_part (other p) h = h

  all_of_parts : (ps : List Part) → PartsAre ps → Each P (all_mentions (parts_plain ps))
  all_of_parts [] h = tt
  all_of_parts (p ∷ ps) h = each_append P (mentions (part_plain p)) (all_mentions (parts_plain ps)) (one_part p h.0) (all_of_parts ps h.1)

  assembled_parts : (ps : List Part) → PartsAre ps → MentionsAre (assembled ps)
  assembled_parts [] h = tt
  assembled_parts (p ∷ []) h = one_part p h.0
  assembled_parts (p ∷ q ∷ ps) h = all_of_parts (p ∷ q ∷ ps) h

  -- ---- fields

  put_by : (o : Ordering) (k l : List ℕ) (p q : Plain) (fs rest : Fields) → MentionsAre p → MentionsAre q → Each P (field_mentions fs) → Each P (field_mentions rest)
      → Each P (field_mentions (match_ordering o (field k p (field l q fs)) (field l p fs) (field l q rest)))
  put_by Less k l p q fs rest h g i j = each_append P (mentions p) (field_mentions (field l q fs)) h (each_append P (mentions q) (field_mentions fs) g i)
  put_by Equal k l p q fs rest h g i j = each_append P (mentions p) (field_mentions fs) h i
  put_by Greater k l p q fs rest h g i j = each_append P (mentions q) (field_mentions rest) g j

  put_mentions : (k : List ℕ) (p : Plain) (fs : Fields) → MentionsAre p → Each P (field_mentions fs) → Each P (field_mentions (put_field k p fs))
  put_mentions k p no_fields h g = each_append P (mentions p) [] h tt
  put_mentions k p (field l q fs) h g =
      let here = each_front P (mentions q) (field_mentions fs) g in
      let later = each_back P (mentions q) (field_mentions fs) g in
      put_by (slice_cmp nat_cmp k l) k l p q fs (put_field k p fs) h here later (put_mentions k p fs h later)

  -- ---- literals mention nothing

  whole_mentions : (o : Option ℤ) → MentionsAre (number_plain o)
  whole_mentions None = tt
  whole_mentions (Some z) = tt

  mutual
    literal_mentions : (d : Data) → MentionsAre (literal_plain d)
    literal_mentions null = tt
    literal_mentions (boolean b) = tt
    literal_mentions (number n) = whole_mentions (as_integer n)
    literal_mentions (string s) = tt
    literal_mentions (array ds) = items_mention ds
    literal_mentions (object ms) = members_mention ms

    items_mention : (ds : Items) → Each P (all_mentions (literal_plains ds))
    items_mention no_items = tt
    items_mention (item d ds) = each_append P (mentions (literal_plain d)) (all_mentions (literal_plains ds)) (literal_mentions d) (items_mention ds)

    members_mention : (ms : Members) → Each P (field_mentions (literal_fields ms))
    members_mention no_members = tt
    members_mention (member k d ms) = each_append P (mentions (literal_plain d)) (field_mentions (literal_fields ms)) (literal_mentions d) (members_mention ms)

  -- ---- an expression of the construct `at`

  module _ (lazies : ℕ → Plain) (cs : List Placed) where
    -- what its references name
    abbrev mutual
      pub Names : Expression → Type 0
      Names (expression.list es) = AllName es
      Names (expression.object fs) = FieldsName fs
      Names (expression.ref t) = P (to_target (target cs t))
      Names (expression.get_att t a) = P (to_attribute (target cs t) a)
      Names (expression.concat es) = AllName es
      Names (expression.join d e) = Names e
      Names (expression.select i e) = Names e
      Names (expression.split d e) = Names e
      Names (expression.choice c x y) = P (to_condition (target cs c)) × Names x × Names y
      Names (expression.find_in_map m x y) = P (to_mapping (target cs m)) × Names x × Names y
      Names (expression.import_value t) = P (to_import t)
      Names (expression.lazy t) = MentionsAre (lazies (target cs t))
      Names e = ⊤

      pub AllName : Expressions → Type 0
      AllName expression.no_expressions = ⊤
      AllName (expression.expression e es) = Names e × AllName es

      pub FieldsName : expression.Fields → Type 0
      FieldsName expression.no_fields = ⊤
      FieldsName (expression.field k e fs) = Names e × FieldsName fs

    module _ (at : ℕ) where
      other_is : (b : Bool) (p : Plain) → MentionsAre p → PartsAre (other_part b p)
      other_is true p h = tt
      other_is false p h = (h, tt)

      mutual
        pub own_mentions : (e : Expression) → Names e → MentionsAre (own lazies cs at e)
        own_mentions (expression.text s) h = tt
        own_mentions (expression.whole z) h = tt
        own_mentions (expression.truth b) h = tt
        own_mentions (expression.list es) h = all_mention es h
        own_mentions (expression.object fs) h = fields_mention fs no_fields h tt
        own_mentions (expression.pseudo p) h = tt
        own_mentions (expression.ref t) h = (h, tt)
        own_mentions (expression.get_att t a) h = (h, tt)
        own_mentions (expression.concat es) h = assembled_parts (merged (all_parts lazies cs at es)) (merged_parts (all_parts lazies cs at es) (all_parts_are es h))
        own_mentions (expression.join d e) h = own_mentions e h
        own_mentions (expression.select i e) h = own_mentions e h
        own_mentions (expression.split d e) h = own_mentions e h
        own_mentions (expression.choice c x y) h = (h.0, each_append P (mentions (own lazies cs at x)) (mentions (own lazies cs at y)) (own_mentions x h.1) (own_mentions y h.2))
        own_mentions (expression.find_in_map m x y) h = (h.0, each_append P (mentions (own lazies cs at x)) (mentions (own lazies cs at y)) (own_mentions x h.1) (own_mentions y h.2))
        own_mentions (expression.import_value t) h = (h, tt)
        own_mentions (expression.context k d) h = literal_mentions (context_value cs at k d)
        own_mentions (expression.lazy t) h = h

        all_mention : (es : Expressions) → AllName es → Each P (all_mentions (own_all lazies cs at es))
        all_mention expression.no_expressions h = tt
        all_mention (expression.expression e es) h = each_append P (mentions (own lazies cs at e)) (all_mentions (own_all lazies cs at es)) (own_mentions e h.0) (all_mention es h.1)

        fields_mention : (fs : expression.Fields) (done : Fields) → FieldsName fs → Each P (field_mentions done) → Each P (field_mentions (own_fields lazies cs at fs done))
        fields_mention expression.no_fields done h g = g
        fields_mention (expression.field k e fs) done h g = fields_mention fs (put_field k (own lazies cs at e) done) h.1 (put_mentions k (own lazies cs at e) done (own_mentions e h.0) g)

        parts_are : (e : Expression) → Names e → PartsAre (parts lazies cs at e (own lazies cs at e))
        parts_are (expression.text s) h = (tt, tt)
        parts_are (expression.whole z) h = (tt, tt)
        parts_are (expression.truth b) h = (tt, tt)
        parts_are (expression.list es) h = tt
        parts_are (expression.object fs) h = tt
        parts_are (expression.pseudo p) h = other_is (is_list cs at (expression.pseudo p)) (own lazies cs at (expression.pseudo p)) tt
        parts_are (expression.ref t) h = other_is (is_list cs at (expression.ref t)) (own lazies cs at (expression.ref t)) (h, tt)
        parts_are (expression.get_att t a) h = other_is (is_list cs at (expression.get_att t a)) (own lazies cs at (expression.get_att t a)) (h, tt)
        parts_are (expression.concat es) h = all_parts_are es h
        parts_are (expression.join d e) h = other_is (is_list cs at (expression.join d e)) (own lazies cs at (expression.join d e)) (own_mentions e h)
        parts_are (expression.select i e) h = other_is (is_list cs at (expression.select i e)) (own lazies cs at (expression.select i e)) (own_mentions e h)
        parts_are (expression.split d e) h = other_is (is_list cs at (expression.split d e)) (own lazies cs at (expression.split d e)) (own_mentions e h)
        parts_are (expression.choice c x y) h =
            let both = each_append P (mentions (own lazies cs at x)) (mentions (own lazies cs at y)) (own_mentions x h.1) (own_mentions y h.2) in
            other_is (is_list cs at (expression.choice c x y)) (own lazies cs at (expression.choice c x y)) (h.0, both)
        parts_are (expression.find_in_map m x y) h =
            let both = each_append P (mentions (own lazies cs at x)) (mentions (own lazies cs at y)) (own_mentions x h.1) (own_mentions y h.2) in
            other_is (is_list cs at (expression.find_in_map m x y)) (own lazies cs at (expression.find_in_map m x y)) (h.0, both)
        parts_are (expression.import_value t) h = other_is (is_list cs at (expression.import_value t)) (own lazies cs at (expression.import_value t)) (h, tt)
        parts_are (expression.context k d) h = (tt, tt)
        parts_are (expression.lazy t) h = other_is (is_list cs at (expression.lazy t)) (own lazies cs at (expression.lazy t)) h

        all_parts_are : (es : Expressions) → AllName es → PartsAre (all_parts lazies cs at es)
        all_parts_are expression.no_expressions h = tt
        all_parts_are (expression.expression e es) h = each_append PartIs (parts lazies cs at e (own lazies cs at e)) (all_parts lazies cs at es) (parts_are e h.0) (all_parts_are es h.1)
