-- What the value of a resource, an output or a lazy mentions is there, however often lazies are opened.
use Rattle.std.proofs.Common.{◌≡◌, ℕ, zero, suc, List, [], ◌∷◌, ◌++◌, length, Bool, true, false, Option, Some, None, refl, sym, ap, subst, inl, inr}
use Rattle.std.specs.Prelude.{◌||◌}
use Rattle.std.specs.Option.{option_map_or}
use Rattle.std.proofs.lemmas.Bool.{cases_lt}
use Rattle.std.proofs.lemmas.List.{get_or_past}
use Rattle.cdk_elements.specs.Elements.{constructs_in, logical_of, parts_of}
use Rattle.cdk_eval.specs.Reach.{is_among}
use Rattle.cdk_expansion.specs.Own.{own, own_opened, value_in}
use Rattle.cdk_language.specs.Construct as language
use Rattle.cdk_language.specs.Construct.{Body}
use Rattle.cdk_language.specs.Expression as expression
use Rattle.cdk_language.specs.Expression.{Expression, Expressions, Fields}
use Rattle.cdk_meaning.proofs.NameLists.{each_back, each_front, in_back, or_cases}
use Rattle.cdk_meaning.specs.AssemblyKept.{MentionIsThere, targets_in}
use Rattle.cdk_meaning.specs.Mentions.{Mention}
use Rattle.cdk_meaning.specs.Names.{Each, IsIn}
use Rattle.cdk_meaning.specs.Source.{Source}
use Rattle.cdk_plain.specs.Plain as plain
use Rattle.cdk_plain.specs.Plain.{Plain}
use Rattle.cdk_plain.specs.Rendered.{Local}
use Rattle.cdk_tokens.specs.Marking.{target}
use Rattle.cdk_tree.specs.Expected as asked
use Rattle.cdk_tree.specs.Expected.{Expected, expected, expected_all, expected_body, expected_fields, expected_pieces, expected_when, is_condition, is_parameter, is_resource}
use Rattle.cdk_tree.specs.Placed.{Placed, construct_at, nowhere}
use Rattle.cdk_premises.specs.MentionsLaws.{ValuesMentionTheirs}
use Rattle.cdk_premises.specs.OneTree.{IsOneTree}
use Rattle.cdk_premises.proofs.OwnMentions.{AllName, FieldsName, MentionsAre, Names, own_mentions}
use Rattle.cdk_premises.proofs.Targets.{BodyIsMet, IsMetAt, body_is_met, condition_there, mapping_there, parameter_there, resource_there}

in_front : {A : Type 0} (a : A) (xs ys : List A) → IsIn a xs → IsIn a (xs ++ ys)
in_front a [] ys i = absurd i
in_front a (x ∷ xs) ys (inl e) = inl e
in_front a (x ∷ xs) ys (inr i) = inr (in_front a xs ys i)

module _ (cs : List Placed) (stack : ℕ) (tree : IsOneTree cs stack) (most : ℕ) (src : Source) (names : List (List ℕ)) (none : names ≡ []) where
  abbrev P : Mention → Type 0
  P m = MentionIsThere (constructs_in cs) most src [] names (parts_of cs stack) (λ n. Local (logical_of cs n)) (λ n a. Local (logical_of cs n)) m

  -- a target that `Ref` may name
  referable_there : (n : ℕ) → (is_resource (construct_at cs n).body || is_parameter (construct_at cs n).body) ≡ true → IsIn n (targets_in (parts_of cs stack))
  referable_there n is =
      let p = parts_of cs stack in
      elim (or_cases (is_resource (construct_at cs n).body) (is_parameter (construct_at cs n).body) is) [
        | inl r ↦ in_back n p.parameters p.resources (resource_there cs stack tree n r)
        | inr q ↦ in_front n p.parameters p.resources (parameter_there cs stack tree n q)
      ]

  -- ---- one expression, where what lazies mention is there

  module _ (lazies : ℕ → Plain) (opened : (n : ℕ) → MentionsAre P (lazies n)) (in_condition : Bool) where
    abbrev AreMet : List Expected → Type 0
    AreMet xs = Each (IsMetAt cs in_condition) xs

    mutual
      names_there : (e : Expression) → AreMet (expected e) → Names P lazies cs e
      names_there (expression.text s) h = tt
      names_there (expression.whole z) h = tt
      names_there (expression.truth b) h = tt
      names_there (expression.list es) h = all_there es h
      names_there (expression.object fs) h = fields_there fs h
      names_there (expression.pseudo p) h = tt
      names_there (expression.ref t) h = (refl, referable_there (target cs t) h.0.serving)
      names_there (expression.get_att t a) h = (refl, resource_there cs stack tree (target cs t) h.0.serving)
      names_there (expression.concat es) h = pieces_there es h
      names_there (expression.join d e) h = names_there e h.1
      names_there (expression.select i e) h = names_there e h.1
      names_there (expression.split d e) h = names_there e h.1
      names_there (expression.choice c x y) h =
          (condition_there cs stack tree (target cs c) h.0.serving, names_there x (each_front (IsMetAt cs in_condition) (expected x) (expected y) h.1), names_there y (each_back (IsMetAt cs in_condition) (expected x) (expected y) h.1))
      names_there (expression.find_in_map m x y) h =
          let first = each_front (IsMetAt cs in_condition) (asked.text_place x ∷ expected x) (asked.text_place y ∷ expected y) h.1 in
          let other = each_back (IsMetAt cs in_condition) (asked.text_place x ∷ expected x) (asked.text_place y ∷ expected y) h.1 in
          (mapping_there cs stack tree (target cs m) h.0.serving, names_there x first.1, names_there y other.1)
      names_there (expression.import_value t) h = ap (is_among t) none
      names_there (expression.context k d) h = tt
      names_there (expression.lazy t) h = opened (target cs t)

      all_there : (es : Expressions) → AreMet (expected_all es) → AllName P lazies cs es
      all_there expression.no_expressions h = tt
      all_there (expression.expression e es) h =
          (names_there e (each_front (IsMetAt cs in_condition) (expected e) (expected_all es) h), all_there es (each_back (IsMetAt cs in_condition) (expected e) (expected_all es) h))

      fields_there : (fs : Fields) → AreMet (expected_fields fs) → FieldsName P lazies cs fs
      fields_there expression.no_fields h = tt
      fields_there (expression.field k e fs) h =
          (names_there e (each_front (IsMetAt cs in_condition) (expected e) (expected_fields fs) h), fields_there fs (each_back (IsMetAt cs in_condition) (expected e) (expected_fields fs) h))

      pieces_there : (es : Expressions) → AreMet (expected_pieces es) → AllName P lazies cs es
      pieces_there expression.no_expressions h = tt
      pieces_there (expression.expression e es) h = (
        names_there e (each_front (IsMetAt cs in_condition) (asked.text_place e ∷ expected e) (expected_pieces es) h).1,
        pieces_there es (each_back (IsMetAt cs in_condition) (asked.text_place e ∷ expected e) (expected_pieces es) h),
      )

  -- ---- the value of a construct

  value_is_met : (b : Body) (e : Expression) → value_in b ≡ Some e → BodyIsMet cs b → Each (IsMetAt cs (is_condition b)) (expected e)
  value_is_met (language.resource r) e is h =
      let same : r.properties ≡ e = cc is in subst (λ x. Each (IsMetAt cs false) (expected x)) same (each_front (IsMetAt cs false) (expected r.properties) (expected_when r.condition) h)
  value_is_met (language.output o) e is h =
      let same : o.value ≡ e = cc is in subst (λ x. Each (IsMetAt cs false) (expected x)) same (each_front (IsMetAt cs false) (expected o.value) (expected_when o.condition) h)
  value_is_met (language.lazy x) e is h = let same : x ≡ e = cc is in subst (λ x. Each (IsMetAt cs false) (expected x)) same h
  value_is_met b e is h = absurd (cc is)

  met_anywhere : (n : ℕ) → BodyIsMet cs (construct_at cs n).body
  met_anywhere n = elim (cases_lt n (length cs)) [
    | inl within ↦ body_is_met cs tree.sound n within
    | inr past ↦ subst (λ (c : Placed). BodyIsMet cs c.body) (sym (get_or_past cs n nowhere past)) tt
  ]

  value_there : (lazies : ℕ → Plain) → ((n : ℕ) → MentionsAre P (lazies n)) → (n : ℕ) (e : Expression) → value_in (construct_at cs n).body ≡ Some e → MentionsAre P (own lazies cs n e)
  value_there lazies opened n e is =
      let b = (construct_at cs n).body in
      own_mentions P lazies cs n e (names_there lazies opened (is_condition b) e (value_is_met b e is (met_anywhere n)))

  with_value : (lazies : ℕ → Plain) → ((n : ℕ) → MentionsAre P (lazies n)) → (n : ℕ) (o : Option Expression) → value_in (construct_at cs n).body ≡ o → MentionsAre P (option_map_or (own lazies cs n) o (plain.text []))
  with_value lazies opened n None is = tt
  with_value lazies opened n (Some e) is = value_there lazies opened n e is

  opened_there : (k n : ℕ) → MentionsAre P (own_opened k cs n)
  opened_there zero n = tt
  opened_there (suc k) n = with_value (own_opened k cs) (opened_there k) n (value_in (construct_at cs n).body) refl

pub values_mention_theirs : ValuesMentionTheirs
values_mention_theirs cs stack tree most src names none k n e within is = value_there cs stack tree most src names none (own_opened k cs) (opened_there cs stack tree most src names none k) n e is
