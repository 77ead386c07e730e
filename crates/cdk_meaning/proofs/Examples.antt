-- Worked values of rendering and of meaning, by computation.
use Rattle.std.proofs.Common.{◌≡◌, [], ◌∷◌, true, Some, None, refl}
use Rattle.std.specs.Prelude.{◌==◌, codes, pos, if◌then◌else◌}
use Rattle.std.specs.Fmt.{digits}
use Rattle.serde_json.specs.Data.{unsigned, Data, number, string, array, object, no_items, item, no_members, member}
use Rattle.cdk_plain.specs.Plain.{no_value, text, whole, truth, list_of, object_of, pseudo, ref, get_att, concat, join, select, split, choice, find_in_map, no_plains, plain, no_fields, field, equals, all_of, any_of, negation, named, no_conditions, condition}
use Rattle.cdk_meaning.specs.Mentions.{to_target, to_attribute, to_condition, mentions}
use Rattle.cdk_meaning.specs.Source.{Means, MeansNothing, Undefined, Source}
use Rattle.cdk_meaning.specs.Meaning.{meaning}
use Rattle.cdk_meaning.specs.Truth.{truth_within}
use Rattle.cdk_plain.specs.Rendered.{Local, Import, ImportList, Homes, one, two, join_json, import_json, rendered, rendered_condition}

-- 0 is a resource of the stack, 1 one of another stack, 2 a list parameter of another stack; 3 is a condition
abbrev homes : Homes
homes = record { target = λ n. if n == 2 then ImportList (codes "A:P") else (if n == 1 then Import (codes "A:X") else Local (codes "Q")); attribute = λ n a. Local (codes "Q"); condition = λ c. codes "T"; mapping = λ m. codes "M" }

abbrev source : Source
source = record { pseudo_text = λ p. codes "aws"; target = λ n. Means (string (codes "S.Q")); attribute = λ n a. Means (string (codes "S.Q.Arn")); condition = λ c. Some true; leaf = λ m x y. None; outside = λ e. None }

abbrev q : Data
q = one (codes "Ref") (string (codes "Q"))

-- ---- joins

-- a Concat inside a join of the empty delimiter is spliced, and literals that meet are merged
join_takes_in_a_concat : rendered homes (join [] (list_of (plain (text (codes "a")) (plain (concat (plain (text (codes "b")) (plain (ref 0) no_plains))) (plain (whole (pos 5)) no_plains))))) ≡ join_json [] (array (item (string (codes "ab")) (item q (item (string (codes "5")) no_items))))
unfolding digits
join_takes_in_a_concat = refl

-- a join of another delimiter stays as it is written
join_of_commas_stays : rendered homes (join (codes ",") (list_of (plain (text (codes "a")) (plain (join (codes ",") (list_of (plain (text (codes "b")) (plain (text (codes "c")) no_plains)))) no_plains)))) ≡ join_json (codes ",") (array (item (string (codes "a")) (item (join_json (codes ",") (array (item (string (codes "b")) (item (string (codes "c")) no_items)))) no_items)))
join_of_commas_stays = refl

-- literals alone are one text, and nothing is the empty text
all_literals : rendered homes (concat (plain (text (codes "a")) (plain (text []) (plain (truth true) (plain (concat (plain (text []) no_plains)) (plain (whole (pos 7)) no_plains)))))) ≡ string (codes "atrue7")
unfolding digits
all_literals = refl

nothing_left : rendered homes (concat (plain (concat no_plains) (plain (text []) no_plains))) ≡ string []
nothing_left = refl

-- texts on both sides of an empty one meet, and one that is no literal stays in its join
over_an_empty_text : rendered homes (concat (plain (text (codes "a")) (plain (text []) (plain (text (codes "b")) (plain (ref 0) no_plains))))) ≡ join_json [] (array (item (string (codes "ab")) (item q no_items)))
over_an_empty_text = refl

one_reference : rendered homes (concat (plain (ref 0) no_plains)) ≡ join_json [] (array (item q no_items))
one_reference = refl

-- ---- stacks

import_of_text : rendered homes (ref 1) ≡ import_json (codes "A:X")
import_of_text = refl

import_of_list : rendered homes (ref 2) ≡ one (codes "Fn::Split") (two (string (codes "||")) (one (codes "Fn::ImportValue") (string (codes "A:P"))))
import_of_list = refl

-- ---- what is gone

gone : meaning source (pseudo no_value) ≡ MeansNothing
gone = refl

gone_field : meaning source (object_of (field (codes "x") (pseudo no_value) (field (codes "y") (whole (pos 1)) no_fields))) ≡ Means (object (member (codes "y") (number (unsigned 1)) no_members))
gone_field = refl

gone_item : meaning source (list_of (plain (text (codes "a")) (plain (pseudo no_value) no_plains))) ≡ Means (array (item (string (codes "a")) no_items))
gone_item = refl

gone_piece : meaning source (concat (plain (text (codes "a")) (plain (pseudo no_value) no_plains))) ≡ Means (string (codes "a"))
gone_piece = refl

gone_piece_rendered : rendered homes (concat (plain (text (codes "a")) (plain (pseudo no_value) no_plains))) ≡ join_json [] (array (item (string (codes "a")) (item (one (codes "Ref") (string (codes "AWS::NoValue"))) no_items)))
gone_piece_rendered = refl

-- ---- what is undefined

past_the_end : meaning source (select 2 (list_of (plain (text (codes "a")) (plain (text (codes "b")) no_plains)))) ≡ Undefined
past_the_end = refl

no_such_leaf : meaning source (find_in_map 0 (text (codes "x")) (text (codes "y"))) ≡ Undefined
no_such_leaf = refl

list_in_a_text : meaning source (concat (plain (text (codes "a")) (plain (choice 3 (list_of (plain (text (codes "x")) no_plains)) (text (codes "y"))) no_plains))) ≡ Undefined
list_in_a_text = refl

-- only the branch that is taken counts
other_branch : meaning source (choice 3 (text (codes "x")) (select 2 (list_of no_plains))) ≡ Means (string (codes "x"))
other_branch = refl

-- but both are mentioned
both_branches : mentions (choice 3 (ref 0) (get_att 1 (codes "Arn"))) ≡ to_condition 3 ∷ to_target 0 ∷ to_attribute 1 (codes "Arn") ∷ []
both_branches = refl

cut_from_the_left : meaning source (split (codes "aa") (text (codes "xaaaay"))) ≡ Means (array (item (string (codes "x")) (item (string []) (item (string (codes "y")) no_items))))
cut_from_the_left = refl

-- ---- conditions

condition_rendered : rendered_condition homes (all_of (condition (equals (ref 0) (text (codes "x"))) (condition (negation (named 3)) no_conditions))) ≡ one (codes "Fn::And") (array (item (one (codes "Fn::Equals") (two q (string (codes "x")))) (item (one (codes "Fn::Not") (array (item (one (codes "Condition") (string (codes "T"))) no_items))) no_items)))
condition_rendered = refl

-- all parts are evaluated: one that has no truth leaves none to the whole
one_undefined : truth_within (λ c e. if c == 0 then None else Some (codes "x")) (λ c. if c == 2 then any_of (condition (named 1) (condition (named 0) no_conditions)) else equals (text []) (text [])) 2 2 ≡ None
one_undefined = refl

itself : truth_within (λ c e. None) (λ c. named c) 9 0 ≡ None
itself = refl
