-- The bounds at expressions that reach them, and the laws at a small application: the construct 1 is a lazy of a text, which the
-- condition 3 and the resource 4 mention.
use Rattle.std.proofs.Common.{◌≡◌, ◌≤◌, ℕ, zero, suc, List, [], codes, length, Some, None, option_and_then, option_map, refl, arith}
use Rattle.std.specs.Fmt.{digits}
use Rattle.serde_json.specs.Data as json
use Rattle.serde_json.specs.Data.{array, Data, item, member, no_items, no_members, object, string}
use Rattle.serde_json.specs.Read.{read}
use Rattle.serde_json.proofs.OnLiterals.{serde_json_on_literals}
use Rattle.cdk_elements.specs.Elements.{own_condition, own_homes, own_value}
use Rattle.cdk_expansion.specs.Clean.{TreeIsClean}
use Rattle.cdk_expansion.specs.Laws.{IsSound}
use Rattle.cdk_graphs.specs.Loops.{LoopsAreFound}
use Rattle.cdk_keeping.specs.Keeping.{IsRendering}
use Rattle.cdk_language.specs.Application.{application_of}
use Rattle.cdk_language.specs.Condition as condition
use Rattle.cdk_language.specs.Condition.{Condition}
use Rattle.cdk_language.specs.Construct.{Application, child, condition_body, Construct, construct, Head, lazy, no_constructs, resource, root, stack}
use Rattle.cdk_language.specs.Expression as expression
use Rattle.cdk_language.specs.Expression.{Expression}
use Rattle.cdk_leaves.specs.Ready.{scope_of}
use Rattle.cdk_plain.specs.Plain as plain
use Rattle.cdk_plain.specs.Plain.{field, join, list_of, no_fields, no_plains, object_of, Plain, ref}
use Rattle.cdk_plain.specs.Rendered.{Homes, ImportList, one, rendered, rendered_condition, two}
use Rattle.cdk_premises.proofs.CheckedDepths.{values_fit}
use Rattle.cdk_premises.proofs.Renderings.{condition_renderings_are_own, renderings_are_own}
use Rattle.cdk_premises.specs.RenderedLaws.{HasNoCycle}
use Rattle.cdk_resolve.specs.Conditions.{IsConditionRendering}
use Rattle.cdk_value_measures.specs.Size.{condition_depth, depth}
use Rattle.cdk_sizes.specs.SizeFindings.{size_findings}
use Rattle.cdk_contexts.specs.Contexts.{context_findings}
use Rattle.cdk_tokens.specs.Whole.{marking, tokens_of, value_at}
use Rattle.cdk_tree.specs.Expected.{target_findings}
use Rattle.cdk_tree.specs.Placed.{constructs_of, Placed}

-- ---- the bounds are reached

-- each target is a list of another stack
abbrev elsewhere : Homes
elsewhere = record { target = λ n. ImportList (codes "E"); attribute = λ n a. ImportList (codes "E"); condition = λ n. []; mapping = λ n. [] }

-- joins in joins, around a target
abbrev joined : ℕ → Plain
joined zero = ref 0
joined (suc n) = join (codes ",") (list_of (plain.plain (joined n) no_plains))

joined_depth : depth (joined 31) ≡ 32
joined_depth = refl

joined_levels : json.depth (rendered elsewhere (joined 31)) ≡ 96
joined_levels = refl

abbrev joined_object : Plain
joined_object = object_of (field (codes "P") (joined 30) no_fields)

object_depth : depth joined_object ≡ 32
object_depth = refl

object_levels : json.depth (rendered elsewhere joined_object) ≡ 94
object_levels = refl

condition_is_deep : condition_depth (plain.equals (joined 30) (joined 30)) ≡ 32
condition_is_deep = refl

condition_levels : json.depth (rendered_condition elsewhere (plain.equals (joined 30) (joined 30))) ≡ 95
condition_levels = refl

-- ---- the application

abbrev head : List ℕ → Head
head id = record { id = id; context = no_members; aspects = []; depends = []; logical = None }

abbrev told : Construct
told = construct (head (codes "A")) (lazy (expression.text (codes "a"))) no_constructs

abbrev tested : Condition
tested = condition.equals (expression.lazy (codes "A")) (expression.text (codes "b"))

abbrev properties : Expression
properties = expression.object (expression.field (codes "P") (expression.lazy (codes "A")) expression.no_fields)

abbrev shown : Construct
shown = construct (head (codes "R")) (resource (record { resource_type = codes "T"; properties = properties; condition = None; deletion = None; replace = None })) no_constructs

abbrev application : Application
application =
    construct (head []) root
    (child told (child (construct (head (codes "S")) (stack None) (child (construct (head (codes "C")) (condition_body tested) no_constructs) (child shown no_constructs))) no_constructs))

abbrev placed : List Placed
placed = constructs_of application

-- it is read from this text
is_read : option_map constructs_of (option_and_then application_of (read (codes "{\"app\":\"2\",\"children\":[{\"id\":\"A\",\"kind\":\"lazy\",\"value\":\"a\"},{\"children\":[{\"expression\":{\"Fn::Equals\":[{\"CDK::Lazy\":\"A\"},\"b\"]},\"id\":\"C\",\"kind\":\"condition\"},{\"id\":\"R\",\"kind\":\"resource\",\"properties\":{\"P\":{\"CDK::Lazy\":\"A\"}},\"type\":\"T\"}],\"id\":\"S\",\"kind\":\"stack\"}]}")))
    ≡ Some placed
unfolding serde_json_on_literals digits
is_read = refl

clean : TreeIsClean placed
clean zero h = tt
clean (suc zero) h = (refl, tt)
clean (suc (suc zero)) h = tt
clean (suc (suc (suc zero))) h = (tt, (refl, tt))
clean (suc (suc (suc (suc zero)))) h = ((tt, tt), tt)
clean (suc (suc (suc (suc (suc n))))) h = let few : length placed ≡ 5 = refl in absurd (omega (arith, h, few))

right_targets : target_findings placed ≡ []
right_targets = refl

right_contexts : context_findings placed ≡ []
right_contexts = refl

sound : IsSound placed
sound = let two_tokens : length (tokens_of placed) ≡ 2 = refl in record { clean = clean; targets = right_targets; contexts = right_contexts; few = omega (arith, two_tokens) }

no_cycle : HasNoCycle placed
unfolding digits
no_cycle = refl

no_size : size_findings placed (tokens_of placed) (marking placed) ≡ []
unfolding digits
no_size = refl

-- ---- its rendered values

value_json : rendered (own_homes placed) (own_value placed 4 properties) ≡ object (member (codes "P") (string (codes "a")) no_members)
value_json = refl

condition_json : rendered_condition (own_homes placed) (own_condition placed 3 tested) ≡ one (codes "Fn::Equals") (two (string (codes "a")) (string (codes "b")))
condition_json = refl

-- it has room, whatever is known of searches for loops beside that they find them
value_fits : LoopsAreFound → json.depth (rendered (own_homes placed) (own_value placed 4 properties)) ≤ 94
value_fits found = values_fit found placed sound no_cycle no_size (own_homes placed) 4

condition_fits : LoopsAreFound → json.depth (rendered_condition (own_homes placed) (own_condition placed 3 tested)) ≤ 95
condition_fits found = values_fit found placed sound no_cycle no_size (own_homes placed) 3

-- in any scope what is rendered is that JSON
value_is_own : LoopsAreFound → (order : List ℕ) (d r : Data) → value_at (marking placed) 4 ≡ Some d → IsRendering (scope_of (tokens_of placed) (marking placed) (own_homes placed) order) d r
    → r ≡ object (member (codes "P") (string (codes "a")) no_members)
value_is_own found order d r is rendering =
    renderings_are_own found placed sound no_cycle (scope_of (tokens_of placed) (marking placed) (own_homes placed) order) (record { tokens = refl; bodies = refl }) 4 properties d r refl is rendering

condition_is_own : LoopsAreFound → (order : List ℕ) (r : Data) → IsConditionRendering (scope_of (tokens_of placed) (marking placed) (own_homes placed) order) placed 3 tested r
    → r ≡ one (codes "Fn::Equals") (two (string (codes "a")) (string (codes "b")))
condition_is_own found order r rendering =
    condition_renderings_are_own found placed sound no_cycle (scope_of (tokens_of placed) (marking placed) (own_homes placed) order) (record { tokens = refl; bodies = refl }) 3 tested r refl rendering
