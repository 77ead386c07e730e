-- The conditions that a condition names, by their paths and by their numbers: each is found, and a condition of the stack.
use Rattle.std.proofs.Common.{◌≡◌, ◌<◌, ℕ, ◌+◌, List, [], ◌∷◌, ◌++◌, map, length, Bool, true, true≢false, refl, sym, ap, ◌∙◌, subst}
use Rattle.std.specs.Prelude.{◌&&◌}
use Rattle.std.proofs.lemmas.List.{map-append}
use Rattle.cdk_elements.specs.Elements.{constructs_in, element_of, own_operand, parts_of}
use Rattle.cdk_elements.specs.Kinds.{is_in}
use Rattle.cdk_expansion.specs.Conditions.{condition_plain, conditions_plain}
use Rattle.cdk_language.specs.Condition as condition
use Rattle.cdk_language.specs.Condition.{Condition, Conditions}
use Rattle.cdk_language.specs.Construct as language
use Rattle.cdk_language.specs.Construct.{Body}
use Rattle.cdk_lazies.specs.MentionGraph as graph
use Rattle.cdk_meaning.proofs.NameLists.{each_back, each_front}
use Rattle.cdk_meaning.specs.Constructs.{condition_at, condition_in}
use Rattle.cdk_meaning.specs.Mentions.{all_names_in, names_in}
use Rattle.cdk_meaning.specs.Names.{Each, IsIn}
use Rattle.cdk_plain.specs.Plain.{Plain}
use Rattle.cdk_tokens.specs.Marking.{target}
use Rattle.cdk_contexts.specs.Expressions.{operands_of}
use Rattle.cdk_tree.proofs.Tests.{and_right}
use Rattle.cdk_tree.specs.Expected.{expected_condition, expected_conditions, is_condition}
use Rattle.cdk_tree.specs.Placed.{Placed, construct_at}
use Rattle.cdk_tree.specs.declared.role.TargetRole.TheVariants as roles
use Rattle.cdk_premises.specs.MentionsLaws.{ConditionsAreClosed}
use Rattle.cdk_premises.specs.OneTree.{IsOneTree}
use Rattle.cdk_premises.proofs.Lists.{each_append, each_picked}
use Rattle.cdk_premises.proofs.Targets.{BodyIsMet, IsMet, IsMetAt, body_is_met, condition_there}

-- ---- paths and numbers

module _ (cs : List Placed) (operand : ℕ → Plain) where
  mutual
    pub same_names : (n : ℕ) (c : Condition) → names_in (condition_plain cs operand n c) ≡ map (target cs) (graph.names_in c)
    same_names n (condition.equals x y) = refl
    same_names n (condition.all_of ds) = all_same_names n ds
    same_names n (condition.any_of ds) = all_same_names n ds
    same_names n (condition.negated c) = same_names n c
    same_names n (condition.named t) = refl

    all_same_names : (n : ℕ) (ds : Conditions) → all_names_in (conditions_plain cs operand n ds) ≡ map (target cs) (graph.names_in_all ds)
    all_same_names n condition.no_conditions = refl
    all_same_names n (condition.condition c ds) =
        let later = n + length (operands_of c) in
        ap (λ ks. ks ++ all_names_in (conditions_plain cs operand later ds)) (same_names n c) ∙ ap (λ ks. map (target cs) (graph.names_in c) ++ ks) (all_same_names later ds)
        ∙ sym (map-append (target cs) (graph.names_in c) (graph.names_in_all ds))

-- ---- each is found

module _ (cs : List Placed) (in_condition : Bool) where
  abbrev pub IsFound : List ℕ → Type 0
  IsFound t = IsMet cs in_condition roles.Condition t

  mutual
    pub names_found : (c : Condition) → Each (IsMetAt cs in_condition) (expected_condition c) → Each IsFound (graph.names_in c)
    names_found (condition.equals x y) h = tt
    names_found (condition.all_of ds) h = all_names_found ds h
    names_found (condition.any_of ds) h = all_names_found ds h
    names_found (condition.negated c) h = names_found c h
    names_found (condition.named t) h = (h.0, tt)

    all_names_found : (ds : Conditions) → Each (IsMetAt cs in_condition) (expected_conditions ds) → Each IsFound (graph.names_in_all ds)
    all_names_found condition.no_conditions h = tt
    all_names_found (condition.condition c ds) h =
        each_append IsFound (graph.names_in c) (graph.names_in_all ds) (names_found c (each_front (IsMetAt cs in_condition) (expected_condition c) (expected_conditions ds) h))
        (all_names_found ds (each_back (IsMetAt cs in_condition) (expected_condition c) (expected_conditions ds) h))

-- ---- the conditions of the stack

-- a construct that is a condition is one of the language's
pub as_condition : (P : Body → Type 0) (b : Body) → is_condition b ≡ true → ((c : Condition) → b ≡ language.condition_body c → P (language.condition_body c)) → P b
as_condition P (language.condition_body c) is f = f c refl
as_condition P b is f = absurd (true≢false (sym is))

-- what holds of each condition that a construct of the tree is
pub each_condition : (P : ℕ → Type 0) (cs : List Placed) (stack : ℕ) → ((n : ℕ) → n < length cs → is_condition (construct_at cs n).body ≡ true → P n) → Each P (parts_of cs stack).conditions
each_condition P cs stack h =
    each_picked P (λ n. is_in stack (construct_at cs n).stack && is_condition (construct_at cs n).body) (length cs)
    (λ n within is. h n within (and_right (is_in stack (construct_at cs n).stack) (is_condition (construct_at cs n).body) is))

module _ (cs : List Placed) (stack : ℕ) (tree : IsOneTree cs stack) where
  targets_there : (paths : List (List ℕ)) → Each (IsFound cs true) paths → Each (λ d. IsIn d (parts_of cs stack).conditions) (map (target cs) paths)
  targets_there [] h = tt
  targets_there (t ∷ ts) h = (condition_there cs stack tree (target cs t) h.0.serving, targets_there ts h.1)

  closed_at : (n : ℕ) → n < length cs → is_condition (construct_at cs n).body ≡ true → Each (λ d. IsIn d (parts_of cs stack).conditions) (names_in (condition_at (constructs_in cs) n))
  closed_at n within is =
      as_condition (λ b. BodyIsMet cs b → Each (λ d. IsIn d (parts_of cs stack).conditions) (names_in (condition_in n (element_of cs n b)))) (construct_at cs n).body is
      (λ c same met. subst (Each (λ d. IsIn d (parts_of cs stack).conditions)) (sym (same_names cs (own_operand cs n c) 0 c)) (targets_there (graph.names_in c) (names_found cs true c met)))
      (body_is_met cs tree.sound n within)

pub conditions_are_closed : ConditionsAreClosed
conditions_are_closed cs stack tree = each_condition (λ c. Each (λ d. IsIn d (parts_of cs stack).conditions) (names_in (condition_at (constructs_in cs) c))) cs stack (closed_at cs stack tree)
