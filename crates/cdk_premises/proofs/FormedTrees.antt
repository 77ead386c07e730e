-- The tree of a formed application is formed: what a Context finds stands in a formed context of its construct or of a scope, or is its
-- default.
use Rattle.std.proofs.Common.{◌<◌, ℕ, zero, suc, ◌+◌, List, [], ◌∷◌, ◌++◌, length, arith}
use Rattle.cdk_base.specs.declared.Setting.{Setting}
use Rattle.cdk_premises.specs.Formed.{AreFormed, AreFormedConditions, FieldsAreFormed, IsFormed, IsFormedBody, IsFormedCondition, TreeIsFormed}
use Rattle.cdk_premises.specs.FormedConstruct.{AreFormedConstructs, IsFormedBodyAlone, IsFormedConstruct}
use Rattle.cdk_premises.specs.FormedLaws.{TreesAreFormed, TreesStayFormed}
use Rattle.cdk_premises.proofs.FormedConditions.{AreConditionsAlone, IsConditionAlone}
use Rattle.cdk_premises.proofs.FormedConstructs.{applications_are_formed}
use Rattle.cdk_premises.proofs.FormedForms.{AllAreFormedAlone, FieldsAreFormedAlone, IsFormedAlone}
use Rattle.cdk_premises.proofs.FormedLiterals.{AreFormedContexts, found_formed, laid_formed}
use Rattle.cdk_language.specs.Application.{with_settings}
use Rattle.cdk_language.specs.Condition as condition
use Rattle.cdk_language.specs.Condition.{Condition, Conditions}
use Rattle.cdk_language.specs.Construct as language
use Rattle.cdk_language.specs.Construct.{Application, Body, Construct, Constructs, Head}
use Rattle.cdk_language.specs.Expression as expression
use Rattle.cdk_language.specs.Expression.{Expression, Expressions, Fields}
use Rattle.cdk_meaning.specs.Names.{Each}
use Rattle.cdk_tree.specs.Placed.{Placed, construct_at, constructs_of, placed_in, root_placed, walk, walk_children}

-- ---- what a construct has whose contexts are formed

module _ (cs : List Placed) (at : ℕ) (contexts : AreFormedContexts (construct_at cs at).contexts) where
  mutual
    formed_here : (e : Expression) → IsFormedAlone e → IsFormed cs at e
    formed_here (expression.text s) h = tt
    formed_here (expression.whole z) h = tt
    formed_here (expression.truth b) h = tt
    formed_here (expression.list es) h = all_formed_here es h
    formed_here (expression.object fs) h = fields_formed_here fs h
    formed_here (expression.pseudo p) h = tt
    formed_here (expression.ref t) h = tt
    formed_here (expression.get_att t a) h = tt
    formed_here (expression.concat es) h = all_formed_here es h
    formed_here (expression.join d e) h = formed_here e h
    formed_here (expression.select i e) h = (h.0, formed_here e h.1)
    formed_here (expression.split d e) h = (h.0, formed_here e h.1)
    formed_here (expression.choice c x y) h = (formed_here x h.0, formed_here y h.1)
    formed_here (expression.find_in_map m x y) h = (formed_here x h.0, formed_here y h.1)
    formed_here (expression.import_value t) h = tt
    formed_here (expression.context k d) h = found_formed k d (construct_at cs at).contexts contexts h
    formed_here (expression.lazy t) h = tt

    all_formed_here : (es : Expressions) → AllAreFormedAlone es → AreFormed cs at es
    all_formed_here expression.no_expressions h = tt
    all_formed_here (expression.expression e es) h = (formed_here e h.0, all_formed_here es h.1)

    fields_formed_here : (fs : Fields) → FieldsAreFormedAlone fs → FieldsAreFormed cs at fs
    fields_formed_here expression.no_fields h = tt
    fields_formed_here (expression.field k e fs) h = (h.0, formed_here e h.1, fields_formed_here fs h.2)

  mutual
    condition_formed_here : (c : Condition) → IsConditionAlone c → IsFormedCondition cs at c
    condition_formed_here (condition.equals x y) h = (formed_here x h.0, formed_here y h.1)
    condition_formed_here (condition.all_of ds) h = (h.0, conditions_formed_here ds h.1)
    condition_formed_here (condition.any_of ds) h = (h.0, conditions_formed_here ds h.1)
    condition_formed_here (condition.negated c) h = condition_formed_here c h
    condition_formed_here (condition.named t) h = tt

    conditions_formed_here : (ds : Conditions) → AreConditionsAlone ds → AreFormedConditions cs at ds
    conditions_formed_here condition.no_conditions h = tt
    conditions_formed_here (condition.condition d ds) h = (condition_formed_here d h.0, conditions_formed_here ds h.1)

  body_formed_here : (b : Body) → IsFormedBodyAlone b → IsFormedBody cs at b
  body_formed_here language.root h = tt
  body_formed_here language.stage h = tt
  body_formed_here (language.stack d) h = tt
  body_formed_here language.group h = tt
  body_formed_here (language.resource r) h = (h.0, formed_here r.properties h.1)
  body_formed_here (language.parameter p) h = tt
  body_formed_here (language.condition_body c) h = condition_formed_here c h
  body_formed_here (language.mapping m) h = h
  body_formed_here (language.output o) h = formed_here o.value h
  body_formed_here (language.lazy e) h = formed_here e h

-- ---- the walk

record IsFormedPlaced (c : Placed) : Type 0 where
  pub contexts : AreFormedContexts c.contexts
  pub body : IsFormedBodyAlone c.body

each_append : {A : Type 0} (P : A → Type 0) (xs ys : List A) → Each P xs → Each P ys → Each P (xs ++ ys)
each_append P [] ys h g = g
each_append P (x ∷ xs) ys h g = (h.0, each_append P xs ys h.1 g)

mutual
  walk_formed : (n m : ℕ) (p : Placed) (c : Construct) → AreFormedContexts p.contexts → IsFormedConstruct c → Each IsFormedPlaced (walk n m p c)
  walk_formed n m p (language.construct h b cs) scopes formed =
      let contexts : AreFormedContexts (placed_in n m p h b).contexts = (formed.0, scopes) in
      (record { contexts = contexts; body = formed.1 }, walk_children_formed (n + 1) n (placed_in n m p h b) cs contexts formed.2)

  walk_children_formed : (n m : ℕ) (p : Placed) (cs : Constructs) → AreFormedContexts p.contexts → AreFormedConstructs cs → Each IsFormedPlaced (walk_children n m p cs)
  walk_children_formed n m p language.no_constructs scopes formed = tt
  walk_children_formed n m p (language.child c cs) scopes formed =
      let later = n + length (walk n m p c) in
      each_append IsFormedPlaced (walk n m p c) (walk_children later m p cs) (walk_formed n m p c scopes formed.0) (walk_children_formed later m p cs scopes formed.1)

all_placed_formed : (a : Application) → IsFormedConstruct a → Each IsFormedPlaced (constructs_of a)
all_placed_formed (language.construct h b cs) formed =
    let contexts : AreFormedContexts (root_placed h b).contexts = (formed.0, tt) in
    (record { contexts = contexts; body = formed.1 }, walk_children_formed 1 0 (root_placed h b) cs contexts formed.2)

placed_at : (cs : List Placed) (n : ℕ) → n < length cs → Each IsFormedPlaced cs → IsFormedPlaced (construct_at cs n)
placed_at [] n h each = absurd (omega (arith, h))
placed_at (c ∷ cs) zero h each = each.0
placed_at (c ∷ cs) (suc n) h each = placed_at cs n (omega (arith, h)) each.1

tree_formed : (a : Application) → IsFormedConstruct a → TreeIsFormed (constructs_of a)
tree_formed a formed n within =
    let cs = constructs_of a in
    let here = placed_at cs n within (all_placed_formed a formed) in
    body_formed_here cs n here.contexts (construct_at cs n).body here.body

-- ---- settings

settings_formed : (a : Application) (ss : List Setting) → IsFormedConstruct a → IsFormedConstruct (with_settings a ss)
settings_formed (language.construct h b cs) ss formed = (laid_formed ss h.context formed.0, formed.1, formed.2)

-- ---- the laws

pub trees_are_formed : TreesAreFormed
trees_are_formed bytes d a e clear is = tree_formed a (applications_are_formed bytes d a e clear is)

pub trees_stay_formed : TreesStayFormed
trees_stay_formed bytes d a ss e clear is none = tree_formed (with_settings a ss) (settings_formed a ss (applications_are_formed bytes d a e clear is))
