-- The tree of a clean application is clean: what a Context finds stands in a clean context of its construct or of a scope, or is its
-- default.
use Rattle.std.proofs.Common.{◌≡◌, ◌<◌, ℕ, zero, suc, ◌+◌, List, [], ◌∷◌, ◌++◌, length, arith}
use Rattle.cdk_base.specs.declared.Setting.{Setting}
use Rattle.cdk_premises.specs.CleanConstruct.{AreCleanAlone, AreCleanConstructs, IsCleanAlone, IsCleanConstruct}
use Rattle.cdk_premises.specs.CleanLaws.{TreesAreClean, TreesStayClean}
use Rattle.cdk_premises.proofs.CleanConstructs.{applications_are_clean}
use Rattle.cdk_premises.proofs.CleanForms.{AllAreCleanAlone, FieldsAreCleanAlone, PiecesAreCleanAlone}
use Rattle.cdk_premises.proofs.CleanLiterals.{AreCleanContexts, found_clean, laid_clean}
use Rattle.cdk_expansion.specs.Clean.{AreClean, FieldsAreClean, IsClean, ListIsClean, PiecesAreClean, TreeIsClean}
use Rattle.cdk_language.specs.Application.{with_settings}
use Rattle.cdk_language.specs.Construct as language
use Rattle.cdk_language.specs.Construct.{Application, Body, Construct, Constructs, Head}
use Rattle.cdk_language.specs.Expression as expression
use Rattle.cdk_language.specs.Expression.{Expression, Expressions, Fields}
use Rattle.cdk_language.specs.Findings.{setting_findings}
use Rattle.cdk_meaning.specs.Names.{Each}
use Rattle.cdk_contexts.specs.Expressions.{expressions_in}
use Rattle.cdk_tree.specs.Placed.{Placed, construct_at, constructs_of, placed_in, root_placed, walk, walk_children}

-- ---- expressions of a construct whose contexts are clean

module _ (cs : List Placed) (at : ℕ) (contexts : AreCleanContexts (construct_at cs at).contexts) where
  mutual
    clean_here : (e : Expression) → IsCleanAlone e → IsClean cs at e
    clean_here (expression.text s) h = h
    clean_here (expression.whole z) h = h
    clean_here (expression.truth b) h = tt
    clean_here (expression.list es) h = all_clean_here es h
    clean_here (expression.object fs) h = fields_clean_here fs h
    clean_here (expression.pseudo p) h = tt
    clean_here (expression.ref t) h = tt
    clean_here (expression.get_att t a) h = tt
    clean_here (expression.concat es) h = pieces_clean_here es h
    clean_here (expression.join d e) h = clean_here e h
    clean_here (expression.select i e) h = clean_here e h
    clean_here (expression.split d e) h = clean_here e h
    clean_here (expression.choice c x y) h = (clean_here x h.0, clean_here y h.1)
    clean_here (expression.find_in_map m x y) h = (clean_here x h.0, clean_here y h.1)
    clean_here (expression.import_value t) h = tt
    clean_here (expression.context k d) h = found_clean k d (construct_at cs at).contexts contexts h
    clean_here (expression.lazy t) h = tt

    all_clean_here : (es : Expressions) → AllAreCleanAlone es → AreClean cs at es
    all_clean_here expression.no_expressions h = tt
    all_clean_here (expression.expression e es) h = (clean_here e h.0, all_clean_here es h.1)

    fields_clean_here : (fs : Fields) → FieldsAreCleanAlone fs → FieldsAreClean cs at fs
    fields_clean_here expression.no_fields h = tt
    fields_clean_here (expression.field k e fs) h = (clean_here e h.0, fields_clean_here fs h.1)

    pieces_clean_here : (es : Expressions) → PiecesAreCleanAlone es → PiecesAreClean cs at es
    pieces_clean_here expression.no_expressions h = tt
    pieces_clean_here (expression.expression e es) h = (h.0, clean_here e h.1, pieces_clean_here es h.2)

  list_clean_here : (es : List Expression) → AreCleanAlone es → ListIsClean cs at es
  list_clean_here [] h = tt
  list_clean_here (e ∷ es) h = (clean_here e h.0, list_clean_here es h.1)

-- ---- the walk

record IsCleanPlaced (c : Placed) : Type 0 where
  pub contexts : AreCleanContexts c.contexts
  pub expressions : AreCleanAlone (expressions_in c.body)

each_append : {A : Type 0} (P : A → Type 0) (xs ys : List A) → Each P xs → Each P ys → Each P (xs ++ ys)
each_append P [] ys h g = g
each_append P (x ∷ xs) ys h g = (h.0, each_append P xs ys h.1 g)

mutual
  walk_clean : (n m : ℕ) (p : Placed) (c : Construct) → AreCleanContexts p.contexts → IsCleanConstruct c → Each IsCleanPlaced (walk n m p c)
  walk_clean n m p (language.construct h b cs) scopes clean =
      let contexts : AreCleanContexts (placed_in n m p h b).contexts = (clean.0, scopes) in
      (record { contexts = contexts; expressions = clean.1 }, walk_children_clean (n + 1) n (placed_in n m p h b) cs contexts clean.2)

  walk_children_clean : (n m : ℕ) (p : Placed) (cs : Constructs) → AreCleanContexts p.contexts → AreCleanConstructs cs → Each IsCleanPlaced (walk_children n m p cs)
  walk_children_clean n m p language.no_constructs scopes clean = tt
  walk_children_clean n m p (language.child c cs) scopes clean =
      let later = n + length (walk n m p c) in
      each_append IsCleanPlaced (walk n m p c) (walk_children later m p cs) (walk_clean n m p c scopes clean.0) (walk_children_clean later m p cs scopes clean.1)

all_placed_clean : (a : Application) → IsCleanConstruct a → Each IsCleanPlaced (constructs_of a)
all_placed_clean (language.construct h b cs) clean =
    let contexts : AreCleanContexts (root_placed h b).contexts = (clean.0, tt) in
    (record { contexts = contexts; expressions = clean.1 }, walk_children_clean 1 0 (root_placed h b) cs contexts clean.2)

placed_at : (cs : List Placed) (n : ℕ) → n < length cs → Each IsCleanPlaced cs → IsCleanPlaced (construct_at cs n)
placed_at [] n h each = absurd (omega (arith, h))
placed_at (c ∷ cs) zero h each = each.0
placed_at (c ∷ cs) (suc n) h each = placed_at cs n (omega (arith, h)) each.1

tree_clean : (a : Application) → IsCleanConstruct a → TreeIsClean (constructs_of a)
tree_clean a clean n within =
    let cs = constructs_of a in
    let here = placed_at cs n within (all_placed_clean a clean) in
    list_clean_here cs n here.contexts (expressions_in (construct_at cs n).body) here.expressions

-- ---- settings

settings_clean : (a : Application) (ss : List Setting) → setting_findings ss ≡ [] → IsCleanConstruct a → IsCleanConstruct (with_settings a ss)
settings_clean (language.construct h b cs) ss e clean = (laid_clean ss h.context e clean.0, clean.1, clean.2)

-- ---- the laws

pub trees_are_clean : TreesAreClean
trees_are_clean bytes d a e clear is = tree_clean a (applications_are_clean bytes d a e clear is)

pub trees_stay_clean : TreesStayClean
trees_stay_clean bytes d a ss e clear is none = tree_clean (with_settings a ss) (settings_clean a ss none (applications_are_clean bytes d a e clear is))
