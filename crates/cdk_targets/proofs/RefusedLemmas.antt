-- What a look refuses in an expression, part by part.
use Rattle.std.proofs.Common.{◌≡◌, ◌∷◌, ◌++◌, ℕ, List, Bool, true, false, Box, Global, ◌∙◌, rules}
use Rattle.std.specs.List.{list_any}
use Rattle.cdk_base.specs.declared.text.Text.{Text}
use Rattle.cdk_language.specs.Expression as expression
use Rattle.cdk_language.specs.Expression.{Expression, view}
use Rattle.cdk_language.specs.declared.expression.Expr.{Expr, If, FindInMap, the_lemmas}
use Rattle.cdk_tree.specs.Expected.{Expected, expected, target, text_place}
use Rattle.cdk_tree.specs.declared.role.TargetRole.TheVariants as roles
use Rattle.cdk_tree.proofs.Tests.{any_first, any_second, any_later}

pub view-If : (c : Text) (x y : Box Expr Global) → view (If c x y) ≡ expression.choice c (view x.value) (view y.value)
view-If c x y = search (rules, the_lemmas)

pub view-FindInMap : (m : Text) (x y : Box Expr Global) → view (FindInMap m x y) ≡ expression.find_in_map m (view x.value) (view y.value)
view-FindInMap m x y = search (rules, the_lemmas)

module _ (p : Expected → Bool) (t : List ℕ) (x y : Expression) where
  pub choice_else : p (target roles.Condition t) ≡ false → list_any p (expected x) ≡ false → list_any p (expected (expression.choice t x y)) ≡ list_any p (expected y)
  choice_else here first = any_later p (target roles.Condition t) (expected x ++ expected y) here ∙ any_second p (expected x) (expected y) first

  pub keys_then : p (target roles.Mapping t) ≡ false → list_any p (text_place x ∷ expected x) ≡ true → list_any p (expected (expression.find_in_map t x y)) ≡ true
  keys_then here first =
      any_later p (target roles.Mapping t) ((text_place x ∷ expected x) ++ (text_place y ∷ expected y)) here
      ∙ any_first p (text_place x ∷ expected x) (text_place y ∷ expected y) first

  pub keys_else : p (target roles.Mapping t) ≡ false → list_any p (text_place x ∷ expected x) ≡ false → list_any p (expected (expression.find_in_map t x y)) ≡ list_any p (text_place y ∷ expected y)
  keys_else here first =
      any_later p (target roles.Mapping t) ((text_place x ∷ expected x) ++ (text_place y ∷ expected y)) here
      ∙ any_second p (text_place x ∷ expected x) (text_place y ∷ expected y) first
