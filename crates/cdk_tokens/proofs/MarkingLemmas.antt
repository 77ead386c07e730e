-- Expressions that are marked one after another: one of them, and then the rest.
use Rattle.std.proofs.Common.{◌≡◌, ℕ, Bool, List, [], ◌∷◌, ◌++◌, ◌+◌, length, String, Global, string_bytes, rules, refl, ap, sym, ◌∙◌, append_assoc}
use Rattle.std.specs.Prelude.{unwrap_or}
use Rattle.serde_json.specs.Data.{Data, Members, boolean, item, put, string}
use Rattle.serde_json.specs.View.{view as json_view, items_of}
use Rattle.serde_json.specs.declared.value.Value as json
use Rattle.cdk_base.specs.Json.{text_of}
use Rattle.cdk_language.specs.Expression as expression
use Rattle.cdk_language.specs.Expression.{Expression, Expressions, Fields, expressions_of}
use Rattle.cdk_tree.specs.Placed.{Placed}
use Rattle.cdk_tokens.specs.Marking.{all_tokens, count, fields_tokens, marked, marked_items, marked_members, marked_text, tokens}
use Rattle.cdk_tokens.specs.Token.{Token}
use Rattle.cdk_tokens.specs.Whole.{marked_list, tokens_of_list}
use Rattle.cdk_tokens.proofs.CountLemmas.{length_after, tokens_then}

pub view-String : (s : String Global) → json_view (json.String s) ≡ string (string_bytes s)
view-String s = search (rules, json.the_lemmas)

pub view-Bool : (b : Bool) → json_view (json.Bool b) ≡ boolean b
view-Bool b = search (rules, json.the_lemmas)

-- the items of an array are the expressions marked one after another
pub items_of-marked_list : (cs : List Placed) (at n : ℕ) (es : List Expression) → items_of (marked_list cs at n es) ≡ marked_items cs at n (expressions_of es)
items_of-marked_list cs at n [] = refl
items_of-marked_list cs at n (e ∷ es) = ap (item (marked cs at n e)) (items_of-marked_list cs at (n + count e) es)

module _ (cs : List Placed) (at : ℕ) (e : Expression) (old new : List Token) (more : new ≡ old ++ tokens cs at (length old) e) where
  pub all_tokens_then : (es : Expressions) → old ++ all_tokens cs at (length old) (expression.expression e es) ≡ new ++ all_tokens cs at (length new) es
  all_tokens_then es = tokens_then cs at e old new (λ k. all_tokens cs at k es) more

  pub tokens_of_list_then : (es : List Expression) → old ++ tokens_of_list cs at (length old) (e ∷ es) ≡ new ++ tokens_of_list cs at (length new) es
  tokens_of_list_then es = tokens_then cs at e old new (λ k. tokens_of_list cs at k es) more

  pub fields_tokens_then : (k : List ℕ) (fs : Fields) → old ++ fields_tokens cs at (length old) (expression.field k e fs) ≡ new ++ fields_tokens cs at (length new) fs
  fields_tokens_then k fs = tokens_then cs at e old new (λ n. fields_tokens cs at n fs) more

  module _ (v : Data) (value : v ≡ marked cs at (length old) e) where
    pub marked_list_then : (done : List Data) (es : List Expression) → done ++ marked_list cs at (length old) (e ∷ es) ≡ (done ++ v ∷ []) ++ marked_list cs at (length new) es
    marked_list_then done es =
        ap (λ d. done ++ d ∷ marked_list cs at (length old + count e) es) (sym value)
        ∙ ap (λ k. done ++ v ∷ marked_list cs at k es) (sym (length_after cs at e old new more))
        ∙ sym (append_assoc done (v ∷ []) (marked_list cs at (length new) es))

    pub marked_members_then : (k : List ℕ) (fs : Fields) (done : Members)
        → marked_members cs at (length old) (expression.field k e fs) done ≡ marked_members cs at (length new) fs (put k v done)
    marked_members_then k fs done =
        ap (λ d. marked_members cs at (length old + count e) fs (put k d done)) (sym value)
        ∙ ap (λ n. marked_members cs at n fs (put k v done)) (sym (length_after cs at e old new more))

    pub marked_text_then : (done : List ℕ) (es : Expressions)
        → done ++ marked_text cs at (length old) (expression.expression e es) ≡ (done ++ unwrap_or (text_of v) []) ++ marked_text cs at (length new) es
    marked_text_then done es =
        ap (λ d. done ++ (unwrap_or (text_of d) [] ++ marked_text cs at (length old + count e) es)) (sym value)
        ∙ ap (λ k. done ++ (unwrap_or (text_of v) [] ++ marked_text cs at k es)) (sym (length_after cs at e old new more))
        ∙ sym (append_assoc done (unwrap_or (text_of v) []) (marked_text cs at (length new) es))
