-- A value that is one token of a lazy, and nothing else, is rendered as that lazy, and misses it alone.
use Rattle.std.proofs.Common.{◌≡◌, ℕ, List, [], ◌∷◌, ◌++◌, length, Option, Some, None, option_and_then, is_some, true≢false, refl, sym, ap, ◌∙◌, append-nil, subst}
use Rattle.std.specs.Prelude.{slice_get, Result, Ok, Err, IfOk, OnOk}
use Rattle.std.specs.Option.{unwrap_or}
use Rattle.serde_json.specs.Data.{Data, null, boolean, number, string, array, object}
use Rattle.cdk_expansion.specs.Mentions.{lazy_value}
use Rattle.cdk_keeping.specs.Steps.{form_lazy, key_lazy, only_key, Steps, StepsOver, value_lazy}
use Rattle.cdk_leaves.specs.Lazies.{shown, lazy_missing, Results}
use Rattle.cdk_leaves.specs.Ready.{Scope}
use Rattle.cdk_markers.specs.Cut.{cut_of}
use Rattle.cdk_markers.specs.Key.{text_marker}
use Rattle.cdk_markers.specs.ListKey.{list_key_of}
use Rattle.cdk_markers.specs.Pieces.{Piece, literal, key}
use Rattle.cdk_rendering.proofs.MissingMentions.{found_within}
use Rattle.cdk_rendering.proofs.TokenFound.{known_below_all, token_below}
use Rattle.cdk_rendering.specs.Folding.{Known, known_below, known_in}
use Rattle.cdk_rendering.specs.Missing.{array_missing, form_missing, items_missing, pieces_missing, value_missing}
use Rattle.cdk_rendering.specs.TokenJson.{array_json, form_json, items_json, pieces_json, value_json}
use Rattle.cdk_rendering.specs.Views.{json_in, missing_in}
use Rattle.cdk_spelling.specs.Assembled.{assembled_items}
use Rattle.cdk_tokens.specs.Token as token
use Rattle.cdk_tokens.specs.Token.{find_token, Form, Token}

-- ---- the key of a token of the lazy

record IsLazyKey (ts : List Token) (k : List ℕ) (m : ℕ) : Type 0 where
  number : ℕ
  entry : Token
  found : find_token ts k ≡ Some number
  there : slice_get ts number ≡ Some entry
  is : entry.form ≡ token.lazy m

lazy_form : (f : Form) (m : ℕ) → form_lazy f ≡ Some m → f ≡ token.lazy m
lazy_form (token.lazy n) m e = ap token.lazy cc
lazy_form (token.pseudo p) m e = absurd (true≢false (sym (ap is_some e)))
lazy_form (token.ref t) m e = absurd (true≢false (sym (ap is_some e)))
lazy_form (token.get_att t a) m e = absurd (true≢false (sym (ap is_some e)))
lazy_form (token.join d v) m e = absurd (true≢false (sym (ap is_some e)))
lazy_form (token.select i v) m e = absurd (true≢false (sym (ap is_some e)))
lazy_form (token.split d v) m e = absurd (true≢false (sym (ap is_some e)))
lazy_form (token.choice c x y) m e = absurd (true≢false (sym (ap is_some e)))
lazy_form (token.find_in_map c x y) m e = absurd (true≢false (sym (ap is_some e)))
lazy_form (token.import_value t) m e = absurd (true≢false (sym (ap is_some e)))

lazy_token : (ts : List Token) (k : List ℕ) (m n : ℕ) (o : Option Token) → find_token ts k ≡ Some n → slice_get ts n ≡ o → option_and_then (λ t. form_lazy t.form) o ≡ Some m → IsLazyKey ts k m
lazy_token ts k m n None finds at e = absurd (true≢false (sym (ap is_some e)))
lazy_token ts k m n (Some t) finds at e = record { number = n; entry = t; found = finds; there = at; is = lazy_form t.form m e }

lazy_found : (ts : List Token) (k : List ℕ) (m : ℕ) (o : Option ℕ) → find_token ts k ≡ o → option_and_then (λ t. form_lazy t.form) (option_and_then (slice_get ts) o) ≡ Some m → IsLazyKey ts k m
lazy_found ts k m None finds e = absurd (true≢false (sym (ap is_some e)))
lazy_found ts k m (Some n) finds e = lazy_token ts k m n (slice_get ts n) finds refl e

is_lazy_key : (ts : List Token) (k : List ℕ) (m : ℕ) → key_lazy ts k ≡ Some m → IsLazyKey ts k m
is_lazy_key ts k m e = lazy_found ts k m (find_token ts k) refl e

known_lazy : {A : Type 0} (form : Known A → Form → A) (a : A) (ts : List Token) (k : List ℕ) (m : ℕ) → ((known : Known A) → form known (token.lazy m) ≡ a) → key_lazy ts k ≡ Some m
    → known_in form ts k ≡ Some a
known_lazy form a ts k m same e =
    let key = is_lazy_key ts k m e in
    ap (λ known. known k) (sym (known_below_all form ts))
    ∙ (token_below form ts (length ts) key.number k key.entry key.found (found_within ts k key.number key.found) key.there
    ∙ ap Some (ap (form (known_below form ts key.number)) key.is ∙ same (known_below form ts key.number)))

-- ---- the value

record IsOnlyKey (ps : List Piece) (k : List ℕ) : Type 0 where
  is : ps ≡ key k ∷ []

only_key_is : (ps : List Piece) (k : List ℕ) → only_key ps ≡ Some k → IsOnlyKey ps k
only_key_is [] k e = absurd (true≢false (sym (ap is_some e)))
only_key_is (literal l ∷ ps) k e = absurd (true≢false (sym (ap is_some e)))
only_key_is (key l ∷ []) k e = record { is = ap (λ j. key j ∷ []) cc }
only_key_is (key l ∷ p ∷ ps) k e = absurd (true≢false (sym (ap is_some e)))

record Chosen (ts : List Token) (o : Option (List ℕ)) (m : ℕ) : Type 0 where
  key : List ℕ
  is : o ≡ Some key
  lazy : key_lazy ts key ≡ Some m

chosen : (ts : List Token) (o : Option (List ℕ)) (m : ℕ) → option_and_then (key_lazy ts) o ≡ Some m → Chosen ts o m
chosen ts None m e = absurd (true≢false (sym (ap is_some e)))
chosen ts (Some k) m e = record { key = k; is = refl; lazy = e }

module _ (s : Scope) (kept : Results) (m : ℕ) where
  json_of_key : (k : List ℕ) → key_lazy s.tokens k ≡ Some m → json_in s kept k ≡ Some (shown kept m)
  json_of_key k e = known_lazy (form_json s.homes (shown kept)) (shown kept m) s.tokens k m (λ known. refl) e

  missing_of_key : (k : List ℕ) → key_lazy s.tokens k ≡ Some m → missing_in s kept k ≡ Some (lazy_missing (kept m) m)
  missing_of_key k e = known_lazy (form_missing kept) (lazy_missing (kept m) m) s.tokens k m (λ known. refl) e

  pub only_json : (d : Data) → value_lazy s.tokens d ≡ Some m → value_json (json_in s kept) d ≡ shown kept m
  only_json (string t) e =
      let c = chosen s.tokens (only_key (cut_of t)) m e in
      ap (λ ps. assembled_items (pieces_json (json_in s kept) ps)) (only_key_is (cut_of t) c.key c.is).is
      ∙ ap (λ o. unwrap_or o (string (text_marker c.key))) (json_of_key c.key c.lazy)
  only_json (array ds) e =
      let c = chosen s.tokens (list_key_of (array ds)) m e in
      ap (λ o. array_json (json_in s kept) o (items_json (json_in s kept) ds)) c.is
      ∙ ap (λ o. unwrap_or o (array (items_json (json_in s kept) ds))) (json_of_key c.key c.lazy)
  only_json null e = absurd (true≢false (sym (ap is_some e)))
  only_json (boolean b) e = absurd (true≢false (sym (ap is_some e)))
  only_json (number n) e = absurd (true≢false (sym (ap is_some e)))
  only_json (object ms) e = absurd (true≢false (sym (ap is_some e)))

  pub only_missing : (d : Data) → value_lazy s.tokens d ≡ Some m → value_missing (missing_in s kept) d ≡ lazy_missing (kept m) m
  only_missing (string t) e =
      let c = chosen s.tokens (only_key (cut_of t)) m e in
      ap (pieces_missing (missing_in s kept)) (only_key_is (cut_of t) c.key c.is).is
      ∙ (ap (λ o. unwrap_or o [] ++ []) (missing_of_key c.key c.lazy) ∙ append-nil (lazy_missing (kept m) m))
  only_missing (array ds) e =
      let c = chosen s.tokens (list_key_of (array ds)) m e in
      ap (λ o. array_missing (missing_in s kept) o (items_missing (missing_in s kept) ds)) c.is
      ∙ ap (λ o. unwrap_or o (items_missing (missing_in s kept) ds)) (missing_of_key c.key c.lazy)
  only_missing null e = absurd (true≢false (sym (ap is_some e)))
  only_missing (boolean b) e = absurd (true≢false (sym (ap is_some e)))
  only_missing (number n) e = absurd (true≢false (sym (ap is_some e)))
  only_missing (object ms) e = absurd (true≢false (sym (ap is_some e)))

-- ---- a step that keeps the lazy of another, or lets that one wait

pub steps_same : (s : Scope) (kept : Results) (m n : ℕ) (d : Data) (after : Results) (old new : List ℕ) → lazy_value s.bodies n ≡ d → value_lazy s.tokens d ≡ Some m
    → StepsOver (lazy_missing (kept m) m) (shown kept m) n kept old after new → Steps s n kept old after new
steps_same s kept m n d after old new e lazy step =
    let missing : value_missing (missing_in s kept) (lazy_value s.bodies n) ≡ lazy_missing (kept m) m = ap (value_missing (missing_in s kept)) e ∙ only_missing s kept m d lazy in
    let json : value_json (json_in s kept) (lazy_value s.bodies n) ≡ shown kept m = ap (value_json (json_in s kept)) e ∙ only_json s kept m d lazy in
    let P : List ℕ → Type 0 = λ ns. StepsOver ns (value_json (json_in s kept) (lazy_value s.bodies n)) n kept old after new in
    let Q : Data → Type 0 = λ r. StepsOver (lazy_missing (kept m) m) r n kept old after new in
    subst P (sym missing) (subst Q (sym json) step)

pub on_ok : {T E : Type 0} {X Y : Type 0} (r : Result T E) → (X → Y) → OnOk r X → OnOk r Y
on_ok (Ok t) f h = f h
on_ok (Err e) f h = tt

pub if_ok : {T E : Type 0} {P Q : T → Type 0} (r : Result T E) → ((t : T) → P t → Q t) → IfOk r P → IfOk r Q
if_ok (Ok t) f h = f t h
if_ok (Err e) f h = tt
