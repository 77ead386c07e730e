-- The plain form of a marked value depends on the plain forms of the lazies that it mentions, and on no other lazy.
use Rattle.std.proofs.Common.{◌≡◌, ℕ, zero, suc, ◌+◌, List, [], ◌∷◌, ◌++◌, length, Option, Some, None, option_and_then, refl, ap, ap₂, ◌∙◌, length-append, arith}
use Rattle.std.specs.Prelude.{slice_get, Contains}
use Rattle.cdk_expansion.proofs.MentionContains.{contains_first, contains_later}
use Rattle.serde_json.specs.Data.{Data}
use Rattle.cdk_plain.specs.Plain as plain
use Rattle.cdk_plain.specs.Plain.{Plain}
use Rattle.cdk_expansion.specs.Expanded.{value_plain, form_plain, known_by, forms_after, known_in}
use Rattle.cdk_tokens.specs.Values.{token_at}
use Rattle.cdk_expansion.specs.Mentions.{arguments, directly, keys_in, Mentions, through}
use Rattle.cdk_expansion.proofs.MentionKeys.{Agree, same_value}
use Rattle.cdk_tokens.specs.Token as token
use Rattle.cdk_tokens.specs.Token.{Token, Form, find_token}

-- two tables have the same form of each lazy that the value mentions
abbrev pub AlikeAt : List Token → (ℕ → Plain) → (ℕ → Plain) → Data → Type 0
AlikeAt ts f g d = (m : ℕ) → Mentions ts d m → f m ≡ g m

-- and of each that the form is or that its arguments mention
abbrev AlikeIn : List Token → (ℕ → Plain) → (ℕ → Plain) → Form → Type 0
AlikeIn ts f g form = ((n : ℕ) → form ≡ token.lazy n → f n ≡ g n) × ((a : Data) → Contains (arguments form) a → AlikeAt ts f g a)

alike_token : (ts : List Token) (f g : ℕ → Plain) (d : Data) (k : List ℕ) (t : Token) → AlikeAt ts f g d → Contains (keys_in d) k → token_at ts k ≡ Some t → AlikeIn ts f g t.form
alike_token ts f g d k t alike c at = ((λ n e. alike n (directly d n k t c at e)), (λ a in_arguments m mentioned. alike m (through d a m k t c at in_arguments mentioned)))

-- two lists of forms have the same form at each number at which the token, if there is one, is alike
abbrev Same : List Token → (ℕ → Plain) → (ℕ → Plain) → List Plain → List Plain → Type 0
Same ts f g ps qs = (i : ℕ) → ((t : Token) → slice_get ts i ≡ Some t → AlikeIn ts f g t.form) → slice_get ps i ≡ slice_get qs i

same_found : (ts : List Token) (f g : ℕ → Plain) (ps qs : List Plain) (d : Data) (k : List ℕ) (o : Option ℕ) → Same ts f g ps qs → AlikeAt ts f g d → Contains (keys_in d) k → find_token ts k ≡ o
    → option_and_then (slice_get ps) o ≡ option_and_then (slice_get qs) o
same_found ts f g ps qs d k None same alike c e = refl
same_found ts f g ps qs d k (Some i) same alike c e = same i (λ t at. alike_token ts f g d k t alike c (ap (option_and_then (slice_get ts)) e ∙ at))

same_known : (ts : List Token) (f g : ℕ → Plain) (ps qs : List Plain) (d : Data) → Same ts f g ps qs → AlikeAt ts f g d → Agree (known_by ts ps) (known_by ts qs) (keys_in d)
same_known ts f g ps qs d same alike k c = same_found ts f g ps qs d k (find_token ts k) same alike c refl

same_argument : (ts : List Token) (f g : ℕ → Plain) (ps qs : List Plain) (d : Data) → Same ts f g ps qs → AlikeAt ts f g d → value_plain (known_by ts ps) d ≡ value_plain (known_by ts qs) d
same_argument ts f g ps qs d same alike = same_value (known_by ts ps) (known_by ts qs) d (same_known ts f g ps qs d same alike)

same_form : (ts : List Token) (f g : ℕ → Plain) (ps qs : List Plain) (form : Form) → Same ts f g ps qs → AlikeIn ts f g form → form_plain (known_by ts ps) f form ≡ form_plain (known_by ts qs) g form
same_form ts f g ps qs (token.pseudo p) same alike = refl
same_form ts f g ps qs (token.ref t) same alike = refl
same_form ts f g ps qs (token.get_att t a) same alike = refl
same_form ts f g ps qs (token.join d v) same alike = ap (plain.join d) (same_argument ts f g ps qs v same (alike.1 v (contains_first v [])))
same_form ts f g ps qs (token.select n v) same alike = ap (plain.select n) (same_argument ts f g ps qs v same (alike.1 v (contains_first v [])))
same_form ts f g ps qs (token.split d v) same alike = ap (plain.split d) (same_argument ts f g ps qs v same (alike.1 v (contains_first v [])))
same_form ts f g ps qs (token.choice c x y) same alike =
    ap₂ (plain.choice c) (same_argument ts f g ps qs x same (alike.1 x (contains_first x (y ∷ [])))) (same_argument ts f g ps qs y same (alike.1 y (contains_later x (y ∷ []) y (contains_first y []))))
same_form ts f g ps qs (token.find_in_map m x y) same alike =
    ap₂ (plain.find_in_map m) (same_argument ts f g ps qs x same (alike.1 x (contains_first x (y ∷ [])))) (same_argument ts f g ps qs y same (alike.1 y (contains_later x (y ∷ []) y (contains_first y []))))
same_form ts f g ps qs (token.import_value t) same alike = refl
same_form ts f g ps qs (token.lazy n) same alike = alike.0 n refl

-- ---- the table

same_push : (ps qs : List Plain) (p q : Plain) (i : ℕ) → length ps ≡ length qs → slice_get ps i ≡ slice_get qs i → (i ≡ length ps → p ≡ q) → slice_get (ps ++ p ∷ []) i ≡ slice_get (qs ++ q ∷ []) i
same_push [] [] p q zero even same new = ap Some (new refl)
same_push [] [] p q (suc i) even same new = refl
same_push [] (y ∷ qs) p q i even same new = absurd (grind (arith, even))
same_push (x ∷ ps) [] p q i even same new = absurd (grind (arith, even))
same_push (x ∷ ps) (y ∷ qs) p q zero even same new = same
same_push (x ∷ ps) (y ∷ qs) p q (suc i) even same new = same_push ps qs p q i (omega (arith, even)) same (λ e. new (ap suc e))

-- the tokens from the number n on
abbrev Follow : List Token → ℕ → List Token → Type 0
Follow ts n rest = (i j : ℕ) → j ≡ n + i → slice_get ts j ≡ slice_get rest i

same_after : (ts : List Token) (f g : ℕ → Plain) (rest : List Token) (ps qs : List Plain) → length ps ≡ length qs → Follow ts (length ps) rest → Same ts f g ps qs
    → Same ts f g (forms_after f ts ps rest) (forms_after g ts qs rest)
same_after ts f g [] ps qs even follow same = same
same_after ts f g (t ∷ rest) ps qs even follow same =
    let p : Plain = form_plain (known_by ts ps) f t.form in
    let q : Plain = form_plain (known_by ts qs) g t.form in
    let more : length (ps ++ p ∷ []) ≡ length ps + 1 = length-append ps (p ∷ []) in
    let also : length (qs ++ q ∷ []) ≡ length qs + 1 = length-append qs (q ∷ []) in
    same_after ts f g rest (ps ++ p ∷ []) (qs ++ q ∷ []) (omega (arith, even, more, also))
    (λ i j e. follow (suc i) j (omega (arith, e, more)))
    (λ i alike. same_push ps qs p q i even (same i alike) (λ e. same_form ts f g ps qs t.form same (alike t (follow 0 i (omega (arith, e))))))

pub same_plain : (ts : List Token) (f g : ℕ → Plain) (d : Data) → AlikeAt ts f g d → value_plain (known_in f ts) d ≡ value_plain (known_in g ts) d
same_plain ts f g d alike =
    same_argument ts f g (forms_after f ts [] ts) (forms_after g ts [] ts) d
    (same_after ts f g ts [] [] refl (λ i j e. ap (slice_get ts) (omega (arith, e))) (λ i alike. refl)) alike
