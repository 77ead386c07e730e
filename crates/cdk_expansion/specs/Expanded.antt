-- The plain form of a marked value: with no marker, context or lazy in it (AWS CDK's resolved values; own wording).
use Rattle.std.specs.Prelude.{ℕ, zero, suc, List, [], ◌∷◌, ◌++◌, slice_get, ℤ, Option, Some, None, option_and_then}
use Rattle.std.specs.Option.{unwrap_or}
use Rattle.serde_json.specs.Data.{Data, null, boolean, number, string, array, object, Items, no_items, item, Members, no_members, member}
use Rattle.serde_json.specs.Find.{as_integer}
use Rattle.cdk_language.specs.declared.expression.Pseudo.{Pseudo}
use Rattle.cdk_language.specs.declared.expression.Pseudo.TheVariants as pseudos
use Rattle.cdk_markers.specs.Cut.{cut_of}
use Rattle.cdk_markers.specs.Key.{text_marker}
use Rattle.cdk_markers.specs.ListKey.{list_key_of}
use Rattle.cdk_markers.specs.Pieces.{Piece, literal, key}
use Rattle.cdk_plain.specs.Plain as plain
use Rattle.cdk_plain.specs.Plain.{Plain, text, whole, truth, list_of, object_of, concat, Plains, no_plains, Fields, no_fields, field}
use Rattle.cdk_tokens.specs.Token as token
use Rattle.cdk_tokens.specs.Token.{Token, Form, find_token}
use Rattle.cdk_tokens.specs.Whole.{MarkedBody, value_at}

abbrev pub pseudo_of : Pseudo → plain.Pseudo
pseudo_of pseudos.AccountId = plain.account_id
pseudo_of pseudos.Partition = plain.partition
pseudo_of pseudos.Region = plain.region
pseudo_of pseudos.StackId = plain.stack_id
pseudo_of pseudos.StackName = plain.stack_name
pseudo_of pseudos.UrlSuffix = plain.url_suffix
pseudo_of pseudos.NoValue = plain.no_value

-- what keys of tokens stand for
abbrev pub Known : Type 0
Known = List ℕ → Option Plain

-- a key that no token has stands for its marker
abbrev pub piece_plain : Known → Piece → Plain
piece_plain known (literal l) = text l
piece_plain known (key k) = unwrap_or (known k) (text (text_marker k))

abbrev pub pieces_plain : Known → List Piece → Plains
pieces_plain known [] = no_plains
pieces_plain known (p ∷ ps) = plain.plain (piece_plain known p) (pieces_plain known ps)

-- a single piece is its own plain form; else they are a Concat
abbrev pub assembled : Known → List Piece → Plain
assembled known [] = text []
assembled known (p ∷ []) = piece_plain known p
assembled known (p ∷ q ∷ ps) = concat (pieces_plain known (p ∷ q ∷ ps))

-- a number that isn't whole is refused before, and stands for an empty text here
abbrev pub number_plain : Option ℤ → Plain
number_plain None = text []
number_plain (Some z) = whole z

abbrev pub array_plain : Known → Option (List ℕ) → Plains → Plain
array_plain known None ps = list_of ps
array_plain known (Some k) ps = unwrap_or (known k) (list_of ps)

-- null is refused before, and stands for an empty text here
abbrev mutual
  pub value_plain : Known → Data → Plain
  value_plain known null = text []
  value_plain known (boolean b) = truth b
  value_plain known (number n) = number_plain (as_integer n)
  value_plain known (string s) = assembled known (cut_of s)
  value_plain known (array ds) = array_plain known (list_key_of (array ds)) (items_plain known ds)
  value_plain known (object ms) = object_of (members_plain known ms)

  pub items_plain : Known → Items → Plains
  items_plain known no_items = no_plains
  items_plain known (item d ds) = plain.plain (value_plain known d) (items_plain known ds)

  pub members_plain : Known → Members → Fields
  members_plain known no_members = no_fields
  members_plain known (member k d ms) = field k (value_plain known d) (members_plain known ms)

-- the plain form of a token; `lazies` tells that of each lazy
abbrev pub form_plain : Known → (ℕ → Plain) → Form → Plain
form_plain known lazies (token.pseudo p) = plain.pseudo (pseudo_of p)
form_plain known lazies (token.ref t) = plain.ref t
form_plain known lazies (token.get_att t a) = plain.get_att t a
form_plain known lazies (token.join d v) = plain.join d (value_plain known v)
form_plain known lazies (token.select n v) = plain.select n (value_plain known v)
form_plain known lazies (token.split d v) = plain.split d (value_plain known v)
form_plain known lazies (token.choice c x y) = plain.choice c (value_plain known x) (value_plain known y)
form_plain known lazies (token.find_in_map m x y) = plain.find_in_map m (value_plain known x) (value_plain known y)
form_plain known lazies (token.import_value t) = plain.import_value t
form_plain known lazies (token.lazy t) = lazies t

-- what keys of the tokens stand for whose plain forms are there
abbrev pub known_by : List Token → List Plain → Known
known_by ts ps k = option_and_then (slice_get ps) (find_token ts k)

-- the plain forms of tokens one after another, each by those before it: an argument's number is below its expression's
abbrev pub forms_after : (ℕ → Plain) → List Token → List Plain → List Token → List Plain
forms_after lazies ts done [] = done
forms_after lazies ts done (t ∷ rest) = forms_after lazies ts (done ++ form_plain (known_by ts done) lazies t.form ∷ []) rest

abbrev pub token_plains : (ℕ → Plain) → List Token → List Plain
token_plains lazies ts = forms_after lazies ts [] ts

abbrev pub known_in : (ℕ → Plain) → List Token → Known
known_in lazies ts = known_by ts (token_plains lazies ts)

-- The plain form of the value of the construct n, where lazies are opened k times, one inside another; one that is opened
-- no more stands for an empty text.
abbrev pub opened : ℕ → List Token → List MarkedBody → ℕ → Plain
opened zero ts ms n = text []
opened (suc k) ts ms n = value_plain (known_in (opened k ts ms) ts) (unwrap_or (value_at ms n) null)

-- the plain form of a marked value
abbrev pub plain_of : ℕ → List Token → List MarkedBody → Data → Plain
plain_of k ts ms d = value_plain (known_in (opened k ts ms) ts) d
