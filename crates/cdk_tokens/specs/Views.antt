-- The tokens and marked values that the code's stand for.
use Rattle.std.specs.Prelude.{ℕ, ◌+◌, ◌&&◌, List, [], ◌∷◌, map, nat_eq, Bool, true, decimal}
use Rattle.std.specs.List.{ends_with}
use Rattle.serde_json.specs.View as json
use Rattle.cdk_tokens.specs.Token as token
use Rattle.cdk_tokens.specs.Whole as whole
use Rattle.cdk_tokens.specs.declared.form.Form.{Form}
use Rattle.cdk_tokens.specs.declared.form.Form.TheVariants as forms
use Rattle.cdk_tokens.specs.declared.form.Token.{Token}
use Rattle.cdk_tokens.specs.declared.marked.Part.{Part}
use Rattle.cdk_tokens.specs.declared.marked.Part.TheVariants as parts

abbrev pub form_view : Form → token.Form
form_view (forms.Pseudo p) = token.pseudo p
form_view (forms.Ref t) = token.ref t
form_view (forms.GetAtt t a) = token.get_att t a
form_view (forms.Join d v) = token.join d (json.view v)
form_view (forms.Select n v) = token.select n (json.view v)
form_view (forms.Split d v) = token.split d (json.view v)
form_view (forms.If c x y) = token.choice c (json.view x) (json.view y)
form_view (forms.FindInMap m x y) = token.find_in_map m (json.view x) (json.view y)
form_view (forms.ImportValue t) = token.import_value t
form_view (forms.Lazy t) = token.lazy t

abbrev pub token_view : Token → token.Token
token_view t = record { key = t.key; owner = t.owner; is_list = t.list; form = form_view t.form }

-- the key ends in `.` and the number
abbrev pub has_number : ℕ → List ℕ → Bool
has_number n k = ends_with nat_eq k (46 ∷ decimal n)

-- each token's key ends in its number, which is counted from n
abbrev pub are_numbered : ℕ → List token.Token → Bool
are_numbered n [] = true
are_numbered n (t ∷ ts) = has_number n t.key && are_numbered (n + 1) ts

abbrev pub part_view : Part → whole.MarkedBody
part_view parts.Nothing = whole.nothing
part_view (parts.Value v) = whole.value (json.view v)
part_view (parts.Operands vs) = whole.operands (map json.view vs.items)
