-- The homes of the one stack spell what the tokens mention as its own constructs are spelled.
use Rattle.std.proofs.Common.{◌≡◌, ℕ, List, [], ◌∷◌, Bool, true, false, Option, Some, None, refl, sym, ap, ◌∙◌, if◌then◌else◌}
use Rattle.std.specs.Prelude.{◌||◌}
use Rattle.std.specs.Option.{option_map_or, unwrap_or}
use Rattle.serde_json.specs.Data.{Data}
use Rattle.cdk_elements.specs.Elements.{logical_of, own_homes}
use Rattle.cdk_expansion.specs.Conditions.{operand_plain}
use Rattle.cdk_expansion.specs.Expanded.{plain_of}
use Rattle.cdk_homes.specs.Homes.{Entry}
use Rattle.cdk_local_homes.proofs.Alike.{AlikeAt, AlikeAtAll, same_condition, same_plain, SpellAlike}
use Rattle.cdk_local_homes.proofs.Putting.{pair_same}
use Rattle.cdk_local_homes.specs.Laws.{LocalHomesRender, LocalHomesRenderConditions}
use Rattle.cdk_local_homes.specs.Local.{AreLocal, attribute_in, has_attribute, is_attribute, local_spelling}
use Rattle.cdk_plain.specs.Plain.{text}
use Rattle.cdk_plain.specs.Rendered as rendered
use Rattle.cdk_plain.specs.Rendered.{Homes, Local}
use Rattle.cdk_spelling.specs.Spelled.{home_of, homes_for, name_of}
use Rattle.cdk_stacks.specs.Names.{logical_in}
use Rattle.cdk_tokens.specs.Token as token
use Rattle.cdk_tokens.specs.Token.{Form, Token}
use Rattle.cdk_tokens.specs.Whole.{MarkedBody, operand_at}
use Rattle.cdk_tree.specs.PlaceFindings.{is_element}
use Rattle.cdk_tree.specs.Placed.{construct_at, Placed}

-- what is no element has no logical name
nameless : (cs : List Placed) (n : ℕ) → is_element (construct_at cs n).body ≡ false → logical_of cs n ≡ []
nameless cs n is = ap (λ b. unwrap_or (if b then logical_in cs n (construct_at cs n).stack else None) []) is

home_is : (cs : List Placed) (n : ℕ) (b : Bool) → is_element (construct_at cs n).body ≡ b → home_of (local_spelling cs n b) ≡ Local (logical_of cs n)
home_is cs n true is = refl
home_is cs n false is = ap Local (sym (nameless cs n is))

name_is : (cs : List Placed) (n : ℕ) (b : Bool) → is_element (construct_at cs n).body ≡ b → name_of (local_spelling cs n b) ≡ logical_of cs n
name_is cs n true is = refl
name_is cs n false is = sym (nameless cs n is)

or_first : (a b : Bool) → a ≡ true → (a || b) ≡ true
or_first true b h = refl
or_first false b h = cc h

or_later : (a b : Bool) → b ≡ true → (a || b) ≡ true
or_later true b h = refl
or_later false b h = h

module _ (es : List Entry) (cs : List Placed) (ts : List Token) (stack : ℕ) (are : AreLocal es cs ts stack) where
  spell_alike : SpellAlike (homes_for es stack) (own_homes cs)
  spell_alike = record {
    targets = λ n. ap home_of (are.elements n) ∙ home_is cs n (is_element (construct_at cs n).body) refl;
    conditions = λ n. ap name_of (are.elements n) ∙ name_is cs n (is_element (construct_at cs n).body) refl;
    mappings = λ n. ap name_of (are.elements n) ∙ name_is cs n (is_element (construct_at cs n).body) refl;
  }

  attribute_is : (n : ℕ) (a : List ℕ) → has_attribute ts n a ≡ true → (homes_for es stack).attribute n a ≡ (own_homes cs).attribute n a
  attribute_is n a has = ap home_of (are.attributes n a ∙ ap (local_spelling cs n) has)

  -- an attribute is among the tokens as soon as it is a token
  form_alike : (f : Form) → ((n : ℕ) (a : List ℕ) → is_attribute n a (attribute_in f) ≡ true → has_attribute ts n a ≡ true) → AlikeAt (homes_for es stack) (own_homes cs) f
  form_alike (token.get_att n a) among = attribute_is n a (among n a (pair_same n a))
  form_alike f among = tt

  all_alike : (rest : List Token) → ((n : ℕ) (a : List ℕ) → has_attribute rest n a ≡ true → has_attribute ts n a ≡ true) → AlikeAtAll (homes_for es stack) (own_homes cs) rest
  all_alike [] among = tt
  all_alike (t ∷ rest) among = (
    form_alike t.form (λ n a is. among n a (or_first (is_attribute n a (attribute_in t.form)) (has_attribute rest n a) is)),
    all_alike rest (λ n a has. among n a (or_later (is_attribute n a (attribute_in t.form)) (has_attribute rest n a) has)),
  )

  pub tokens_alike : AlikeAtAll (homes_for es stack) (own_homes cs) ts
  tokens_alike = all_alike ts (λ n a has. has)

pub local_homes_render : LocalHomesRender
local_homes_render es cs ts ms stack are k d = same_plain (homes_for es stack) (own_homes cs) (spell_alike es cs ts stack are) ts ms (tokens_alike es cs ts stack are) k d

module _ (h g : Homes) (ts : List Token) (ms : List MarkedBody) (k : ℕ) (same : (d : Data) → rendered.rendered h (plain_of k ts ms d) ≡ rendered.rendered g (plain_of k ts ms d)) where
  same_operand : (o : Option Data) → rendered.rendered h (option_map_or (plain_of k ts ms) o (text [])) ≡ rendered.rendered g (option_map_or (plain_of k ts ms) o (text []))
  same_operand None = refl
  same_operand (Some d) = same d

pub local_homes_render_conditions : LocalHomesRenderConditions
local_homes_render_conditions es cs ts ms stack are k n c =
    let h : Homes = homes_for es stack in
    let g : Homes = own_homes cs in
    same_condition h g (spell_alike es cs ts stack are) cs (operand_plain k ts ms n) (λ i. same_operand h g ts ms k (local_homes_render es cs ts ms stack are k) (operand_at ms n i)) 0 c
