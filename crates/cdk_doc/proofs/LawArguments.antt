-- Forms without expressions inside, where nothing is found in their arguments.
use Rattle.std.proofs.Common.{◌≡◌, ℕ, List, suc, Bool, false, Option, Some, None, refl, arith}
use Rattle.serde_json.specs.Data.{Data, null, boolean, number, string, array, object, no_items, item}
use Rattle.serde_json.specs.Find.{as_str}
use Rattle.cdk_language.specs.Application.{get_att_of, context_of, sub_of}
use Rattle.cdk_language.specs.Expression as expression
use Rattle.cdk_language.specs.Expression.{Fields}
use Rattle.cdk_language.specs.Schema.{are_wrong_pieces, items_count}
use Rattle.cdk_language.specs.Sub.{Piece, pieces_of, is_attribute}
use Rattle.cdk_language.specs.declared.schema.Within.{Within}
use Rattle.cdk_language.specs.declared.schema.Role.TheVariants as roles
use Rattle.cdk_doc.proofs.LawPlaces.{Found, IsCleanAt, clean, first_item, rest_items, mapped, both, text_found, such_text_found, too_many}

pub get_att_found : (marked : Bool) (d : Data) → IsCleanAt marked roles.GetAttArguments d → Found (get_att_of d)
get_att_found marked (array (item a (item b no_items))) e =
    let ins = (clean marked roles.GetAttArguments (array (item a (item b no_items))) e).deeper in
    let at = such_text_found is_attribute b (clean false roles.Attribute b (first_item roles.GetAttArguments 1 b no_items (rest_items roles.GetAttArguments 0 a (item b no_items) ins))).right in
    both expression.get_att (as_str a) (as_str b) (text_found false a (first_item roles.GetAttArguments 0 a (item b no_items) ins)) (at.0, at.1)
get_att_found marked (array no_items) e = absurd (cc)
get_att_found marked (array (item a no_items)) e = absurd (cc)
get_att_found marked (array (item a (item b (item c ds)))) e = too_many (suc (suc (suc (items_count ds)))) 2 2 (omega arith) (clean marked roles.GetAttArguments (array (item a (item b (item c ds)))) e).right
get_att_found marked null e = absurd (cc)
get_att_found marked (boolean b) e = absurd (cc)
get_att_found marked (number n) e = absurd (cc)
get_att_found marked (string s) e = absurd (cc)
get_att_found marked (object ms) e = absurd (cc)

pub context_found : (marked : Bool) (d : Data) → IsCleanAt marked roles.ContextArguments d → Found (context_of d)
context_found marked (array (item a no_items)) e =
    let ins = (clean marked roles.ContextArguments (array (item a no_items)) e).deeper in
    mapped (λ k. expression.context k None) (as_str a) (text_found false a (first_item roles.ContextArguments 0 a no_items ins))
context_found marked (array (item a (item b no_items))) e =
    let ins = (clean marked roles.ContextArguments (array (item a (item b no_items))) e).deeper in
    mapped (λ k. expression.context k (Some b)) (as_str a) (text_found false a (first_item roles.ContextArguments 0 a (item b no_items) ins))
context_found marked (array no_items) e = absurd (cc)
context_found marked (array (item a (item b (item c ds)))) e = too_many (suc (suc (suc (items_count ds)))) 1 2 (omega arith) (clean marked roles.ContextArguments (array (item a (item b (item c ds)))) e).right
context_found marked null e = absurd (cc)
context_found marked (boolean b) e = absurd (cc)
context_found marked (number n) e = absurd (cc)
context_found marked (string s) e = absurd (cc)
context_found marked (object ms) e = absurd (cc)

pieces_found : (w : Within) (o : Option (List Piece)) → are_wrong_pieces w o ≡ false → Found o
pieces_found w None h = absurd (cc)
pieces_found w (Some ps) h = (ps, refl)

pub sub_found : (w : Within) (s : List ℕ) (fs : Fields) → are_wrong_pieces w (pieces_of s) ≡ false → Found (sub_of s fs)
sub_found w s fs h = mapped _ (pieces_of s) (pieces_found w (pieces_of s) h)
