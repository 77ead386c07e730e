-- The law on literals at a bucket's tags: its premises are met.
use Rattle.std.proofs.Common.{◌≡◌, refl}
use Rattle.std.specs.Prelude.{true, codes, negsuc}
use Rattle.serde_json.specs.Data.{unsigned, Data, boolean, number, string, array, object, no_items, item, no_members, member}
use Rattle.cdk_eval.specs.Outcomes.{Value}
use Rattle.cdk_eval.specs.Template.{Scope, outcome}
use Rattle.cdk_plain.specs.Plain.{Plain, text, whole, truth, list_of, object_of, no_plains, plain, no_fields, field}
use Rattle.cdk_plain.specs.Rendered.{Homes, rendered}
use Rattle.cdk_meaning.proofs.Literals.{literals_stand_law, literals_are_rendered}
use Rattle.cdk_meaning.specs.Source.{Means, Source}
use Rattle.cdk_meaning.specs.Meaning.{meaning}

abbrev tags : Data
tags = array (item (object (member (codes "Key") (string (codes "env")) (member (codes "Value") (string (codes "dev")) no_members))) (item (number (unsigned 7)) (item (boolean true) no_items)))

pub tags_stand : (t : Scope) → outcome t tags ≡ Value tags
tags_stand t = literals_stand_law t tags ((refl, tt, (refl, tt, tt)), (refl, (tt, tt)))

abbrev written : Plain
written = list_of (plain (object_of (field (codes "Key") (text (codes "env")) (field (codes "Value") (whole (negsuc 6)) no_fields))) (plain (truth true) no_plains))

pub written_means : (src : Source) (h : Homes) → meaning src written ≡ Means (rendered h written)
written_means src h = (literals_are_rendered src h written ((refl, tt, (refl, refl, tt)), (tt, tt))).1
