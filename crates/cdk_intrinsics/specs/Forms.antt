-- The forms of intrinsics that are evaluated alike.
use Rattle.std.specs.Prelude.{ℕ, List, Bool, Option, Some, None, option_map, Result, Ok, Err, ◌&&◌, bytes_eq, codes, if◌then◌else◌}
use Rattle.cdk_eval.specs.declared.fault.EvalFault.{EvalFault}
use Rattle.serde_json.specs.Data.{Data, array, Items, no_items, item}
use Rattle.serde_json.specs.Find.{as_str}
use Rattle.cdk_base.specs.Json.{text_of}
use Rattle.cdk_eval.specs.declared.fault.EvalFault.TheVariants.{NotText, BadIntrinsic}
use Rattle.cdk_eval.specs.Outcomes.{Outcome, Fault, OutputOutcome, OutputText, OutputFault, on_items, picked}
use Rattle.cdk_eval.specs.Template.{Scope, Part, outcome, ref_form, att_form, join_form, join_args, select_form, select_args, split_form, split_args, sub_form, if_form, map_form, import_form, is_barred_key}
use Rattle.cdk_eval.specs.Texts.{index_of}
use Rattle.cdk_intrinsics.specs.declared.forms.PairForm.{PairForm}
use Rattle.cdk_intrinsics.specs.declared.forms.PairForm.TheVariants.{Join, Select, Split}
use Rattle.cdk_intrinsics.specs.declared.intrinsic.Intrinsic.{Intrinsic}
use Rattle.cdk_intrinsics.specs.declared.intrinsic.Intrinsic.TheVariants as intrinsics

abbrev pub pair_form : PairForm → List Part → Outcome
pair_form Join ps = join_form ps
pair_form Select ps = select_form ps
pair_form Split ps = split_form ps

-- at the first argument as it stands, and the second evaluated
abbrev pub pair_args : PairForm → Data → Outcome → Outcome
pair_args Join d o = join_args d o
pair_args Select d o = select_args (index_of d) o
pair_args Split d o = split_args d o

-- the name of the condition of `Fn::If`, and its two values
abbrev pub if_arguments : Data → Option (List ℕ × (Data × Data))
if_arguments (array (item c (item x (item y no_items)))) = option_map (λ t. (t, (x, y))) (as_str c)
if_arguments d = None

-- `Fn::If` at these
abbrev pub if_among : Scope → Option (List ℕ × (Data × Data)) → Outcome
if_among s None = Fault BadIntrinsic
if_among s (Some (c, (x, y))) = picked (s.condition c) (outcome s x) (outcome s y)

-- `Fn::FindInMap` at the texts of its arguments, where each has one
abbrev pub leaf_at : Scope → Option (List ℕ) → Option (List ℕ) → Option (List ℕ) → Outcome
leaf_at s (Some m) (Some x) (Some y) = s.leaf m x y
leaf_at s _ _ _ = Fault NotText

-- at the values of its arguments; those that are gone are none
abbrev pub leaf_among : Scope → Items → Outcome
leaf_among s (item m (item x (item y no_items))) = leaf_at s (text_of m) (text_of x) (text_of y)
leaf_among s _ = Fault NotText

-- at its three arguments, evaluated
abbrev pub map_listed : Scope → Outcome → Outcome
map_listed s o = on_items (leaf_among s) o

-- a text, or why there is none
abbrev pub told : Result (List ℕ) EvalFault → OutputOutcome
told (Ok t) = OutputText t
told (Err f) = OutputFault f

-- ---- all of them

-- the intrinsic of the key
abbrev pub intrinsic_of : List ℕ → Option Intrinsic
intrinsic_of k =
    if bytes_eq k (codes "Ref") then Some intrinsics.Ref
    else (if bytes_eq k (codes "Fn::GetAtt") then Some intrinsics.GetAtt
    else (if bytes_eq k (codes "Fn::Join") then Some (intrinsics.Pair Join)
    else (if bytes_eq k (codes "Fn::Select") then Some (intrinsics.Pair Select)
    else (if bytes_eq k (codes "Fn::Split") then Some (intrinsics.Pair Split)
    else (if bytes_eq k (codes "Fn::Sub") then Some intrinsics.Sub
    else (if bytes_eq k (codes "Fn::If") then Some intrinsics.If
    else (if bytes_eq k (codes "Fn::FindInMap") then Some intrinsics.FindInMap
    else (if bytes_eq k (codes "Fn::ImportValue") then Some intrinsics.ImportValue
    else None))))))))

-- the intrinsic of the key, where it may stand there
abbrev pub intrinsic_at : List ℕ → Bool → Option Intrinsic
intrinsic_at k is_operand = if is_barred_key k && is_operand then None else intrinsic_of k

-- an intrinsic at its argument as it stands, evaluated, and in parts
abbrev pub at_argument : Scope → Intrinsic → Data → Outcome → List Part → Outcome
at_argument s intrinsics.Ref d o ps = ref_form s d
at_argument s intrinsics.GetAtt d o ps = att_form s ps
at_argument s (intrinsics.Pair f) d o ps = pair_form f ps
at_argument s intrinsics.Sub d o ps = sub_form s d ps
at_argument s intrinsics.If d o ps = if_form s ps
at_argument s intrinsics.FindInMap d o ps = map_form s ps
at_argument s intrinsics.ImportValue d o ps = import_form s o

abbrev pub where_there : Scope → Option Intrinsic → Data → Outcome → List Part → Outcome
where_there s None d o ps = Fault BadIntrinsic
where_there s (Some i) d o ps = at_argument s i d o ps
