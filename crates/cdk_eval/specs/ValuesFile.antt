-- The values that a values file gives (own).
use Rattle.std.specs.Prelude.{ℕ, List, Option, option_and_then, codes}
use Rattle.serde_json.specs.Data.{Data}
use Rattle.serde_json.specs.Find.{get, as_str}
use Rattle.cdk_eval.specs.Values.{Values}

abbrev pub text_at : List ℕ → Option Data → Option (List ℕ)
text_at k d = option_and_then as_str (option_and_then (get k) d)

-- by stack name and logical name
abbrev pub entry_of : List ℕ → Data → List ℕ → List ℕ → Option Data
entry_of member d stack logical = option_and_then (get logical) (option_and_then (get stack) (get member d))

abbrev pub values_of : Data → Values
values_of d = record {
  physical = λ s l. text_at (codes "Ref") (entry_of (codes "physical") d s l);
  attribute = λ s l a. text_at a (option_and_then (get (codes "GetAtt")) (entry_of (codes "physical") d s l));
  parameter = λ s l. option_and_then as_str (entry_of (codes "parameters") d s l);
  pseudo = λ n. text_at n (get (codes "pseudo") d);
  export = λ e. text_at e (get (codes "exports") d);
}
