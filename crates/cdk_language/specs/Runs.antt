-- Runs of adjacent literals in a Concat or a Sub: once joined, each is one text (own).
use Rattle.std.specs.Prelude.{ℕ, ◌||◌, List, [], ◌∷◌, ◌++◌, flat_map, Bool, codes, if◌then◌else◌, Option, Some, None, option_and_then}
use Rattle.std.specs.Str.{bytes_eq}
use Rattle.serde_json.specs.Data.{Data, null, boolean, number, string, array, object, Items, no_items, item, Members, no_members, member}
use Rattle.serde_json.specs.Find.{as_str}
use Rattle.cdk_base.specs.Json.{text_of}
use Rattle.cdk_base.specs.Marker.{has_marker}
use Rattle.cdk_language.specs.Sub.{Piece, literal, name, attribute, is_variable_name, pieces_of}

-- of each piece, a literal's text, or nothing where it is anything else
abbrev pub Literals : Type 0
Literals = List (Option (List ℕ))

abbrev pub no_literal : Literals
no_literal = None ∷ []

abbrev pub variable : List ℕ → List (List ℕ × Literals) → Literals
variable x [] = no_literal
variable x (v ∷ vs) = if bytes_eq x v.0 then v.1 else variable x vs

abbrev pub piece_literals : List (List ℕ × Literals) → Piece → Literals
piece_literals vs (literal s) = Some s ∷ []
piece_literals vs (name x) = if is_variable_name x then variable x vs else no_literal
piece_literals vs (attribute x a) = no_literal

abbrev pub sub_literals : List (List ℕ × Literals) → Option (List Piece) → Literals
sub_literals vs None = no_literal
sub_literals vs (Some ps) = flat_map (piece_literals vs) ps

abbrev mutual
  -- the pieces of a value as a piece: those of a Concat or a Sub inline
  pub literals_of : Data → Literals
  literals_of null = no_literal
  literals_of (boolean b) = text_of (boolean b) ∷ []
  literals_of (number n) = text_of (number n) ∷ []
  literals_of (string s) = text_of (string s) ∷ []
  literals_of (array ds) = no_literal
  literals_of (object ms) = form_literals ms

  pub form_literals : Members → Literals
  form_literals no_members = no_literal
  form_literals (member k d (member l e ms)) = no_literal
  form_literals (member k d no_members) =
      if bytes_eq k (codes "CDK::Concat") then concat_literals d
      else if bytes_eq k (codes "Fn::Sub") then substituted_literals d
      else no_literal

  pub concat_literals : Data → Literals
  concat_literals (array ds) = items_literals ds
  concat_literals d = no_literal

  pub items_literals : Items → Literals
  items_literals no_items = []
  items_literals (item d ds) = literals_of d ++ items_literals ds

  -- the variables are put in at each use
  pub substituted_literals : Data → Literals
  substituted_literals (string s) = sub_literals [] (pieces_of s)
  substituted_literals (array (item d (item (object ms) no_items))) = sub_literals (variables_literals ms) (option_and_then pieces_of (as_str d))
  substituted_literals d = no_literal

  pub variables_literals : Members → List (List ℕ × Literals)
  variables_literals no_members = []
  variables_literals (member k d ms) = (k, literals_of d) ∷ variables_literals ms

-- a run of adjacent literals holds the beginning of a marker; `run` is the run so far
abbrev pub is_marked_run : List ℕ → Literals → Bool
is_marked_run run [] = has_marker run
is_marked_run run (Some s ∷ ps) = is_marked_run (run ++ s) ps
is_marked_run run (None ∷ ps) = has_marker run || is_marked_run [] ps
