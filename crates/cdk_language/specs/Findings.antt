-- What is wrong with a document (own schema): each place in pre-order with keys in byte order, and at each place the
-- lowest number first. A place is a JSON pointer (RFC 6901); here it is told from the value on, and each parent puts its step in front.
use Rattle.std.specs.Prelude.{ℕ, ◌+◌, ◌||◌, List, [], ◌∷◌, ◌++◌, map, Bool, false, decimal, codes, if◌then◌else◌, Option, Some, None}
use Rattle.serde_json.specs.Data.{Data, null, boolean, number, string, array, object, Items, no_items, item, Members, no_members, member}
use Rattle.serde_json.specs.Find.{is_float}
use Rattle.cdk_base.specs.Marker.{has_marker}
use Rattle.cdk_base.specs.Pointer.{step_to}
use Rattle.cdk_base.specs.declared.code.Code.{Code}
use Rattle.cdk_base.specs.declared.code.Code.TheVariants as faults
use Rattle.cdk_base.specs.declared.Setting.{Setting}
use Rattle.cdk_language.specs.Runs.{form_literals, is_marked_run}
use Rattle.cdk_language.specs.Schema.{is_wrong, frame_of, member_role, item_role}
use Rattle.cdk_language.specs.declared.finding.Finding.{Finding}
use Rattle.cdk_language.specs.declared.schema.Frame.{Frame}
use Rattle.cdk_language.specs.declared.schema.Role.{Role}
use Rattle.cdk_language.specs.declared.schema.Role.TheVariants as roles

-- Number: a number that is not whole and within 64 bits
abbrev pub is_fraction : Data → Bool
is_fraction (number n) = is_float n
is_fraction d = false

-- LiteralMarker: a text holds the beginning of a marker
abbrev pub is_marked_text : Data → Bool
is_marked_text (string s) = has_marker s
is_marked_text d = false

abbrev pub is_marked_form : Data → Bool
is_marked_form (object ms) = is_marked_run [] (form_literals ms)
is_marked_form d = false

-- LiteralMarker of a run of literals. A nested one's run is a part of the outer one's, which is told: so the pieces of a
-- Concat are left out. The variables of a Sub are not, since the text may not use them; the Sub stands before them.
abbrev pub is_joined_marked : Role → Data → Bool
is_joined_marked (roles.Expression w) d = is_marked_form d
is_joined_marked (roles.TextPlace w) d = is_marked_form d
is_joined_marked (roles.ListPlace w) d = is_marked_form d
is_joined_marked role d = false

abbrev pub when : Bool → Code → List Code
when b code = if b then code ∷ [] else []

-- what is wrong at the value's own place; `marked` tells that the member's key holds the beginning of a marker
abbrev pub own : Bool → Role → Data → List Code
own marked role d = when (is_wrong role d) faults.Shape ++ (when (is_fraction d) faults.Number ++ when (marked || (is_marked_text d || is_joined_marked role d)) faults.LiteralMarker)

abbrev pub here : Code → Finding
here c = record { code = c; place = [] }

abbrev pub under : List ℕ → Finding → Finding
under step f = record { code = f.code; place = step_to step f.place }

-- a place and what is inside; a value that is wrong as a whole is not walked further
abbrev pub place : Bool → Role → Data → List Finding → List Finding
place marked role d inside = map here (own marked role d) ++ (if is_wrong role d then [] else inside)

abbrev mutual
  pub inside : Role → Data → List Finding
  inside role null = []
  inside role (boolean b) = []
  inside role (number n) = []
  inside role (string s) = []
  inside role (array ds) = in_items role 0 ds
  inside role (object ms) = in_members (frame_of role ms) ms

  pub in_items : Role → ℕ → Items → List Finding
  in_items role n no_items = []
  in_items role n (item d ds) = map (under (decimal n)) (place false (item_role role n) d (inside (item_role role n) d)) ++ in_items role (n + 1) ds

  pub in_members : Frame → Members → List Finding
  in_members frame no_members = []
  in_members frame (member k d ms) = map (under k) (place (has_marker k) (member_role frame k) d (inside (member_role frame k) d)) ++ in_members frame ms

-- what is wrong with a value in a role
abbrev pub findings_at : Bool → Role → Data → List Finding
findings_at marked role d = place marked role d (inside role d)

abbrev pub findings : Data → List Finding
findings d = findings_at false roles.Document d

-- what is wrong with settings, in their order: the place is `=` and the key
abbrev pub setting_findings : List Setting → List Finding
setting_findings [] = []
setting_findings (s ∷ ss) = (if has_marker s.key || has_marker s.value then record { code = faults.LiteralMarker; place = codes "=" ++ s.key } ∷ [] else []) ++ setting_findings ss

-- the first of a list
abbrev pub first : {A : Type 0} → List A → Option A
first [] = None
first (x ∷ xs) = Some x
