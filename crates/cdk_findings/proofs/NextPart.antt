-- The walk's next item or member: what is found in it is found first, and where nothing is, the rest decides.
use Rattle.std.proofs.Common.{◌≡◌, ℕ, ◌+◌, List, ◌∷◌, Bool, false, Some, None, string_bytes, sym, ap, ◌∙◌}
use Rattle.std.specs.Prelude.{decimal}
use Rattle.serde_json.specs.View.{view, items_view, members_view}
use Rattle.serde_json.specs.declared.value.Value.{Value}
use Rattle.serde_json.proofs.Views.{Entry}
use Rattle.cdk_base.specs.Marker.{has_marker}
use Rattle.cdk_language.specs.Findings.{under, findings_at, in_items, in_members, first}
use Rattle.cdk_language.specs.Schema.{member_role, item_role}
use Rattle.cdk_language.specs.declared.finding.Finding.{Finding}
use Rattle.cdk_language.specs.declared.schema.Frame.{Frame}
use Rattle.cdk_language.specs.declared.schema.Role.{Role}
use Rattle.cdk_findings.proofs.Firsts.{some_first, none_first}

pub item_found : (role : Role) (n : ℕ) (v : Value) (vs : List Value) (r : Role) (f : Finding) → r ≡ item_role role n → Some f ≡ first (findings_at false r (view v))
    → Some (under (decimal n) f) ≡ first (in_items role n (items_view (v ∷ vs)))
item_found role n v vs r f e found =
    sym (some_first (under (decimal n)) (findings_at false (item_role role n) (view v)) _ f (sym (found ∙ ap (λ q. first (findings_at false q (view v))) e)))

pub item_passed : (role : Role) (n : ℕ) (v : Value) (vs : List Value) (r : Role) → r ≡ item_role role n → None ≡ first (findings_at false r (view v))
    → first (in_items role n (items_view (v ∷ vs))) ≡ first (in_items role (n + 1) (items_view vs))
item_passed role n v vs r e none =
    none_first (under (decimal n)) (findings_at false (item_role role n) (view v)) _ (sym (none ∙ ap (λ q. first (findings_at false q (view v))) e))

at_key : (frame : Frame) (e : Entry) (k : List ℕ) (m : Bool) (r : Role) → k ≡ string_bytes e.0 → m ≡ has_marker k → r ≡ member_role frame k
    → first (findings_at m r (view e.1)) ≡ first (findings_at (has_marker (string_bytes e.0)) (member_role frame (string_bytes e.0)) (view e.1))
at_key frame e k m r named marked role =
    ap (λ b. first (findings_at b r (view e.1))) marked ∙ ap (λ q. first (findings_at (has_marker k) q (view e.1))) role
    ∙ ap (λ l. first (findings_at (has_marker l) (member_role frame l) (view e.1))) named

pub member_found : (frame : Frame) (e : Entry) (es : List Entry) (k : List ℕ) (m : Bool) (r : Role) (f : Finding) → k ≡ string_bytes e.0 → m ≡ has_marker k → r ≡ member_role frame k
    → Some f ≡ first (findings_at m r (view e.1)) → Some (under k f) ≡ first (in_members frame (members_view (e ∷ es)))
member_found frame e es k m r f named marked role found =
    let l = string_bytes e.0 in
    ap (λ s. Some (under s f)) named
    ∙ sym (some_first (under l) (findings_at (has_marker l) (member_role frame l) (view e.1)) _ f (sym (found ∙ at_key frame e k m r named marked role)))

pub member_passed : (frame : Frame) (e : Entry) (es : List Entry) (k : List ℕ) (m : Bool) (r : Role) → k ≡ string_bytes e.0 → m ≡ has_marker k → r ≡ member_role frame k
    → None ≡ first (findings_at m r (view e.1)) → first (in_members frame (members_view (e ∷ es))) ≡ first (in_members frame (members_view es))
member_passed frame e es k m r named marked role none =
    let l = string_bytes e.0 in
    none_first (under l) (findings_at (has_marker l) (member_role frame l) (view e.1)) _ (sym (none ∙ at_key frame e k m r named marked role))
