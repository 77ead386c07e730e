-- A text in which no marker begins holds no whole text marker, nor does any end of it.
use Rattle.std.proofs.Common.{◌≡◌, ℕ, List, [], ◌∷◌, ◌++◌, true, false, refl, sym, ap, ◌∙◌, true≢false}
use Rattle.std.proofs.lemmas.Bool.{or_parts}
use Rattle.cdk_base.specs.Marker.{begins_marker, has_marker}
use Rattle.cdk_markers.specs.Key.{text_marker}
use Rattle.cdk_markers.specs.Pieces.{HoldsNoMarker}

pub unmarked_end : (a b : List ℕ) → has_marker (a ++ b) ≡ false → has_marker b ≡ false
unmarked_end [] b free = free
unmarked_end (x ∷ a) b free = unmarked_end a b ((or_parts (begins_marker (x ∷ (a ++ b))) (has_marker (a ++ b)) free).1)

marker_begins : (k b : List ℕ) → has_marker (text_marker k ++ b) ≡ true
marker_begins k b = refl

pub holds_no_marker : (s : List ℕ) → has_marker s ≡ false → HoldsNoMarker s
holds_no_marker s free a k b right e =
    true≢false (sym (marker_begins k b) ∙ unmarked_end a (text_marker k ++ b) (sym (ap has_marker e) ∙ free))
