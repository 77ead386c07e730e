-- Parts that are measured one after another, the first first: the sum so far is handed on.
use Rattle.std.proofs.Common.{◌≡◌, ◌≤◌, ℕ, ◌+◌, List, [], ◌∷◌, length, min, max, Bool, true, false, refl, sym, ap, ap₂, ◌∙◌, arith, if◌then◌else◌}
use Rattle.serde_json.specs.Data.{Items, no_items, item, Members, no_members, member}
use Rattle.cdk_dependencies.specs.Counts.{most}
use Rattle.cdk_markers.specs.Pieces.{Piece}
use Rattle.cdk_plain.specs.Plain as plain
use Rattle.cdk_plain.specs.Plain.{Conditions}
use Rattle.cdk_value_measures.proofs.Combining.{one_condition}
use Rattle.cdk_value_measures.specs.Expanding.{assembled_measure, items_parts, Known, members_parts, piece_measure, pieces_parts, value_measure}
use Rattle.cdk_measure.specs.Wholes.{capped, collected, no_parts, with_part}
use Rattle.cdk_value_measures.specs.Measures.{condition_measure, conditions_parts}
use Rattle.cdk_value_measures.specs.Size.{condition_sizes}
use Rattle.cdk_measure.specs.declared.measure.Measure.{Measure}
use Rattle.cdk_measure.specs.declared.measure.Parts.{Parts}

-- ---- the rest, onto the parts so far

abbrev pub items_after : Known → Parts → Items → Parts
items_after known done no_items = done
items_after known done (item d ds) = items_after known (with_part 0 (value_measure known d) done) ds

abbrev pub members_after : Known → Parts → Members → Parts
members_after known done no_members = done
members_after known done (member k d ms) = members_after known (with_part (length k) (value_measure known d) done) ms

abbrev pub pieces_after : Known → Parts → List Piece → Parts
pieces_after known done [] = done
pieces_after known done (p ∷ ps) = pieces_after known (with_part 0 (piece_measure known p) done) ps

abbrev pub conditions_after : (ℕ → List ℕ) → Parts → Conditions → Parts
conditions_after path done plain.no_conditions = done
conditions_after path done (plain.condition c cs) = conditions_after path (with_part 0 (condition_measure path c) done) cs

-- a text, of the measure of its first piece, and whether that is the only one so far
abbrev pub text_after : Known → Measure → Bool → Parts → List Piece → Measure
text_after known first is_alone done [] = if is_alone then first else collected false done
text_after known first is_alone done (p ∷ ps) = text_after known first false (with_part 0 (piece_measure known p) done) ps

-- ---- parts in a row

abbrev joined : Parts → Parts → Parts
joined ps qs = record { size = capped (ps.size + qs.size); deepest = max ps.deepest qs.deepest }

abbrev of_numbers : ℕ → ℕ → Parts
of_numbers s d = record { size = s; deepest = d }

moved_size : (m k s a b : ℕ) → min (min (k + (s + a)) m + b) m ≡ min (a + min (k + (s + b)) m) m
moved_size m k s a b = omega arith

moved_depth : (d a b : ℕ) → max (max d a) b ≡ max a (max d b)
moved_depth d a b = omega arith

-- a part may stand in front of the rest as well as behind the others
moved : (k : ℕ) (m : Measure) (ps qs : Parts) → joined (with_part k m ps) qs ≡ joined ps (with_part k m qs)
moved k m ps qs = ap₂ of_numbers (moved_size most k m.size ps.size qs.size) (moved_depth m.depth ps.deepest qs.deepest)

capped_already : (m a : ℕ) → a ≤ m → min (a + 0) m ≡ a
capped_already m a h = omega arith

no_deeper : (a : ℕ) → max a 0 ≡ a
no_deeper a = omega arith

-- nothing more
joined_none : (ps : Parts) → ps.size ≤ most → joined ps no_parts ≡ ps
joined_none ps h = ap₂ of_numbers (capped_already most ps.size h) (no_deeper ps.deepest)

capped_first : (m a : ℕ) → a ≤ m → min (0 + a) m ≡ a
capped_first m a h = omega arith

no_deeper_first : (a : ℕ) → max 0 a ≡ a
no_deeper_first a = omega arith

none_joined : (ps : Parts) → ps.size ≤ most → joined no_parts ps ≡ ps
none_joined ps h = ap₂ of_numbers (capped_first most ps.size h) (no_deeper_first ps.deepest)

least : (m a : ℕ) → min a m ≤ m
least m a = omega arith

pub capped_low : (a : ℕ) → capped a ≤ most
capped_low a = least most a

-- ---- the whole is the same

items_joined : (known : Known) (done : Parts) (ds : Items) → done.size ≤ most → items_after known done ds ≡ joined done (items_parts known ds)
items_joined known done no_items low = sym (joined_none done low)
items_joined known done (item d ds) low =
    items_joined known (with_part 0 (value_measure known d) done) ds (capped_low (0 + ((value_measure known d).size + done.size)))
    ∙ moved 0 (value_measure known d) done (items_parts known ds)

items_low : (known : Known) (ds : Items) → (items_parts known ds).size ≤ most
items_low known no_items = omega arith
items_low known (item d ds) = capped_low (0 + ((value_measure known d).size + (items_parts known ds).size))

pub items_running : (known : Known) (ds : Items) → items_parts known ds ≡ items_after known no_parts ds
items_running known ds = sym (items_joined known no_parts ds (omega arith) ∙ none_joined (items_parts known ds) (items_low known ds))

members_joined : (known : Known) (done : Parts) (ms : Members) → done.size ≤ most → members_after known done ms ≡ joined done (members_parts known ms)
members_joined known done no_members low = sym (joined_none done low)
members_joined known done (member k d ms) low =
    members_joined known (with_part (length k) (value_measure known d) done) ms (capped_low (length k + ((value_measure known d).size + done.size)))
    ∙ moved (length k) (value_measure known d) done (members_parts known ms)

members_low : (known : Known) (ms : Members) → (members_parts known ms).size ≤ most
members_low known no_members = omega arith
members_low known (member k d ms) = capped_low (length k + ((value_measure known d).size + (members_parts known ms).size))

pub members_running : (known : Known) (ms : Members) → members_parts known ms ≡ members_after known no_parts ms
members_running known ms = sym (members_joined known no_parts ms (omega arith) ∙ none_joined (members_parts known ms) (members_low known ms))

pieces_joined : (known : Known) (done : Parts) (ps : List Piece) → done.size ≤ most → pieces_after known done ps ≡ joined done (pieces_parts known ps)
pieces_joined known done [] low = sym (joined_none done low)
pieces_joined known done (p ∷ ps) low =
    pieces_joined known (with_part 0 (piece_measure known p) done) ps (capped_low (0 + ((piece_measure known p).size + done.size)))
    ∙ moved 0 (piece_measure known p) done (pieces_parts known ps)

pieces_low : (known : Known) (ps : List Piece) → (pieces_parts known ps).size ≤ most
pieces_low known [] = omega arith
pieces_low known (p ∷ ps) = capped_low (0 + ((piece_measure known p).size + (pieces_parts known ps).size))

pieces_running : (known : Known) (ps : List Piece) → pieces_parts known ps ≡ pieces_after known no_parts ps
pieces_running known ps = sym (pieces_joined known no_parts ps (omega arith) ∙ none_joined (pieces_parts known ps) (pieces_low known ps))

-- once there are two pieces
text_many : (known : Known) (first : Measure) (done : Parts) (ps : List Piece) → text_after known first false done ps ≡ collected false (pieces_after known done ps)
text_many known first done [] = refl
text_many known first done (p ∷ ps) = text_many known first (with_part 0 (piece_measure known p) done) ps

pub text_running : (known : Known) (p : Piece) (ps : List Piece)
    → assembled_measure known (p ∷ ps) ≡ text_after known (piece_measure known p) true (with_part 0 (piece_measure known p) no_parts) ps
text_running known p [] = refl
text_running known p (q ∷ ps) =
    ap (collected false) (pieces_running known (p ∷ q ∷ ps))
    ∙ sym (text_many known (piece_measure known p) (with_part 0 (piece_measure known q) (with_part 0 (piece_measure known p) no_parts)) ps)

conditions_joined : (path : ℕ → List ℕ) (done : Parts) (cs : Conditions) → done.size ≤ most → conditions_after path done cs ≡ joined done (conditions_parts path cs)
conditions_joined path done plain.no_conditions low = sym (joined_none done low)
conditions_joined path done (plain.condition c cs) low =
    conditions_joined path (with_part 0 (condition_measure path c) done) cs (capped_low (0 + ((condition_measure path c).size + done.size)))
    ∙ (moved 0 (condition_measure path c) done (conditions_parts path cs) ∙ ap (joined done) (one_condition path c cs))

pub conditions_running : (path : ℕ → List ℕ) (cs : Conditions) → conditions_parts path cs ≡ conditions_after path no_parts cs
conditions_running path cs = sym (conditions_joined path no_parts cs (omega arith) ∙ none_joined (conditions_parts path cs) (capped_low (condition_sizes path cs)))
