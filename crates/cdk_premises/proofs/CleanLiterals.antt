-- What is read in the place of a literal is a value that a context may have, and so is that of a setting in which nothing is found.
use Rattle.std.proofs.Common.{◌≡◌, ℕ, ◌^◌, ℤ, pos, negsuc, List, [], ◌∷◌, ◌++◌, not, Bool, true, false, cond, Ordering, Less, Equal, Greater, nat_cmp, Option, Some, None, refl, ap}
use Rattle.std.specs.Prelude.{◌||◌, ⊤}
use Rattle.std.specs.Cmp.Lexicographic.{slice_cmp}
use Rattle.std.specs.Option.{option_map_or, option_or}
use Rattle.std.specs.Ordering.{match_ordering}
use Rattle.std.proofs.lemmas.Bool.{lt-ltb}
use Rattle.serde_json.specs.Data.{Num, unsigned, negative, float, Data, null, boolean, number, string, array, object, Members, no_members, member, put}
use Rattle.serde_json.specs.Find.{as_integer, get_member, is_float, of_integer}
use Rattle.cdk_base.specs.Json.{is_form_key, is_whole}
use Rattle.cdk_base.specs.Marker.{has_marker, holds_marker}
use Rattle.cdk_base.specs.declared.Setting.{Setting}
use Rattle.cdk_base.proofs.ReadValues.{IsReadNumber}
use Rattle.cdk_premises.specs.CleanConstruct.{IsCleanContext}
use Rattle.cdk_premises.proofs.CleanPlaces.{MembersStand, StandsAt, is_right, member_stands, members_stand, no_fraction, nothing_there, unmarked}
use Rattle.cdk_expansion.specs.Clean.{is_clean_value, is_literal}
use Rattle.cdk_language.specs.Application.{laid_over}
use Rattle.cdk_language.specs.Findings.{setting_findings}
use Rattle.cdk_language.specs.declared.finding.Finding.{Finding}
use Rattle.cdk_language.specs.declared.schema.Frame.TheVariants as frames
use Rattle.cdk_language.specs.declared.schema.Role.TheVariants as roles
use Rattle.cdk_tree.specs.Placed.{found_value, look_up}
use Rattle.cdk_tree.proofs.Tests.{and_both}
use Rattle.cdk_premises.proofs.ReadExpressions.{All}
use Rattle.cdk_premises.proofs.Unmarked.{or_false}

-- ---- numbers

abbrev pub IsWholeOf64 : ℤ → Type 0
IsWholeOf64 z = is_whole (of_integer z) ≡ true

pub whole_read : (n : Num) → IsReadNumber n → All IsWholeOf64 (as_integer n)
whole_read (unsigned n) h = lt-ltb n (2 ^ 64) (h refl)
whole_read (negative (pos n)) h = absurd (h refl)
whole_read (negative (negsuc n)) h = lt-ltb n (2 ^ 63) (h refl)
whole_read (float x) h = tt

number_whole : (n : Num) → IsReadNumber n → is_float n ≡ false → is_whole n ≡ true
number_whole (unsigned n) h e = lt-ltb n (2 ^ 64) (h refl)
number_whole (negative (pos n)) h e = absurd (h refl)
number_whole (negative (negsuc n)) h e = lt-ltb n (2 ^ 63) (h refl)
number_whole (float x) h e = absurd (cc)

-- ---- literals

literal_read : (marked : Bool) (d : Data) → StandsAt marked roles.Literal d → is_literal d ≡ true
literal_read marked null h = let e = is_right marked roles.Literal null h in absurd (cc e)
literal_read marked (boolean b) h = refl
literal_read marked (number n) h = number_whole n h.0 (no_fraction marked roles.Literal (number n) h)
literal_read marked (string s) h = refl
literal_read marked (array ds) h = refl
literal_read marked (object ms) h = refl

pub literal_clean : (marked : Bool) (d : Data) → StandsAt marked roles.Literal d → is_clean_value d ≡ true
literal_clean marked d h = and_both (is_literal d) (not (holds_marker d)) (literal_read marked d h) (ap not (unmarked marked roles.Literal d h))

by_key : {A : Type 0} (b marked : Bool) (d : Data) → StandsAt marked (cond b roles.Nothing roles.Literal) d → (StandsAt marked roles.Literal d → A) → A
by_key true marked d h f = nothing_there marked d h
by_key false marked d h f = f h

pub literals_clean : (ms : Members) → MembersStand frames.Literals ms → IsCleanContext ms
literals_clean no_members h = tt
literals_clean (member k d ms) h =
    (by_key (is_form_key k) (has_marker k) d (member_stands frames.Literals k d ms h) (literal_clean (has_marker k) d), literals_clean ms (members_stand frames.Literals k d ms h))

-- ---- what is found in clean contexts

abbrev pub IsCleanIfFound : Option Data → Type 0
IsCleanIfFound o = option_map_or is_clean_value o true ≡ true

abbrev pub AreCleanContexts : List Members → Type 0
AreCleanContexts [] = ⊤
AreCleanContexts (c ∷ cs) = IsCleanContext c × AreCleanContexts cs

picked : (o : Ordering) (d : Data) (later : Option Data) → is_clean_value d ≡ true → IsCleanIfFound later → IsCleanIfFound (match_ordering o later (Some d) later)
picked Less d later first rest = rest
picked Equal d later first rest = first
picked Greater d later first rest = rest

member_clean : (k : List ℕ) (ms : Members) → IsCleanContext ms → IsCleanIfFound (get_member k ms)
member_clean k no_members h = refl
member_clean k (member l d ms) h = picked (slice_cmp nat_cmp k l) d (get_member k ms) h.0 (member_clean k ms h.1)

else_clean : (o p : Option Data) → IsCleanIfFound o → IsCleanIfFound p → IsCleanIfFound (option_or o p)
else_clean None p first rest = rest
else_clean (Some d) p first rest = first

look_up_clean : (k : List ℕ) (cs : List Members) → AreCleanContexts cs → IsCleanIfFound (look_up k cs)
look_up_clean k [] h = refl
look_up_clean k (c ∷ cs) h = else_clean (get_member k c) (look_up k cs) (member_clean k c h.0) (look_up_clean k cs h.1)

pub found_clean : (k : List ℕ) (d : Option Data) (cs : List Members) → AreCleanContexts cs → IsCleanIfFound d → IsCleanIfFound (found_value cs k d)
found_clean k d cs h g = else_clean (look_up k cs) d (look_up_clean k cs h) g

-- ---- settings

put_by : (o : Ordering) (a b c : Members) → IsCleanContext a → IsCleanContext b → IsCleanContext c → IsCleanContext (match_ordering o a b c)
put_by Less a b c x y z = x
put_by Equal a b c x y z = y
put_by Greater a b c x y z = z

put_clean : (k : List ℕ) (d : Data) (ms : Members) → is_clean_value d ≡ true → IsCleanContext ms → IsCleanContext (put k d ms)
put_clean k d no_members h g = (h, tt)
put_clean k d (member l e ms) h g =
    put_by (slice_cmp nat_cmp k l) (member k d (member l e ms)) (member l d ms) (member l e (put k d ms)) (h, g) (h, g.1) (g.0, put_clean k d ms h g.1)

no_finding : (b : Bool) (f : Finding) (rest : List Finding) → cond b (f ∷ []) [] ++ rest ≡ [] → (b ≡ false) × (rest ≡ [])
no_finding true f rest e = absurd (cc)
no_finding false f rest e = (refl, e)

pub laid_clean : (ss : List Setting) (ms : Members) → setting_findings ss ≡ [] → IsCleanContext ms → IsCleanContext (laid_over ms ss)
laid_clean [] ms e h = h
laid_clean (s ∷ ss) ms e h =
    let none = no_finding (has_marker s.key || has_marker s.value) _ (setting_findings ss) e in
    laid_clean ss (put s.key (string s.value) ms) none.1 (put_clean s.key (string s.value) ms (ap not (or_false (has_marker s.key) (has_marker s.value) none.0).1) h)
