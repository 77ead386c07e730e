-- Values that stand in a template as they should: they can be read back, are not too deep and miss nothing of their form.
use Rattle.std.proofs.Common.{◌≡◌, ◌≤◌, ℕ, suc, ◌+◌, List, [], ◌∷◌, ◌++◌, map, true, cond, Option, Some, None, Ordering, Less, Equal, Greater, nat_cmp, refl, sym, ap, ◌∙◌, subst, arith}
use Rattle.std.specs.Prelude.{decimal, ⊤}
use Rattle.std.specs.Ordering.{match_ordering}
use Rattle.std.specs.Cmp.Lexicographic.{slice_cmp}
use Rattle.serde_json.specs.Data.{Data, null, boolean, number, string, array, object, Items, no_items, item, Members, no_members, member, put, depth, members_depth}
use Rattle.cdk_base.specs.Pointer.{step_to}
use Rattle.cdk_base.specs.Pretty.{AllAbove, IsCanonical, IsWhole, MembersAreCanonical}
use Rattle.cdk_base.proofs.Canonical.{MembersAreOrdered-put, members_depth-put}
use Rattle.cdk_eval.specs.Form.{fits, in_items, in_members, inside, member_role, place, settled}
use Rattle.cdk_eval.specs.declared.role.Role.{Role}
use Rattle.cdk_eval.specs.declared.role.Role.TheVariants.{AnyObject, Anything, AnyText}
use Rattle.cdk_template.specs.Laws.{IsWholeObject}
use Rattle.cdk_entries.specs.Members.{if_given, members_of, unless_empty}

-- a value at a place of the role, at most so deep
pub record IsFit (role : Role) (n : ℕ) (d : Data) : Type 0 where
  pub canonical : IsCanonical d
  pub shallow : depth d ≤ n
  pub formed : place role d (inside role d) ≡ []

-- the members of an object of the role
pub record AreFit (role : Role) (n : ℕ) (ms : Members) : Type 0 where
  pub canonical : MembersAreCanonical ms
  pub shallow : members_depth ms ≤ n
  pub formed : in_members role ms ≡ []

-- a value that may be missing
abbrev pub IsFitGiven : Role → ℕ → Option Data → Type 0
IsFitGiven role n None = ⊤
IsFitGiven role n (Some d) = IsFit role n d

-- ---- members, one before the others

pub no_members_fit : (role : Role) (n : ℕ) → AreFit role n no_members
no_members_fit role n = record { canonical = tt; shallow = omega arith; formed = refl }

pub member_fit : (role own : Role) (n : ℕ) (k : List ℕ) (d : Data) (ms : Members) → settled (member_role role k) d ≡ own → AllAbove k ms → IsFit own n d → AreFit role n ms → AreFit role n (member k d ms)
member_fit role own n k d ms is above h hs = record {
  canonical = (h.canonical, (above, hs.canonical));
  shallow = omega (arith, h.shallow, hs.shallow);
  formed = ap (λ r. map (step_to k) (place r d (inside r d)) ++ in_members role ms) is ∙ ap (λ x. map (step_to k) x ++ in_members role ms) h.formed ∙ hs.formed;
}

pub given_fit : (role own : Role) (n : ℕ) (k : List ℕ) (o : Option Data) (ms : Members) → ((d : Data) → settled (member_role role k) d ≡ own) → AllAbove k ms → IsFitGiven own n o → AreFit role n ms
    → AreFit role n (if_given k o ms)
given_fit role own n k None ms is above h hs = hs
given_fit role own n k (Some d) ms is above h hs = member_fit role own n k d ms (is d) above h hs

pub above_given : (k l : List ℕ) (o : Option Data) (ms : Members) → slice_cmp nat_cmp l k ≡ Greater → AllAbove k ms → AllAbove k (if_given l o ms)
above_given k l None ms h above = above
above_given k l (Some d) ms h above = (h, above)

-- ---- objects, and texts

pub object_fit : (role : Role) (n : ℕ) (ms : Members) → fits role (object ms) ≡ true → AreFit role n ms → IsFit role (suc n) (object ms)
object_fit role n ms is h = record {
  canonical = h.canonical;
  shallow = omega (arith, h.shallow);
  formed = ap (λ t. cond t (in_members role ms) ([] ∷ in_members role ms)) is ∙ h.formed;
}

-- where it has members
pub unless_empty_fit : (role : Role) (n : ℕ) (ms : Members) → fits role (object ms) ≡ true → AreFit role n ms → IsFitGiven role (suc n) (unless_empty ms)
unless_empty_fit role n no_members is h = tt
unless_empty_fit role n (member k d ms) is h = object_fit role n (member k d ms) is h

pub text_fit : (n : ℕ) (s : List ℕ) → IsFit AnyText n (string s)
text_fit n s = record { canonical = tt; shallow = omega arith; formed = refl }

-- ---- where anything may stand

mutual
  pub anything : (d : Data) → inside Anything d ≡ []
  anything null = refl
  anything (boolean b) = refl
  anything (number n) = refl
  anything (string s) = refl
  anything (array ds) = any_items 0 ds
  anything (object ms) = any_members ms

  any_items : (n : ℕ) (ds : Items) → in_items Anything n ds ≡ []
  any_items n no_items = refl
  any_items n (item d ds) = ap (λ x. map (step_to (decimal n)) x ++ in_items Anything (n + 1) ds) (anything d) ∙ any_items (n + 1) ds

  any_members : (ms : Members) → in_members Anything ms ≡ []
  any_members no_members = refl
  any_members (member k d ms) = ap (λ x. map (step_to k) x ++ in_members Anything ms) (anything d) ∙ any_members ms

pub any_object : (ms : Members) → in_members AnyObject ms ≡ []
any_object no_members = refl
any_object (member k d ms) = ap (λ x. map (step_to k) x ++ in_members AnyObject ms) (anything d) ∙ any_object ms

pub any_fit : (n : ℕ) (d : Data) → IsCanonical d → depth d ≤ n → IsFit Anything n d
any_fit n d c s = record { canonical = c; shallow = s; formed = anything d }

-- an object in which anything may stand
pub any_object_fit : (most n : ℕ) (d : Data) → IsWholeObject most d → most ≤ n → IsFit AnyObject n d
any_object_fit most n d w le = record {
  canonical = w.whole.canonical;
  shallow = omega (arith, w.whole.shallow, le);
  formed = subst (λ x. place AnyObject x (inside AnyObject x) ≡ []) (sym w.formed) (any_object (members_of d));
}

-- ---- members put in, each of one role

both_empty : (xs ys : List (List ℕ)) → xs ++ ys ≡ [] → (xs ≡ []) × (ys ≡ [])
both_empty [] ys h = (refl, h)
both_empty (x ∷ xs) ys h = cc

-- each member of an object of the role is of the other role
abbrev pub HasMembers : Role → Role → Type 0
HasMembers role own = (k : List ℕ) (d : Data) → settled (member_role role k) d ≡ own

formed_one : (role own : Role) → HasMembers role own → (k : List ℕ) (d : Data) (rest : List (List ℕ)) → place own d (inside own d) ≡ []
    → map (step_to k) (place (settled (member_role role k) d) d (inside (settled (member_role role k) d) d)) ++ rest ≡ rest
formed_one role own is k d rest h = ap (λ r. map (step_to k) (place r d (inside r d)) ++ rest) (is k d) ∙ ap (λ x. map (step_to k) x ++ rest) h

formed_put : (role own : Role) → HasMembers role own → (k : List ℕ) (d : Data) (ms : Members) → place own d (inside own d) ≡ [] → in_members role ms ≡ [] → in_members role (put k d ms) ≡ []
formed_put role own is k d no_members h g = formed_one role own is k d [] h
formed_put role own is k d (member l e ms) h g =
    let parts = both_empty (map (step_to l) (place (settled (member_role role l) e) e (inside (settled (member_role role l) e) e))) (in_members role ms) g in
    at (slice_cmp nat_cmp k l) parts.1 (ap (λ x. x ++ in_members role (put k d ms)) parts.0 ∙ formed_put role own is k d ms h parts.1)
  where
    at : (o : Ordering) → in_members role ms ≡ [] → in_members role (member l e (put k d ms)) ≡ [] → in_members role (match_ordering o (member k d (member l e ms)) (member l d ms) (member l e (put k d ms))) ≡ []
    at Less rest later = formed_one role own is k d (in_members role (member l e ms)) h ∙ g
    at Equal rest later = formed_one role own is l d (in_members role ms) h ∙ rest
    at Greater rest later = later

pub put_fit : (role own : Role) → HasMembers role own → (n : ℕ) (k : List ℕ) (d : Data) (ms : Members) → IsFit own n d → AreFit role n ms → AreFit role n (put k d ms)
put_fit role own is n k d ms h hs = record {
  canonical = MembersAreOrdered-put IsWhole k d ms h.canonical hs.canonical;
  shallow = members_depth-put n k d ms h.shallow hs.shallow;
  formed = formed_put role own is k d ms h.formed hs.formed;
}
