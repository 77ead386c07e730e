-- Members in their places, by key bytes.
use Rattle.std.proofs.Common.{◌≡◌, ℕ, List, Option, Some, None, Less, Greater, nat_cmp, codes, refl, ap, ◌∙◌}
use Rattle.std.specs.Ordering.{match_ordering}
use Rattle.std.specs.Cmp.Lexicographic.{slice_cmp}
use Rattle.serde_json.specs.Data.{Data, Members, no_members, member, put}
use Rattle.cdk_entries.specs.Members.{if_given, put_given}

-- ---- one member

-- a member of the key is put in before all others
abbrev pub GoesFirst : List ℕ → Members → Type 0
GoesFirst k ms = (d : Data) → put k d ms ≡ member k d ms

pub before_none : (k : List ℕ) → GoesFirst k no_members
before_none k d = refl

pub before_member : (k l : List ℕ) (e : Data) (ms : Members) → slice_cmp nat_cmp k l ≡ Less → GoesFirst k (member l e ms)
before_member k l e ms h d = ap (λ o. match_ordering o (member k d (member l e ms)) (member l d ms) (member l e (put k d ms))) h

pub before_given : (k l : List ℕ) (o : Option Data) (ms : Members) → slice_cmp nat_cmp k l ≡ Less → GoesFirst k ms → GoesFirst k (if_given l o ms)
before_given k l None ms h first = first
before_given k l (Some e) ms h first = before_member k l e ms h

pub given_first : (k : List ℕ) (o : Option Data) (ms : Members) → GoesFirst k ms → put_given k o ms ≡ if_given k o ms
given_first k None ms first = refl
given_first k (Some d) ms first = first d

-- behind a member that may be missing
pub past_given : (k l : List ℕ) (o : Option Data) (d : Data) (ms : Members) → slice_cmp nat_cmp k l ≡ Greater → put k d (if_given l o ms) ≡ if_given l o (put k d ms)
past_given k l None d ms h = refl
past_given k l (Some e) d ms h = ap (λ o. match_ordering o (member k d (member l e ms)) (member l d ms) (member l e (put k d ms))) h

-- ---- entries

parameter_members : (d e : Option Data) (t : Data)
    → put_given (codes "Default") d (put_given (codes "Description") e (put (codes "Type") t no_members)) ≡ if_given (codes "Default") d (if_given (codes "Description") e (member (codes "Type") t no_members))
parameter_members None None t = refl
parameter_members None (Some e) t = refl
parameter_members (Some d) None t = refl
parameter_members (Some d) (Some e) t = refl

pub parameter_put : (d e : Option Data) (t : Data) {m₁ m₂ m₃ : Members} → m₁ ≡ put (codes "Type") t no_members → m₂ ≡ put_given (codes "Description") e m₁ → m₃ ≡ put_given (codes "Default") d m₂
    → m₃ ≡ if_given (codes "Default") d (if_given (codes "Description") e (member (codes "Type") t no_members))
parameter_put d e t e₁ e₂ e₃ = e₃ ∙ ap (put_given (codes "Default") d) (e₂ ∙ ap (put_given (codes "Description") e) e₁) ∙ parameter_members d e t

-- the properties first, then the others from the last one to the first
resource_members : (c d p u : Option Data) (m t : Data)
    → put_given (codes "Condition") c (put_given (codes "DeletionPolicy") d (put (codes "Metadata") m (put (codes "Type") t (put_given (codes "UpdateReplacePolicy") u (put_given (codes "Properties") p no_members)))))
    ≡ if_given (codes "Condition") c (if_given (codes "DeletionPolicy") d (member (codes "Metadata") m (if_given (codes "Properties") p (member (codes "Type") t (if_given (codes "UpdateReplacePolicy") u no_members)))))
resource_members None None None None m t = refl
resource_members None None None (Some u) m t = refl
resource_members None None (Some p) None m t = refl
resource_members None None (Some p) (Some u) m t = refl
resource_members None (Some d) None None m t = refl
resource_members None (Some d) None (Some u) m t = refl
resource_members None (Some d) (Some p) None m t = refl
resource_members None (Some d) (Some p) (Some u) m t = refl
resource_members (Some c) None None None m t = refl
resource_members (Some c) None None (Some u) m t = refl
resource_members (Some c) None (Some p) None m t = refl
resource_members (Some c) None (Some p) (Some u) m t = refl
resource_members (Some c) (Some d) None None m t = refl
resource_members (Some c) (Some d) None (Some u) m t = refl
resource_members (Some c) (Some d) (Some p) None m t = refl
resource_members (Some c) (Some d) (Some p) (Some u) m t = refl

pub resource_put : (c d p u : Option Data) (m t : Data) {m₁ m₂ m₃ m₄ m₅ m₆ : Members} → m₁ ≡ put_given (codes "Properties") p no_members → m₂ ≡ put_given (codes "UpdateReplacePolicy") u m₁ → m₃ ≡ put (codes "Type") t m₂
    → m₄ ≡ put (codes "Metadata") m m₃ → m₅ ≡ put_given (codes "DeletionPolicy") d m₄ → m₆ ≡ put_given (codes "Condition") c m₅
    → m₆ ≡ if_given (codes "Condition") c (if_given (codes "DeletionPolicy") d (member (codes "Metadata") m (if_given (codes "Properties") p (member (codes "Type") t (if_given (codes "UpdateReplacePolicy") u no_members)))))
resource_put c d p u m t e₁ e₂ e₃ e₄ e₅ e₆ =
    e₆ ∙ ap (put_given (codes "Condition") c) (e₅ ∙ ap (put_given (codes "DeletionPolicy") d) (e₄ ∙ ap (put (codes "Metadata") m) (e₃ ∙ ap (put (codes "Type") t) (e₂ ∙ ap (put_given (codes "UpdateReplacePolicy") u) e₁))))
    ∙ resource_members c d p u m t

-- the value first, then the others from the last one to the first
output_members : (c d e : Option Data) (v : Data)
    → put_given (codes "Condition") c (put_given (codes "Description") d (put_given (codes "Export") e (put (codes "Value") v no_members)))
    ≡ if_given (codes "Condition") c (if_given (codes "Description") d (if_given (codes "Export") e (member (codes "Value") v no_members)))
output_members None None None v = refl
output_members None None (Some e) v = refl
output_members None (Some d) None v = refl
output_members None (Some d) (Some e) v = refl
output_members (Some c) None None v = refl
output_members (Some c) None (Some e) v = refl
output_members (Some c) (Some d) None v = refl
output_members (Some c) (Some d) (Some e) v = refl

pub output_put : (c d e : Option Data) (v : Data) {m₁ m₂ m₃ m₄ : Members} → m₁ ≡ put (codes "Value") v no_members → m₂ ≡ put_given (codes "Export") e m₁ → m₃ ≡ put_given (codes "Description") d m₂ → m₄ ≡ put_given (codes "Condition") c m₃
    → m₄ ≡ if_given (codes "Condition") c (if_given (codes "Description") d (if_given (codes "Export") e (member (codes "Value") v no_members)))
output_put c d e v e₁ e₂ e₃ e₄ =
    e₄ ∙ ap (put_given (codes "Condition") c) (e₃ ∙ ap (put_given (codes "Description") d) (e₂ ∙ ap (put_given (codes "Export") e) e₁)) ∙ output_members c d e v
