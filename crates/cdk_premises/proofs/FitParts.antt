-- What the parts of a Concat come to is well and ordered, where the parts are that are no literals.
use Rattle.std.proofs.Common.{ℕ, List, [], ◌∷◌, ◌++◌, Bool, true, false}
use Rattle.std.specs.Prelude.{⊤}
use Rattle.cdk_expansion.specs.Own.{Part, assembled, literal, merge_literal, merged, other, other_part, parts_plain}
use Rattle.cdk_premises.proofs.FitFields.{AreFit, IsFit}
use Rattle.cdk_plain.specs.Plain.{Plain}

abbrev pub PartsAreFit : List Part → Type 0
PartsAreFit [] = ⊤
PartsAreFit (literal s ∷ ps) = PartsAreFit ps
PartsAreFit (other p ∷ ps) = IsFit p × PartsAreFit ps

pub other_fit : (is_list : Bool) (p : Plain) → IsFit p → PartsAreFit (other_part is_list p)
other_fit true p h = tt
other_fit false p h = (h, tt)

pub append_fit : (ps qs : List Part) → PartsAreFit ps → PartsAreFit qs → PartsAreFit (ps ++ qs)
append_fit [] qs h g = g
append_fit (literal s ∷ ps) qs h g = append_fit ps qs h g
append_fit (other p ∷ ps) qs h g = (h.0, append_fit ps qs h.1 g)

merge_fit : (s : List ℕ) (ps : List Part) → PartsAreFit ps → PartsAreFit (merge_literal s ps)
merge_fit [] ps h = h
merge_fit (x ∷ s) [] h = tt
merge_fit (x ∷ s) (literal t ∷ ps) h = h
merge_fit (x ∷ s) (other p ∷ ps) h = h

merged_fit : (ps : List Part) → PartsAreFit ps → PartsAreFit (merged ps)
merged_fit [] h = tt
merged_fit (literal s ∷ ps) h = merge_fit s (merged ps) (merged_fit ps h)
merged_fit (other p ∷ ps) h = (h.0, merged_fit ps h.1)

plains_fit : (ps : List Part) → PartsAreFit ps → AreFit (parts_plain ps)
plains_fit [] h = (tt, tt)
plains_fit (literal s ∷ ps) h = let rest = plains_fit ps h in ((tt, rest.0), (tt, rest.1))
plains_fit (other p ∷ ps) h = let rest = plains_fit ps h.1 in ((h.0.0, rest.0), (h.0.1, rest.1))

assembled_fit : (ps : List Part) → PartsAreFit ps → IsFit (assembled ps)
assembled_fit [] h = (tt, tt)
assembled_fit (literal s ∷ []) h = (tt, tt)
assembled_fit (other p ∷ []) h = h.0
assembled_fit (literal s ∷ q ∷ ps) h = plains_fit (literal s ∷ q ∷ ps) h
assembled_fit (other p ∷ q ∷ ps) h = plains_fit (other p ∷ q ∷ ps) h

pub concat_fit : (ps : List Part) → PartsAreFit ps → IsFit (assembled (merged ps))
concat_fit ps h = assembled_fit (merged ps) (merged_fit ps h)
