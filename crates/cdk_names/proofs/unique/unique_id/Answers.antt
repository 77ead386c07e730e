use Rattle.std.proofs.Common.{◌≡◌, ◌≤◌, List, ℕ, [], ◌∷◌, ◌++◌, length, take, cond, nat_le, true, Some, sym, ap, ◌∙◌, arith}
use Rattle.std.proofs.lemmas.Bool.Decides.{nat_tests}
use Rattle.cdk_names.specs.Names.{alphanumerics, visible, name_of_visible, hashed_name, unique_id}
use Rattle.std.proofs.lemmas.List.{take_all}
use Rattle.cdk_names.proofs.unique.unique_id.Goals as goal

short_name : (cs : List (List ℕ)) (c : List ℕ) → visible cs ≡ c ∷ [] → length (alphanumerics c) ≤ 255 → Some (alphanumerics c) ≡ unique_id cs
short_name cs c e h =
    let fits : nat_le (length (alphanumerics c)) 255 ≡ true = grind (arith, nat_tests) in
    sym (ap name_of_visible e ∙ ap (λ b. Some (cond b (alphanumerics c) (hashed_name (c ∷ [])))) fits)

pub returns-then-alphanumerics_len-le255 : goal.returns-then-alphanumerics_len-le255
returns-then-alphanumerics_len-le255 c =
    let text = c.in-One.text.now in
    let fits : length (alphanumerics text) ≤ 255 = omega (arith, c.alphanumerics_len.ensures) in
    ap Some (c.push_alphanumerics.ensures ∙ ap (λ s. take 255 (s ++ alphanumerics text)) c.new-name.ensures ∙ take_all 255 (alphanumerics text) fits) ∙ short_name c.args.components.now text c.in-One.ensures fits
