use Rattle.std.proofs.Common.{◌≡◌, ℕ, List, Bool, true, false, cond, Option, Some, Bor, refl, sym, ap, ◌∙◌}
use Rattle.std.specs.Prelude.{◌||◌, is_some, option_map}
use Rattle.std.specs.Ordering.{is_eq}
use Rattle.cdk_claims.specs.Claims.{is_claim}
use Rattle.cdk_claims.specs.Taken.{claim_view, is_taken, key_cmp}
use Rattle.cdk_claims.proofs.KeyLemmas.{same_key}
use Rattle.cdk_claims.proofs.scoped.ScopedNames.put.Goals as goal

either : {X : Type 0} (b : Bool) (x : X) (o : Option X) → is_some (cond b (Some x) o) ≡ (b || is_some o)
either true x o = refl
either false x o = refl

pub returns : goal.returns
returns c scope name =
    let k = c.in-Some.claim in
    let asked : ℕ × Bor (List ℕ) = (scope, record { ref_ptr = (0, 0); now = name }) in
    let before = is_taken c.args.self.now scope name in
    ap is_some (c.in_ok-insert.ensures.updates.0 asked)
    ∙ either (is_eq (key_cmp k.scope k.name.now asked)) tt _
    ∙ ap (λ b. b || before) (same_key k.scope scope k.name.now name)
    ∙ ap (λ o. is_claim o scope name || before) (sym (ap (option_map claim_view) c.in-Some.is))
