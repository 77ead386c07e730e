use Rattle.std.proofs.Common.{◌≡◌, true, false, sym, ap, ◌∙◌}
use Rattle.std.specs.Prelude.{◌||◌}
use Rattle.cdk_claims.specs.Taken.{is_claim_taken}
use Rattle.cdk_tree.specs.TreeView.{constructs}
use Rattle.cdk_stacks.specs.Claims.{artifact_claim, logical_claim, stack_claim}
use Rattle.cdk_stacks.proofs.ClaimLemmas.{taken_names}
use Rattle.cdk_stacks.proofs.taken.Taken.has_name.Goals as goal

pub returns-then-has-2 : goal.returns-then-has-2
returns-then-has-2 c =
    let cs = constructs c.args.tree.now in
    let n = c.args.at in
    let t = c.args.self.now in
    let artifact = is_claim_taken t.artifacts (artifact_claim cs n) in
    let logical : is_claim_taken t.logical (logical_claim cs n) ≡ false = ap (is_claim_taken t.logical) (sym c.logical_claim.ensures) ∙ sym c.if-has.ensures in
    let stack : is_claim_taken t.stacks (stack_claim cs n) ≡ true = ap (is_claim_taken t.stacks) (sym (c.stack_claim.ensures cs c.requires.names)) ∙ sym c.if-has-2.ensures in
    sym (ap (λ b. (b || is_claim_taken t.stacks (stack_claim cs n)) || artifact) logical ∙ ap (λ b. (false || b) || artifact) stack) ∙ taken_names t cs n c.requires.taken

pub returns : goal.returns
returns c =
    let cs = constructs c.args.tree.now in
    let n = c.args.at in
    let t = c.args.self.now in
    let artifact = is_claim_taken t.artifacts (artifact_claim cs n) in
    let logical : is_claim_taken t.logical (logical_claim cs n) ≡ false = ap (is_claim_taken t.logical) (sym c.logical_claim.ensures) ∙ sym c.if-has.ensures in
    let stack : is_claim_taken t.stacks (stack_claim cs n) ≡ false = ap (is_claim_taken t.stacks) (sym (c.stack_claim.ensures cs c.requires.names)) ∙ sym c.if-has-2.ensures in
    c.has-3.ensures ∙ ap (is_claim_taken t.artifacts) c.artifact_claim.ensures
    ∙ sym (ap (λ b. (b || is_claim_taken t.stacks (stack_claim cs n)) || artifact) logical ∙ ap (λ b. (false || b) || artifact) stack) ∙ taken_names t cs n c.requires.taken
