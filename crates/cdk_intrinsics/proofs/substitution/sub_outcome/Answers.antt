use Rattle.std.proofs.Common.{◌≡◌, ◌+◌, [], ◌∷◌, ◌++◌, drop, get_or, map, string_bytes, sym, ap, ◌∙◌, subst, arith}
use Rattle.std.proofs.lemmas.List.{drop_more}
use Rattle.cdk_texts.specs.Steps.{part_view}
use Rattle.cdk_texts.specs.declared.sub.Part.{Part}
use Rattle.cdk_texts.specs.declared.sub.Part.TheVariants as parts
use Rattle.cdk_scopes.specs.Scopes.{scope_view}
use Rattle.cdk_intrinsics.specs.Substitution.{look, part_by, items_by, joined_items, finish, IsPieceOf}
use Rattle.cdk_intrinsics.proofs.Parts.{finish_text, finish_no_text, finish_gone}
use Rattle.cdk_intrinsics.proofs.substitution.sub_outcome.Goals as goal
use Rattle.cdk_intrinsics.proofs.substitution.sub_outcome.Goals.{in-Text+in_ok-push_str-in-Text, in-NoText, in-Gone}

pub loop-part-preserved : goal.loop-part-preserved
loop-part-preserved c =
    let l = c.loop-part in
    let s = scope_view c.args.scope.now in
    let by = look c.args.named.now in
    let i = l.part-index in
    let none : Part = parts.Literal (record { ref_ptr = (0, 0); now = [] }) in
    let p = get_or c.args.parts.now i none in
    let more = items_by s by (map part_view (drop (i + 1) c.args.parts.now)) in
    let here : drop i c.args.parts.now ≡ p ∷ drop (i + 1) c.args.parts.now = drop_more c.args.parts.now i none (omega arith) in
    let o = part_by s by (part_view p) in
    let was = l.invariant ∙ ap (λ ps. finish l.has_text (string_bytes l.text) (items_by s by (map part_view ps))) here in
    elim c.match-branch-2.branch [
      | in-Text+in_ok-push_str-in-Text w ↦ was ∙ finish_text l.has_text (string_bytes l.text) w.in-Text.piece o more (subst (λ q. IsPieceOf q o) w.in-Text.is c.in_ok-piece.ensures)
          ∙ ap (λ b. finish b (string_bytes l.text ++ w.in-Text.piece) more) (sym w.has_text-is)
          ∙ ap (λ t. finish c.match-branch-2.has_text t more) (sym (ap string_bytes w.text-is ∙ w.in_ok-push_str-in-Text.ensures.bytes ∙ ap (λ u. string_bytes l.text ++ u) w.as_str.ensures))
      | in-NoText w ↦ was ∙ finish_no_text l.has_text (string_bytes l.text) o more (subst (λ q. IsPieceOf q o) w.in-NoText.is c.in_ok-piece.ensures)
          ∙ ap (λ b. finish b (string_bytes l.text) more) (sym w.has_text-is) ∙ ap (λ t. finish c.match-branch-2.has_text (string_bytes t) more) (sym w.text-is)
      | in-Gone w ↦ was ∙ finish_gone l.has_text (string_bytes l.text) o more (subst (λ q. IsPieceOf q o) w.in-Gone.is c.in_ok-piece.ensures)
          ∙ ap (λ b. finish b (string_bytes l.text) more) (sym w.has_text-is) ∙ ap (λ t. finish c.match-branch-2.has_text (string_bytes t) more) (sym w.text-is)
    ]
