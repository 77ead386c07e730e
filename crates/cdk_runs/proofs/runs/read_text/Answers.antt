use Rattle.std.proofs.Common.{◌≡◌, ◌≤◌, ◌+◌, ◌∷◌, ◌++◌, drop, get_or, sym, subst, ap, ◌∙◌, arith}
use Rattle.std.proofs.lemmas.List.{drop_more}
use Rattle.cdk_language.specs.Runs.{is_marked_run}
use Rattle.cdk_runs.specs.Reads.{opening}
use Rattle.cdk_runs.proofs.Opening.{run-step, step-bound}
use Rattle.cdk_runs.proofs.runs.read_text.Goals as goal

pub loop-byte-preserved : goal.loop-byte-preserved
loop-byte-preserved c =
    let l = c.loop-byte in
    let bytes = c.as_bytes-byte-items.result.now in
    let b = get_or bytes l.byte-index 0 in
    let rest = drop (l.byte-index + 1) bytes in
    let here : drop l.byte-index bytes ≡ b ∷ rest = drop_more bytes l.byte-index 0 (omega arith) in
    record {
      bound = subst (λ m. m ≤ 8) (sym c.step-matched.ensures) (step-bound l.matched b l.invariant.bound);
      same = λ more. l.invariant.same more ∙ ap (λ s. is_marked_run (opening l.matched ++ s) more) here
          ∙ run-step l.matched b rest more l.invariant.bound ∙ ap (λ m. is_marked_run (opening m ++ rest) more) (sym c.step-matched.ensures);
    }
