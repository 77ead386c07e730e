use Rattle.std.proofs.Common.{◌≡◌, true, [], ◌∷◌, ◌++◌}
use Rattle.std.proofs.lemmas.Result.{IfOk-weaker}
use Rattle.cdk_artifacts.specs.Found.{has_name}
use Rattle.cdk_artifacts.specs.Found.{texts_of}
use Rattle.cdk_artifacts.specs.Ways.{Grows}
use Rattle.cdk_artifacts.proofs.Search.{grows_one, texts_push}
use Rattle.cdk_artifacts.proofs.cycle.push_unseen.Goals as goal

pub returns : goal.returns
returns c =
    let id = c.args.id.now in
    let s = has_name c.args.seen.now in
    let t = has_name c.put.new.self in
    let o = c.args.open_ids.now in
    let p = c.push.new.self in
    IfOk-weaker c.push.result (λ _. p ≡ o ++ c.args.id ∷ []) (λ _. Grows (id ∷ []) s t (texts_of o) (texts_of p) × (t id ≡ true))
    (λ _ h. grows_one id s t (texts_of o) (texts_of p) c.in_ok-put.ensures (texts_push o p c.args.id h)) c.push.ensures.ok
