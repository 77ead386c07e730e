use Rattle.std.proofs.Common.{◌≡◌, ℕ, List, ◌++◌, cond, Result, Ok, Err, is_ok, sym, ap, ◌∙◌}
use Rattle.std.specs.Prelude.{OnOk, encode_utf8}
use Rattle.cdk_base.proofs.Escaped.{escape-char}
use Rattle.cdk_base.proofs.pointer.push_escaped.Goals as goal

on_pushed : {T E : Type 0} (r : Result T E) (new old more same : List ℕ) → new ≡ cond (is_ok r) (old ++ more) old → same ≡ more → OnOk r (new ≡ old ++ same)
on_pushed (Ok u) new old more same e f = e ∙ ap (λ s. old ++ s) (sym f)
on_pushed (Err x) new old more same e f = tt

pub returns : goal.returns
returns c = on_pushed c.push.result _ _ (encode_utf8 c.args.c) _ c.push.ensures.bytes (escape-char c.args.c c.if-c-eq126.false c.if-c-eq47.false)
