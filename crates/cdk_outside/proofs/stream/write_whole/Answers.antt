use Rattle.std.proofs.Common.{rules, subst}
use Rattle.std.specs.Io.KnownBytes.{Appends}
use Rattle.cdk_outside.proofs.StreamLemmas.{appends_more, take_next}
use Rattle.cdk_outside.proofs.stream.write_whole.Goals as goal

pub loop-done-preserved : goal.loop-done-preserved
loop-done-preserved g c =
    let before = g.W.Write.contents c.args.stream.now in
    let after = g.W.Write.contents c.write.new.self in
    record {
      within = search rules;
      taken =
          subst (Appends before after) (take_next c.args.bytes.now c.loop-done.done c.in-Ok.n)
          (appends_more before (g.W.Write.contents c.loop-done.stream) after _ _ c.loop-done.invariant.taken c.in-Ok.ensures.bytes);
    }
