use Rattle.std.proofs.Common.{rules}
use Rattle.cdk_outside.proofs.StreamLemmas.{takes_more}
use Rattle.cdk_outside.proofs.disk.read_up_to.Goals as goal

pub returns-then-n-limit-clause-takes : goal.returns-then-n-limit-clause-takes
returns-then-n-limit-clause-takes g c =
    takes_more (g.R.Read.remaining c.args.file.now) (g.R.Read.remaining c.loop-n.file) (g.R.Read.remaining c.read.new.self)
    c.loop-n.all.items c.read.new.buf c.in-Ok.n c.args.limit c.loop-n.invariant.taken c.in-Ok.ensures.bytes.0 (search rules) (search rules)

pub returns-in_err-extend_from_slice-clause-takes :
    goal.returns-in_err-extend_from_slice-clause-takes
returns-in_err-extend_from_slice-clause-takes g c =
    takes_more (g.R.Read.remaining c.args.file.now) (g.R.Read.remaining c.loop-n.file) (g.R.Read.remaining c.read.new.self)
    c.loop-n.all.items c.read.new.buf c.in-Ok.n c.args.limit c.loop-n.invariant.taken c.in-Ok.ensures.bytes.0 (search rules) (search rules)
