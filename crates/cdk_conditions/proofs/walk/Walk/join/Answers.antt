use Rattle.cdk_conditions.proofs.Walking.{joined_next, joined_last, joined_none}
use Rattle.cdk_conditions.proofs.walk.Walk.join.Goals as goal

pub returns-in_default : goal.returns-in_default
returns-in_default c cs ts y h = absurd (joined_none c.args.last c.args.self.now c.args.position c.groups.group c.groups.self c.groups.invariant c.groups-test.true c.in_default.ensures.0 cs ts y h)

pub groups-preserved : goal.groups-preserved
groups-preserved c = joined_next c.args.last c.args.self.now c.args.position c.groups.group c.in-Some.below c.in_ok-group.group c.groups.self c.pop.new.self c.groups.invariant c.groups-test.true c.in-Some.ensures c.in_ok-group.ensures

pub returns : goal.returns
returns c =
    let g = c.groups.group in
    joined_last c.args.last c.args.self.now c.args.position g.first g.members g.waiting g.is_loop c.groups.self c.push.new.self c.groups.invariant c.groups-test.false c.in_ok-push.ensures.ok
