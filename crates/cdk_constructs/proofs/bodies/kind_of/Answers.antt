use Rattle.serde_json.specs.View.{members_view}
use Rattle.cdk_language.specs.Construct.{kind_view}
use Rattle.cdk_members.proofs.Giving.{gives}
use Rattle.cdk_constructs.proofs.BodyLemmas.{body_by_name}
use Rattle.cdk_constructs.proofs.bodies.kind_of.Goals as goal

pub returns-in-Some : goal.returns-in-Some
returns-in-Some c = gives kind_view _ _ _ c.body_of.ensures (body_by_name (members_view c.args.members.now.entries) c.args.kind.now _ c.in-Some.ensures)

pub returns-in-None : goal.returns-in-None
returns-in-None c = body_by_name (members_view c.args.members.now.entries) c.args.kind.now _ c.in-None.ensures
