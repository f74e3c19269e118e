-- `Policy::write` meets its contract. Assumes nothing.
use Rattle.publish.proofs.PolicyReturns.{body_head, body_patterns, body_age, body_end, body_written}
use Rattle.publish.proofs.body.Policy.write.Goals as goal

pub write_head-head-requires : goal.write_head-head-requires
write_head-head-requires c = body_head _ _ _ _ c.requires

pub write_patterns-end-requires : goal.write_patterns-end-requires
write_patterns-end-requires c = body_patterns _ _ _ _ c.requires _ _ c.write_head-head.ensures.value c.write_head-head.ensures.output_after

pub write_age-requires : goal.write_age-requires
write_age-requires c = body_age _ _ _ _ c.requires _ _ c.write_head-head.ensures.value c.write_head-head.ensures.output_after _ _ c.write_patterns-end.ensures.value c.write_patterns-end.ensures.output_after

pub returns-clause-value : goal.returns-clause-value
returns-clause-value c =
    body_end _ _ _ _ c.requires _ _ c.write_head-head.ensures.value c.write_head-head.ensures.output_after _ _ c.write_patterns-end.ensures.value c.write_patterns-end.ensures.output_after _ c.write_age.ensures.value

pub returns-clause-output_after : goal.returns-clause-output_after
returns-clause-output_after c =
    body_written _ _ _ _ c.requires _ _ c.write_head-head.ensures.value c.write_head-head.ensures.output_after _ _ c.write_patterns-end.ensures.value c.write_patterns-end.ensures.output_after _ c.write_age.ensures.output_after
