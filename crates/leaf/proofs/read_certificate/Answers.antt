-- `leaf::read_certificate` meets its contract. Assumes nothing.
use Rattle.leaf.proofs.Answers.{answer_fault, answer_many, answer_short, answer_is, places_many, places_short, places_are, places_room, the_count, the_places}
use Rattle.leaf.proofs.read_certificate.Goals as goal

pub returns-in-Err-clause-value : goal.returns-in-Err-clause-value
returns-in-Err-clause-value c = answer_fault c.args.certificate.now c.args.places.now _ c.fields_of.ensures _ c.in-Err.fault c.in-Err.is c.refused.ensures

pub returns-then-n-gt-DNS_IDS_AT_MOST-clause-value : goal.returns-then-n-gt-DNS_IDS_AT_MOST-clause-value
returns-then-n-gt-DNS_IDS_AT_MOST-clause-value c = answer_many c.args.certificate.now c.args.places.now _ c.fields_of.ensures _ c.in-Ok.found _ c.in-Ok.is (the_count _ _ c.dns_ids_of-ids.ensures _ c.count-n.ensures) c.if-n-gt-DNS_IDS_AT_MOST.true c.refused-then-n-gt-DNS_IDS_AT_MOST.ensures

pub returns-then-n-gt-DNS_IDS_AT_MOST-clause-places_after : goal.returns-then-n-gt-DNS_IDS_AT_MOST-clause-places_after
returns-then-n-gt-DNS_IDS_AT_MOST-clause-places_after c = places_many c.args.certificate.now c.args.places.now _ c.fields_of.ensures c.refused-then-n-gt-DNS_IDS_AT_MOST.result c.in-Ok.found _ c.in-Ok.is (the_count _ _ c.dns_ids_of-ids.ensures _ c.count-n.ensures) c.if-n-gt-DNS_IDS_AT_MOST.true

pub returns-then-places-n-clause-value : goal.returns-then-places-n-clause-value
returns-then-places-n-clause-value c = answer_short c.args.certificate.now c.args.places.now _ c.fields_of.ensures _ c.in-Ok.found _ c.in-Ok.is (the_count _ _ c.dns_ids_of-ids.ensures _ c.count-n.ensures) c.if-n-gt-DNS_IDS_AT_MOST.false c.if-places-n.true c.refused-then-places-n.ensures

pub returns-then-places-n-clause-places_after : goal.returns-then-places-n-clause-places_after
returns-then-places-n-clause-places_after c = places_short c.args.certificate.now c.args.places.now _ c.fields_of.ensures c.refused-then-places-n.result c.in-Ok.found _ c.in-Ok.is (the_count _ _ c.dns_ids_of-ids.ensures _ c.count-n.ensures) c.if-n-gt-DNS_IDS_AT_MOST.false c.if-places-n.true

pub returns-clause-value : goal.returns-clause-value
returns-clause-value c = answer_is c.args.certificate.now c.args.places.now _ c.fields_of.ensures _ c.in-Ok.found _ c.in-Ok.is (the_count _ _ c.dns_ids_of-ids.ensures _ c.count-n.ensures) c.if-n-gt-DNS_IDS_AT_MOST.false c.if-places-n.false c.accepted.ensures

pub returns-clause-places_after : goal.returns-clause-places_after
returns-clause-places_after c =
    let n = the_count _ _ c.dns_ids_of-ids.ensures _ c.count-n.ensures in
    let room = places_room c.args.certificate.now c.args.places.now _ c.fields_of.ensures c.accepted.result c.in-Ok.found _ c.in-Ok.is n c.if-places-n.false in
    places_are c.args.certificate.now c.args.places.now _ c.fields_of.ensures c.accepted.result c.in-Ok.found _ c.in-Ok.is n c.if-n-gt-DNS_IDS_AT_MOST.false _ (the_places _ _ c.dns_ids_of-ids.ensures c.args.places.now _ room c.write_places.ensures)
